-- An opening that is refused is the step of a refused restart.
use Rattle.std.proofs.Common.{◌≡◌, ℕ, ◌+◌, [], Some, refl, sym, ap, subst, ◌∙◌, arith, length, inl, inr}
use Rattle.lsm_key.proofs.Membership.{IsIn-map}
use Rattle.lsm_edit.specs.declared.served.Placed.{Placed}
use Rattle.lsm_edit.specs.Log.{BadLog}
use Rattle.lsm_edit.specs.Served.{IsServed, ServedValue}
use Rattle.lsm_edit.specs.Version.{VersionValue}
use Rattle.lsm_vault.specs.Stored.{TableMap, VaultValue}
use Rattle.lsm_versions.specs.declared.error.OpenError.{OpenError}
use Rattle.lsm_versions.specs.declared.error.OpenError.TheVariants as opening
use Rattle.lsm_versions.specs.Opening.{ArePlacesKept, AreExhausted, IsLacking, MayHaveDropped, MayHaveLost, MayHaveLostObsolete, OpenRefuses, is_live_file, manifest_version}
use Rattle.lsm_versions.proofs.RecoveredTables.{have_tables}
use Rattle.lsm_versions.proofs.RemovedTables.{kept_needed}
use Rattle.lsm_versions.proofs.ReplayedEdits.{folds_once}
use Rattle.lsm_coord.specs.Model.State.{State}
use Rattle.lsm_coord.specs.Model.Event as say
use Rattle.lsm_coord.specs.Model.Changes.{after_stop}
use Rattle.lsm_coord.specs.Model.Rules.{refusal}
use Rattle.lsm_coord.specs.Model.Step.{Step}
use Rattle.lsm_coord.specs.Contract.Seats.{OpenRefusedFollows, ShowsDown, open_refusal}
use Rattle.lsm_coord.proofs.ShownVersions.{flushed_is, version_count}
use Rattle.lsm_coord.proofs.StateRefusals.{restart_past_last}

-- a vault that lacks no file's table
has_each : (kept : TableMap) (s : ServedValue) → IsServed s → ArePlacesKept kept s.places → IsLacking kept s.version.files → ⊥
has_each kept s is are lacks = let has = have_tables kept s is are lacks.0 lacks.1 in lacks.2 has.0 has.1 has.2

-- its tables stay but those that no file needs
kept_still : (s : ServedValue) (old new : TableMap) → IsServed s → ArePlacesKept old s.places → MayHaveLost (is_live_file s.version.files []) old new → ArePlacesKept new s.places
kept_still s old new is are lost =
    (kept_needed s.places s.version.files [] old new (λ p m. (is.listed p.meta).0 (IsIn-map (λ (q : Placed). q.meta) p s.places m)) lost (record { listed = are; removed = λ r m. absurd m })).listed

module _ (vault : VaultValue) (s : State) (down : ShowsDown vault (after_stop s)) where
  -- the edits replay to the version that the vault shows
  version_is : manifest_version vault.edits ≡ down.served.version
  version_is = down.stored.manifest.makes

  -- over other tables, if those of the version stay
  still_down : (tables : TableMap) → ArePlacesKept tables down.served.places → ShowsDown (record vault { tables = tables }) (after_stop s)
  still_down tables are = record {
    down = refl;
    snapshots = refl;
    made = refl;
    flushed = down.flushed;
    served = down.served;
    sound = down.sound;
    tables = are;
    stored = down.stored;
    logged = down.logged;
  }

  -- over the same
  same_down : (new : VaultValue) → new ≡ vault → ShowsDown new (after_stop s)
  same_down new same = subst (λ (v : VaultValue). ShowsDown v (after_stop s)) (sym same) down

  -- over fewer tables, if none is gone that a file needs
  lost_down : (new : VaultValue) → MayHaveLostObsolete vault new → ShowsDown new (after_stop s)
  lost_down new lost = subst (λ (v : VaultValue). ShowsDown v (after_stop s)) (sym lost.rest)
      (still_down new.tables (kept_still down.served vault.tables new.tables down.sound down.tables (subst (λ (v : VersionValue). MayHaveLost (is_live_file v.files []) vault.tables new.tables) version_is lost.lost)))

  -- The vault still shows the state.
  pub dropped_down : (why : OpenError) (new : VaultValue) → MayHaveDropped why vault new → ShowsDown new (after_stop s)
  dropped_down opening.OutOfMemory new (inl same) = same_down new same
  dropped_down opening.OutOfMemory new (inr lost) = lost_down new lost
  dropped_down opening.Device new (inl same) = same_down new same
  dropped_down opening.Device new (inr lost) = lost_down new lost
  dropped_down opening.BadManifest new same = same_down new same
  dropped_down opening.MissingTable new same = same_down new same
  dropped_down opening.BadLog new same = same_down new same
  dropped_down opening.NumbersExhausted new same = same_down new same

  -- no next version or no next epoch has a number
  forced : AreExhausted down.served.version → refusal s (say.Restart say.Coordinator) ≡ Some say.NumbersExhausted
  forced (inl number) =
      let count : length s.versions ≡ down.served.version.number + 1 = version_count vault.edits down.served (after_stop s) down.stored in
      restart_past_last s (inr (omega arith))
  forced (inr epoch) =
      let same : s.epoch ≡ down.served.version.epoch = down.stored.epoch in
      restart_past_last s (inl (omega arith))

  -- Each reason may be given for a restart, or does not hold of the vault.
  pub refused_step : (why : OpenError) → OpenRefuses vault why → Step s (say.Restart say.Coordinator) (say.Refused (open_refusal why)) (after_stop s)
  refused_step opening.OutOfMemory h = (tt, inl refl)
  refused_step opening.Device h = (tt, refl)
  refused_step opening.BadManifest h = absurd (h (folds_once vault.edits down.served.version down.stored.manifest))
  refused_step opening.MissingTable h = absurd (has_each vault.tables down.served down.sound down.tables (subst (λ (v : VersionValue). IsLacking vault.tables v.files) version_is h.1))
  refused_step opening.BadLog h = absurd (down.logged.good (subst (λ (n : ℕ). BadLog n vault.log) (ap (λ (v : VersionValue). v.flushed) version_is ∙ sym (flushed_is vault.edits down.served (after_stop s) down.stored)) h.2))
  refused_step opening.NumbersExhausted h = (inl (forced (subst AreExhausted version_is h.2)), refl)

-- AN OPENING THAT IS REFUSED IS A REFUSED RESTART.
pub open_refused_follows : (vault : VaultValue) (why : OpenError) (new : VaultValue) → OpenRefuses vault why → MayHaveDropped why vault new → OpenRefusedFollows vault why new
open_refused_follows vault why new refuses dropped s down = (after_stop s, refused_step vault s down why refuses, dropped_down vault s down why new dropped)
