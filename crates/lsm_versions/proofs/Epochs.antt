-- A version set as it is opened, and after the edit of its next epoch.
use Rattle.std.proofs.Common.{◌≡◌, ℕ, ◌≤◌, Bool, ◌++◌, ◌∷◌, [], List, filter, map, refl, sym, ap, subst, ◌∙◌, inl, inr, arith}
use Rattle.std.specs.List.{list_any}
use Rattle.std.specs.FinMap.{retain_keys}
use Rattle.lsm_key.specs.Sets.{IsIn}
use Rattle.lsm_edit.specs.declared.edit.Edit.{Edit}
use Rattle.lsm_edit.specs.declared.served.Placed.{Placed}
use Rattle.lsm_edit.specs.Edit.{edit as spelling}
use Rattle.lsm_edit.specs.Next.{epoch_edit}
use Rattle.lsm_edit.specs.Served.{IsServed, ServedValue, after_advance}
use Rattle.lsm_edit.specs.Version.{VersionValue, after_apply, has_number}
use Rattle.lsm_vault.specs.Stored.{TableMap, VaultValue}
use Rattle.lsm_versions.specs.declared.error.OpenError.{OpenError}
use Rattle.lsm_versions.specs.declared.error.OpenError.TheVariants.{OutOfMemory, BadManifest, MissingTable, BadLog, Device, NumbersExhausted}
use Rattle.lsm_versions.specs.declared.retired.Retired.{Retired}
use Rattle.lsm_versions.specs.Kept.{StaysApart, put_tables}
use Rattle.lsm_versions.specs.Manifest.{IsVersionSet, VersionSetValue, after_logging}
use Rattle.lsm_versions.specs.Opening.{CountsRefusal, EpochRefused, HaveTables, IsNextEpoch, IsRecoverable, MayHaveDropped, MayHaveLost, MayHaveLostObsolete, OpenRefuses, Opens, RecoverRefuses, Recovers, is_live_file, manifest_version}
use Rattle.lsm_versions.specs.Retention.{put_each, retire, retired_after}
use Rattle.lsm_versions.proofs.PutTables.{placed_none}
use Rattle.lsm_versions.proofs.RecoveredTables.{have_tables}
use Rattle.lsm_versions.proofs.ReplayedEdits.{folds_once, none_retired}

-- ---- recovered

pub recovered_set : (vault : VaultValue) (s : ServedValue) (failures : ℕ) → Recovers vault s → IsVersionSet (record { served = s; stored = vault; retired = []; floor = s.version.number; failures = failures })
recovered_set vault s failures is = record {
  folds = is.folds;
  retired = none_retired vault.edits s.version is.folds;
  kept = record { listed = is.tables; removed = λ r m. absurd m };
}

-- a version set is at what its vault's edits replay to
pub set_recovers : (v : VersionSetValue) → IsVersionSet v → Recovers v.stored v.served
set_recovers v set = record { folds = set.folds; tables = set.kept.listed }

-- ---- the next epoch

none_taken : (ps : List Placed) → filter (λ (p : Placed). list_any (λ (n : ℕ). has_number n p.meta) []) ps ≡ []
none_taken [] = refl
none_taken (p ∷ ps) = none_taken ps

none_retire : (s : ServedValue) → retired_after [] s [] ≡ []
none_retire s = ap (λ (ps : List Placed). put_each (map (retire s.version.number) ps) []) (none_taken s.places)

module _ (old mid new : VersionSetValue) (e : Edit) (failures : ℕ) (none : old.retired ≡ []) (rest : mid ≡ record old { stored = record old.stored { tables = mid.stored.tables }; failures = mid.failures })
    (needed : mid.stored.tables ≡ retain_keys old.stored.tables (is_live_file old.served.version.files old.retired)) (is : e ≡ epoch_edit old.served.version) (made : new ≡ record (after_logging mid e []) { failures = failures }) where
  pub next_served : new.served ≡ after_advance old.served (epoch_edit old.served.version) []
  next_served = ap (λ (v : VersionSetValue). v.served) made ∙ (λ i. after_advance (rest i).served (is i) [])

  pub next_retired : new.retired ≡ []
  next_retired = ap (λ (v : VersionSetValue). v.retired) made ∙ (λ i. retired_after (rest i).retired (rest i).served (is i).removed) ∙ ap (λ (rs : List Retired). retired_after rs old.served []) none ∙ none_retire old.served

  pub next_stored : new.stored ≡ record old.stored { edits = old.stored.edits ++ spelling (epoch_edit old.served.version) ∷ []; tables = retain_keys old.stored.tables (is_live_file old.served.version.files []) }
  next_stored =
      let tables = ap (put_tables mid.stored.tables) (placed_none e.added) ∙ needed ∙ ap (λ (rs : List Retired). retain_keys old.stored.tables (is_live_file old.served.version.files rs)) none in
      ap (λ (v : VersionSetValue). v.stored) made ∙ (λ i. record (rest i).stored { edits = (rest i).stored.edits ++ spelling (is i) ∷ []; tables = tables i })

  -- with the floor at the version after it
  pub next_epoch : (v : VersionSetValue) → v.served ≡ new.served → v.stored ≡ new.stored → v.retired ≡ new.retired → v.floor ≡ v.served.version.number → IsNextEpoch old v
  next_epoch v served stored retired floor = record {
    served = served ∙ next_served;
    stored = stored ∙ next_stored;
    floor = floor;
    retired = retired ∙ next_retired;
  }

-- the floor may rise to the current version if no file is retired
pub raised_set : (v : VersionSetValue) (floor : ℕ) → IsVersionSet v → v.retired ≡ [] → floor ≡ v.served.version.number → IsVersionSet (record v { floor = floor })
raised_set v floor is none at = record {
  folds = is.folds;
  retired = rw (none, at) (none_retired v.stored.edits v.served.version is.folds);
  kept = is.kept;
}

-- the edit that is refused puts no table
pub lost_still : (needed : ℕ → Bool) (old mid new : TableMap) (e : Edit) → e.added ≡ [] → MayHaveLost needed old mid → StaysApart e.added mid new → MayHaveLost needed old new
lost_still needed old mid new e none lost apart n =
    let same = apart n (λ f m named. absurd (subst (IsIn f) none m)) in
    elim (lost n) [ inl stays ↦ inl (same ∙ stays) | inr gone ↦ inr (gone.0, same ∙ gone.1) ]

-- ---- an opening

module _ (vault : VaultValue) (s : ServedValue) (is : Recovers vault s) (served : IsServed s) where
  version_is : manifest_version vault.edits ≡ s.version
  version_is = is.folds.makes

  pub recoverable : IsRecoverable vault
  recoverable = record {
    folds = folds_once vault.edits s.version is.folds;
    tables = subst (λ (v : VersionValue). HaveTables vault.tables v.files) (sym version_is) (have_tables vault.tables s served is.tables);
  }

  obsolete_lost : (new : VaultValue) → new ≡ record vault { tables = new.tables } → MayHaveLost (is_live_file s.version.files []) vault.tables new.tables → MayHaveLostObsolete vault new
  obsolete_lost new rest lost = record {
    folds = folds_once vault.edits s.version is.folds;
    rest = rest;
    lost = subst (λ (v : VersionValue). MayHaveLost (is_live_file v.files []) vault.tables new.tables) (sym version_is) lost;
  }

  pub epoch_dropped : (why : OpenError) (new : VaultValue) → EpochRefused s.version why → new ≡ record vault { tables = new.tables } → MayHaveLost (is_live_file s.version.files []) vault.tables new.tables → (why ≡ NumbersExhausted → new ≡ vault) → MayHaveDropped why vault new
  epoch_dropped BadManifest new h rest lost same = absurd h
  epoch_dropped MissingTable new h rest lost same = absurd h
  epoch_dropped BadLog new h rest lost same = absurd h
  epoch_dropped NumbersExhausted new h rest lost same = same refl
  epoch_dropped OutOfMemory new h rest lost same = inr (obsolete_lost new rest lost)
  epoch_dropped Device new h rest lost same = inr (obsolete_lost new rest lost)

  pub opened_set : (v : VersionSetValue) (old : VersionSetValue) → old.served ≡ s → old.stored ≡ vault → IsNextEpoch old v → Opens vault v
  opened_set v old at stored next =
      let from : old.served.version ≡ manifest_version vault.edits = ap (λ (x : ServedValue). x.version) at ∙ sym version_is in
      record {
        folds = folds_once vault.edits s.version is.folds;
        version = ap (λ (x : ServedValue). x.version) next.served ∙ ap (λ (x : VersionValue). after_apply x (epoch_edit x)) from;
        stored = next.stored ∙ (λ i. record (stored i) { edits = (stored i).edits ++ spelling (epoch_edit (from i)) ∷ []; tables = retain_keys (stored i).tables (is_live_file (from i).files []) });
        floor = next.floor;
        retired = next.retired;
      }

-- ---- an opening in its two parts

-- what refuses to read a vault refuses the opening
pub recover_refuses : (vault : VaultValue) (why : OpenError) → RecoverRefuses vault why → OpenRefuses vault why
recover_refuses vault BadManifest h = h
recover_refuses vault MissingTable h = h
recover_refuses vault BadLog h = absurd h
recover_refuses vault NumbersExhausted h = absurd h
recover_refuses vault OutOfMemory h = tt
recover_refuses vault Device h = tt

-- what refuses the next epoch of a vault that was read refuses the opening
pub epoch_refuses : (vault : VaultValue) → IsRecoverable vault → (why : OpenError) → EpochRefused (manifest_version vault.edits) why → OpenRefuses vault why
epoch_refuses vault is BadManifest h = absurd h
epoch_refuses vault is MissingTable h = absurd h
epoch_refuses vault is BadLog h = absurd h
epoch_refuses vault is NumbersExhausted h = (is.folds, is.tables, h)
epoch_refuses vault is OutOfMemory h = tt
epoch_refuses vault is Device h = tt

-- a vault that is as it was may be what any refusal leaves
pub unchanged_dropped : (why : OpenError) (old new : VaultValue) → new ≡ old → MayHaveDropped why old new
unchanged_dropped OutOfMemory old new same = inl same
unchanged_dropped Device old new same = inl same
unchanged_dropped BadManifest old new same = same
unchanged_dropped MissingTable old new same = same
unchanged_dropped BadLog old new same = same
unchanged_dropped NumbersExhausted old new same = same

-- the failures before the second part are those before the first, or more
pub counted_from : (why : OpenError) (before mid after : ℕ) → before ≤ mid → CountsRefusal why mid after → CountsRefusal why before after
counted_from OutOfMemory before mid after le counted = omega arith
counted_from Device before mid after le counted = omega arith
counted_from BadManifest before mid after le counted = omega arith
counted_from MissingTable before mid after le counted = omega arith
counted_from BadLog before mid after le counted = omega arith
counted_from NumbersExhausted before mid after le counted = omega arith
