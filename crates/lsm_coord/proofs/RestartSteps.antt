-- An opening that succeeds is the step of a restart.
use Rattle.std.proofs.Common.{◌≡◌, ℕ, ◌+◌, ◌-◌, ◌≤◌, List, [], ◌∷◌, ◌++◌, None, Some, cond, true, false, Bool, Option, refl, sym, ap, subst, ◌∙◌, arith, length, map, take, drop, unwrap_or}
use Rattle.std.specs.FinMap.{get, get-retain_keys, nat_cmp-IsAntisymmetric, retain_keys}
use Rattle.std.specs.List.Sorted.{IsPermutation}
use Rattle.std.proofs.lemmas.List.{append-nil, drop-drop, drop-take, length-drop}
use Rattle.lsm_key.specs.declared.entry.Entry.{Entry}
use Rattle.lsm_key.specs.declared.limits.TheConstants.{MAX_NUMBER}
use Rattle.lsm_key.specs.declared.limits.Limits.{Limits}
use Rattle.lsm_key.specs.declared.op.Op.{Op}
use Rattle.lsm_key.specs.Places.{AreOrdered, entries_after}
use Rattle.lsm_key.specs.Sets.{IsIn}
use Rattle.lsm_key.specs.Visible.{value_at}
use Rattle.lsm_key.specs.Writes.{answer}
use Rattle.lsm_edit.specs.declared.file.FileMeta.{FileMeta}
use Rattle.lsm_edit.specs.declared.served.Placed.{Placed}
use Rattle.lsm_edit.specs.Edit.{IsSpelledEdit, edit as spelling}
use Rattle.lsm_edit.specs.Log.{LogHolds, log_frozen, read_records}
use Rattle.lsm_edit.specs.Next.{epoch_edit}
use Rattle.lsm_edit.specs.Served.{IsServed, tables_of}
use Rattle.lsm_edit.specs.Version.{FileNumbersRise, IsVersion, VersionValue, after_apply, has_overlap}
use Rattle.lsm_edit.proofs.NextLaws.{epoch_sound}
use Rattle.lsm_edit.proofs.VersionLaws.{files_after-is}
use Rattle.lsm_vault.specs.Stored.{TableMap, VaultValue}
use Rattle.lsm_versions.specs.Manifest.{IsVersionSet, VersionSetValue, versions_of}
use Rattle.lsm_versions.specs.Opening.{ArePlacesKept, Opens, is_live_file, manifest_version}
use Rattle.lsm_coord.specs.Model.State.{State, Version, active_start, last_flushed, last_seq}
use Rattle.lsm_coord.specs.Model.Event as say
use Rattle.lsm_coord.specs.Model.Changes.{after_restart, after_stop}
use Rattle.lsm_coord.specs.Model.Rules.{refusal}
use Rattle.lsm_coord.specs.Model.Step.{Step}
use Rattle.lsm_coord.specs.Contract.Seats.{OpenFollows, OpensCoord, ShowsDown, opened_coord, restarted_reply}
use Rattle.lsm_coord.specs.Contract.Shows.{Shows, ShowsStored, listing_of, place_of}
use Rattle.lsm_coord.specs.Contract.Value.{CoordValue, frozen_entries, start_of, stored_entries}
use Rattle.lsm_coord.proofs.CurrentVersion.{current_version-risen}
use Rattle.lsm_coord.proofs.LoggedBounds.{start_high, start_low}
use Rattle.lsm_coord.proofs.LoggedCalls.{cut_holds, end_in, held_as, log_holds, same_ops}
use Rattle.lsm_coord.proofs.ReplayedRecords.{start_is}
use Rattle.lsm_coord.proofs.ServedOneWay.{same_places}
use Rattle.lsm_coord.proofs.ShownVersions.{current_is, flushed_is, listed-push, version_count}
use Rattle.lsm_coord.proofs.StateRefusals.{restart_may}

-- ---- the version of the next epoch

-- after the edit that an opening logs
abbrev pub next_epoch : VersionValue → VersionValue
next_epoch v = after_apply v (epoch_edit v)

-- it has the same files
same_files : (v : VersionValue) → (next_epoch v).files ≡ v.files
same_files v = files_after-is v.files (epoch_edit v) refl ∙ append-nil v.files

-- a version is sound if that of the next epoch is
sound_before : (v : VersionValue) → IsVersion (next_epoch v) → IsVersion v
sound_before v is =
    let number : v.number + 1 ≤ MAX_NUMBER = is.number in
    let epoch : v.epoch + 1 ≤ MAX_NUMBER = is.epoch in
    record {
      number = omega arith;
      flushed = is.flushed;
      epoch = omega arith;
      some_file = is.some_file;
      next_file = is.next_file;
      files = λ f m. is.files f (subst (IsIn f) (sym (same_files v)) m);
      below = λ f m. is.below f (subst (IsIn f) (sym (same_files v)) m);
      rising = subst FileNumbersRise (same_files v) is.rising;
      disjoint = ap has_overlap (sym (same_files v)) ∙ is.disjoint;
    }

-- its edit is spelled
spelled_epoch : (v : VersionValue) → IsVersion (next_epoch v) → IsSpelledEdit (spelling (epoch_edit v)) (epoch_edit v)
spelled_epoch v is = record { sound = epoch_sound v (sound_before v is) is.number is.epoch; spelled = refl }

-- it lists what the version before it lists
same_listing : (v : VersionValue) → listing_of (next_epoch v) ≡ listing_of v
same_listing v = ap (λ (fs : List FileMeta). record { flushed = v.flushed; files = map place_of fs }) (same_files v)

-- ---- the tables that are left

-- what a test lets through is there
had : (b : Bool) (o : Option (List ℕ)) (bytes : List ℕ) → cond b o None ≡ Some bytes → o ≡ Some bytes
had true o bytes h = h
had false o bytes h = absurd cc

-- a table that is left was there before
was_kept : (kept : TableMap) (stays : ℕ → Bool) (n : ℕ) (bytes : List ℕ) → get (retain_keys kept stays) n ≡ Some bytes → get kept n ≡ Some bytes
was_kept kept stays n bytes h = had (stays n) (get kept n) bytes (sym (get-retain_keys kept stays n (λ x tied. ap stays (sym (nat_cmp-IsAntisymmetric n x tied)))) ∙ h)

-- ---- what the opened coordinator shows

module _ (vault : VaultValue) (v : VersionSetValue) (opens : Opens vault v) (set : IsVersionSet v) (is : IsServed v.served) (version_is : IsVersion v.served.version) (s : State) (down : ShowsDown vault (after_stop s)) where
  -- the version that the vault has
  abbrev old : VersionValue
  old = down.served.version

  -- it opens at the next epoch
  next_is : v.served.version ≡ next_epoch old
  next_is = opens.version ∙ ap next_epoch down.stored.manifest.makes

  -- whose version is sound
  next_sound : IsVersion (next_epoch old)
  next_sound = subst IsVersion next_is version_is

  -- one edit is logged
  edits_are : v.stored.edits ≡ vault.edits ++ spelling (epoch_edit old) ∷ []
  edits_are = ap (λ (x : VaultValue). x.edits) opens.stored ∙ ap (λ (x : VersionValue). vault.edits ++ spelling (epoch_edit x) ∷ []) down.stored.manifest.makes

  -- the places are those of the vault
  kept_before : ArePlacesKept vault.tables v.served.places
  kept_before p m = was_kept vault.tables (is_live_file (manifest_version vault.edits).files []) p.meta.number p.table.bytes (subst (λ (x : VaultValue). get x.tables p.meta.number ≡ Some p.table.bytes) opens.stored (set.kept.listed p m))

  -- so they are the same places
  places_are : v.served.places ≡ down.served.places
  places_are = same_places vault.tables v.served down.served is down.sound version_is (ap (λ (x : VersionValue). x.files) next_is ∙ same_files old) kept_before down.tables

  -- with the same entries
  stored_are : stored_entries down.served ≡ stored_entries v.served
  stored_are = ap (λ (ps : List Placed). stored_entries (record down.served { places = ps })) (sym places_are)

  -- the restart flushes nothing
  flushed_stays : last_flushed (after_restart s) ≡ last_flushed (after_stop s)
  flushed_stays = ap (λ (x : Version). x.flushed) (current_version-risen s)

  -- the versions of the state are those of the edits
  versions_are : (after_restart s).versions ≡ map listing_of (versions_of v.stored.edits)
  versions_are =
      (λ i. down.stored.versions i ++ (current_is vault.edits down.served (after_stop s) down.stored ∙ sym (same_listing old)) i ∷ [])
      ∙ sym (listed-push vault.edits old (spelling (epoch_edit old)) (epoch_edit old) down.stored.manifest (spelled_epoch old next_sound))
      ∙ ap (λ (texts : List (List ℕ)). map listing_of (versions_of texts)) (sym edits_are)

  -- the tables show what was flushed
  stored_after : ShowsStored v.stored.edits v.served (after_restart s)
  stored_after = record {
    manifest = set.folds;
    versions = versions_are;
    next_file = down.stored.next_file ∙ ap (λ (x : VersionValue). x.next_file) (sym next_is);
    epoch = ap (λ (n : ℕ). n + 1) down.stored.epoch ∙ ap (λ (x : VersionValue). x.epoch) (sym next_is);
    ordered = subst (λ (ps : List Placed). AreOrdered (tables_of ps)) (sym places_are) down.stored.ordered;
    old = λ e m. subst (λ (n : ℕ). e.ikey.seq ≤ n) (sym flushed_stays) (down.stored.old e (subst (IsIn e) (sym stored_are) m));
    answers = λ key. subst (λ (n : ℕ). value_at (stored_entries v.served) key n ≡ answer (after_restart s).writes n key) (sym flushed_stays)
        (ap (λ (es : List Entry). value_at es key (last_flushed (after_stop s))) (sym stored_are) ∙ down.stored.answers key);
  }

  -- the new version has the next number
  number_is : length s.versions ≡ v.served.version.number
  number_is = version_count vault.edits down.served (after_stop s) down.stored ∙ ap (λ (x : VersionValue). x.number) (sym next_is)

  -- the numbers of the next epoch and version are within their limits
  restart_allowed : refusal s (say.Restart say.Coordinator) ≡ None
  restart_allowed =
      let epoch : s.epoch + 1 ≡ v.served.version.epoch = stored_after.epoch in
      let fits : v.served.version.epoch ≤ MAX_NUMBER = version_is.epoch in
      let number : v.served.version.number ≤ MAX_NUMBER = version_is.number in
      restart_may s (omega arith) (omega (arith, number_is))

-- ---- what its memtables have

module _ (vault : VaultValue) (limits : Limits) (c : CoordValue) (is : OpensCoord vault limits c) (s : State) (down : ShowsDown vault (after_stop s)) where
  abbrev v : VersionSetValue
  v = is.versions

  abbrev flushed : ℕ
  flushed = v.served.version.flushed

  abbrev start : ℕ
  start = start_of c.frozen flushed

  here : last_flushed s ≡ flushed
  here = flushed_is vault.edits down.served (after_stop s) down.stored ∙ ap (λ (x : VersionValue). x.flushed) (sym (next_is vault v is.opens is.set is.served is.version s down))

  there : last_flushed (after_restart s) ≡ last_flushed s
  there = flushed_stays vault v is.opens is.set is.served is.version s down

  -- the log holds the writes after the last flush
  ops_are : is.logged.ops ≡ drop (last_flushed s) s.writes
  ops_are = same_ops c.active c.frozen c.last flushed vault.log is.logged (last_flushed s) (drop (last_flushed s) s.writes) s.frozen here down.logged

  -- and the same frozen end
  frozen_are : s.frozen ≡ end_in c.frozen
  frozen_are =
      down.logged.frozen_is
      ∙ ap (λ (n : ℕ). log_frozen n (read_records vault.log)) here
      ∙ sym (log_holds c.active c.frozen c.last flushed vault.log is.logged).frozen_is

  -- no write is lost
  last_is : last_seq s ≡ c.last
  last_is =
      let low : last_flushed s ≤ last_seq s = down.flushed in
      let count : length is.logged.ops ≡ length (drop (last_flushed s) s.writes) = ap length ops_are in
      let ends = is.logged.last_is in
      omega (arith, low, count, ends, here, length-drop (last_flushed s) s.writes)

  low : flushed ≤ start
  low = start_low c.active c.frozen c.last flushed vault.log is.logged

  high : start ≤ c.last
  high = start_high c.active c.frozen c.last flushed vault.log is.logged

  begins : active_start (after_restart s) ≡ start
  begins = (λ i. unwrap_or (frozen_are i) ((there ∙ here) i)) ∙ sym (start_is c.frozen flushed)

  sum : last_flushed s + (start - flushed) ≡ start
  sum = omega (arith, here, low)

  active_part : drop (start - flushed) is.logged.ops ≡ drop start s.writes
  active_part = ap (drop (start - flushed)) ops_are ∙ drop-drop (start - flushed) (last_flushed s) s.writes ∙ ap (λ (n : ℕ). drop n s.writes) sum

  frozen_part : take (start - flushed) is.logged.ops ≡ drop (last_flushed s) (take start s.writes)
  frozen_part = ap (take (start - flushed)) ops_are ∙ sym (drop-take (last_flushed s) (start - flushed) s.writes) ∙ ap (λ (n : ℕ). drop (last_flushed s) (take n s.writes)) sum

  abbrev waiting : List Entry
  waiting = frozen_entries c.frozen

  active_shown : IsPermutation c.active (entries_after (active_start (after_restart s)) (drop (active_start (after_restart s)) s.writes))
  active_shown =
      subst (λ (n : ℕ). IsPermutation c.active (entries_after n (drop n s.writes))) (sym begins)
      (subst (λ (os : List Op). IsPermutation c.active (entries_after start os)) active_part is.logged.active_is)

  frozen_shown : IsPermutation waiting (entries_after (last_flushed (after_restart s)) (drop (last_flushed (after_restart s)) (take (active_start (after_restart s)) s.writes)))
  frozen_shown =
      subst (λ (n : ℕ). IsPermutation waiting (entries_after (last_flushed (after_restart s)) (drop (last_flushed (after_restart s)) (take n s.writes)))) (sym begins)
      (subst (λ (n : ℕ). IsPermutation waiting (entries_after n (drop n (take start s.writes)))) (sym there)
      (subst (λ (n : ℕ). IsPermutation waiting (entries_after n (drop (last_flushed s) (take start s.writes)))) (sym here)
      (subst (λ (os : List Op). IsPermutation waiting (entries_after flushed os)) frozen_part is.logged.frozen_is)))

  -- with what is left of the log
  log_shown : LogHolds (last_flushed (after_restart s)) c.stored.log (drop (last_flushed (after_restart s)) s.writes) s.frozen
  log_shown =
      held_as flushed (last_flushed (after_restart s)) c.stored.log is.logged.ops (drop (last_flushed (after_restart s)) s.writes) (end_in c.frozen) s.frozen (there ∙ here) (ops_are ∙ ap (λ (n : ℕ). drop n s.writes) (sym there)) frozen_are
      (cut_holds c.active c.frozen c.last flushed vault.log c.stored.log is.logged is.cut)

  -- the coordinator, part by part
  abbrev opened : CoordValue
  opened = record (opened_coord limits v) { active = c.active; frozen = c.frozen; stored = record v.stored { log = c.stored.log }; last = c.last; failures = c.failures }

  shows_parts : Shows opened (after_restart s)
  shows_parts = record {
    up = refl;
    last = last_is;
    frozen = frozen_are;
    snapshots = refl;
    made = refl;
    floor = number_is vault v is.opens is.set is.served is.version s down ∙ sym is.opens.floor;
    tables = stored_after vault v is.opens is.set is.served is.version s down;
    memtables = record {
      flushed = omega (arith, begins, there, here, low);
      within = omega (arith, begins, last_is, high);
      active_is = active_shown;
      frozen_is = frozen_shown;
      kept = λ x live. absurd live;
      snapped = λ x live. absurd live;
    };
    logged = log_shown;
  }

  -- The opened coordinator shows the state after a restart.
  pub Shows-opened : Shows c (after_restart s)
  Shows-opened = subst (λ (x : CoordValue). Shows x (after_restart s)) (sym is.is) shows_parts

  -- Its numbers are the reply to one.
  restarts : Step s (say.Restart say.Coordinator) (restarted_reply c) (after_restart s)
  restarts = subst (λ (x : CoordValue). Step s (say.Restart say.Coordinator) (restarted_reply x) (after_restart s)) (sym is.is) (
    restart_allowed vault v is.opens is.set is.served is.version s down,
    (sym (stored_after vault v is.opens is.set is.served is.version s down).epoch, sym (number_is vault v is.opens is.set is.served is.version s down), sym last_is, refl),
  )

-- AN OPENING IS A RESTART.
pub open_follows : (vault : VaultValue) (limits : Limits) (c : CoordValue) → OpensCoord vault limits c → OpenFollows vault c
open_follows vault limits c is s down = (after_restart s, restarts vault limits c is s down, Shows-opened vault limits c is s down)
