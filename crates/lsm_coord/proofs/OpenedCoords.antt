-- What an opening makes of a vault whose log was replayed, and why it is refused.
use Rattle.std.proofs.Common.{◌≡◌, ℕ, suc, ◌+◌, ◌-◌, ◌<◌, ◌≤◌, true, false, cond, leb, Bool, List, [], ◌∷◌, ◌⊎◌, Option, None, Some, length, map, take, drop, refl, sym, ap, subst, ◌∙◌, arith, inl, inr}
use Rattle.std.specs.Prelude.{IfSome}
use Rattle.std.specs.Option.{option_map, unwrap_or}
use Rattle.std.proofs.lemmas.Bool.{le-leb}
use Rattle.std.proofs.lemmas.Bool.Decides.{leb_tells}
use Rattle.std.proofs.lemmas.List.{drop-map, length-drop, length-map, take-append-drop}
use Rattle.std.proofs.lemmas.Option.{same_Some}
use Rattle.lsm_key.specs.declared.limits.Limits.{Limits}
use Rattle.lsm_key.specs.Sets.{IsIn}
use Rattle.lsm_key.proofs.Membership.{IsIn-append_right}
use Rattle.lsm_claim.specs.Book.{BookValue, new_book}
use Rattle.lsm_edit.specs.declared.log_record.LogRecord.{LogRecord}
use Rattle.lsm_edit.specs.LogRecord.{record_bytes}
use Rattle.lsm_edit.specs.Log.{read_records}
use Rattle.lsm_edit.specs.Served.{IsServed, ServedValue}
use Rattle.lsm_edit.specs.Version.{IsVersion, VersionValue}
use Rattle.lsm_vault.specs.Stored.{VaultValue}
use Rattle.lsm_versions.specs.declared.error.OpenError.{OpenError}
use Rattle.lsm_versions.specs.declared.error.OpenError.TheVariants.{OutOfMemory, BadManifest, MissingTable, BadLog, Device, NumbersExhausted}
use Rattle.lsm_versions.specs.Manifest.{IsVersionSet, VersionSetValue}
use Rattle.lsm_versions.specs.Opening.{IsRecoverable, OpenRefuses, Opens, RecoverRefuses, manifest_version}
use Rattle.lsm_coord.specs.declared.frozen.Frozen.{Frozen}
use Rattle.lsm_coord.specs.declared.replay.Replayed.{Replayed}
use Rattle.lsm_coord.specs.declared.snapshot.Snapshot.{Snapshot}
use Rattle.lsm_coord.specs.Contract.Logs.{IsCounted, IsLogged, MayCut, record_seq, records_upto}
use Rattle.lsm_coord.specs.Contract.Memory.{IsCoord}
use Rattle.lsm_coord.specs.Contract.Seats.{LogComesFirst, OpensCoord, opened_coord}
use Rattle.lsm_coord.specs.Contract.Value.{CoordValue}
use Rattle.lsm_coord.specs.Inner.Replaying.{LogRefuses, ReplaysLog}
use Rattle.lsm_coord.proofs.LoggedBounds.{frozen_bounds, frozen_some, recent_between, start_high}
use Rattle.lsm_coord.proofs.LogCuts.{records_are}
use Rattle.lsm_coord.proofs.LoggedCalls.{cut_logged, log_holds}

-- ---- counts after a cut

-- the records up to a later sequence, without those up to one before it
upto_left : (low high : ℕ) (records : List LogRecord) → low ≤ high → records_upto high (drop (records_upto low records) records) + records_upto low records ≡ records_upto high records
upto_left low high [] le = refl
upto_left low high (r ∷ records) le = by_test (upto_left low high records le) (leb_tells (record_seq r) low)
  where
    by_test : records_upto high (drop (records_upto low records) records) + records_upto low records ≡ records_upto high records → ((leb (record_seq r) low ≡ true) × (record_seq r ≤ low)) ⊎ ((leb (record_seq r) low ≡ false) × (low < record_seq r)) → records_upto high (drop (records_upto low (r ∷ records)) (r ∷ records)) + records_upto low (r ∷ records) ≡ records_upto high (r ∷ records)
    by_test rest (inl is) =
        let within : leb (record_seq r) high ≡ true = le-leb (record_seq r) high (let under = is.1 in omega (arith, under, le)) in
        rw (is.0, within) (omega (arith, rest))
    by_test rest (inr is) = rw (is.0) (omega arith)

upto_few : (n : ℕ) (records : List LogRecord) → records_upto n records ≤ length records
upto_few n [] = omega arith
upto_few n (r ∷ records) = (let rest = upto_few n records in by_test (leb (record_seq r) n) rest)
  where
    by_test : (b : Bool) → records_upto n records ≤ length records → cond b (suc (records_upto n records)) 0 ≤ length (r ∷ records)
    by_test true rest = omega (arith, rest)
    by_test false rest = omega arith

-- what a cut may leave of a log of which so many records are up to the flushed sequence
abbrev pub MayBeLeft : ℕ → List (List ℕ) → List (List ℕ) → Type 0
MayBeLeft upto log new = (new ≡ log) ⊎ ((n : ℕ) × (Some upto ≡ Some n) × (new ≡ drop n log))

module _ (flushed : ℕ) (log new : List (List ℕ)) (r : Replayed) (is : ReplaysLog flushed log r) (left : MayBeLeft r.flushed_upto log new) where
  pub may_cut : MayCut flushed log new
  may_cut = by_cut left
    where
      by_cut : MayBeLeft r.flushed_upto log new → MayCut flushed log new
      by_cut (inl same) = inl same
      by_cut (inr cut) = inr (cut.2 ∙ ap (λ (n : ℕ). drop n log) (sym (same_Some r.flushed_upto cut.0 cut.1) ∙ is.flushed_upto))

  abbrev records : List LogRecord
  records = is.logged.records

  records_read : read_records log ≡ records
  records_read = records_are records log is.logged.spelled is.logged.sound

  frozen_left : (m : ℕ) → m ≡ length new → (f : Frozen) → r.frozen ≡ Some f → r.frozen_upto - (r.read - m) ≡ records_upto f.end (read_records new)
  frozen_left m long f at = by_cut left
    where
      by_cut : MayBeLeft r.flushed_upto log new → r.frozen_upto - (r.read - m) ≡ records_upto f.end (read_records new)
      by_cut (inl same) =
          let count : m ≡ length log = long ∙ ap length same in
          let all = is.all in
          let upto = is.frozen_upto f at in
          let here : records_upto f.end (read_records new) ≡ records_upto f.end (read_records log) = ap (λ (t : List (List ℕ)). records_upto f.end (read_records t)) same in
          omega (arith, count, all, upto, here)
      by_cut (inr cut) =
          let k : ℕ = records_upto flushed records in
          let n_is : cut.0 ≡ k = sym (same_Some r.flushed_upto cut.0 cut.1) ∙ is.flushed_upto ∙ ap (records_upto flushed) records_read in
          let spelled : new ≡ map record_bytes (drop k records) = cut.2 ∙ (λ i. drop (n_is i) (is.logged.spelled i)) ∙ drop-map record_bytes k records in
          let sound = λ (q : LogRecord) (m : IsIn q (drop k records)). is.logged.sound q (subst (IsIn q) (take-append-drop k records) (IsIn-append_right q (take k records) (drop k records) m)) in
          let here : records_upto f.end (read_records new) ≡ records_upto f.end (drop k records) = ap (records_upto f.end) (records_are (drop k records) new spelled sound) in
          let bounds = frozen_bounds r.active r.frozen (unwrap_or r.last flushed) flushed log is.logged f at in
          let low = bounds.0 in
          let sum = upto_left flushed f.end records (omega (arith, low)) in
          let few = upto_few flushed records in
          let count : m ≡ length (drop k log) = long ∙ ap length cut.2 ∙ ap (λ (n : ℕ). length (drop n log)) n_is in
          let whole : length log ≡ length records = ap length is.logged.spelled ∙ length-map records record_bytes in
          let all = is.all in
          let upto : r.frozen_upto ≡ records_upto f.end records = is.frozen_upto f at ∙ ap (records_upto f.end) records_read in
          omega (arith, here, sum, few, count, whole, all, upto, length-drop k log)

  -- the counts of what is left
  pub left_counted : (known : Option ℕ) → IfSome known (λ n. n ≡ length new) → IsCounted r.frozen new known (option_map (λ n. r.frozen_upto - (r.read - n)) known)
  left_counted None h = record { all = tt; frozen_part = tt }
  left_counted (Some m) h = record { all = h; frozen_part = λ f at. frozen_left m h f at }

  -- and its records
  pub left_logged : IsLogged r.active r.frozen (unwrap_or r.last flushed) flushed new
  left_logged = cut_logged r.active r.frozen (unwrap_or r.last flushed) flushed log new is.logged may_cut

-- ---- the coordinator

-- what it keeps
pub opened_keeps : (served : ServedValue) (log : List (List ℕ)) (r : Replayed) (book : BookValue) (snapshots : List Snapshot) → ReplaysLog served.version.flushed log r → 1 ≤ served.version.epoch → book ≡ new_book served.version.epoch → snapshots ≡ []
    → IsCoord r.active r.frozen (unwrap_or r.last served.version.flushed) served book snapshots
opened_keeps served log r book snapshots is begun book_is none =
    let last : ℕ = unwrap_or r.last served.version.flushed in
    let flushed : ℕ = served.version.flushed in
    rw (book_is, none) (record {
      recent = recent_between r.active r.frozen last flushed log is.logged;
      begun = start_high r.active r.frozen last flushed log is.logged;
      waiting = λ f at. ((frozen_bounds r.active r.frozen last flushed log is.logged f at).0, frozen_some r.active r.frozen last flushed log is.logged f at);
      opened = begun;
      same_epoch = refl;
      legal = λ j m. absurd m;
      orderly = λ j m. absurd m;
      few = omega arith;
    })

module _ (vault : VaultValue) (v : VersionSetValue) (opens : Opens vault v) where
  flushed_same : v.served.version.flushed ≡ (manifest_version vault.edits).flushed
  flushed_same = ap (λ (x : VersionValue). x.flushed) opens.version

  log_same : v.stored.log ≡ vault.log
  log_same = ap (λ (x : VaultValue). x.log) opens.stored

  pub first_epoch : 1 ≤ v.served.version.epoch
  first_epoch = (let next : v.served.version.epoch ≡ (manifest_version vault.edits).epoch + 1 = ap (λ (x : VersionValue). x.epoch) opens.version in omega (arith, next))

  -- the log was replayed over the flushed sequence that the next epoch has
  pub still_replayed : (r : Replayed) → ReplaysLog (manifest_version vault.edits).flushed vault.log r → ReplaysLog v.served.version.flushed v.stored.log r
  still_replayed r is = subst (λ (n : ℕ). ReplaysLog n v.stored.log r) (sym flushed_same) (subst (λ (t : List (List ℕ)). ReplaysLog (manifest_version vault.edits).flushed t r) (sym log_same) is)

  pub opens_coord : (limits : Limits) (r : Replayed) (c : CoordValue) → IsVersionSet v → IsServed v.served → IsVersion v.served.version → ReplaysLog (manifest_version vault.edits).flushed vault.log r → MayCut v.served.version.flushed v.stored.log c.stored.log
      → c ≡ record (opened_coord limits v) { active = r.active; frozen = r.frozen; stored = record v.stored { log = c.stored.log }; last = unwrap_or r.last v.served.version.flushed; failures = c.failures } → v.failures ≤ c.failures → OpensCoord vault limits c
  opens_coord limits r c set served version is cut made counted = record {
    versions = v;
    opens = opens;
    set = set;
    served = served;
    version = version;
    logged = subst (λ (x : CoordValue). IsLogged x.active x.frozen x.last v.served.version.flushed vault.log) (sym made) (subst (λ (n : ℕ). IsLogged r.active r.frozen (unwrap_or r.last n) n vault.log) (sym flushed_same) is.logged);
    cut = subst (λ (t : List (List ℕ)). MayCut v.served.version.flushed t c.stored.log) log_same cut;
    is = made ∙ (λ i. record (opened_coord limits v) {
      active = sym (ap (λ (x : CoordValue). x.active) made) i;
      frozen = sym (ap (λ (x : CoordValue). x.frozen) made) i;
      stored = record v.stored { log = c.stored.log };
      last = sym (ap (λ (x : CoordValue). x.last) made) i;
      failures = c.failures;
    });
    counted = counted;
  }

-- ---- refusals

-- what refuses to read a vault is told before its log is looked at
pub recover_first : (vault : VaultValue) (why : OpenError) → RecoverRefuses vault why → LogComesFirst vault why
recover_first vault OutOfMemory h = tt
recover_first vault BadManifest h = tt
recover_first vault MissingTable h = tt
recover_first vault BadLog h = tt
recover_first vault Device h = tt
recover_first vault NumbersExhausted h = absurd h

-- what refuses the log of a vault that was read refuses the opening
pub log_open_refuses : (vault : VaultValue) → IsRecoverable vault → (why : OpenError) → LogRefuses (manifest_version vault.edits).flushed vault.log why → OpenRefuses vault why
log_open_refuses vault is OutOfMemory h = tt
log_open_refuses vault is BadManifest h = absurd h
log_open_refuses vault is MissingTable h = absurd h
log_open_refuses vault is BadLog h = (is.folds, is.tables, h)
log_open_refuses vault is Device h = tt
log_open_refuses vault is NumbersExhausted h = absurd h

pub log_first : (vault : VaultValue) (why : OpenError) → LogRefuses (manifest_version vault.edits).flushed vault.log why → LogComesFirst vault why
log_first vault OutOfMemory h = tt
log_first vault BadManifest h = tt
log_first vault MissingTable h = tt
log_first vault BadLog h = tt
log_first vault Device h = tt
log_first vault NumbersExhausted h = absurd h

-- a log that was replayed is good
pub replayed_first : (vault : VaultValue) (why : OpenError) (r : Replayed) → ReplaysLog (manifest_version vault.edits).flushed vault.log r → LogComesFirst vault why
replayed_first vault OutOfMemory r is = tt
replayed_first vault BadManifest r is = tt
replayed_first vault MissingTable r is = tt
replayed_first vault BadLog r is = tt
replayed_first vault Device r is = tt
replayed_first vault NumbersExhausted r is = (log_holds r.active r.frozen (unwrap_or r.last (manifest_version vault.edits).flushed) (manifest_version vault.edits).flushed vault.log is.logged).good
