-- What is left of older versions once a compaction was made, and what is due after all were.
use Rattle.std.proofs.Common.{◌≡◌, ℕ, ◌+◌, ◌<◌, ◌≤◌, Bool, false, true, ◌||◌, cond, List, [], ◌∷◌, Option, None, Some, Result, Ok, Err, Vec, IfOk, refl, sym, ap, subst, ◌∙◌, arith, inl, inr, is_some}
use Rattle.std.specs.Prelude.{OnOk, max}
use Rattle.std.specs.List.{list_any}
use Rattle.std.specs.FinMap.{get, get-retain_keys, nat_cmp-IsAntisymmetric}
use Rattle.std.proofs.lemmas.Bool.{eqb-true, false_from_ne_true}
use Rattle.lsm_key.specs.declared.op.Op.{Op}
use Rattle.lsm_key.specs.Sets.{IsIn}
use Rattle.lsm_key.proofs.Lists.{any_is}
use Rattle.lsm_edit.specs.declared.edit.Edit.{Edit}
use Rattle.lsm_edit.specs.declared.file.FileMeta.{FileMeta}
use Rattle.lsm_edit.specs.Served.{ServedValue}
use Rattle.lsm_edit.specs.Version.{VersionValue, has_number}
use Rattle.lsm_versions.specs.declared.retired.Retired.{Retired}
use Rattle.lsm_versions.specs.Retention.{IsListed, kept_from, retired_at}
use Rattle.lsm_versions.proofs.ManifestReplay.{length-versions_of}
use Rattle.lsm_coord.specs.declared.snapshot.Snapshot.{Snapshot}
use Rattle.lsm_coord.specs.declared.error.CoordError.{CoordError}
use Rattle.lsm_coord.specs.declared.error.CoordError.TheVariants as coord
use Rattle.lsm_coord.specs.Contract.Calls.{IsWritten, with_floor, with_live_tables, write_fault}
use Rattle.lsm_coord.specs.Contract.Memory.{IsFit}
use Rattle.lsm_coord.specs.Contract.Value.{CoordValue, version_set}
use Rattle.lsm_versions.specs.Opening.{is_live}
use Rattle.lsm_pick.specs.After.{CompactPointersValue}
use Rattle.lsm_store.specs.Compacting.{CompactsAfter, IsLeft}
use Rattle.lsm_store.specs.Store.{CompactsIfBehind, Holds, IsBehind, IsDueAfter, IsNoneDue, Keeps, LeavesNoneDue, LetsOthersGo, ServesCurrentAlone}
use Rattle.lsm_store.specs.declared.due.Due.{Due}
use Rattle.lsm_store.specs.declared.due.Due.TheVariants as due
use Rattle.lsm_store.specs.declared.error.StoreError.{StoreError}

-- ---- a trim to the current version

no_member : (rs : List Retired) → ((r : Retired) → IsIn r rs → ⊥) → rs ≡ []
no_member [] never = refl
no_member (r ∷ rs) never = absurd (never r (inl refl))

-- every retired file's last version is below the current one
nothing_retired : (c : CoordValue) → IsFit c → c.served.version.number ≤ c.floor → c.retired ≡ []
nothing_retired c fit high = no_member c.retired (λ r m.
    let past = (fit.retired.each r m).past in
    let from = fit.retired.served r m in
    let count = length-versions_of c.stored.edits c.served.version fit.manifest in
    omega (arith, past, from, count, high))

not_listed : (v : VersionValue) (n : ℕ) → (IsListed v n → ⊥) → list_any (has_number n) v.files ≡ false
not_listed v n never = false_from_ne_true (list_any (has_number n) v.files) (λ h.
    let found = any_is (has_number n) v.files h in
    never (found.0, found.1, eqb-true found.0.number n found.2))

pub alone_after : (mid new : CoordValue) → IsFit new → new ≡ record (with_live_tables mid mid.served.version.number) { failures = new.failures } → ServesCurrentAlone new
alone_after mid new fit is =
    let to : ℕ = mid.served.version.number in
    let floor : new.floor ≡ max mid.floor to = ap (λ (c : CoordValue). c.floor) is in
    let number : new.served.version.number ≡ to = ap (λ (c : CoordValue). c.served.version.number) is in
    let low : new.floor ≤ new.served.version.number = fit.retired.low in
    let none : new.retired ≡ [] = nothing_retired new fit (omega (arith, floor, number)) in
    let retired : kept_from (max mid.floor to) mid.retired ≡ [] = sym (ap (λ (c : CoordValue). c.retired) is) ∙ none in
    let stays : ℕ → Bool = is_live (version_set (with_floor mid to)) in record {
      floor = omega (arith, floor, number, low);
      retired = none;
      tables = λ n given never.
          let other : list_any (has_number n) mid.served.version.files ≡ false = not_listed mid.served.version n (subst (λ (s : ServedValue). IsListed s.version n → ⊥) (ap (λ (c : CoordValue). c.served) is) never) in
          let dead : stays n ≡ false = (λ i. other i || is_some (retired_at (retired i) n)) in
          ap (λ (c : CoordValue). get c.stored.tables n) is
          ∙ get-retain_keys mid.stored.tables stays n (λ x tied. ap stays (sym (nat_cmp-IsAntisymmetric n x tied)))
          ∙ ap (λ (b : Bool). cond b (get mid.stored.tables n) None) dead;
    }

-- ---- compactions

-- a compaction is told by the number of the version that it made
pub told_number : {Z : Type 0} (pointers : Option CompactPointersValue) (old mid : CoordValue) (answer : Option (ℕ × Vec ℕ Z)) (made : ℕ × Vec ℕ Z) (number : ℕ) → answer ≡ Some made → CompactsAfter pointers old mid answer → number ≡ made.0 → number ≡ mid.served.version.number
told_number pointers old mid answer made number e h same =
    let d = (subst (CompactsAfter pointers old mid) e h).installed in
    same ∙ (d.5 ∙ sym (ap (λ (c : CoordValue). c.served.version.number) d.4.new_is ∙ ap (λ (x : Edit). x.number) d.4.edit_is))

pub none_left : {Z : Type 0} (pointers : Option CompactPointersValue) (old new : CoordValue) (answer : Option (ℕ × Vec ℕ Z)) → answer ≡ None → CompactsAfter pointers old new answer → IsLeft old new
none_left pointers old new answer e h = (subst (CompactsAfter pointers old new) e h).0

-- nothing comes of a compaction that is not made
pub left_alone : (old new : CoordValue) → IsLeft old new → ServesCurrentAlone old → ServesCurrentAlone new
left_alone old new left alone =
    let version : new.served.version ≡ old.served.version = ap (λ (c : CoordValue). c.served.version) left.rest in record {
      floor = ap (λ (c : CoordValue). c.floor) left.rest ∙ alone.floor ∙ sym (ap (λ (v : VersionValue). v.number) version);
      retired = ap (λ (c : CoordValue). c.retired) left.rest ∙ alone.retired;
      tables = λ n given never.
          let below : n < old.served.version.next_file = subst (λ (v : VersionValue). n < v.next_file) version given in
          left.below n below ∙ alone.tables n below (subst (λ (v : VersionValue). IsListed v n → ⊥) version never);
    }

pub left_number : (old new : CoordValue) → IsLeft old new → new.served.version.number ≡ old.served.version.number
left_number old new left = ap (λ (c : CoordValue). c.served.version.number) left.rest

pub left_lets_go : (old mid new : CoordValue) → IsLeft mid new → LetsOthersGo old mid → LetsOthersGo old new
left_lets_go old mid new left before rose = left_alone mid new left (before (let same = left_number mid new left in omega (arith, rose, same)))

-- none is made, since what is due is too large
pub due_lets_go : (old mid new : CoordValue) (r : Result Due StoreError) (e : CoordError) → IfOk r (λ d. (d ≡ due.TooLarge) × (e ≡ coord.TooWide)) → (e ≡ coord.TooWide → IsLeft mid new) → LetsOthersGo old mid → OnOk r (LetsOthersGo old new)
due_lets_go old mid new (Ok d) e h left before = left_lets_go old mid new (left h.1) before
due_lets_go old mid new (Err x) e h left before = tt

-- ---- what is due

-- no number is left for as many compactions as a word can count
pub none_due : (old mid new : CoordValue) (found : Due) → Keeps old mid → IsFit new → IsDueAfter mid 18446744073709551615 new found → LeavesNoneDue old new
none_due old mid new due.Nothing keeps fit h writes snapshots held = inl (h writes snapshots (keeps writes snapshots held))
none_due old mid new due.TooLarge keeps fit h writes snapshots held = inr h
none_due old mid new due.More keeps fit h writes snapshots held =
    let number = fit.version.number in
    absurd (omega (arith, h, number))

-- a write leaves alone what compactions are due by
pub written_due : (old new : CoordValue) (ops : List Op) → IsWritten old ops new → IsNoneDue old → IsNoneDue new
written_due old new ops written none = subst IsNoneDue (sym written.rest) none

-- a batch that has room is written without a flush
pub room_there : (old new : CoordValue) (ops : List Op) → write_fault old ops ≡ None → CompactsIfBehind old ops new
room_there old new ops none full = let e = sym none ∙ full in absurd cc

-- the compactions before a write
pub room_made : (old mid emptied new : CoordValue) (ops : List Op) → mid ≡ old → (IsBehind mid → LeavesNoneDue mid emptied) → (IsNoneDue emptied → IsNoneDue new) → CompactsIfBehind old ops new
room_made old mid emptied new ops same none due full behind writes snapshots held =
    due (none (subst IsBehind (sym same) behind) writes snapshots (subst (λ (c : CoordValue). Holds c writes snapshots) (sym same) held))
