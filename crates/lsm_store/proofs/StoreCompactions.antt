-- Why compactions of a store stop, and what is due after them.
use Rattle.std.proofs.Common.{◌≡◌, ◌⊎◌, ℕ, ◌+◌, ◌<◌, ◌≤◌, Bool, true, false, cond, List, [], Option, None, Some, Result, Ok, Err, Vec, IfOk, IfErr, length, refl, sym, ap, subst, ◌∙◌, arith, inl, inr}
use Rattle.std.specs.Prelude.{nat_eq, nat_lt, sum_by}
use Rattle.std.proofs.lemmas.Bool.{le-ltb}
use Rattle.lsm_key.specs.declared.entry.Entry.{Entry}
use Rattle.lsm_key.specs.declared.limits.TheConstants.{MAX_BATCH_WEIGHT, MAX_MEMTABLE_WEIGHT}
use Rattle.lsm_key.specs.declared.op.Op.{Op}
use Rattle.lsm_key.specs.declared.seq.TheConstants.Seq as seq
use Rattle.lsm_key.specs.Limits.{entry_weight, total_weight}
use Rattle.lsm_coord.specs.declared.snapshot.Snapshot.{Snapshot}
use Rattle.lsm_claim.specs.declared.job.LiveJob.{LiveJob}
use Rattle.lsm_claim.specs.Book.{BookValue}
use Rattle.lsm_coord.specs.declared.error.CoordError.{CoordError}
use Rattle.lsm_coord.specs.declared.error.CoordError.TheVariants as coord
use Rattle.lsm_coord.specs.Contract.Picking.{NothingToCompact, OnlyTooLarge}
use Rattle.lsm_coord.specs.Contract.Calls.{AppendRefuses, write_fault}
use Rattle.lsm_coord.specs.Contract.Value.{CoordValue}
use Rattle.lsm_pick.specs.After.{CompactPointersValue}
use Rattle.lsm_pick.specs.Rule.{AreTooLarge, candidates}
use Rattle.lsm_store.specs.Compacting.{CompactionRefusesAfter, CompactsAfter, IsLeft}
use Rattle.lsm_store.proofs.StoreSteps.{keeps_then}
use Rattle.lsm_store.specs.Store.{CompactRefuses, CompactsNext, EmptiesMemtable, Holds, IsDueAfter, Keeps, LeavesMemtable, NextRefuses, OfCoord, RoomRefuses, WriteRefuses}
use Rattle.lsm_store.specs.declared.due.Due.{Due}
use Rattle.lsm_store.specs.declared.due.Due.TheVariants as due
use Rattle.lsm_store.specs.declared.error.StoreError.{StoreError}
use Rattle.lsm_store.specs.declared.error.StoreError.TheVariants.{Coord}

-- ---- what is left of a compaction that is not made

left_live : (old new : CoordValue) → IsLeft old new → new.book.live ≡ old.book.live
left_live old new left = elim left.book [
  | inl same ↦ ap (λ (b : BookValue). b.live) same
  | inr more ↦ ap (λ (b : BookValue). b.live) more
]

left_too_large : (old new : CoordValue) → IsLeft old new → OnlyTooLarge old → OnlyTooLarge new
left_too_large old new left large =
    subst OnlyTooLarge (sym left.rest)
    (subst (λ (jobs : List LiveJob). AreTooLarge old.served.version.files jobs (candidates old.limits old.served.version.files)) (sym (left_live old new left)) large)

pub next_refused : (pointers : Option CompactPointersValue) (old new : CoordValue) (e : CoordError) → old.book.live ≡ [] → IsLeft old new → CompactionRefusesAfter pointers old e → (e ≡ coord.Device → old.failures < new.failures) → NextRefuses old new e
next_refused pointers old new coord.OutOfMemory live left h failed = tt
next_refused pointers old new coord.Device live left h failed = failed refl
next_refused pointers old new coord.NumbersExhausted live left h failed = (old, (λ writes snapshots held. held), pointers, h)
next_refused pointers old new coord.TooWide live left h failed = left_too_large old new left h.1
next_refused pointers old new coord.BookFull live left h failed = let none = ap length live in absurd (omega (arith, none, h))
next_refused pointers old new e live left h failed = absurd h

pub none_next : {Z : Type 0} (pointers : Option CompactPointersValue) (old new : CoordValue) (answer : Option (ℕ × Vec ℕ Z)) → answer ≡ None → CompactsAfter pointers old new answer → CompactsNext old new false
none_next pointers old new answer e h writes snapshots held =
    let none = subst (CompactsAfter pointers old new) e h in
    let is = none.1 held.state held.shown in
    (is.1, is.2)

-- ---- compactions in turn

pub then_memtable : (old mid new : CoordValue) → LeavesMemtable old mid → LeavesMemtable mid new → LeavesMemtable old new
then_memtable old mid new first second = record {
  active = second.active ∙ first.active;
  last = second.last ∙ first.last;
  counted = let a = first.counted in let b = second.counted in omega (arith, a, b);
}

pub same_memtable : (c : CoordValue) → LeavesMemtable c c
same_memtable c = record { active = refl; last = refl; counted = omega arith }

pub next_stops : (old mid new : CoordValue) (e : CoordError) → (e ≡ coord.TooWide → ⊥) → Keeps old mid → old.failures ≤ mid.failures → NextRefuses mid new e → CompactRefuses old new e
next_stops old mid new coord.OutOfMemory other keeps counted h = tt
next_stops old mid new coord.Device other keeps counted h = omega (arith, counted, h)
next_stops old mid new coord.NumbersExhausted other keeps counted h = (h.0, keeps_then old mid h.0 keeps h.1, h.2, h.3)
next_stops old mid new coord.TooWide other keeps counted h = absurd (other refl)
next_stops old mid new e other keeps counted h = absurd h

pub due_then : (old mid new : CoordValue) (rounds : ℕ) (r : Result Due StoreError) (e : CoordError) → IfOk r (λ d. (d ≡ due.TooLarge) × (e ≡ coord.TooWide)) → NextRefuses mid new e → IfOk r (IsDueAfter old rounds new)
due_then old mid new rounds (Ok d) e h refused =
    subst (IsDueAfter old rounds new) (sym h.0) (subst (NextRefuses mid new) h.1 refused)
due_then old mid new rounds (Err x) e h refused = tt

pub stops_then : (old mid new : CoordValue) (r : Result Due StoreError) (e : CoordError) → IfErr r (λ x. (x ≡ Coord e) × (e ≡ coord.TooWide → ⊥)) → Keeps old mid → old.failures ≤ mid.failures → NextRefuses mid new e → IfErr r (OfCoord (CompactRefuses old new))
stops_then old mid new (Ok d) e h keeps counted refused = tt
stops_then old mid new (Err x) e h keeps counted refused = subst (OfCoord (CompactRefuses old new)) (sym h.0) (next_stops old mid new e h.1 keeps counted refused)

pub nothing_due : (old mid new : CoordValue) → Keeps old mid → CompactsNext mid new false → (writes : List Op) (snapshots : List Snapshot) → Holds old writes snapshots → NothingToCompact new
nothing_due old mid new keeps none writes snapshots h =
    let is = none writes snapshots (keeps writes snapshots h) in
    subst NothingToCompact (sym is.1) is.0

-- ---- room for a write

pub compact_refuses_room : (old mid new : CoordValue) (e : StoreError) → Keeps old mid → old.failures ≤ mid.failures → OfCoord (CompactRefuses mid new) e → OfCoord (RoomRefuses old new) e
compact_refuses_room old mid new (Coord coord.OutOfMemory) keeps counted h = tt
compact_refuses_room old mid new (Coord coord.Device) keeps counted h = omega (arith, counted, h)
compact_refuses_room old mid new (Coord coord.NumbersExhausted) keeps counted h = inr (h.0, keeps_then old mid h.0 keeps h.1, h.2, h.3)
compact_refuses_room old mid new e keeps counted h = absurd h

room_refuses : (old new : CoordValue) (ops : List Op) (e : StoreError) → write_fault old ops ≡ Some coord.MemtableFull → OfCoord (RoomRefuses old new) e → WriteRefuses old ops new e
room_refuses old new ops (Coord coord.OutOfMemory) full h = inr full
room_refuses old new ops (Coord coord.Device) full h = (inr full, h)
room_refuses old new ops (Coord coord.NumbersExhausted) full h = (full, h)
room_refuses old new ops e full h = absurd h

-- ---- writes

-- a memtable that is full is left as it was
pub full_same : (old mid : CoordValue) (ops : List Op) (why : CoordError) → why ≡ coord.MemtableFull → AppendRefuses (write_fault old ops) old why mid → (write_fault old ops ≡ Some coord.MemtableFull) × (mid ≡ old)
full_same old mid ops why is refuses = subst (λ (x : CoordError). AppendRefuses (write_fault old ops) old x mid) is refuses

pub room_refuses_write : (old mid new : CoordValue) (ops : List Op) (why : CoordError) (e : StoreError) → why ≡ coord.MemtableFull → AppendRefuses (write_fault old ops) old why mid → OfCoord (RoomRefuses mid new) e → WriteRefuses old ops new e
room_refuses_write old mid new ops why e is refuses h =
    let full = full_same old mid ops why is refuses in
    room_refuses old new ops e full.0 (subst (λ (c : CoordValue). OfCoord (RoomRefuses c new) e) full.1 h)

write_reasons : (a b d : Bool) (e : CoordError) → cond a (Some coord.EmptyBatch) (cond b (Some coord.SequenceExhausted) (cond d (Some coord.MemtableFull) None)) ≡ Some e → (coord.EmptyBatch ≡ e) ⊎ ((coord.SequenceExhausted ≡ e) ⊎ (coord.MemtableFull ≡ e))
write_reasons true b d e is = inl cc
write_reasons false true d e is = inr (inl cc)
write_reasons false false true e is = inr (inr cc)
write_reasons false false false e is = absurd cc

-- no other reason of the state
no_reason : (c : CoordValue) (ops : List Op) (e : CoordError) → (coord.EmptyBatch ≡ e → ⊥) → (coord.SequenceExhausted ≡ e → ⊥) → (coord.MemtableFull ≡ e → ⊥) → write_fault c ops ≡ Some e → ⊥
no_reason c ops e empty exhausted full is =
    elim (write_reasons (nat_eq (length ops) 0) (nat_lt seq.MAX (c.last + length ops)) (nat_lt MAX_MEMTABLE_WEIGHT (sum_by entry_weight c.active + total_weight ops)) e is) [
      | inl a ↦ empty a
      | inr rest ↦ elim rest [ inl b ↦ exhausted b | inr d ↦ full d ]
    ]

-- a batch is refused for another reason than a full memtable
pub append_refuses_write : (old new : CoordValue) (ops : List Op) (e : CoordError) → (e ≡ coord.MemtableFull → ⊥) → AppendRefuses (write_fault old ops) old e new → WriteRefuses old ops new (Coord e)
append_refuses_write old new ops coord.OutOfMemory other h = inl h.0
append_refuses_write old new ops coord.Device other h = (inl h.0, h.2)
append_refuses_write old new ops coord.EmptyBatch other h = h.0
append_refuses_write old new ops coord.SequenceExhausted other h = h.0
append_refuses_write old new ops coord.MemtableFull other h = absurd (other refl)
append_refuses_write old new ops e other h = absurd (no_reason old ops e (λ x. cc) (λ x. cc) (λ x. cc) h.0)

-- where the memtable is full alone, there are operations and sequences
only_full : (a b d : Bool) → cond a (Some coord.EmptyBatch) (cond b (Some coord.SequenceExhausted) (cond d (Some coord.MemtableFull) None)) ≡ Some coord.MemtableFull → (a ≡ false) × (b ≡ false)
only_full true b d e = absurd cc
only_full false true d e = absurd cc
only_full false false d e = (refl, refl)

-- so an empty memtable has room for the batch
room_for : (old emptied : CoordValue) (ops : List Op) → write_fault old ops ≡ Some coord.MemtableFull → EmptiesMemtable old emptied → total_weight ops ≤ MAX_BATCH_WEIGHT → write_fault emptied ops ≡ None
room_for old emptied ops full empties light =
    let parts = only_full (nat_eq (length ops) 0) (nat_lt seq.MAX (old.last + length ops)) (nat_lt MAX_MEMTABLE_WEIGHT (sum_by entry_weight old.active + total_weight ops)) full in
    let enough : nat_lt seq.MAX (emptied.last + length ops) ≡ false = ap (λ (n : ℕ). nat_lt seq.MAX (n + length ops)) empties.last ∙ parts.1 in
    let zero : sum_by entry_weight emptied.active ≡ 0 = ap (λ (es : List Entry). sum_by entry_weight es) empties.active in
    let room : nat_lt MAX_MEMTABLE_WEIGHT (sum_by entry_weight emptied.active + total_weight ops) ≡ false = le-ltb MAX_MEMTABLE_WEIGHT (sum_by entry_weight emptied.active + total_weight ops) (omega (arith, zero, light)) in
    λ i. cond (parts.0 i) (Some coord.EmptyBatch) (cond (enough i) (Some coord.SequenceExhausted) (cond (room i) (Some coord.MemtableFull) None))

-- a reason that is left once the memtable was emptied
again_refused : (old emptied new : CoordValue) (ops : List Op) (e : CoordError) → write_fault old ops ≡ Some coord.MemtableFull → write_fault emptied ops ≡ None → old.failures ≤ emptied.failures → AppendRefuses (write_fault emptied ops) emptied e new → WriteRefuses old ops new (Coord e)
again_refused old emptied new ops coord.OutOfMemory full none rose h = inr full
again_refused old emptied new ops coord.Device full none rose h = let failed = h.2 in (inr full, omega (arith, rose, failed))
again_refused old emptied new ops e full none rose h = let is = sym none ∙ h.0 in absurd cc

pub emptied_refuses_write : (old mid emptied new : CoordValue) (ops : List Op) (why e : CoordError) → why ≡ coord.MemtableFull → AppendRefuses (write_fault old ops) old why mid → EmptiesMemtable mid emptied → mid.failures ≤ emptied.failures → total_weight ops ≤ MAX_BATCH_WEIGHT
    → AppendRefuses (write_fault emptied ops) emptied e new → WriteRefuses old ops new (Coord e)
emptied_refuses_write old mid emptied new ops why e is refuses empties rose light h =
    let full = full_same old mid ops why is refuses in
    let none = room_for old emptied ops full.0 (subst (λ (c : CoordValue). EmptiesMemtable c emptied) full.1 empties) light in
    again_refused old emptied new ops e full.0 none (subst (λ (c : CoordValue). c.failures ≤ emptied.failures) full.1 rose) h
