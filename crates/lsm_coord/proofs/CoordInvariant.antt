-- What a coordinator keeps over its calls.
use Rattle.std.proofs.Common.{◌≡◌, ℕ, zero, suc, ◌+◌, ◌<◌, ◌≤◌, Bool, true, false, cond, is_some, List, [], ◌∷◌, ◌++◌, Option, None, Some, length, refl, sym, subst, ◌∙◌, arith, inl, inr, eqb, ltb, ◌&&◌, is_none, ltb-false}
use Rattle.std.specs.Prelude.{sum_by}
use Rattle.std.proofs.lemmas.Bool.{eqb-false}
use Rattle.std.specs.List.Sorted.{IsPermutation}
use Rattle.lsm_key.specs.declared.entry.Entry.{Entry}
use Rattle.lsm_key.specs.declared.limits.TheConstants.{MAX_MEMTABLE_WEIGHT}
use Rattle.lsm_key.specs.declared.op.Op.{Op}
use Rattle.lsm_key.specs.declared.seq.TheConstants.Seq as seq
use Rattle.lsm_key.specs.Limits.{entry_weight, total_weight}
use Rattle.lsm_key.specs.Places.{entries_after}
use Rattle.lsm_key.proofs.Membership.{IsIn-append_cases, SameMembers-permutation}
use Rattle.lsm_key.proofs.WritesOverStored.{entries_after-range}
use Rattle.lsm_mem.specs.Memtable.{last_sequence}
use Rattle.lsm_mem.proofs.MemtableTotals.{last_low}
use Rattle.lsm_claim.specs.Book.{BookValue}
use Rattle.lsm_edit.specs.Served.{ServedValue}
use Rattle.lsm_coord.specs.declared.error.CoordError.TheVariants.{EmptyBatch, SequenceExhausted, MemtableFull, FrozenWaiting, NothingToFreeze, NothingToFlush, NumbersExhausted}
use Rattle.lsm_coord.specs.declared.frozen.Frozen.{Frozen}
use Rattle.lsm_coord.specs.declared.snapshot.Snapshot.{Snapshot}
use Rattle.lsm_coord.specs.Contract.Memory.{IsCoord, AreLegal}
use Rattle.lsm_coord.specs.Contract.Calls.{active_after, flush_source_of, write_fault}
use Rattle.lsm_coord.specs.Contract.Value.{CoordValue, start_of}

-- the next sequence is above those of the active memtable
pub last_below : (active : List Entry) (frozen : Option Frozen) (last : ℕ) (served : ServedValue) (book : BookValue) (snapshots : List Snapshot) → IsCoord active frozen last served book snapshots → last_sequence active < last + 1
last_below active frozen last served book snapshots is =
    let low : last_sequence active ≤ last = last_low active last (λ e m. (is.recent e m).1) in
    omega arith

-- the active memtable begins at the last flush, or after it
pub start_low : (active : List Entry) (frozen : Option Frozen) (last : ℕ) (served : ServedValue) (book : BookValue) (snapshots : List Snapshot) → IsCoord active frozen last served book snapshots → served.version.flushed ≤ start_of frozen served.version.flushed
start_low active None last served book snapshots is = omega arith
start_low active (Some f) last served book snapshots is = let above = (is.waiting f refl).0 in omega arith

-- and at most after the last sequence
pub end_low : (active : List Entry) (frozen : Option Frozen) (last : ℕ) (served : ServedValue) (book : BookValue) (snapshots : List Snapshot) → IsCoord active frozen last served book snapshots → (f : Frozen) → frozen ≡ Some f → f.end < last + 1
end_low active frozen last served book snapshots is f e =
    let begun : f.end ≤ last = subst (λ (o : Option Frozen). start_of o served.version.flushed ≤ last) e is.begun in
    omega arith

all_false : (a b d : Bool) → cond a (Some EmptyBatch) (cond b (Some SequenceExhausted) (cond d (Some MemtableFull) None)) ≡ None → (a ≡ false) × (b ≡ false) × (d ≡ false)
all_false true b d h = absurd cc
all_false false true d h = absurd cc
all_false false false true h = absurd cc
all_false false false false h = (refl, refl, refl)

-- where a batch may be written it has an operation, and there are sequences and room for it
abbrev pub HasRoom : CoordValue → List Op → Type 0
HasRoom c ops = (1 ≤ length ops) × (c.last + length ops ≤ seq.MAX) × (sum_by entry_weight c.active + total_weight ops ≤ MAX_MEMTABLE_WEIGHT)

pub writable : (c : CoordValue) (ops : List Op) → write_fault c ops ≡ None → HasRoom c ops
writable c ops none =
    let free = all_false (eqb (length ops) 0) (ltb seq.MAX (c.last + length ops)) (ltb MAX_MEMTABLE_WEIGHT (sum_by entry_weight c.active + total_weight ops)) none in
    let some = eqb-false (length ops) 0 free.0 in
    (above_zero (length ops) some, ltb-false seq.MAX (c.last + length ops) free.1, ltb-false MAX_MEMTABLE_WEIGHT (sum_by entry_weight c.active + total_weight ops) free.2)
  where
    above_zero : (n : ℕ) → (n ≡ 0 → ⊥) → 1 ≤ n
    above_zero zero h = absurd (h refl)
    above_zero (suc n) h = omega arith

pub after_write : (active new : List Entry) (frozen : Option Frozen) (last : ℕ) (served : ServedValue) (book : BookValue) (snapshots : List Snapshot) (ops : List Op) → IsCoord active frozen last served book snapshots → IsPermutation (active ++ entries_after last ops) new
    → IsCoord new frozen (last + length ops) served book snapshots
after_write active new frozen last served book snapshots ops is perm =
    let begun = is.begun in
    record {
      recent = λ e m. elim (IsIn-append_cases e active (entries_after last ops) ((SameMembers-permutation (active ++ entries_after last ops) new perm e).1 m)) [
        | inl a ↦ let r = is.recent e a in let low = r.0 in let high = r.1 in (low, omega arith)
        | inr b ↦ let r = entries_after-range last ops e b in let low = r.0 in (omega arith, r.1)
      ];
      begun = omega arith;
      waiting = is.waiting;
      opened = is.opened;
      same_epoch = is.same_epoch;
      legal = is.legal;
      orderly = is.orderly;
      few = is.few;
    }

-- a memtable with an entry has a sequence above the flushed one
pub some_newer : (active : List Entry) (last : ℕ) (served : ServedValue) (book : BookValue) (snapshots : List Snapshot) → IsCoord active None last served book snapshots → 0 < length active → served.version.flushed < last
some_newer [] last served book snapshots is lt = absurd (omega arith)
some_newer (e ∷ active) last served book snapshots is lt = let r = is.recent e (inl refl) in let low = r.0 in let high = r.1 in omega arith

pub after_freeze : (active : List Entry) (last : ℕ) (served : ServedValue) (book : BookValue) (snapshots : List Snapshot) → IsCoord active None last served book snapshots → 0 < length active
    → IsCoord [] (Some (record { memtable = active; end = last })) last served book snapshots
after_freeze active last served book snapshots is some = record {
  recent = λ e m. absurd m;
  begun = omega arith;
  waiting = λ f e. subst (λ (x : Frozen). (served.version.flushed < x.end) × (0 < length x.memtable)) (let same : record { memtable = active; end = last } ≡ f = cc in same) (some_newer active last served book snapshots is some, some);
  opened = is.opened;
  same_epoch = is.same_epoch;
  legal = is.legal;
  orderly = is.orderly;
  few = is.few;
}

-- the memtable that a flush takes has an entry, and its end is above the flushed sequence
pub taken_newer : (active : List Entry) (frozen : Option Frozen) (last : ℕ) (served : ServedValue) (book : BookValue) (snapshots : List Snapshot) → IsCoord active frozen last served book snapshots → (is_none frozen && eqb (length active) 0) ≡ false
    → (served.version.flushed < (flush_source_of active last frozen).end) × (0 < length (flush_source_of active last frozen).memtable)
taken_newer [] None last served book snapshots is some = absurd cc
taken_newer (e ∷ active) None last served book snapshots is some = (some_newer (e ∷ active) last served book snapshots is (omega arith), omega arith)
taken_newer active (Some f) last served book snapshots is some = is.waiting f refl

-- after a flush
pub after_flush : (active : List Entry) (frozen : Option Frozen) (last : ℕ) (served next : ServedValue) (book : BookValue) (snapshots : List Snapshot) → IsCoord active frozen last served book snapshots → next.version.flushed ≡ (flush_source_of active last frozen).end → next.version.epoch ≡ served.version.epoch
    → AreLegal next.version.files book.live → IsCoord (active_after active frozen) None last next book snapshots
after_flush active None last served next book snapshots is flushed epoch legal =
    let opened = is.opened in
    record { recent = λ e m. absurd m; begun = omega arith; waiting = λ f e. absurd cc; opened = omega arith; same_epoch = is.same_epoch ∙ sym epoch; legal = legal; orderly = is.orderly; few = is.few }
after_flush active (Some f) last served next book snapshots is flushed epoch legal =
    let opened = is.opened in
    let begun = is.begun in
    record {
      recent = λ e m. let r = is.recent e m in let low = r.0 in (omega arith, r.1);
      begun = omega arith;
      waiting = λ g e. absurd cc;
      opened = omega arith;
      same_epoch = is.same_epoch ∙ sym epoch;
      legal = legal;
      orderly = is.orderly;
      few = is.few;
    }

-- where a memtable may be frozen, none is yet and it has an entry
pub freezable : (active : List Entry) (frozen : Option Frozen) → cond (is_some frozen) (Some FrozenWaiting) (cond (eqb (length active) 0) (Some NothingToFreeze) None) ≡ None → (frozen ≡ None) × (0 < length active)
freezable [] None h = absurd cc
freezable (e ∷ active) None h = (refl, omega arith)
freezable active (Some f) h = absurd cc

-- where a memtable may be flushed, one has an entry and the numbers fit
pub flush_free : (a b : Bool) → cond a (Some NothingToFlush) (cond b (Some NumbersExhausted) None) ≡ None → (a ≡ false) × (b ≡ false)
flush_free true b h = absurd cc
flush_free false true h = absurd cc
flush_free false false h = (refl, refl)

pub frozen_from : (o : Option Frozen) → is_some o ≡ true → (f : Frozen) × (o ≡ Some f)
frozen_from None h = absurd cc
frozen_from (Some f) h = (f, refl)

pub none_from : (o : Option Frozen) → is_some o ≡ false → o ≡ None
none_from None h = refl
none_from (Some f) h = absurd cc
