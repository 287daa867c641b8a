-- Entries in order are determined by which they are, so an undo takes back a batch.
use Rattle.std.proofs.Common.{◌≡◌, ℕ, ◌-◌, ◌<◌, ◌≤◌, List, [], ◌∷◌, ◌++◌, ◌⊎◌, refl, sym, ap, subst, ◌∙◌, arith, inl, inr}
use Rattle.std.specs.List.{filter}
use Rattle.std.specs.List.Sorted.{IsPermutation}
use Rattle.std.proofs.lemmas.Bool.{lt-ltb, ltb-true}
use Rattle.lsm_key.specs.declared.entry.Entry.{Entry}
use Rattle.lsm_key.specs.declared.op.Op.{Op}
use Rattle.lsm_key.specs.Order.{Precedes}
use Rattle.lsm_key.specs.Places.{entries_after}
use Rattle.lsm_key.specs.Sets.{IsIn, SameMembers}
use Rattle.lsm_key.proofs.AscendingEntries.{Falls, IsIn-filter, ascending_falls, falls-filter}
use Rattle.lsm_key.proofs.EntryOrder.{before_trans, newer_first}
use Rattle.lsm_key.proofs.Lists.{IsIn-kept}
use Rattle.lsm_key.proofs.Membership.{IsIn-append_cases, IsIn-append_left, SameMembers-permutation}
use Rattle.lsm_key.proofs.WritesOverStored.{entries_after-range}
use Rattle.lsm_mem.specs.Chains.{is_older}
use Rattle.lsm_mem.specs.Laws.{AnUndoTakesBackABatch}
use Rattle.lsm_mem.specs.Memtable.{last_sequence}
use Rattle.lsm_mem.proofs.MemtableTotals.{up_to_last}

-- ---- entries in order

never_itself : (e : Entry) → Precedes e e → ⊥
never_itself e p = let newer : e.ikey.seq < e.ikey.seq = newer_first e e p refl in omega (arith, newer)

not_both_ways : (x y : Entry) → Precedes x y → Precedes y x → ⊥
not_both_ways x y p q = never_itself x (before_trans x.ikey.key x.ikey.seq y.ikey.key y.ikey.seq x.ikey.key x.ikey.seq p q)

same_first : (x y : Entry) (xs ys : List Entry) → ((f : Entry) → IsIn f xs → Precedes x f) → ((f : Entry) → IsIn f ys → Precedes y f) → IsIn x (y ∷ ys) → IsIn y (x ∷ xs) → x ≡ y
same_first x y xs ys h g (inl same) n = same
same_first x y xs ys h g (inr m) (inl same) = sym same
same_first x y xs ys h g (inr m) (inr n) = absurd (not_both_ways x y (h y n) (g x m))

-- what the first one precedes is among the rest
among_rest : (x y e : Entry) (ys : List Entry) → x ≡ y → Precedes x e → IsIn e (y ∷ ys) → IsIn e ys
among_rest x y e ys same p (inl is) = absurd (never_itself e (subst (λ (z : Entry). Precedes z e) (same ∙ sym is) p))
among_rest x y e ys same p (inr m) = m

pub falls_same : (xs ys : List Entry) → Falls xs → Falls ys → ((e : Entry) → IsIn e xs → IsIn e ys) → ((e : Entry) → IsIn e ys → IsIn e xs) → xs ≡ ys
falls_same [] [] h g there back = refl
falls_same [] (y ∷ ys) h g there back = absurd (back y (inl refl))
falls_same (x ∷ xs) [] h g there back = absurd (there x (inl refl))
falls_same (x ∷ xs) (y ∷ ys) h g there back =
    let first : x ≡ y = same_first x y xs ys h.0 g.0 (there x (inl refl)) (back y (inl refl)) in
    let rest : xs ≡ ys = falls_same xs ys h.1 g.1 (λ e m. among_rest x y e ys first (h.0 e m) (there e (inr m))) (λ e m. among_rest y x e xs (sym first) (g.0 e m) (back e (inr m))) in
    ap (λ (z : Entry). z ∷ xs) first ∙ ap (λ (zs : List Entry). y ∷ zs) rest

-- ---- a batch

module _ (before after : List Entry) (first : ℕ) (ops : List Op) (newer : last_sequence before < first) (joined : IsPermutation (before ++ entries_after (first - 1) ops) after) where
  members : SameMembers (before ++ entries_after (first - 1) ops) after
  members = SameMembers-permutation (before ++ entries_after (first - 1) ops) after joined

  older_part : (e : Entry) → e.ikey.seq < first → IsIn e before ⊎ IsIn e (entries_after (first - 1) ops) → IsIn e before
  older_part e old (inl m) = m
  older_part e old (inr m) = (let low = (entries_after-range (first - 1) ops e m).0 in absurd (omega (arith, old, low)))

  was_there : (e : Entry) → IsIn e (filter (is_older first) after) → IsIn e before
  was_there e m =
      let kept = IsIn-filter (is_older first) e after m in
      older_part e (ltb-true e.ikey.seq first kept.1) (IsIn-append_cases e before (entries_after (first - 1) ops) ((members e).1 kept.0))

  is_left : (e : Entry) → IsIn e before → IsIn e (filter (is_older first) after)
  is_left e m =
      let low : e.ikey.seq ≤ last_sequence before = up_to_last before e m in
      IsIn-kept (is_older first) e after ((members e).0 (IsIn-append_left e before (entries_after (first - 1) ops) m)) (lt-ltb e.ikey.seq first (omega (arith, low, newer)))

pub batch_taken_back : AnUndoTakesBackABatch
batch_taken_back before after first ops up later newer joined =
    falls_same (filter (is_older first) after) before (falls-filter (is_older first) after (ascending_falls after later)) (ascending_falls before up) (was_there before after first ops newer joined) (is_left before after first ops newer joined)
