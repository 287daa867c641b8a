-- The order of keys, and ranges of keys.
use Rattle.std.proofs.Common.{◌≡◌, ℕ, List, true, false, not, refl, sym, ap, subst, ◌∙◌, inl, inr, ◌⊎◌}
use Rattle.std.specs.Ordering.{nat_cmp, is_lt, is_gt, is_ge, ordering_reverse}
use Rattle.std.specs.Cmp.Lexicographic.{slice_cmp}
use Rattle.std.specs.declared.cmp.Ordering.{Ordering}
use Rattle.std.specs.declared.cmp.Ordering.TheVariants.{Less, Equal, Greater}
use Rattle.std.proofs.lemmas.Bool.{false_from_ne_true}
use Rattle.std.proofs.lemmas.Cmp.{nat_list_cmp_total}
use Rattle.lsm_key.specs.Order.{key_le, key_lt}
use Rattle.lsm_key.proofs.EntryOrder.{keys_equal, is_less}
use Rattle.lsm_key.proofs.RangeSlices.{not_before}
use Rattle.lsm_coord.specs.Model.Range.{IsBelow}

not_both : (o p : Ordering) → o ≡ ordering_reverse p → is_lt o ≡ true → is_lt p ≡ true → ⊥
not_both Less Less e a b = absurd cc
not_both Less Equal e a b = absurd cc
not_both Less Greater e a b = absurd cc
not_both Equal p e a b = absurd cc
not_both Greater p e a b = absurd cc

pub below_asym : (a b : List ℕ) → IsBelow a b → IsBelow b a → ⊥
below_asym a b x y = not_both (slice_cmp nat_cmp a b) (slice_cmp nat_cmp b a) (nat_list_cmp_total.antisymm a b) x y

pub below_irreflexive : (a b : List ℕ) → a ≡ b → IsBelow a b → ⊥
below_irreflexive a b e x = below_asym a b x (subst (λ c. IsBelow b c) (sym e) (subst (λ c. IsBelow c b) e x))

by_order : (o p : Ordering) → p ≡ ordering_reverse o → (is_lt o ≡ true) ⊎ ((o ≡ Equal) ⊎ (is_lt p ≡ true))
by_order Less p e = inl refl
by_order Equal p e = inr (inl refl)
by_order Greater p e = inr (inr (ap is_lt e))

pub key_cases : (a b : List ℕ) → IsBelow a b ⊎ ((a ≡ b) ⊎ IsBelow b a)
key_cases a b =
    elim (by_order (slice_cmp nat_cmp a b) (slice_cmp nat_cmp b a) (nat_list_cmp_total.antisymm b a)) [
      | inl x ↦ inl x
      | inr y ↦ elim y [ inl z ↦ inr (inl (keys_equal a b z)) | inr z ↦ inr (inr z) ]
    ]

pub below_trans : (a b c : List ℕ) → IsBelow a b → IsBelow b c → IsBelow a c
below_trans a b c x y = ap is_lt (nat_list_cmp_total.trans a b c (is_less (slice_cmp nat_cmp a b) x) (is_less (slice_cmp nat_cmp b c) y))

pub below_upto : (a b c : List ℕ) → IsBelow a b → key_le b c ≡ true → IsBelow a c
below_upto a b c x le = by (slice_cmp nat_cmp b c) refl le
  where
    by : (o : Ordering) → slice_cmp nat_cmp b c ≡ o → not (is_gt o) ≡ true → IsBelow a c
    by Less e h = below_trans a b c x (ap is_lt e)
    by Equal e h = subst (λ (k : List ℕ). IsBelow a k) (keys_equal b c e) x
    by Greater e h = absurd cc

-- a key at or after another is not below it
pub upto_from : (a b : List ℕ) → (IsBelow b a → ⊥) → key_le a b ≡ true
upto_from a b h = not_before a b ∙ ap not (false_from_ne_true (key_lt b a) h)

pub not_below_upto : (a b : List ℕ) → key_le a b ≡ true → IsBelow b a → ⊥
not_below_upto a b le x = below_irreflexive b b refl (below_upto b a b x le)

-- as the code compares
pub upto_back : (a b : List ℕ) → is_ge (slice_cmp nat_cmp a b) ≡ true → key_le b a ≡ true
upto_back a b h = ap (λ (o : Ordering). not (is_gt o)) (nat_list_cmp_total.antisymm b a) ∙ by (slice_cmp nat_cmp a b) h
  where
    by : (o : Ordering) → is_ge o ≡ true → not (is_gt (ordering_reverse o)) ≡ true
    by Less e = absurd cc
    by Equal e = refl
    by Greater e = refl

pub below_from : (a b : List ℕ) → is_ge (slice_cmp nat_cmp a b) ≡ false → IsBelow a b
below_from a b h = by (slice_cmp nat_cmp a b) h
  where
    by : (o : Ordering) → is_ge o ≡ false → is_lt o ≡ true
    by Less e = refl
    by Equal e = absurd cc
    by Greater e = absurd cc
