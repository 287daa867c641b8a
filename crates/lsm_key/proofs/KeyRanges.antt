-- Ranges of keys, both ends in them: that they meet, and a key that both have.
use Rattle.std.proofs.Common.{◌≡◌, ◌∙◌, ◌⊎◌, Bool, true, false, not, List, ℕ, refl, sym, ap, inl, inr}
use Rattle.std.specs.declared.cmp.Ordering.{Ordering}
use Rattle.std.specs.declared.cmp.Ordering.TheVariants.{Less, Equal, Greater}
use Rattle.std.specs.Ordering.{nat_cmp, is_gt, is_le, ordering_reverse}
use Rattle.std.specs.Cmp.Lexicographic.{slice_cmp}
use Rattle.std.proofs.lemmas.Bool.{true≢false, and_parts, and_from, not-true}
use Rattle.std.proofs.lemmas.Cmp.{nat_list_cmp_total, tied_itself, upto}
use Rattle.lsm_key.specs.Order.{key_le}
use Rattle.lsm_key.specs.KeyRanges.{in_closed_range, ranges_meet}
use Rattle.lsm_key.proofs.EntryOrder.{keys_equal}

-- ---- keys

pub le_not_gt : (o : Ordering) → is_le o ≡ not (is_gt o)
le_not_gt Less = refl
le_not_gt Equal = refl
le_not_gt Greater = refl

pub key_le_refl : (a : List ℕ) → key_le a a ≡ true
key_le_refl a = ap (λ (o : Ordering). not (is_gt o)) (tied_itself nat_list_cmp_total a)

pub key_le_trans : (a b c : List ℕ) → key_le a b ≡ true → key_le b c ≡ true → key_le a c ≡ true
key_le_trans a b c h k = ap not (upto nat_list_cmp_total a b c (not-true (is_gt (slice_cmp nat_cmp a b)) h) (not-true (is_gt (slice_cmp nat_cmp b c)) k))

turned : (o : Ordering) → not (is_gt o) ≡ false → not (is_gt (ordering_reverse o)) ≡ true
turned Less e = absurd cc
turned Equal e = absurd cc
turned Greater e = refl

pub key_le_total : (a b : List ℕ) → (key_le a b ≡ true) ⊎ (key_le b a ≡ true)
key_le_total a b = by (key_le a b) refl
  where
    by : (t : Bool) → key_le a b ≡ t → (key_le a b ≡ true) ⊎ (key_le b a ≡ true)
    by true e = inl e
    by false e = inr (ap (λ (o : Ordering). not (is_gt o)) (nat_list_cmp_total.antisymm b a) ∙ turned (slice_cmp nat_cmp a b) e)

pub key_le_or : (a b : List ℕ) → key_le a b ≡ false → key_le b a ≡ true
key_le_or a b h = elim (key_le_total a b) [ inl x ↦ absurd (true≢false (sym x ∙ h)) | inr y ↦ y ]

-- what is greater neither way round is equal
tied : (o : Ordering) → not (is_gt o) ≡ true → not (is_gt (ordering_reverse o)) ≡ true → o ≡ Equal
tied Less h k = absurd cc
tied Equal h k = refl
tied Greater h k = absurd cc

pub key_le_antisymm : (a b : List ℕ) → key_le a b ≡ true → key_le b a ≡ true → a ≡ b
key_le_antisymm a b h k = keys_equal a b (tied (slice_cmp nat_cmp a b) h (ap (λ (o : Ordering). not (is_gt o)) (sym (nat_list_cmp_total.antisymm b a)) ∙ k))

-- ---- ranges

-- two ranges that have each a key, and meet, have one in common: the greater one of their least keys
pub common_key : (lo hi other_lo other_hi : List ℕ) → key_le lo hi ≡ true → key_le other_lo other_hi ≡ true → ranges_meet lo hi other_lo other_hi ≡ true
    → (key : List ℕ) × (in_closed_range lo hi key ≡ true) × (in_closed_range other_lo other_hi key ≡ true)
common_key lo hi other_lo other_hi some other_some m =
    let ends = and_parts (key_le lo other_hi) (key_le other_lo hi) m in
    elim (key_le_total lo other_lo) [
      | inl le ↦ (other_lo, and_from (key_le lo other_lo) (key_le other_lo hi) le ends.1, and_from (key_le other_lo other_lo) (key_le other_lo other_hi) (key_le_refl other_lo) other_some)
      | inr ge ↦ (lo, and_from (key_le lo lo) (key_le lo hi) (key_le_refl lo) some, and_from (key_le other_lo lo) (key_le lo other_hi) ge ends.0)
    ]

-- ranges with a key in common meet
pub ranges_meet_from : (lo hi other_lo other_hi key : List ℕ) → in_closed_range lo hi key ≡ true → in_closed_range other_lo other_hi key ≡ true → ranges_meet lo hi other_lo other_hi ≡ true
ranges_meet_from lo hi other_lo other_hi key here there =
    let one = and_parts (key_le lo key) (key_le key hi) here in
    let other = and_parts (key_le other_lo key) (key_le key other_hi) there in
    and_from (key_le lo other_hi) (key_le other_lo hi) (key_le_trans lo key other_hi one.0 other.1) (key_le_trans other_lo key hi other.0 one.1)
