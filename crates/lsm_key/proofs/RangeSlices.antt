-- Keys before and after a key, and what a test keeps of a list.
use Rattle.std.proofs.Common.{◌≡◌, ℕ, zero, suc, Bool, true, false, cond, not, List, [], ◌∷◌, drop, refl, ap, ◌∙◌, arith}
use Rattle.std.specs.declared.cmp.Ordering.{Ordering}
use Rattle.std.specs.declared.cmp.Ordering.TheVariants.{Less, Equal, Greater}
use Rattle.std.specs.Ordering.{is_lt, is_gt, nat_cmp, ordering_then, ordering_reverse}
use Rattle.std.specs.Cmp.Lexicographic.{slice_cmp}
use Rattle.std.specs.List.{filter}
use Rattle.std.specs.List.Sorted.{IsPartitionPoint}
use Rattle.std.proofs.lemmas.Cmp.{nat_list_cmp_total}
use Rattle.lsm_key.specs.Order.{place_cmp, key_le, key_lt}
use Rattle.lsm_key.proofs.EntryOrder.{is_less}

-- ---- the order of keys

-- a key is at or after another where it is not before it
pub not_before : (lo key : List ℕ) → key_le lo key ≡ not (key_lt key lo)
not_before lo key = ap (λ (o : Ordering). not (is_gt o)) (nat_list_cmp_total.antisymm lo key) ∙ by (slice_cmp nat_cmp key lo)
  where
    by : (o : Ordering) → not (is_gt (ordering_reverse o)) ≡ not (is_lt o)
    by Less = refl
    by Equal = refl
    by Greater = refl

-- what stands before an entry whose key is smaller has a smaller key
pub before_smaller : (a : List ℕ) (s : ℕ) (b : List ℕ) (t : ℕ) (key : List ℕ) → is_lt (place_cmp a s b t) ≡ true → key_lt b key ≡ true → key_lt a key ≡ true
before_smaller a s b t key h lt = by (slice_cmp nat_cmp a b) refl h
  where
    by : (o : Ordering) → slice_cmp nat_cmp a b ≡ o → is_lt (ordering_then o (nat_cmp t s)) ≡ true → key_lt a key ≡ true
    by Less e h = ap is_lt (nat_list_cmp_total.trans a b key e (is_less (slice_cmp nat_cmp b key) lt))
    by Equal e h = ap is_lt (nat_list_cmp_total.congr a b key e) ∙ lt
    by Greater e h = absurd cc

-- ---- what a test keeps of a list

module _ {X : Type 0} (p q : X → Bool) where
  tail_of : (r : X → Bool) (x : X) (xs : List X) (i : ℕ) → IsPartitionPoint (λ y. r y ≡ true) (λ y. r y ≡ false) (x ∷ xs) (suc i) → IsPartitionPoint (λ y. r y ≡ true) (λ y. r y ≡ false) xs i
  tail_of r x xs i part = (λ k d a b. part.0 (suc k) d (omega arith) (omega (arith, b)), λ k d a b. part.1 (suc k) d (omega (arith, a)) (omega (arith, b)))

  tail_of_right : (r : X → Bool) (x : X) (xs : List X) → IsPartitionPoint (λ y. r y ≡ true) (λ y. r y ≡ false) (x ∷ xs) 0 → IsPartitionPoint (λ y. r y ≡ true) (λ y. r y ≡ false) xs 0
  tail_of_right r x xs part = (λ k d a b. absurd (omega (arith, b)), λ k d a b. part.1 (suc k) d (omega arith) (omega (arith, b)))

  pub filter_rest : (xs : List X) (i : ℕ) → IsPartitionPoint (λ x. p x ≡ true) (λ x. p x ≡ false) xs i → filter (λ x. not (p x)) xs ≡ drop i xs
  filter_rest [] zero a = refl
  filter_rest [] (suc i) a = refl
  filter_rest (x ∷ xs) zero a =
      ap (λ (b : Bool). cond (not b) (x ∷ filter (λ y. not (p y)) xs) (filter (λ y. not (p y)) xs)) (a.1 0 x (omega arith) (omega arith))
      ∙ ap (λ ys. x ∷ ys) (filter_rest xs 0 (tail_of_right p x xs a))
  filter_rest (x ∷ xs) (suc i) a =
      ap (λ (b : Bool). cond (not b) (x ∷ filter (λ y. not (p y)) xs) (filter (λ y. not (p y)) xs)) (a.0 0 x (omega arith) (omega arith))
      ∙ filter_rest xs i (tail_of p x xs i a)

  pub filter_alike : ((x : X) → p x ≡ q x) → (xs : List X) → filter p xs ≡ filter q xs
  filter_alike same [] = refl
  filter_alike same (x ∷ xs) = λ i. cond (same x i) (x ∷ filter_alike same xs i) (filter_alike same xs i)
