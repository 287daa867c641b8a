-- A search by number among things whose numbers do not fall.
use Rattle.std.proofs.Common.{◌≡◌, ℕ, zero, suc, ◌+◌, ◌<◌, ◌≤◌, Bool, true, false, List, [], ◌∷◌, length, get_or, Result, Ok, Err, is_ok, sym, arith, inl, inr}
use Rattle.std.specs.List.{list_any}
use Rattle.std.specs.List.Sorted.{IsBinarySearchResult, IsNonDecreasing, IsNonDecreasingBy, IsSearchInRange}
use Rattle.std.specs.Ordering.{nat_cmp, ordering_index}
use Rattle.std.proofs.lemmas.Bool.{cases_lt}
use Rattle.std.proofs.lemmas.Bool.Decides.{nat_tests}
use Rattle.std.proofs.lemmas.Cmp.{ranked}
use Rattle.std.proofs.lemmas.List.Folds.{list_any_at, list_any_none}
use Rattle.lsm_key.proofs.Membership.{IsIn-at}
use Rattle.lsm_edit.specs.declared.file.FileMeta.{FileMeta}
use Rattle.lsm_edit.specs.Edit.{after_number}
use Rattle.lsm_edit.specs.Version.{FileNumbersRise}
use Rattle.lsm_edit.proofs.Ascending.{IsNumberFrom}
use Rattle.lsm_edit.proofs.ItemsInTurn.{AreInTurn}

module _ {X : Type 0} (number : X → ℕ) (n : ℕ) (test : X → Bool) (yes : (x : X) → number x ≡ n → test x ≡ true) (no : (x : X) → (number x ≡ n → ⊥) → test x ≡ false) where
  comparisons_rise : (xs : List X) → IsNonDecreasingBy number xs → IsNonDecreasingBy (λ x. ordering_index (nat_cmp (number x) n)) xs
  comparisons_rise xs up i j d le lt = (let rises = up i j d le lt in grind (arith, nat_tests))

  found_at : (xs : List X) (i : ℕ) → i < length xs → ((d : X) → number (get_or xs i d) ≡ n) → list_any test xs ≡ true
  found_at [] i lt equal = absurd (omega (arith, lt))
  found_at (x ∷ xs) i lt equal = list_any_at test (x ∷ xs) i x lt (yes (get_or (x ∷ xs) i x) (equal x))

  -- a binary search tells whether there is one of the number
  pub searched : (xs : List X) (r : Result ℕ ℕ) → IsNonDecreasingBy number xs → IsSearchInRange r (length xs) → IsBinarySearchResult (λ x. nat_cmp (number x) n) xs r → is_ok r ≡ list_any test xs
  searched xs (Ok i) up within equal = sym (found_at xs i within (λ d. ranked (number (get_or xs i d)) n _ (sym (equal d))))
  searched xs (Err i) up within parted =
      let halves = parted (comparisons_rise xs up) in
      sym (list_any_none test xs (λ k d lt. no (get_or xs k d) (λ same. elim (cases_lt k i) [
        | inl before ↦ let less : number (get_or xs k d) < n = ranked (number (get_or xs k d)) n _ (sym (halves.0 k d (omega arith) before)) in omega arith
        | inr after ↦ let more : n < number (get_or xs k d) = ranked (number (get_or xs k d)) n _ (sym (halves.1 k d after lt)) in omega arith
      ])))

-- files whose numbers rise
pub files_rise : (fs : List FileMeta) → FileNumbersRise fs → IsNonDecreasingBy (λ f. f.number) fs
files_rise [] up i j d le lt = absurd (omega (arith, lt))
files_rise (f ∷ fs) up zero zero d le lt = omega arith
files_rise (f ∷ fs) up zero (suc j) d le lt = (let more = up.0 (get_or fs j d) (IsIn-at fs j d (omega (arith, lt))) in omega (arith, more))
files_rise (f ∷ fs) up (suc i) zero d le lt = absurd (omega (arith, le))
files_rise (f ∷ fs) up (suc i) (suc j) d le lt = files_rise fs up.1 i j d (omega (arith, le)) (omega (arith, lt))

number_from : (most least : ℕ) (ns : List ℕ) → AreInTurn (IsNumberFrom most) after_number least ns → (k d : ℕ) → k < length ns → least ≤ get_or ns k d
number_from most least [] is k d lt = absurd (omega (arith, lt))
number_from most least (n ∷ ns) is zero d lt = is.0.0
number_from most least (n ∷ ns) is (suc k) d lt = (let low = is.0.0 in let more = number_from most (n + 1) ns is.1 k d (omega (arith, lt)) in omega (arith, low, more))

-- numbers in turn
pub numbers_rise : (most least : ℕ) (ns : List ℕ) → AreInTurn (IsNumberFrom most) after_number least ns → IsNonDecreasing ns
numbers_rise most least [] is i j d le lt = absurd (omega (arith, lt))
numbers_rise most least (n ∷ ns) is zero zero d le lt = omega arith
numbers_rise most least (n ∷ ns) is zero (suc j) d le lt = (let more = number_from most (n + 1) ns is.1 j d (omega (arith, lt)) in omega (arith, more))
numbers_rise most least (n ∷ ns) is (suc i) zero d le lt = absurd (omega (arith, le))
numbers_rise most least (n ∷ ns) is (suc i) (suc j) d le lt = numbers_rise most (n + 1) ns is.1 i j d (omega (arith, le)) (omega (arith, lt))
