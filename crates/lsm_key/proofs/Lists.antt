-- What a test says of the members of a list, and what it keeps of them.
use Rattle.std.proofs.Common.{◌≡◌, ◌≤◌, ℕ, zero, suc, Bool, true, false, cond, List, [], ◌∷◌, ◌++◌, Some, length, inl, inr, refl, sym, ap, ◌∙◌, arith}
use Rattle.std.specs.List.{filter, list_any, slice_get}
use Rattle.std.proofs.lemmas.Bool.{false≢true, or_cases, or_from, or_left, or_parts, or_right}
use Rattle.lsm_key.specs.Sets.{IsIn}

module _ {X : Type 0} (p : X → Bool) where
  pub any_from : (xs : List X) (x : X) → IsIn x xs → p x ≡ true → list_any p xs ≡ true
  any_from [] x m h = absurd m
  any_from (y ∷ ys) x m h = elim m [ inl e ↦ or_left (p y) (list_any p ys) (ap p (sym e) ∙ h) | inr n ↦ or_right (p y) (list_any p ys) (any_from ys x n h) ]

  pub any_is : (xs : List X) → list_any p xs ≡ true → (x : X) × IsIn x xs × (p x ≡ true)
  any_is [] h = absurd (false≢true h)
  any_is (y ∷ ys) h = elim (or_cases (p y) (list_any p ys) h) [ inl a ↦ (y, inl refl, a) | inr b ↦ let r = any_is ys b in (r.0, inr r.1, r.2) ]

  pub none_from : (xs : List X) → ((x : X) → IsIn x xs → p x ≡ false) → list_any p xs ≡ false
  none_from [] none = refl
  none_from (y ∷ ys) none = or_from (p y) (list_any p ys) (none y (inl refl)) (none_from ys (λ x m. none x (inr m)))

  pub none_is : (xs : List X) → list_any p xs ≡ false → (x : X) → IsIn x xs → p x ≡ false
  none_is [] none x m = absurd m
  none_is (y ∷ ys) none x m = let parts = or_parts (p y) (list_any p ys) none in elim m [ inl e ↦ ap p e ∙ parts.0 | inr n ↦ none_is ys parts.1 x n ]

  kept_here : (x y : X) (zs : List X) (b : Bool) → b ≡ true → x ≡ y → IsIn x (cond b (y ∷ zs) zs)
  kept_here x y zs true h same = inl same
  kept_here x y zs false h same = absurd (false≢true h)

  kept_later : (x y : X) (zs : List X) (b : Bool) → IsIn x zs → IsIn x (cond b (y ∷ zs) zs)
  kept_later x y zs true m = inr m
  kept_later x y zs false m = m

  -- what passes is kept
  pub IsIn-kept : (x : X) (xs : List X) → IsIn x xs → p x ≡ true → IsIn x (filter p xs)
  IsIn-kept x [] m h = absurd m
  IsIn-kept x (y ∷ ys) m h = elim m [ inl same ↦ kept_here x y (filter p ys) (p y) (ap p (sym same) ∙ h) same | inr n ↦ kept_later x y (filter p ys) (p y) (IsIn-kept x ys n h) ]

-- a list that has a member is not empty
pub some_in : {X : Type 0} (x : X) (xs : List X) → IsIn x xs → 1 ≤ length xs
some_in x [] m = absurd m
some_in x (y ∷ xs) m = omega arith

-- what stands in a list stands at the same place of a longer one
pub slice_get-front : {X : Type 0} (xs ys : List X) (n : ℕ) (x : X) → slice_get xs n ≡ Some x → slice_get (xs ++ ys) n ≡ Some x
slice_get-front [] ys n x h = absurd cc
slice_get-front (z ∷ xs) ys zero x h = h
slice_get-front (z ∷ xs) ys (suc n) x h = slice_get-front xs ys n x h
