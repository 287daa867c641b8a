-- What satisfies a test in a list, one element after another.
use Rattle.std.proofs.Common.{◌≡◌, ℕ, ◌+◌, ◌<◌, ◌≤◌, Bool, true, false, cond, List, [], ◌∷◌, ◌++◌, length, length-append, get_or, take, drop, sym, ap, ◌∙◌, arith}
use Rattle.std.specs.List.{filter, sum_by}
use Rattle.std.proofs.lemmas.List.{take-append-drop, append-nil}
use Rattle.std.proofs.lemmas.List.Elements.{filter_more, filter-append}
use Rattle.std.proofs.lemmas.List.Sums.{sum_by-append}

module _ {X : Type 0} (p : X → Bool) (xs : List X) (i : ℕ) where
  one_more : (x : X) → i < length xs → x ≡ get_or xs i x → filter p (take (i + 1) xs) ≡ filter p (take i xs) ++ cond (p x) (x ∷ []) []
  one_more x lt is = filter_more p xs i x lt ∙ ap (λ (y : X). filter p (take i xs) ++ cond (p y) (y ∷ []) []) (sym is)

  pub passed : (x : X) → i < length xs → x ≡ get_or xs i x → p x ≡ true → filter p (take (i + 1) xs) ≡ filter p (take i xs) ++ x ∷ []
  passed x lt is e = one_more x lt is ∙ ap (λ (b : Bool). filter p (take i xs) ++ cond b (x ∷ []) []) e

  pub skipped : (x : X) → i < length xs → x ≡ get_or xs i x → p x ≡ false → filter p (take (i + 1) xs) ≡ filter p (take i xs)
  skipped x lt is e = one_more x lt is ∙ ap (λ (b : Bool). filter p (take i xs) ++ cond b (x ∷ []) []) e ∙ append-nil (filter p (take i xs))

  pub parted : filter p xs ≡ filter p (take i xs) ++ filter p (drop i xs)
  parted = ap (filter p) (sym (take-append-drop i xs)) ∙ filter-append p (take i xs) (drop i xs)

  pub sum_within : (f : X → ℕ) → sum_by f (filter p (take i xs)) ≤ sum_by f (filter p xs)
  sum_within f = let e = ap (sum_by f) parted ∙ sum_by-append f (filter p (take i xs)) (filter p (drop i xs)) in omega (arith, e)

  pub length_within : length (filter p (take i xs)) ≤ length (filter p xs)
  length_within = let e = ap length parted ∙ length-append (filter p (take i xs)) (filter p (drop i xs)) in omega (arith, e)
