-- A list that grows at its end.
use Rattle.std.proofs.Common.{◌≡◌, ℕ, zero, suc, List, [], ◌∷◌, ◌++◌, Some, refl, sym, ap, inl, inr, ◌⊎◌, length}
use Rattle.std.specs.List.{slice_get}
use Rattle.std.proofs.lemmas.Option.{same_Some}

-- an element is one of the former list or the one that was added
pub at_grown : {X : Type 0} (xs : List X) (y : X) (n : ℕ) (x : X) → slice_get (xs ++ y ∷ []) n ≡ Some x → slice_get xs n ≡ Some x ⊎ ((n ≡ length xs) × (x ≡ y))
at_grown [] y zero x h = inr (refl, same_Some x y (sym h))
at_grown [] y (suc n) x h = absurd cc
at_grown (z ∷ xs) y zero x h = inl h
at_grown (z ∷ xs) y (suc n) x h = elim (at_grown xs y n x h) [ inl a ↦ inl a | inr b ↦ inr (ap suc b.0, b.1) ]
