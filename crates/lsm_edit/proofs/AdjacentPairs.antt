-- A transitive relation that holds from each item to the next holds from each item to all later ones.
use Rattle.std.proofs.Common.{◌≡◌, zero, suc, ◌+◌, List, AllPairs, get_or, length, sym, subst, inl, inr, arith}
use Rattle.std.specs.List.{AllAdjacentBelow}
use Rattle.std.proofs.lemmas.Bool.{cases_eq}

module _ {X : Type 0} (R : X → X → Type 0) (trans : (x y z : X) → R x y → R y z → R x z) where
  pub from_adjacent : (xs : List X) → AllAdjacentBelow R xs (length xs) → AllPairs R xs
  from_adjacent xs h i zero d lt within = absurd (omega arith)
  from_adjacent xs h i (suc j) d lt within =
      let e : j + 1 ≡ suc j = omega arith in
      let next : R (get_or xs j d) (get_or xs (suc j) d) = subst (λ k. R (get_or xs j d) (get_or xs k d)) e (h j d (omega arith)) in
      elim (cases_eq i j) [
        | inl same ↦ subst (λ k. R (get_or xs k d) (get_or xs (suc j) d)) (sym same) next
        | inr apart ↦ trans (get_or xs i d) (get_or xs j d) (get_or xs (suc j) d) (from_adjacent xs h i j d (omega arith) (omega arith)) next
      ]
