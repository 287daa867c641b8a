-- The places of a list of nodes: what stands in one of them, and another element in its place.
use Rattle.std.proofs.Common.{◌≡◌, ℕ, zero, suc, ◌-◌, List, [], ◌∷◌, Some, map, refl, sym, ap, subst, ◌∙◌, ◌⊎◌, inl, inr}
use Rattle.std.specs.Prelude.{slice_get, slice_set}
use Rattle.std.proofs.lemmas.Option.{get_or_from_slice_get, same_Some, slice_get_within}
use Rattle.lsm_key.specs.Sets.{IsIn}
use Rattle.lsm_key.proofs.Membership.{IsIn-at}
use Rattle.lsm_world.specs.Nodes.{at_index, with_index}
use Rattle.lsm_world.proofs.DeskPlaces.{set_again, set_back}

module _ {X : Type 0} where
  -- ---- what stands in a place

  pub in_place : (xs : List X) (place : ℕ) (x : X) → slice_get xs place ≡ Some x → IsIn x xs
  in_place xs place x at = subst (λ (y : X). IsIn y xs) (get_or_from_slice_get xs place x x at) (IsIn-at xs place x (slice_get_within xs place x at))

  -- ---- another one in a place

  -- AN ELEMENT IS THE NEW ONE, OR WAS THERE BEFORE.
  pub set_cases : (xs : List X) (place : ℕ) (new x : X) → IsIn x (slice_set xs place new) → (x ≡ new) ⊎ IsIn x xs
  set_cases [] place new x m = absurd m
  set_cases (y ∷ xs) zero new x m = elim m [ inl here ↦ inl here | inr later ↦ inr (inr later) ]
  set_cases (y ∷ xs) (suc place) new x m = elim m [
    | inl first ↦ inr (inl first)
    | inr later ↦ elim (set_cases xs place new x later) [ inl here ↦ inl here | inr there ↦ inr (inr there) ]
  ]

  -- one of the same index leaves the indices
  pub same_indices : (index : X → ℕ) (xs : List X) (place : ℕ) (x new : X) → slice_get xs place ≡ Some x → index new ≡ index x → map index (slice_set xs place new) ≡ map index xs
  same_indices index [] place x new at same = refl
  same_indices index (y ∷ xs) zero x new at same =
      let first : index new ≡ index y = same ∙ ap index (sym (same_Some y x at)) in
      λ i. first i ∷ map index xs
  same_indices index (y ∷ xs) (suc place) x new at same = ap (λ (ns : List ℕ). index y ∷ ns) (same_indices index xs place x new at same)

  -- ---- one that is taken from its place and put back

  -- another one stood in its place
  pub put_back : (xs mid new : List X) (index : ℕ) (other x : X) → mid ≡ with_index xs index other → new ≡ with_index mid index x → new ≡ with_index xs index x
  put_back xs mid new index other x taken put = put ∙ ap (λ (ys : List X). with_index ys index x) taken ∙ set_again xs (index - 1) other x

  -- it is as it was
  pub put_back_same : (xs mid new : List X) (index : ℕ) (other x after : X) → at_index xs index ≡ Some x → mid ≡ with_index xs index other → new ≡ with_index mid index after → after ≡ x → new ≡ xs
  put_back_same xs mid new index other x after at taken put same =
      put_back xs mid new index other after taken put ∙ ap (λ (y : X). with_index xs index y) same ∙ set_back xs (index - 1) x at
