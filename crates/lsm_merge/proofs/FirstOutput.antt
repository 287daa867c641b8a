-- Entries in order: their parts, and what stands before their last key.
use Rattle.std.proofs.Common.{◌≡◌, ℕ, ◌≤◌, Bool, true, false, cond, List, [], ◌∷◌, ◌++◌, refl, sym, subst, inl, inr, arith}
use Rattle.std.specs.List.{filter}
use Rattle.std.proofs.lemmas.List.Sums.{sum_by-cons}
use Rattle.lsm_key.specs.declared.entry.Entry.{Entry}
use Rattle.lsm_key.specs.Limits.{entry_weight}
use Rattle.lsm_key.specs.Order.{Precedes}
use Rattle.lsm_key.specs.Sets.{IsIn}
use Rattle.lsm_key.proofs.AscendingEntries.{Falls}
use Rattle.lsm_key.proofs.Membership.{IsIn-append_left, IsIn-append_right, IsIn-append_cases, IsIn-one}
use Rattle.lsm_merge.specs.Outputs.{weight_of_entries, HasLowerKeys}
use Rattle.lsm_merge.proofs.KeptInOnePass.{KeyLess, less-trans, by_key}

-- ---- parts of entries in order

pub falls_left : (xs ys : List Entry) → Falls (xs ++ ys) → Falls xs
falls_left [] ys h = tt
falls_left (x ∷ xs) ys h = (λ f m. h.0 f (IsIn-append_left f xs ys m), falls_left xs ys h.1)

pub falls_right : (xs ys : List Entry) → Falls (xs ++ ys) → Falls ys
falls_right [] ys h = h
falls_right (x ∷ xs) ys h = falls_right xs ys h.1

pub falls_across : (xs ys : List Entry) → Falls (xs ++ ys) → (e f : Entry) → IsIn e xs → IsIn f ys → Precedes e f
falls_across [] ys h e f m n = absurd m
falls_across (x ∷ xs) ys h e f m n = elim m [
  | inl same ↦ subst (λ (z : Entry). Precedes z f) (sym same) (h.0 f (IsIn-append_right f xs ys n))
  | inr later ↦ falls_across xs ys h.1 e f later n
]

-- an output that ends at one key, before entries that begin at another
pub lower_keys : (init : List Entry) (last first : Entry) (tail : List Entry) → Falls ((init ++ last ∷ []) ++ first ∷ tail) → (first.ikey.key ≡ last.ikey.key → ⊥) → HasLowerKeys (init ++ last ∷ []) (first ∷ tail)
lower_keys init last first tail falls other e f m n =
    let front : Falls (init ++ last ∷ []) = falls_left (init ++ last ∷ []) (first ∷ tail) falls in
    let back : Falls (first ∷ tail) = falls_right (init ++ last ∷ []) (first ∷ tail) falls in
    let step : KeyLess last.ikey.key first.ikey.key = elim (by_key last first (falls_across (init ++ last ∷ []) (first ∷ tail) falls last first (IsIn-append_right last init (last ∷ []) (inl refl)) (inl refl))) [
      | inl less ↦ less
      | inr same ↦ absurd (other (sym same))
    ] in
    let left : KeyLess e.ikey.key first.ikey.key = elim (IsIn-append_cases e init (last ∷ []) m) [
      | inl a ↦ elim (by_key e last (falls_across init (last ∷ []) front e last a (inl refl))) [
        | inl less ↦ less-trans e.ikey.key last.ikey.key first.ikey.key less step
        | inr same ↦ subst (λ (k : List ℕ). KeyLess k first.ikey.key) (sym same) step
      ]
      | inr b ↦ subst (λ (z : Entry). KeyLess z.ikey.key first.ikey.key) (sym (IsIn-one e last b)) step
    ] in
    elim n [
      | inl same ↦ subst (λ (z : Entry). KeyLess e.ikey.key z.ikey.key) (sym same) left
      | inr later ↦ elim (by_key first f (back.0 f later)) [
        | inl less ↦ less-trans e.ikey.key first.ikey.key f.ikey.key left less
        | inr same ↦ subst (λ (k : List ℕ). KeyLess e.ikey.key k) same left
      ]
    ]

pub filter_weight : (p : Entry → Bool) (es : List Entry) → weight_of_entries (filter p es) ≤ weight_of_entries es
filter_weight p [] = omega arith
filter_weight p (e ∷ es) = by (p e) (filter_weight p es)
  where
    by : (b : Bool) → weight_of_entries (filter p es) ≤ weight_of_entries es → weight_of_entries (cond b (e ∷ filter p es) (filter p es)) ≤ weight_of_entries (e ∷ es)
    by true h = omega (arith, h, sum_by-cons entry_weight e (filter p es), sum_by-cons entry_weight e es)
    by false h = omega (arith, h, sum_by-cons entry_weight e es)
