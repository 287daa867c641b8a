-- Searches for the records of a history in the lists of its callers.
use Rattle.std.proofs.Common.{◌≡◌, ℕ, zero, suc, ◌+◌, ◌<◌, Bool, List, [], ◌∷◌, length, get_or, drop, sym, ap, subst, ◌∙◌, inl, inr, arith, add-one}
use Rattle.std.proofs.Math.Logic.{◌↔◌}
use Rattle.std.proofs.Math.Seq.{drop-cons}
use Rattle.std.specs.Prelude.{IsTrue}
use Rattle.std.specs.List.Sorted.{IsNonDecreasingBy}
use Rattle.lsm_key.specs.Sets.{IsIn}
use Rattle.lsm_key.proofs.Membership.{IsIn-append_cases, IsIn-append_left, IsIn-append_right, IsIn-at}
use Rattle.lsm_nodes.specs.declared.exchange.Exchange.{Exchange}
use Rattle.lsm_nodes.specs.declared.shared.tally.Record.{Record}
use Rattle.lsm_nodes.specs.Closing.{AreAmong, RisesAbove, records_from}
use Rattle.lsm_nodes.specs.Histories.{WitnessedValue}
use Rattle.lsm_nodes.specs.Tallies.{all_records, record_at}

-- ---- a list whose positions rise

above : (n : ℕ) (rs : List Record) → RisesAbove n rs → (r : Record) → IsIn r rs → n < r.position
above n [] up r m = absurd m
above n (x ∷ rs) up r m =
    elim m [
      | inl e ↦ (let same = ap (λ (q : Record). q.position) e in let low = up.0 in omega (arith, same, low))
      | inr t ↦ (let more = above x.position rs up.1 r t in let low = up.0 in omega (arith, more, low))
    ]

pub positions_rise : (n : ℕ) (rs : List Record) → RisesAbove n rs → IsNonDecreasingBy (λ (r : Record). r.position) rs
positions_rise n [] up i j d le lt = absurd (omega (arith, lt))
positions_rise n (r ∷ rs) up zero zero d le lt = omega arith
positions_rise n (r ∷ rs) up zero (suc j) d le lt = (let more = above r.position rs up.1 (get_or rs j d) (IsIn-at rs j d (omega (arith, lt))) in omega (arith, more))
positions_rise n (r ∷ rs) up (suc i) zero d le lt = absurd (omega (arith, le))
positions_rise n (r ∷ rs) up (suc i) (suc j) d le lt = positions_rise r.position rs up.1 i j d (omega (arith, le)) (omega (arith, lt))

-- no position stands twice
one_position : (n : ℕ) (rs : List Record) → RisesAbove n rs → (r q : Record) → IsIn r rs → IsIn q rs → r.position ≡ q.position → r ≡ q
one_position n [] up r q a b same = absurd a
one_position n (x ∷ rs) up r q a b same =
    elim a [
      | inl e ↦ elim b [
        | inl f ↦ e ∙ sym f
        | inr f ↦ (let more = above x.position rs up.1 q f in let here = ap (λ (y : Record). y.position) e in absurd (omega (arith, more, here, same)))
      ]
      | inr e ↦ elim b [
        | inl f ↦ (let more = above x.position rs up.1 r e in let here = ap (λ (y : Record). y.position) f in absurd (omega (arith, more, here, same)))
        | inr f ↦ one_position x.position rs up.1 r q e f same
      ]
    ]

-- where the position stands, it stands with its exchange
pub found_there : (rs : List Record) (r : Record) (position : ℕ) (exchange : Exchange) (same : Bool) → RisesAbove 0 rs → IsIn r rs → r.position ≡ position → IsTrue same ↔ (r.exchange ≡ exchange) → IsTrue same ↔ IsIn (record_at position exchange) rs
found_there rs r position exchange same up m at tests = (
  λ t. let e = tests.0 t in subst (λ (q : Record). IsIn q rs) (λ i. record { position = at i; exchange = e i }) m,
  λ h. tests.1 (ap (λ (q : Record). q.exchange) (one_position 0 rs up r (record_at position exchange) m h at)),
)

-- ---- one list after another

-- what is left begins with the item at its place
pub left_from : {X : Type 0} (xs : List X) (i : ℕ) (x : X) → x ≡ get_or xs i x → i < length xs → drop i xs ≡ x ∷ drop (i + 1) xs
left_from xs i x is lt = drop-cons xs i x lt ∙ (λ j. sym is j ∷ drop (sym (add-one i) j) xs)

module _ (lists : List (List Record)) (i : ℕ) (item : List Record) (r : Record) (left : drop i lists ≡ item ∷ drop (i + 1) lists) (X : Type 0) (before : IsIn r (all_records (drop i lists)) ↔ X) where
  pub in_item : IsIn r item → X
  in_item m = before.0 (subst (λ (ls : List (List Record)). IsIn r (all_records ls)) (sym left) (IsIn-append_left r item (all_records (drop (i + 1) lists)) m))

  pub in_rest : (IsIn r item → ⊥) → IsIn r (all_records (drop (i + 1) lists)) ↔ X
  in_rest none = (
    λ m. before.0 (subst (λ (ls : List (List Record)). IsIn r (all_records ls)) (sym left) (IsIn-append_right r item (all_records (drop (i + 1) lists)) m)),
    λ x. elim (IsIn-append_cases r item (all_records (drop (i + 1) lists)) (subst (λ (ls : List (List Record)). IsIn r (all_records ls)) left (before.1 x))) [ inl a ↦ absurd (none a) | inr b ↦ b ],
  )

-- ---- the records of a history, one after another

module _ (history : List WitnessedValue) (i : ℕ) (w : WitnessedValue) (all : List Record) (left : drop i history ≡ w ∷ drop (i + 1) history) (X : Type 0) (before : AreAmong (records_from (i + 1) (drop i history)) all ↔ X) where
  here : AreAmong (records_from (i + 1) (w ∷ drop (i + 1) history)) all ↔ X
  here = subst (λ (ws : List WitnessedValue). AreAmong (records_from (i + 1) ws) all ↔ X) left before

  pub among_rest : IsIn (record_at (i + 1) w.exchange) all → AreAmong (records_from (i + 1 + 1) (drop (i + 1) history)) all ↔ X
  among_rest m = (λ rest. here.0 (m, rest), λ x. (here.1 x).1)

  pub not_among : (IsIn (record_at (i + 1) w.exchange) all → ⊥) → X → ⊥
  not_among none x = none (here.1 x).0
