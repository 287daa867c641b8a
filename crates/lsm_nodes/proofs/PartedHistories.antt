-- Lists that have every record of a history, and no more records than it, have each once.
use Rattle.std.proofs.Common.{◌≡◌, ℕ, ◌+◌, ◌<◌, List, [], ◌∷◌, ◌++◌, length, count_by, cond, refl, sym, ap, subst, ◌∙◌, inl, inr, arith, length-append}
use Rattle.std.proofs.Math.Logic.{◌↔◌}
use Rattle.std.specs.Prelude.{IsTrue, Bool}
use Rattle.std.specs.List.Sorted.{IsPermutation}
use Rattle.std.proofs.lemmas.List.Sums.{sum_by-append}
use Rattle.std.proofs.lemmas.List.Sorted.{IsPermutation-cons, IsPermutation-middle, IsPermutation-refl, IsPermutation-sym, IsPermutation-trans, sum_by-IsPermutation}
use Rattle.lsm_key.specs.Sets.{IsIn}
use Rattle.lsm_key.proofs.Membership.{IsIn-append_cases, IsIn-append_left, IsIn-append_right, SameMembers-permutation}
use Rattle.lsm_coord.specs.declared.answer.Answer.{Answer}
use Rattle.lsm_coord.specs.declared.answer.Answer.TheVariants as answer
use Rattle.lsm_nodes.specs.declared.shared.tally.Record.{Record}
use Rattle.lsm_nodes.specs.Closing.{AllRise, AreAmong, IsPartedInto, RisesAbove, records_from}
use Rattle.lsm_nodes.specs.Histories.{WitnessedValue, installed_by, installed_in}
use Rattle.lsm_nodes.specs.Tallies.{all_records, is_done, is_installed, record_at}

-- where a member stands
split_at : (r : Record) (rs : List Record) → IsIn r rs → (front : List Record) × (back : List Record) × (rs ≡ front ++ r ∷ back)
split_at r [] m = absurd m
split_at r (x ∷ rs) m =
    elim m [
      | inl e ↦ ([], rs, ap (λ (q : Record). q ∷ rs) (sym e))
      | inr t ↦ (let s = split_at r rs t in (x ∷ s.0, s.1, ap (λ (l : List Record). x ∷ l) s.2))
    ]

-- records at later positions stand beside one at an earlier one
among_others : (r : Record) (front back : List Record) (n : ℕ) (ws : List WitnessedValue) → r.position < n → AreAmong (records_from n ws) (front ++ r ∷ back) → AreAmong (records_from n ws) (front ++ back)
among_others r front back n [] lt all = tt
among_others r front back n (w ∷ ws) lt all =
    let q : Record = record_at n w.exchange in
    let here : IsIn q (front ++ back) =
    elim (IsIn-append_cases q front (r ∷ back) all.0) [
      | inl a ↦ IsIn-append_left q front back a
      | inr b ↦ elim b [
        | inl e ↦ (let same = ap (λ (x : Record). x.position) e in absurd (omega (arith, same, lt)))
        | inr t ↦ IsIn-append_right q front back t
      ]
    ] in
    (here, among_others r front back (n + 1) ws (omega (arith, lt)) all.1)

pub each_once : (n : ℕ) (ws : List WitnessedValue) (rs : List Record) → AreAmong (records_from n ws) rs → length rs ≡ length ws → IsPermutation (records_from n ws) rs
each_once n [] [] all same = IsPermutation-refl []
each_once n [] (r ∷ rs) all same = absurd (omega (arith, same))
each_once n (w ∷ ws) rs all same =
    let r : Record = record_at n w.exchange in
    let s = split_at r rs all.0 in
    let others : AreAmong (records_from (n + 1) ws) (s.0 ++ s.1) = among_others r s.0 s.1 (n + 1) ws (omega arith) (subst (λ (l : List Record). AreAmong (records_from (n + 1) ws) l) s.2 all.1) in
    let fewer : length (s.0 ++ s.1) ≡ length ws = omega (arith, same, ap length s.2, length-append s.0 (r ∷ s.1), length-append s.0 s.1) in
    let rest = each_once (n + 1) ws (s.0 ++ s.1) others fewer in
    let moved = IsPermutation-trans _ _ _ (IsPermutation-cons r _ _ rest) (IsPermutation-sym _ _ (IsPermutation-middle s.0 r s.1)) in
    subst (λ (l : List Record). IsPermutation (records_from n (w ∷ ws)) l) (sym s.2) moved

-- a list with the same members has them all
among_members : (hs rs : List Record) → ((r : Record) → IsIn r hs → IsIn r rs) → AreAmong hs rs
among_members [] rs all = tt
among_members (h ∷ hs) rs all = (all h (inl refl), among_members hs rs (λ r m. all r (inr m)))

pub parted_exactly : (history : List WitnessedValue) (mine : List Record) (others : List (List Record)) (tested : Bool) → RisesAbove 0 mine → AllRise others → length (all_records (mine ∷ others)) ≡ length history
    → IsTrue tested ↔ AreAmong (records_from 1 history) (all_records (mine ∷ others)) → IsTrue tested ↔ IsPartedInto history (mine ∷ others)
parted_exactly history mine others tested up ups same tests = (
  λ t. record { rising = (up, ups); once = each_once 1 history (all_records (mine ∷ others)) (tests.0 t) same },
  λ h. tests.1 (among_members (records_from 1 history) (all_records (mine ∷ others)) (λ r m. (SameMembers-permutation (records_from 1 history) (all_records (mine ∷ others)) h.once r).0 m)),
)

-- ---- installs

one_install : (a : Answer) → length (installed_by a) ≡ cond (is_installed a) 1 0
one_install (answer.Installed number files) = refl
one_install a = refl

done_from : (n : ℕ) (ws : List WitnessedValue) → count_by is_done (records_from n ws) ≡ length (installed_in ws)
done_from n [] = refl
done_from n (w ∷ ws) =
    let first : count_by is_done (records_from n (w ∷ ws)) ≡ 0 + cond (is_installed w.exchange.answer) 1 0 + count_by is_done (records_from (n + 1) ws) = sum_by-append (λ (r : Record). cond (is_done r) 1 0) (record_at n w.exchange ∷ []) (records_from (n + 1) ws) in
    let more : length (installed_in (w ∷ ws)) ≡ length (installed_by w.exchange.answer) + length (installed_in ws) = length-append (installed_by w.exchange.answer) (installed_in ws) in
    omega (arith, first, more, done_from (n + 1) ws, one_install w.exchange.answer)

pub parted_installs : (history : List WitnessedValue) (lists : List (List Record)) → IsPartedInto history lists → length (installed_in history) ≡ count_by is_done (all_records lists)
parted_installs history lists h = sym (done_from 1 history) ∙ sym (sum_by-IsPermutation (λ (r : Record). cond (is_done r) 1 0) (records_from 1 history) (all_records lists) h.once)
