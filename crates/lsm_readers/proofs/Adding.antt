-- The step that adds a publication keeps the rule of the log.
use Rattle.std.proofs.Common.{◌≡◌, ◌⊎◌, ℕ, ◌+◌, ◌<◌, ◌==◌, Bool, true, false, List, [], ◌∷◌, ◌++◌, length, refl, ap, sym, subst, arith, inl, inr, ◌∙◌, length-append, None}
use Rattle.std.proofs.lemmas.List.{append-nil}
use Rattle.std.proofs.lemmas.Bool.Decides.{nat_tests}
use mathlib.Core.List.{IsPrefix}
use prog.Atomic.{either}
use Rattle.logbook.specs.Pages.{Cell, cell, keeps, no_nib, step, Moves, Goes}
use Rattle.lsm_edit.specs.Served.{ServedValue, first_served}
use Rattle.lsm_readers.specs.Publications.{AreRising, AreRisingFrom, IsLater, last_after, last_published}
use Rattle.lsm_readers.specs.Rule.{AddsToLog, IsLog}
use Rattle.lsm_readers.specs.Writers.{last_list}
use Rattle.lsm_readers.proofs.Beginnings.{prefix_whole}

rising_append : (before : ServedValue) (a b : List ServedValue) → AreRisingFrom before.version.number a → AreRisingFrom (last_after before a).version.number b → AreRisingFrom before.version.number (a ++ b)
rising_append before [] b r s = s
rising_append before (p ∷ a) b r s = (r.0, rising_append p a b r.1 s)

-- what clients of the log see: nothing
abbrev pub shown : List ServedValue → List ServedValue
shown log = []

abbrev pub moved : List ServedValue → List ServedValue → ℕ → Type 0
moved xs ys n = Unit {0}

pub adds_goes : (log v : List ServedValue) (p : ServedValue) (old : ℕ) → length v ≡ old → IsLater v p → AreRising log → IsPrefix v log
    → (b : Bool) → (length log == old) ≡ b
    → Goes IsLog shown moved 0 (v, (no_nib, None)) (λ n. either (n == old) (old + 1) n) (AddsToLog (step 0 old (old + 1) p) (v, (no_nib, None))) ((length log, true) ∷ (0, true) ∷ []) log
adds_goes log v p old len later rising pre true is =
    let here : length log ≡ old = grind (arith, nat_tests) in
    let same : v ≡ log = prefix_whole v log pre (omega arith) in
    let rising' : AreRising (log ++ p ∷ []) = rising_append first_served log (p ∷ []) rising (subst (λ (xs : List ServedValue). (last_published xs).version.number < p.version.number) same later, tt) in
    let n : either (length log == old) (old + 1) (length log) ≡ length (log ++ p ∷ []) = rw is (omega (arith, length-append log (p ∷ []))) in (
      keeps,
      p ∷ [],
      None,
      tt,
      record { words = ap (λ (k : ℕ). (k, true) ∷ (0, true) ∷ []) n; rising = rising' },
      inl (refl, refl),
      rw is (ap (λ w. w ++ p ∷ []) (sym same), rising'),
    )
adds_goes log v p old len later rising pre false is =
    let all : log ++ [] ≡ log = append-nil log in
    let rising' : AreRising (log ++ []) = subst AreRising (sym all) rising in
    let n : either (length log == old) (old + 1) (length log) ≡ length (log ++ []) = rw is (ap length (sym all)) in (
      keeps,
      [],
      None,
      tt,
      record { words = ap (λ (k : ℕ). (k, true) ∷ (0, true) ∷ []) n; rising = rising' },
      inl (refl, refl),
      rw is (ap length all, rising'),
    )

-- whatever the log is, the exchange adds the publication to all that was seen, or finds that the log is longer
pub adds_moves : (v : List ServedValue) (p : ServedValue) (old : ℕ) → length v ≡ old → IsLater v p
    → Moves IsLog shown moved 0 (v, (no_nib, None)) (λ n. either (n == old) (old + 1) n) (AddsToLog (step 0 old (old + 1) p) (v, (no_nib, None)))
adds_moves v p old len later cs log kept pre away =
    let P : List Cell → Type 0 = λ c. (0 < length c) × ((cell c 0).1 ≡ true) × Goes IsLog shown moved 0 (v, (no_nib, None)) (λ n. either (n == old) (old + 1) n) (AddsToLog (step 0 old (old + 1) p) (v, (no_nib, None))) c log in
    subst P (sym kept.words) (omega arith, refl, adds_goes log v p old len later kept.rising pre (length log == old) refl)

last_append : (before : ServedValue) (a b : List ServedValue) → last_after before (a ++ b) ≡ last_after (last_after before a) b
last_append before [] b = refl
last_append before (p ∷ a) b = last_append p a b

pub last_push : (ps : List ServedValue) (p : ServedValue) → last_published (ps ++ p ∷ []) ≡ p
last_push ps p = last_append first_served ps (p ∷ [])

pub newest_push : (xs : List ServedValue) (ops : List (List ServedValue)) (y : List ServedValue) → last_list xs (ops ++ y ∷ []) ≡ y
newest_push xs [] y = refl
newest_push xs (o ∷ ops) y = newest_push o ops y

-- a version that was taken last, or is later, is so again once it was taken or not
pub in_step_again : (old new : List ServedValue) (p : ServedValue) → (last_published old ≡ p) ⊎ IsLater old p → (new ≡ old) ⊎ (IsLater old p × (new ≡ old ++ p ∷ []))
    → (last_published new ≡ p) ⊎ IsLater new p
in_step_again old new p step (inl same) = subst (λ (xs : List ServedValue). (last_published xs ≡ p) ⊎ IsLater xs p) (sym same) step
in_step_again old new p step (inr more) = inl (ap last_published more.1 ∙ last_push old p)
