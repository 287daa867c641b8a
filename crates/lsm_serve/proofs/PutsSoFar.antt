-- The puts of pairs of words so far.
use Rattle.std.proofs.Common.{◌≡◌, ◌∙◌, ◌+◌, ◌*◌, ◌≤◌, ◌++◌, ◌∷◌, [], ℕ, List, length, drop, refl, sym, ap, arith}
use Rattle.std.proofs.lemmas.List.{append-nil, length-drop}
use Rattle.std.specs.Borrow.{Bor}
use Rattle.lsm_key.specs.declared.op.Op.{Op}
use Rattle.lsm_resp.specs.Requests.{words_of}
use Rattle.lsm_serve.specs.Answers.{puts}

no_puts : (words : List (Bor (List ℕ))) → length words ≤ 1 → puts (words_of words) ≡ []
no_puts [] few = refl
no_puts (x ∷ []) few = refl
no_puts (x ∷ y ∷ words) few = absurd (omega arith)

pub puts_done : (words : List (Bor (List ℕ))) (i : ℕ) (made : List Op) → length words ≤ 2 * i + 1 → made ++ puts (words_of (drop (2 * i) words)) ≡ puts (words_of words) → made ≡ puts (words_of words)
puts_done words i made few so =
    let none = no_puts (drop (2 * i) words) (omega (arith, length-drop (2 * i) words)) in
    sym (ap (λ (l : List Op). made ++ l) none ∙ append-nil made) ∙ so
