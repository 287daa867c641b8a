use Rattle.std.proofs.Common.{◌≡◌, ◌∙◌, ℕ, List, ◌∷◌, ap, sym, Some, rules}
use Rattle.lsm_line.specs.Text.{is_line_feed, lines, lines_left}
use Rattle.lsm_line.specs.declared.words.Lines.{Lines}
use Rattle.lsm_line.proofs.LinesAndWords.{lines-call, lines-more, lines-end, pieces_after}
use Rattle.std.proofs.lemmas.List.{take_rest}
use Rattle.lsm_line.proofs.words.LinesIterator.next.Goals as goal
use Rattle.lsm_line.proofs.words.LinesIterator.next.Goals.{then-not-is_empty, else-not-is_empty}

steps : (c : goal.Joined-not-is_empty) → lines_left c.args.self.now.rest ≡ c.split_at.result.0.now ∷ lines_left c.if-not-is_empty.self.rest
steps c =
    let text = c.in_ok-text.text.now in
    let back = c.split_at.result.1.now in
    let was : c.args.self.now.rest ≡ Some c.in_ok-text.text = search rules in
    let call = lines-call text c.split_at.result.0.now back c.unwrap_or-end.result (search rules) (search rules) (search rules) in
    let left : pieces_after is_line_feed back ≡ lines_left c.if-not-is_empty.self.rest = elim c.if-not-is_empty.branch [
      | then-not-is_empty w ↦ lines-more back (search rules) ∙ (ap lines (sym (take_rest back 1)) ∙ sym (ap (λ (s : Lines). lines_left s.rest) w.self-is))
      | else-not-is_empty w ↦ lines-end back (search rules) ∙ sym (ap (λ (s : Lines). lines_left s.rest) w.self-is ∙ ap lines_left c.take.ensures.after)
    ] in
    ap lines_left was ∙ call ∙ ap (λ (ls : List (List ℕ)). c.split_at.result.0.now ∷ ls) left

pub returns-clause-steps : goal.returns-clause-steps
returns-clause-steps c = steps c

pub returns-clause-goes : goal.returns-clause-goes
returns-clause-goes c = let made = steps c in search rules
