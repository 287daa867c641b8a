use Rattle.std.proofs.Common.{ℕ, ◌-◌, List, length, take, drop, rules}
use Rattle.lsm_line.proofs.LinesAndWords.{words-call, words-last}
use Rattle.std.proofs.lemmas.List.{take_rest}
use Rattle.lsm_line.proofs.words.WordsIterator.next.Goals as goal

pub returns-then-is_empty-clause-steps : goal.returns-then-is_empty-clause-steps
returns-then-is_empty-clause-steps c =
    let xs = c.args.self.now.rest.now in
    let g = c.unwrap_or-start.result in
    let r : List ℕ = take (length xs - g) (drop g xs) in
    words-last xs r c.split_at.result.0.now c.split_at.result.1.now g c.unwrap_or-end.result (search rules) (take_rest xs g) (search rules) (search rules) (search rules) (search rules)

pub returns-else-is_empty-clause-steps : goal.returns-else-is_empty-clause-steps
returns-else-is_empty-clause-steps c =
    let xs = c.args.self.now.rest.now in
    let g = c.unwrap_or-start.result in
    let r : List ℕ = take (length xs - g) (drop g xs) in
    words-call xs r c.split_at.result.0.now c.split_at.result.1.now g c.unwrap_or-end.result (search rules) (take_rest xs g) (search rules) (search rules) (search rules) (search rules)

pub returns-else-is_empty-clause-goes : goal.returns-else-is_empty-clause-goes
returns-else-is_empty-clause-goes c =
    let xs = c.args.self.now.rest.now in
    let g = c.unwrap_or-start.result in
    let r : List ℕ = take (length xs - g) (drop g xs) in
    let steps = words-call xs r c.split_at.result.0.now c.split_at.result.1.now g c.unwrap_or-end.result (search rules) (take_rest xs g) (search rules) (search rules) (search rules) (search rules) in
    search rules
