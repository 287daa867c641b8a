use Rattle.std.proofs.Common.{◌≡◌, ◌<◌, length, arith, rules}
use Rattle.lsm_resp.proofs.Words.{mark_is, request_front, request_some}
use Rattle.lsm_resp.proofs.request.read_any.Goals as goal

pub returns-then-is_empty-clause-found : goal.returns-then-is_empty-clause-found
returns-then-is_empty-clause-found c words are ahead =
    let none : length c.args.input.now ≡ 0 = search rules in
    omega (arith, none, request_some words)

pub returns-else-input-eq42-clause-found : goal.returns-else-input-eq42-clause-found
returns-else-input-eq42-clause-found c words are ahead =
    let some : 0 < length c.args.input.now = search rules in
    absurd (c.if-input-eq42.false (mark_is 42 (length words) c.args.input.now (request_front words c.args.input.now ahead) some))
