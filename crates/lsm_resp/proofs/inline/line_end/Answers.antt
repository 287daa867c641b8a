use Rattle.std.proofs.Common.{◌<◌, length, arith}
use Rattle.lsm_resp.proofs.Lines.{line_ends}
use Rattle.lsm_resp.proofs.inline.line_end.Goals as goal

pub returns-clause-line : goal.returns-clause-line
returns-clause-line c line is ahead =
    let come : c.index_of-at.result < length c.args.input.now = omega (arith, c.index_of-at.ensures.within, c.if-at-input.false) in
    line_ends line c.args.input.now c.index_of-at.result is ahead c.index_of-at.ensures.within c.index_of-at.ensures.before c.index_of-at.ensures.at come
