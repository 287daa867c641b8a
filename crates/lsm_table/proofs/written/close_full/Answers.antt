use Rattle.std.proofs.Common.{arith}
use Rattle.lsm_table.proofs.BuilderDrafts.{draft_small}
use Rattle.lsm_table.proofs.written.close_full.Goals as goal

pub overflow_cast-measure : goal.overflow_cast-measure
overflow_cast-measure c =
    let is = c.requires.1 in
    let small = draft_small c.args.target c.requires.0 c.args.measure.now is.draft.measured is.draft.small in
    omega (arith, small, is.draft.measured.light.index)
