use Rattle.std.proofs.Common.{◌∙◌, sym}
use Rattle.lsm_table.proofs.TurnedHeads.{behind_last}
use Rattle.lsm_table.proofs.heads.is_overtaken.Goals as goal

pub returns-then-count-gt1 : goal.returns-then-count-gt1
returns-then-count-gt1 g c not_before last others is up =
    behind_last g.H.Head.entry c.args.heads.now others last c.index-heads-count.result c.index-heads-count-then-count-gt1.result is up c.if-count-gt1.true c.index-heads-count.is c.index-heads-count-then-count-gt1.is (sym c.precedes.ensures ∙ not_before)
