use Rattle.std.proofs.Common.{sym, subst, ◌∙◌}
use Rattle.lsm_table.specs.Tables.{IsTarget}
use Rattle.lsm_table.proofs.TableSizes.{target_is}
use Rattle.lsm_table.proofs.table.Table.block.Goals as goal

pub returns-clause-bound : goal.returns-clause-bound
returns-clause-bound c =
    let is = c.self.invariant.0 in
    subst IsTarget (sym (c.self.invariant.3 ∙ target_is c.self.inside.bytes c.self.inside.block is)) is.ranged
