use Rattle.std.proofs.Common.{sym, ap, ◌∙◌}
use Rattle.lsm_mem.specs.Chains.{entries_in}
use Rattle.lsm_mem.proofs.ChainOrder.{none_from_empty}
use Rattle.lsm_mem.proofs.memtable.Memtable.is_empty.Goals as goal

pub returns : goal.returns
returns c = (
  λ t. sym c.self.view_is ∙ ap entries_in (c.is_empty.ensures.0 t),
  λ e. c.is_empty.ensures.1 (none_from_empty c.self.inside.buckets c.self.invariant.chained (c.self.view_is ∙ e)),
)
