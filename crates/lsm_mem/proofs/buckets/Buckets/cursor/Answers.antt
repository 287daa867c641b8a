use Rattle.std.proofs.Common.{◌++◌, ap, ◌∙◌}
use Rattle.lsm_mem.specs.Buckets.{chains_of_buckets}
use Rattle.lsm_mem.specs.Chains.{entries_in}
use Rattle.lsm_mem.proofs.OlderChains.{pairs_all}
use Rattle.lsm_mem.proofs.buckets.Buckets.cursor.Goals as goal

pub returns : goal.returns
returns c =
    c.new-2.ensures
    ∙ (λ i. c.new.ensures i ++ entries_in (chains_of_buckets ((c.range.ensures.between tt ∙ pairs_all c.self.inside.by_prefix.entries) i)))
    ∙ ap entries_in c.self.view_is
