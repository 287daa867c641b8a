use Rattle.std.proofs.Common.{List, ℕ, Vec, Global, ap, ◌∙◌}
use Rattle.lsm_key.specs.declared.entry.Entry.{Entry}
use Rattle.lsm_mem.specs.Chains.{chains_of, entries_in}
use Rattle.lsm_mem.proofs.EntriesFrom.{range_all}
use Rattle.lsm_mem.proofs.chains.Chains.cursor.Goals as goal

pub returns : goal.returns
returns c =
    c.new.ensures
    ∙ ap (λ (ps : List (Vec ℕ Global × Vec Entry Global)). entries_in (chains_of ps)) (c.range.ensures.between tt ∙ range_all c.self.inside.by_key.entries)
    ∙ ap entries_in c.self.view_is
