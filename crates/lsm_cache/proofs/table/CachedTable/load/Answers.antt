use Rattle.std.proofs.Common.{List, sym, subst, ◌∙◌}
use Rattle.lsm_key.specs.declared.entry.Entry.{Entry}
use Rattle.lsm_block.specs.Handles.{IsPartAt}
use Rattle.lsm_cache.proofs.table.CachedTable.load.Goals as goal

pub returns-in-Ok : goal.returns-in-Ok
returns-in-Ok c number es holds own =
    c.put.ensures number es (c.promote.ensures number es holds) (λ same. subst (λ (xs : List Entry). IsPartAt xs c.handle-handle.result c.in-Ok.block) (c.contents-2.ensures ∙ sym (own (sym same))) c.in-Ok.ensures)
