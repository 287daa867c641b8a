use Rattle.lsm_block.specs.Indexed.{block_entries}
use Rattle.lsm_table.proofs.BuilderDrafts.{draft_small}
use Rattle.lsm_table.proofs.written.Written.is_full.Goals as goal

pub grown-measure-requires-clause-small : goal.grown-measure-requires-clause-small
grown-measure-requires-clause-small c =
    let w = c.self.inside in
    draft_small w.target (block_entries w.blocks.items) w.measure c.self.invariant.draft.measured c.self.invariant.draft.small

pub table_len-requires-clause-light : goal.table_len-requires-clause-light
table_len-requires-clause-light c =
    let w = c.self.inside in
    (c.grown-measure.ensures.measured (block_entries w.blocks.items) c.args.entry.now c.len-key.ensures.value c.entry_len.ensures.value c.self.invariant.draft.measured).light
