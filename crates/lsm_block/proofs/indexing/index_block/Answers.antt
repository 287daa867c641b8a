use Rattle.std.proofs.Common.{List, Ok, Result, length, sym, subst, ap, ◌∙◌, arith}
use Rattle.std.proofs.lemmas.List.{take_all}
use Rattle.lsm_key.specs.declared.entry.Entry.{Entry}
use Rattle.lsm_key.specs.Reading.{Fails}
use Rattle.lsm_block.specs.declared.fault.BlockFault.{BlockFault}
use Rattle.lsm_block.specs.Indexed.{block_entries}
use Rattle.lsm_block.proofs.ReadBlocks.{read_none, from_front}
use Rattle.lsm_block.proofs.indexing.index_block.Goals as goal

pub index_more-requires-clause-known : goal.index_more-requires-clause-known
index_more-requires-clause-known c = read_none c.args.bytes.now c.in_ok-found.found c.in_ok-found.ensures

pub returns-in-Ok-clause-ok : goal.returns-in-Ok-clause-ok
returns-in-Ok-clause-ok c =
    let bytes = c.args.bytes.now in
    let read = c.in-Ok.ensures.ok in
    (sym (from_front c.args.max_key bytes) ∙ read.0 ∙ ap (λ b. Ok (block_entries b)) (take_all (length bytes) bytes (omega arith)), read.1)

pub returns-in-Err-clause-err : goal.returns-in-Err-clause-err
returns-in-Err-clause-err c = subst (λ (r : Result (List Entry) BlockFault). Fails c.in-Err.fault r) (from_front c.args.max_key c.args.bytes.now) c.in-Err.ensures.err
