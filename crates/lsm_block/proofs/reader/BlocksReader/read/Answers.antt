use Rattle.std.proofs.Common.{sym}
use Rattle.std.proofs.lemmas.List.{drop-drop}
use Rattle.lsm_block.proofs.ReadBlocks.{all_left, none_read, read_none, read_on}
use Rattle.lsm_block.proofs.reader.BlocksReader.read.Goals as goal

pub invariant_of-self : goal.invariant_of-self
invariant_of-self c = ((read_on c.self.inside.max_key c.self.inside.bytes c.as_slice-bytes.result.now c.self.inside.read c.args.len c.index_more.new.found c.as_slice-bytes.ensures c.in-Ok.ensures.ok).1, c.self.invariant.1)

pub invariant_of-self-in-Err : goal.invariant_of-self-in-Err
invariant_of-self-in-Err c = (read_none c.self.inside.bytes c.forget.new.self c.forget.ensures, c.self.invariant.1)

pub returns-in-Ok-clause-ok : goal.returns-in-Ok-clause-ok
returns-in-Ok-clause-ok c =
    let r = c.self.inside in
    rw (← c.self.view_is) ((read_on r.max_key r.bytes c.as_slice-bytes.result.now r.read c.args.len c.index_more.new.found c.as_slice-bytes.ensures c.in-Ok.ensures.ok).0, sym (drop-drop c.args.len r.read r.bytes))

pub returns-in-Err-clause-none : goal.returns-in-Err-clause-none
returns-in-Err-clause-none c = rw (← c.self.view_is) (none_read, all_left c.self.inside.bytes c.self.inside.read c.self.inside.index c.self.invariant.0)
