use Rattle.std.proofs.Common.{refl}
use Rattle.lsm_block.proofs.ReadBlocks.{none_read, read_none}
use Rattle.lsm_block.proofs.reader.BlocksReader.new.Goals as goal

pub invariant_of-result : goal.invariant_of-result
invariant_of-result c = (read_none c.args.bytes c.in_ok-index.index c.in_ok-index.ensures, c.requires)

pub returns : goal.returns
returns c = (none_read, refl, refl)
