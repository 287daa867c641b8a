use Rattle.std.proofs.Common.{◌≡◌, take}
use Rattle.lsm_block.specs.Blocks.{entries}
use Rattle.lsm_block.proofs.writing.encode_block.Given as goal

abbrev pub invariant-loop-e : goal.invariant-loop-e
invariant-loop-e l = l.out.items ≡ entries (take l.e-index l.es)
