use Rattle.std.proofs.Common.{subst}
use Rattle.lsm_key.specs.Reading.{Gives}
use Rattle.lsm_block.proofs.BlockRuns.{is_found, block_again}
use Rattle.lsm_block.proofs.block.decode_block.Goals as goal

pub returns-clause-found : goal.returns-clause-found
returns-clause-found c = is_found c.args.max_key c.requires c.args.bytes c.decode_with_hints.result c.know_bytes.ensures c.decode_with_hints.ensures

pub returns-clause-only : goal.returns-clause-only
returns-clause-only c = λ es is. subst (λ f. Gives (λ b. b) c.decode_with_hints.result f) (block_again c.args.max_key c.args.bytes es is) c.decode_with_hints.ensures
