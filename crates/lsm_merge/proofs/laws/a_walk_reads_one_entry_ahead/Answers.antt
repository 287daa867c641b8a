use Rattle.lsm_merge.proofs.TakenHeads.{reads_ahead, takes_from_each}
use Rattle.lsm_merge.proofs.laws.a_walk_reads_one_entry_ahead.Goals as goal

pub returns : goal.returns
returns c = record { ahead = reads_ahead; each = takes_from_each }
