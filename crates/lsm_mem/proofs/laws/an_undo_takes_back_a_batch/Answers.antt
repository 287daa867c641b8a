use Rattle.lsm_mem.proofs.UndoneBatches.{batch_taken_back}
use Rattle.lsm_mem.proofs.laws.an_undo_takes_back_a_batch.Goals as goal

pub returns : goal.returns
returns c = batch_taken_back
