use Rattle.lsm_coord.proofs.Examples.{flushed_write, restart_keeps, freeze_outlives, refused_not_there, last_counts, frozen_first, absent_refused, down_until_restarted, merge_keeps, lies_behind, epochs_follow, beside_the_state}
use Rattle.lsm_coord.proofs.laws.worked_runs.Goals as goal

pub returns : goal.returns
returns c = record { flushed = flushed_write; restarted = restart_keeps; freeze = freeze_outlives; device = refused_not_there; batch = last_counts; frozen = frozen_first; absent = absent_refused; down = down_until_restarted; merged = merge_keeps; behind = lies_behind; epochs = epochs_follow; causes = beside_the_state }
