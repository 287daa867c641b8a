use Rattle.lsm_table.proofs.MeasuredTables.{measured_none}
use Rattle.lsm_table.proofs.measuring.Measure.new.Goals as goal

pub returns : goal.returns
returns c = measured_none
