use Rattle.lsm_table.proofs.MeasuredTables.{measured_size}
use Rattle.lsm_table.proofs.measuring.Measure.table_len.Goals as goal

pub returns : goal.returns
returns c = λ target es low some is. measured_size target es c.args.self.now low some is
