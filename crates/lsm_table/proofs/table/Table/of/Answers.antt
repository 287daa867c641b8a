use Rattle.lsm_table.proofs.TableContents.{table_one}
use Rattle.lsm_table.proofs.table.Table.of.Goals as goal

pub returns-in-Ok : goal.returns-in-Ok
returns-in-Ok c es is = (c.in-Ok.ensures.found.0, table_one c.args.bytes c.in-Ok.table.entries es c.in-Ok.ensures.found.1 is)
