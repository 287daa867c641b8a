use Rattle.lsm_table.specs.TableReading.{read_table}
use Rattle.luddimpa.proofs.NoTable.{none_read, read_fault}
use Rattle.luddimpa.proofs.table_check.check.Goals as goal

pub returns-in-Err-Fault : goal.returns-in-Err-Fault
returns-in-Err-Fault c =
    let here = c.in-Err-Fault in
    (λ entries is. none_read entries here.field-0 here.fault here.field-0-is (here.ensures.only entries is), read_fault (read_table c.args.table.now) here.field-0 here.fault here.field-0-is here.ensures.exact)
