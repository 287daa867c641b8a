use Rattle.std.proofs.Common.{refl, arith}
use Rattle.luddimpa.proofs.NoTable.{none_read}
use Rattle.luddimpa.proofs.table_get.look_up.Goals as goal

pub returns-in-Err-Fault : goal.returns-in-Err-Fault
returns-in-Err-Fault c =
    let here = c.in-Err-Fault in
    (omega (arith, c.if-at-gt-MAX.false), λ entries is. none_read entries here.field-0 here.field-0-0 here.field-0-is (here.ensures.only entries is), refl)
