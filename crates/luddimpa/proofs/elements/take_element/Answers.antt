use Rattle.luddimpa.specs.Elements.{element_at}
use Rattle.luddimpa.proofs.ElementReading.{element_takes, none_begins}
use Rattle.luddimpa.proofs.NoTable.{read_fault}
use Rattle.luddimpa.proofs.elements.take_element.Goals as goal

pub returns-in-Ok-clause-some : goal.returns-in-Ok-clause-some
returns-in-Ok-clause-some c = element_takes c.args.rest.now c.in-Ok.text c.read_element.new.rest c.know_bytes.ensures c.in-Ok.ensures

pub returns-in-Err-Fault-clause-none : goal.returns-in-Err-Fault-clause-none
returns-in-Err-Fault-clause-none c =
    let here = c.in-Err-Fault in
    none_begins c.args.rest.now here.field-0-0 (read_fault (element_at c.args.rest.now) here.field-0 here.field-0-0 here.field-0-is here.ensures)
