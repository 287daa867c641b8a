use Rattle.lsm.proofs.opening.open_with.Goals as goal

pub returns-in-Err-open-clause-refused : goal.returns-in-Err-open-clause-refused
returns-in-Err-open-clause-refused c = c.of_contents.ensures _ c.in-Err-open.ensures.refused c.in-Err-open.ensures.first
