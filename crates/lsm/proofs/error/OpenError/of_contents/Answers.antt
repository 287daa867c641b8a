use Rattle.lsm.proofs.error.OpenError.of_contents.Goals as goal

pub returns-in_default : goal.returns-in_default
returns-in_default c = λ stored refuses first. (stored, refuses, first)
