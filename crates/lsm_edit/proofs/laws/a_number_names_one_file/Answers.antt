use Rattle.lsm_edit.proofs.NumbersNeverReturn.{one_file}
use Rattle.lsm_edit.proofs.laws.a_number_names_one_file.Goals as goal

pub returns : goal.returns
returns c = one_file
