use Rattle.lsm_edit.proofs.NumbersNeverReturn.{removed_once}
use Rattle.lsm_edit.proofs.laws.no_file_is_removed_twice.Goals as goal

pub returns : goal.returns
returns c = removed_once
