use Rattle.lsm_edit.proofs.LogLaws.{bad_is_not_good}
use Rattle.lsm_edit.proofs.laws.log.a_log_is_good_or_bad.Goals as goal

pub returns : goal.returns
returns c = bad_is_not_good
