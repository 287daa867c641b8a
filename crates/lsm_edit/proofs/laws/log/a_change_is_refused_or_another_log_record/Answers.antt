use Rattle.lsm_edit.proofs.LogRecordLaws.{other_record}
use Rattle.lsm_edit.proofs.laws.log.a_change_is_refused_or_another_log_record.Goals as goal

pub returns : goal.returns
returns c = other_record
