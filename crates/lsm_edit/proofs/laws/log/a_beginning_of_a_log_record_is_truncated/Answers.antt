use Rattle.lsm_edit.proofs.LogRecordLaws.{record_cut}
use Rattle.lsm_edit.proofs.laws.log.a_beginning_of_a_log_record_is_truncated.Goals as goal

pub returns : goal.returns
returns c = record_cut
