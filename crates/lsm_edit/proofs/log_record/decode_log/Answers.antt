use Rattle.std.proofs.Common.{subst}
use Rattle.lsm_key.specs.Reading.{Gives}
use Rattle.lsm_edit.proofs.LogRecordLaws.{record_again, record_found}
use Rattle.lsm_edit.proofs.log_record.decode_log.Goals as goal

pub returns-clause-found : goal.returns-clause-found
returns-clause-found c = record_found c.args.bytes c.read_whole.result c.know_bytes.ensures c.read_whole.ensures

pub returns-clause-only : goal.returns-clause-only
returns-clause-only c = λ r is. subst (λ f. Gives (λ b. b) c.read_whole.result f) (record_again c.args.bytes r is) c.read_whole.ensures
