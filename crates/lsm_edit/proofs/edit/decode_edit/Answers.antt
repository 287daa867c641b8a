use Rattle.std.proofs.Common.{subst}
use Rattle.lsm_key.specs.Reading.{Gives}
use Rattle.lsm_edit.proofs.EditLaws.{is_found, edit_again}
use Rattle.lsm_edit.proofs.edit.decode_edit.Goals as goal

pub returns-clause-found : goal.returns-clause-found
returns-clause-found c = is_found c.args.bytes c.read_whole.result c.know_bytes.ensures c.read_whole.ensures

pub returns-clause-only : goal.returns-clause-only
returns-clause-only c = λ es is. subst (λ f. Gives (λ b. b) c.read_whole.result f) (edit_again c.args.bytes es is) c.read_whole.ensures
