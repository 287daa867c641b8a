use Rattle.std.proofs.Common.{subst}
use Rattle.lsm_key.specs.Reading.{Gives}
use Rattle.lsm_edit.proofs.BaseLaws.{base_found, base_again}
use Rattle.lsm_edit.proofs.base.decode_base.Goals as goal

pub returns-clause-found : goal.returns-clause-found
returns-clause-found c = base_found c.args.bytes c.read_whole.result c.know_bytes.ensures c.read_whole.ensures

pub returns-clause-only : goal.returns-clause-only
returns-clause-only c = λ v is. subst (λ f. Gives (λ b. b) c.read_whole.result f) (base_again c.args.bytes v is) c.read_whole.ensures
