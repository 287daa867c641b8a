use Rattle.lsm_inspect.proofs.WholeStores.{damage_bad}
use Rattle.lsm_inspect.proofs.laws.log_damage_is_no_false_alarm.Goals as goal

pub returns : goal.returns
returns c = λ flushed texts d is. damage_bad flushed texts d is
