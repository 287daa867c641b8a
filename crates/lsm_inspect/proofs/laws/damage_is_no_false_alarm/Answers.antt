use Rattle.lsm_inspect.proofs.LackedTables.{damage_lacks}
use Rattle.lsm_inspect.proofs.laws.damage_is_no_false_alarm.Goals as goal

pub returns : goal.returns
returns c = λ kept damaged f d not is. damage_lacks f kept damaged d not is
