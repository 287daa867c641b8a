use Rattle.lsm_table.proofs.TableBeginnings.{other_table}
use Rattle.lsm_table.proofs.laws.a_change_is_refused_or_another_table.Goals as goal

pub returns : goal.returns
returns c = other_table
