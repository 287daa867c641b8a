use Rattle.lsm_table.proofs.TableBeginnings.{table_cut}
use Rattle.lsm_table.proofs.laws.a_beginning_of_a_table_is_truncated.Goals as goal

pub returns : goal.returns
returns c = table_cut
