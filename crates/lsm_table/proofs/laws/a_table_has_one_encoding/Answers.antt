use Rattle.lsm_table.proofs.TableSizes.{one_encoding}
use Rattle.lsm_table.proofs.laws.a_table_has_one_encoding.Goals as goal

pub returns : goal.returns
returns c = one_encoding
