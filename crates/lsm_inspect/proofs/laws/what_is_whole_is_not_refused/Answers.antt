use Rattle.lsm_inspect.proofs.WholeStores.{edits_whole, log_whole, tables_whole}
use Rattle.lsm_inspect.proofs.laws.what_is_whole_is_not_refused.Goals as goal

pub returns : goal.returns
returns c = record { manifest = λ vault v folds. edits_whole vault v folds; tables = λ vault v folds. tables_whole vault v folds; log = λ vault v folds. log_whole vault v folds }
