use Rattle.lsm_vault.proofs.TableNumbers.{keys_of}
use Rattle.lsm_vault.proofs.tables.Tables.numbers.Goals as goal

pub returns : goal.returns
returns c = rw (← c.self.view_is) (rw (keys_of c.self.inside.by_number.entries c.numbers_of.ensures.ordered) (rw (← c.in_ok-numbers.ensures.keys, ← c.as_slice.ensures.value) c.file_numbers.ensures))
