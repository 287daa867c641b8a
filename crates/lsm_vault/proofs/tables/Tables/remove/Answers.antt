use Rattle.std.proofs.Common.{◌∙◌, ap, List, ℕ}
use Rattle.std.specs.Ordering.{nat_cmp}
use Rattle.std.specs.FinMap as map
use Rattle.lsm_vault.proofs.TableLookups.{one_removed}
use Rattle.lsm_vault.proofs.tables.Tables.remove.Goals as goal

pub returns : goal.returns
returns c = rw (← c.number.ensures) (one_removed c.self.inside.by_number.entries c.remove.new.self.entries c.number.result c.remove.ensures.updates.0
    ∙ ap (λ (m : map.FinMap nat_cmp (List ℕ)). map.remove m c.number.result) c.self.view_is)
