use Rattle.std.proofs.Common.{◌∙◌, ap, sym, Some, List, ℕ}
use Rattle.std.specs.Ordering.{nat_cmp}
use Rattle.std.specs.FinMap as map
use Rattle.lsm_vault.proofs.TableLookups.{get_at}
use Rattle.lsm_vault.proofs.tables.Tables.get.Goals as goal

pub returns-in-None : goal.returns-in-None
returns-in-None c = rw (← c.number.ensures) (c.in-None.ensures.value ∙ sym (get_at c.self.inside.by_number.entries c.number.result)
    ∙ ap (λ (m : map.FinMap nat_cmp (List ℕ)). map.get m c.number.result) c.self.view_is)

pub returns-in_ok-clone-in-Some : goal.returns-in_ok-clone-in-Some
returns-in_ok-clone-in-Some c = rw (← c.number.ensures) (ap Some c.in_ok-clone-in-Some.ensures.cases ∙ c.in-Some.ensures.value ∙ sym (get_at c.self.inside.by_number.entries c.number.result)
    ∙ ap (λ (m : map.FinMap nat_cmp (List ℕ)). map.get m c.number.result) c.self.view_is)
