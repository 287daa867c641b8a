use Rattle.std.proofs.Common.{◌∙◌, ap, sym, List, ℕ, Result, Ok, Err, OnErr}
use Rattle.std.specs.Ordering.{nat_cmp}
use Rattle.std.specs.FinMap as map
use Rattle.lsm_vault.proofs.TableLookups.{get_at, one_put}
use Rattle.lsm_vault.proofs.tables.Tables.insert.Goals as goal

pub returns-clause-before : goal.returns-clause-before
returns-clause-before c = rw (← c.number.ensures) (c.in_ok-insert.ensures.old ∙ sym (get_at c.self.inside.by_number.entries c.number.result)
    ∙ ap (λ (m : map.FinMap nat_cmp (List ℕ)). map.get m c.number.result) c.self.view_is)

pub returns-clause-ok : goal.returns-clause-ok
returns-clause-ok c = rw (← c.number.ensures) (one_put c.self.inside.by_number.entries c.insert.new.self.entries c.number.result c.args.table c.in_ok-insert.ensures.updates.0
    ∙ ap (λ (m : map.FinMap nat_cmp (List ℕ)). map.insert m c.number.result c.args.table) c.self.view_is)

-- a fact holds of an error too
on_err : {T E : Type 0} {P : Type 0} (r : Result T E) → P → OnErr r P
on_err (Ok x) p = tt
on_err (Err e) p = p

pub returns-in_err-insert-clause-absent : goal.returns-in_err-insert-clause-absent
returns-in_err-insert-clause-absent c = rw (← c.number.ensures) (on_err _ (ap (λ (m : map.FinMap nat_cmp (List ℕ)). map.get m c.number.result) (sym c.self.view_is) ∙ get_at c.self.inside.by_number.entries c.number.result ∙ c.in_err-insert.ensures.absent))
