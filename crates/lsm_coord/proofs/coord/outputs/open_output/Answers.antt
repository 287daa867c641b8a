use Rattle.std.proofs.Common.{◌≡◌, ℕ, List, Result, Ok, Err, refl, sym, subst, inr}
use Rattle.lsm_key.specs.declared.refused.Refused.{Refused}
use Rattle.lsm_key.specs.Reading.{Fails, Gives}
use Rattle.lsm_table.specs.declared.fault.TableFault.{TableFault}
use Rattle.lsm_table.specs.Tables.{IsTable, Opened}
use Rattle.lsm_coord.proofs.coord.outputs.open_output.Goals as goal

pub returns-in-Err-Fault-clause-bad : goal.returns-in-Err-Fault-clause-bad
returns-in-Err-Fault-clause-bad c = inr (
  refl,
  λ t is own.
      let opened = subst (λ (bytes : List ℕ). IsTable bytes t.entries) (sym c.in_ok-copy.ensures.cases) is in
      let fails : Fails c.in-Err-Fault.field-0 (Ok t.entries) = subst (λ (r : Result Opened (Refused TableFault)). Gives (λ u. u.entries) r (Ok t.entries)) c.in-Err-Fault.is (c.open.ensures.only t.entries opened) in
      let fault : Ok t.entries ≡ Err c.in-Err-Fault.field-0-0 = subst (λ (e : Refused TableFault). Fails e (Ok t.entries)) c.in-Err-Fault.field-0-is fails in
      absurd (let no : Ok t.entries ≡ Err c.in-Err-Fault.field-0-0 = fault in cc),
)
