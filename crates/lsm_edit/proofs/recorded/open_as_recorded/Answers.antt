use Rattle.std.proofs.Common.{◌≡◌, ◌∙◌, ℕ, List, Ok, sym, subst}
use Rattle.std.proofs.lemmas.Bool.{true≢false}
use Rattle.lsm_key.specs.declared.refused.Refused.{Refused}
use Rattle.lsm_key.specs.Reading.{Fails}
use Rattle.lsm_key.proofs.Results.{ok_not_err}
use Rattle.lsm_table.specs.declared.fault.TableFault.{TableFault}
use Rattle.lsm_table.specs.Tables.{IsTable}
use Rattle.lsm_table.proofs.TableContents.{table_one}
use Rattle.lsm_edit.specs.Served.{IsAsRecorded}
use Rattle.lsm_edit.proofs.recorded.open_as_recorded.Goals as goal

pub returns-in-Err-Fault-clause-none : goal.returns-in-Err-Fault-clause-none
returns-in-Err-Fault-clause-none c = λ t same recorded.
    let is = subst (λ (bytes : List ℕ). IsTable bytes t.entries) (same ∙ sym c.in_ok-clone.ensures.cases) recorded.table in
    ok_not_err t.entries c.in-Err-Fault.field-0-0 (subst (λ (e : Refused TableFault). Fails e (Ok t.entries)) c.in-Err-Fault.field-0-is (c.in-Err-Fault.ensures.only t.entries is))

pub returns-then-not-is_as_recorded-clause-none : goal.returns-then-not-is_as_recorded-clause-none
returns-then-not-is_as_recorded-clause-none c = λ t same recorded.
    let table = c.in-Ok.table in
    let is = subst (λ (bytes : List ℕ). IsTable bytes t.entries) (same ∙ sym c.in_ok-clone.ensures.cases) recorded.table in
    let entries : t.entries ≡ table.entries = sym (table_one c.in_ok-clone.field-0 table.entries t.entries c.in-Ok.ensures.found.1 is) in
    let bytes : t.bytes ≡ table.bytes = same ∙ sym (c.in-Ok.ensures.found.0 ∙ c.in_ok-clone.ensures.cases) in
    let one : t ≡ table = λ i. record { bytes = bytes i; entries = entries i } in
    true≢false (sym (c.is_as_recorded.ensures.1 (subst (IsAsRecorded c.args.file.now) one recorded)) ∙ c.if-not-is_as_recorded.true)
