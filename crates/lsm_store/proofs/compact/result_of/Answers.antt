use Rattle.std.proofs.Common.{List, sym, subst, ◌∙◌}
use Rattle.lsm_table.specs.Tables.{Opened}
use Rattle.lsm_edit.specs.Served.{AreAsRecorded}
use Rattle.lsm_merge.specs.declared.error.MergeError.{MergeError}
use Rattle.lsm_merge.specs.Inputs.{IsRefused}
use Rattle.lsm_store.proofs.ServedTables.{are_recorded}
use Rattle.lsm_store.proofs.compact.result_of.Goals as goal

pub returns-in-Err-WrongInputs : goal.returns-in-Err-WrongInputs
returns-in-Err-WrongInputs g c = λ served.
    let know = c.show-listing.ensures.fit in
    let tables = c.as_slice.ensures.value ∙ c.in_ok-tables.ensures in
    let refused = subst (λ (e : MergeError). IsRefused c.as_slice.result.now c.args.job.now e) c.in-Err-WrongInputs.field-0-is c.in-Err-WrongInputs.ensures.refused in
    absurd (refused (subst (λ (ts : List Opened). AreAsRecorded c.args.job.now.inputs ts) (sym tables) (rw (c.inputs.ensures.all) (are_recorded c.args.coord.now.served know.version know.served c.args.job.now.inputs served))))
