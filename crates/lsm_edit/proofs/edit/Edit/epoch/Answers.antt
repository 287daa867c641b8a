use Rattle.lsm_edit.proofs.NextLaws.{epoch_applies}
use Rattle.lsm_edit.proofs.edit.Edit.epoch.Goals as goal

pub returns-clause-applies : goal.returns-clause-applies
returns-clause-applies c =
    let v = c.args.version.now in
    let is = c.number.ensures.sound in
    rw (c.number.ensures.value, c.flushed.ensures, c.epoch.ensures.value, c.next_file.ensures.value, c.new.ensures, c.new-2.ensures)
    (epoch_applies v is)
