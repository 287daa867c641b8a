-- A freeze that is refused leaves the files.
use Rattle.lsm_coord.specs.Contract.Calls.{freeze_fault}
use Rattle.lsm_world.proofs.PlainReplies.{freeze_plain}
use Rattle.lsm_world.proofs.SameFiles.{append_keeps}
use Rattle.lsm_world.proofs.coordinator.freeze.Goals as goal

pub returns-in-Err-clause-files : goal.returns-in-Err-clause-files
returns-in-Err-clause-files g c = append_keeps (freeze_fault c.args.coord.now) _ _ c.in-Err.error c.in-Err.ensures.refused c.freeze.ensures.sound

pub returns-in-Err-clause-plain : goal.returns-in-Err-clause-plain
returns-in-Err-clause-plain g c = freeze_plain c.args.coord.now c.freeze.new.self c.in-Err.error c.in-Err.ensures.refused
