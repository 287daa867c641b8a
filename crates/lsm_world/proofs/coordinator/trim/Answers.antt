-- A trim lets retired files go, and nothing else.
use Rattle.lsm_world.proofs.PlainReplies.{trim_plain}
use Rattle.lsm_world.proofs.SameFiles.{trim_keeps, trimmed_files}
use Rattle.lsm_world.proofs.coordinator.trim.Goals as goal

pub returns-in-Err-clause-files : goal.returns-in-Err-clause-files
returns-in-Err-clause-files g c = trim_keeps _ _ c.args.number c.in-Err.error c.in-Err.ensures.refused c.trim.ensures.sound

pub returns-in-Err-clause-plain : goal.returns-in-Err-clause-plain
returns-in-Err-clause-plain g c = trim_plain c.args.coord.now c.trim.new.self c.args.number c.in-Err.error c.in-Err.ensures.refused

pub returns-in-Ok-clause-files : goal.returns-in-Ok-clause-files
returns-in-Ok-clause-files g c = trimmed_files _ _ c.args.number c.trim.new.self.failures c.in-Ok.ensures.ok.1 c.trim.ensures.sound
