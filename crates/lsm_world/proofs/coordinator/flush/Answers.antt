-- A flush that is refused has stored at most a table that no file has.
use Rattle.lsm_world.proofs.PlainReplies.{flush_plain}
use Rattle.lsm_world.proofs.SameFiles.{flush_keeps}
use Rattle.lsm_world.proofs.coordinator.flush.Goals as goal

pub returns-in-Err-clause-files : goal.returns-in-Err-clause-files
returns-in-Err-clause-files g c = flush_keeps _ _ c.in-Err.error c.in-Err.ensures.refused c.flush-flushed.ensures.sound

pub returns-in-Err-clause-plain : goal.returns-in-Err-clause-plain
returns-in-Err-clause-plain g c = flush_plain c.args.coord.now c.flush-flushed.new.self c.in-Err.error c.in-Err.ensures.refused
