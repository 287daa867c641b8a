use Rattle.lsm_world.proofs.SameFiles.{snapshot_keeps}
use Rattle.lsm_world.proofs.coordinator.snapshot.Goals as goal

pub returns-in-Ok-clause-files : goal.returns-in-Ok-clause-files
returns-in-Ok-clause-files g c = snapshot_keeps _ _ c.requires.shown c.in-Ok.ensures.sound c.in-Ok.ensures.ok.1
