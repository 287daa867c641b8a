use Rattle.std.proofs.Common.{ap, ◌∙◌}
use Rattle.lsm_mem.specs.Memtable.{last_sequence}
use Rattle.lsm_mem.proofs.MemtableTotals.{noted_sound, up_to_last}
use Rattle.lsm_mem.proofs.memtable.Memtable.last_seq.Goals as goal

pub returns-clause-early : goal.returns-clause-early
returns-clause-early c e m = rw (c.self.invariant.newest ∙ ap last_sequence c.self.view_is) (up_to_last c.args.self.now e m)

pub returns-clause-sound : goal.returns-clause-sound
returns-clause-sound c = rw (← c.self.view_is) (noted_sound c.self.inside.buckets c.self.inside.weight c.self.inside.count c.self.inside.last c.self.invariant)
