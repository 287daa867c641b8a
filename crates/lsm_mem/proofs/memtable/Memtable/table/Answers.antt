use Rattle.std.proofs.Common.{sym, subst}
use Rattle.lsm_key.specs.Entries.{AreSound}
use Rattle.lsm_key.specs.Order.{IsAscending}
use Rattle.lsm_mem.proofs.MemtableTotals.{noted_sound}
use Rattle.lsm_mem.proofs.memtable.Memtable.table.Goals as goal

pub table_of-requires-clause-sound : goal.table_of-requires-clause-sound
table_of-requires-clause-sound c = subst AreSound (sym c.cursor.ensures) (noted_sound c.self.inside.buckets c.self.inside.weight c.self.inside.count c.self.inside.last c.self.invariant).sound

pub table_of-requires-clause-ascending : goal.table_of-requires-clause-ascending
table_of-requires-clause-ascending c = subst IsAscending (sym c.cursor.ensures) (noted_sound c.self.inside.buckets c.self.inside.weight c.self.inside.count c.self.inside.last c.self.invariant).ascending
