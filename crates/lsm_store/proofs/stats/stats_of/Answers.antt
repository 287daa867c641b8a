use Rattle.lsm_store.proofs.stats.stats_of.Goals as goal

pub returns : goal.returns
returns c = record { files_are = c.count_of.ensures; bytes_are = c.bytes_of.ensures; entries_are = c.entries_of.ensures }
