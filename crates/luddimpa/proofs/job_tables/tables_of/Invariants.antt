use Rattle.std.proofs.Common.{◌≡◌, ◌++◌, take}
use Rattle.lsm_edit.specs.Served.{AreAsRecorded}
use Rattle.luddimpa.specs.JobMerges.{sized_tables}
use Rattle.luddimpa.proofs.job_tables.tables_of.Given as goal

-- the tables that were taken are those of the files so far
abbrev pub invariant-loop-at : goal.invariant-loop-at
invariant-loop-at l = AreAsRecorded (take l.at l.files) l.tables.items × (l.bytes ≡ sized_tables l.tables.items ++ l.rest)
