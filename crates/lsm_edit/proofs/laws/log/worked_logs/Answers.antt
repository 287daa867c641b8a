use Rattle.lsm_edit.proofs.WorkedLogs.{these_bytes, holds_above, gap_is_bad, others_are_bad, two_memtables_good, empty_holds}
use Rattle.lsm_edit.proofs.laws.log.worked_logs.Goals as goal

pub returns : goal.returns
returns c = record { bytes = these_bytes; above = holds_above; gap = gap_is_bad; others = others_are_bad; good = two_memtables_good; empty = empty_holds }
