use Rattle.lsm_edit.proofs.HeldLogs.{bytes_held, cut_held, freeze_held, frozen_flushed, log_flushed, write_held}
use Rattle.lsm_edit.proofs.laws.log.a_log_holds_what_a_store_has.Goals as goal

pub returns : goal.returns
returns c = record { bytes = bytes_held; write = write_held; freeze = freeze_held; frozen = frozen_flushed; all = log_flushed; cut = cut_held }
