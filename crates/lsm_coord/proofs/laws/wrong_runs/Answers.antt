use Rattle.lsm_coord.proofs.Examples.{lost_write, short_flush, empty_listing, lost_at_restart, snapshot_kept, kept_after_device, unforced_refusal, file_twice, newer_value, second_write_lost, file_forgotten, flush_loses_write, install_of_nothing, number_used_again, leap, fall_back, name_twice, flushed_write_lost, floor_falls, down_while_up, answer_while_down}
use Rattle.lsm_coord.proofs.laws.wrong_runs.Goals as goal

pub returns : goal.returns
returns c = record { lost = lost_write; short = short_flush; listing = empty_listing; dropped = lost_at_restart; kept = snapshot_kept; failed = kept_after_device; refused = unforced_refusal; twice = file_twice; newer = newer_value; second = second_write_lost; forgotten = file_forgotten; emptied = flush_loses_write; nothing = install_of_nothing; again = number_used_again; leap = leap; back = fall_back; name = name_twice; gone = flushed_write_lost; floor = floor_falls; up = down_while_up; down = answer_while_down }
