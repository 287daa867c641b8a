use Rattle.lsm_world.proofs.WrongChains.{late_result_not_installed, let_go_not_served, lost_counts_nothing, returned_installs_nothing}
use Rattle.lsm_world.proofs.WrongRuns.{dead_snapshot, epoch_again, merged_again, sequence_twice, skipped_write, two_listings, version_not_held, write_lost}
use Rattle.lsm_world.proofs.laws.wrong_worlds.Goals as goal

pub returns : goal.returns
returns c = record { held = version_not_held; skipped = skipped_write; twice = sequence_twice; epoch = epoch_again; listings = two_listings; merged = merged_again; snapshot = dead_snapshot; newest = write_lost; late = late_result_not_installed; returned = returned_installs_nothing; let_go = let_go_not_served; lost = lost_counts_nothing }
