-- The ledger is the one that was begun, and the history starts at the coordinator that was opened.
use Rattle.lsm_nodes_tests.proofs.tests.calls.seen_anew.Given as goal

abbrev pub ghosts-seen-J-Ledger : goal.ghosts-seen-J-Ledger
ghosts-seen-J-Ledger g a = record { name = a.blank.name; parts = a.blank.parts }

abbrev pub ghosts-seen-J-Start : goal.ghosts-seen-J-Start
ghosts-seen-J-Start g a = record { start = a.coord }
