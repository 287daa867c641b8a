-- The ledger is the one that was begun, and the history starts at the coordinator that was opened.
use Rattle.lsm_nodes_tests.proofs.tests.away.counted_anew.Given as goal

abbrev pub ghosts-counted-J-Ledger : goal.ghosts-counted-J-Ledger
ghosts-counted-J-Ledger g a = record { name = a.blank.name; parts = a.blank.parts }

abbrev pub ghosts-counted-J-Start : goal.ghosts-counted-J-Start
ghosts-counted-J-Start g a = record { start = a.coord }
