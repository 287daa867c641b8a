-- The ledger is the one that was begun, and the history starts at the coordinator that was opened.
use Rattle.lsm_nodes_tests.proofs.tests.claims.outlives_anew.Given as goal

abbrev pub ghosts-outlives-J-Ledger : goal.ghosts-outlives-J-Ledger
ghosts-outlives-J-Ledger g a = record { name = a.blank.name; parts = a.blank.parts }

abbrev pub ghosts-outlives-J-Start : goal.ghosts-outlives-J-Start
ghosts-outlives-J-Start g a = record { start = a.coord }
