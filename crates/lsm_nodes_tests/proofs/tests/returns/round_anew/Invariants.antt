-- The ledger is the one that was begun, and the history starts at the coordinator that was opened.
use Rattle.lsm_nodes_tests.proofs.tests.returns.round_anew.Given as goal

abbrev pub ghosts-round-J-Ledger : goal.ghosts-round-J-Ledger
ghosts-round-J-Ledger g a = record { name = a.blank.name; parts = a.blank.parts }

abbrev pub ghosts-round-J-Start : goal.ghosts-round-J-Start
ghosts-round-J-Start g a = record { start = a.coord }
