-- The ledger is the one that was begun, and the history starts at the coordinator that was opened.
use Rattle.lsm_nodes_tests.proofs.tests.memory.closes_anew.Given as goal

abbrev pub ghosts-closes-J-Ledger : goal.ghosts-closes-J-Ledger
ghosts-closes-J-Ledger g a = record { name = a.blank.name; parts = a.blank.parts }

abbrev pub ghosts-closes-J-Start : goal.ghosts-closes-J-Start
ghosts-closes-J-Start g a = record { start = a.coord }
