-- The ledger is the one that was begun, and the history starts at the coordinator that was opened.
use Rattle.lsm_threads_tests.proofs.tests.linked.carry_anew.Given as goal

abbrev pub ghosts-carry-J-Ledger : goal.ghosts-carry-J-Ledger
ghosts-carry-J-Ledger g a = record { name = a.blank.name; parts = a.blank.parts }

abbrev pub ghosts-carry-J-Start : goal.ghosts-carry-J-Start
ghosts-carry-J-Start g a = record { start = a.coord }
