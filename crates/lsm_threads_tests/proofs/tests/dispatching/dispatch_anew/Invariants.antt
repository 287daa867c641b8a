-- The ledger is the one that was begun, and the history starts at the coordinator that was opened.
use Rattle.lsm_threads_tests.proofs.tests.dispatching.dispatch_anew.Given as goal

abbrev pub ghosts-dispatch-J-Ledger : goal.ghosts-dispatch-J-Ledger
ghosts-dispatch-J-Ledger g a = record { name = a.blank.name; parts = a.blank.parts }

abbrev pub ghosts-dispatch-J-Start : goal.ghosts-dispatch-J-Start
ghosts-dispatch-J-Start g a = record { start = a.coord }
