-- The ledger is the one that was begun, and the history starts at the coordinator that was opened.
use Rattle.lsm_threads_tests.proofs.tests.answering.answer_anew.Given as goal

abbrev pub ghosts-answer-J-Ledger : goal.ghosts-answer-J-Ledger
ghosts-answer-J-Ledger g a = record { name = a.blank.name; parts = a.blank.parts }

abbrev pub ghosts-answer-J-Start : goal.ghosts-answer-J-Start
ghosts-answer-J-Start g a = record { start = a.coord }
