use Rattle.lsm_readers_tests.proofs.tests.a_reader_that_was_told_answers_at_what_was_told.Given as goal

abbrev pub ghosts-told : goal.ghosts-told
ghosts-told g a = record { log = a.log }
