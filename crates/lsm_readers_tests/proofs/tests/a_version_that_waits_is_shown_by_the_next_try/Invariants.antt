use Rattle.lsm_readers_tests.proofs.tests.a_version_that_waits_is_shown_by_the_next_try.Given as goal

abbrev pub ghosts-caught_up : goal.ghosts-caught_up
ghosts-caught_up g a = record { log = a.log }
