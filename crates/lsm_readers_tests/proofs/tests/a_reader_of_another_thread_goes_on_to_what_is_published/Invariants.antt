use Rattle.lsm_readers_tests.proofs.tests.a_reader_of_another_thread_goes_on_to_what_is_published.Given as goal

abbrev pub ghosts-published_beside : goal.ghosts-published_beside
ghosts-published_beside g a = record { log = a.log }
