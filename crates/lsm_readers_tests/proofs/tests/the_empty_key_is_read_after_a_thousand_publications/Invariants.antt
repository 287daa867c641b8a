use Rattle.lsm_readers_tests.proofs.tests.the_empty_key_is_read_after_a_thousand_publications.Given as goal

abbrev pub ghosts-many_published : goal.ghosts-many_published
ghosts-many_published g a = record { log = a.log }
