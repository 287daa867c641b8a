-- The log is the one that was begun.
use Rattle.lsm_threads_tests.proofs.tests.following.followed_anew.Given as goal

abbrev pub ghosts-followed : goal.ghosts-followed
ghosts-followed g a = record { log = a.log }
