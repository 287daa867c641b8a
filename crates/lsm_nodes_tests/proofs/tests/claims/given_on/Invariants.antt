-- The ledger of the second hub is the one that was begun there, and its history starts at the coordinator that was restarted.
use Rattle.lsm_nodes_tests.proofs.tests.claims.given_on.Given as goal

abbrev pub ghosts-given_to_another-J-Ledger : goal.ghosts-given_to_another-J-Ledger
ghosts-given_to_another-J-Ledger g a = record { name = a.blank.name; parts = a.blank.parts }

abbrev pub ghosts-given_to_another-J-Start : goal.ghosts-given_to_another-J-Start
ghosts-given_to_another-J-Start g a = record { start = a.coord }
