-- The ledger and the log are the ones that were begun, and the history starts at the coordinator that was opened.
use Rattle.lsm_threads.proofs.run.run_threads_of.Given as goal

abbrev pub ghosts-over_hub-J-Ledger : goal.ghosts-over_hub-J-Ledger
ghosts-over_hub-J-Ledger g a = record { name = a.blank.name; parts = a.blank.parts }

abbrev pub ghosts-over_hub-J-Start : goal.ghosts-over_hub-J-Start
ghosts-over_hub-J-Start g a = record { start = a.coord }

abbrev pub ghosts-over_hub-J-LogName : goal.ghosts-over_hub-J-LogName
ghosts-over_hub-J-LogName g a = record { log = a.log }
