use Rattle.lsm_world.proofs.WorkedSchedules.{claims_are_given_back, each_call_answers, followers_go_on, job_is_merged_and_installed}
use Rattle.lsm_world.proofs.laws.worked_schedules.Goals as goal

pub returns : goal.returns
returns c = record { calls = each_call_answers; job = job_is_merged_and_installed; claims = claims_are_given_back; followers = followers_go_on }
