-- Dispatchers and their desk: the holders of the claims of jobs that were handed out (RocksDB wiki, Remote Compaction: the primary waits for each job that it handed out).
use Rattle.std.specs.Prelude.{ℕ, ◌-◌, List, [], ◌∷◌, Option, None, Some, get_or, slice_set, flat_map}
use Rattle.lsm_claim.specs.declared.job.JobId.{JobId}
use Rattle.lsm_claim.specs.declared.job.LiveJob.{LiveJob}
use Rattle.lsm_coord.specs.declared.dispatcher.Dispatcher.{Dispatcher}
use Rattle.lsm_coord.specs.declared.dispatcher.Dispatcher.TheVariants.{Idle, Busy}

-- the job whose claim a dispatcher holds
abbrev pub job_of : Dispatcher → Option LiveJob
job_of Idle = None
job_of (Busy job) = Some job

-- its name, if there is one
abbrev pub claim_of : Dispatcher → List JobId
claim_of Idle = []
claim_of (Busy job) = job.id ∷ []

-- the names of the claims that a desk holds, dispatcher after dispatcher
abbrev pub claims_of : List Dispatcher → List JobId
claims_of desk = flat_map claim_of desk

-- four dispatchers that hold nothing
abbrev pub new_desk : List Dispatcher
new_desk = Idle ∷ Idle ∷ Idle ∷ Idle ∷ []

-- the dispatcher of an index, which counts from 1
abbrev pub dispatcher_of : List Dispatcher → ℕ → Dispatcher
dispatcher_of desk index = get_or desk (index - 1) Idle

-- another one in its place
abbrev pub with_dispatcher : List Dispatcher → ℕ → Dispatcher → List Dispatcher
with_dispatcher desk index dispatcher = slice_set desk (index - 1) dispatcher
