-- The workers of a coordinator and the claims of the jobs that they have (RocksDB wiki, Remote Compaction: the primary waits for each job that it handed out).
use Rattle.std.specs.Prelude.{◌≡◌, ℕ, ◌-◌, Bool, true, false, List, [], ◌∷◌, Option, None, Some, get_or, slice_set, flat_map, nat_le, if◌then◌else◌}
use Rattle.std.specs.List.{list_any}
use Rattle.lsm_key.specs.Sets.{IsIn}
use Rattle.lsm_claim.specs.declared.job.JobId.{JobId}
use Rattle.lsm_claim.specs.declared.job.LiveJob.{LiveJob}
use Rattle.lsm_claim.specs.Book.{BookValue}
use Rattle.lsm_coord.specs.Contract.Calls.{after_give_back}
use Rattle.lsm_coord.specs.Contract.Value.{CoordValue}
use Rattle.lsm_dispatch.specs.declared.crew.WorkerState.{WorkerState}
use Rattle.lsm_dispatch.specs.declared.crew.WorkerState.TheVariants.{Gone, Idle, Busy}

-- ---- a worker

-- the claim of the job that a worker has, if it has one
abbrev pub busy_job : WorkerState → Option LiveJob
busy_job Gone = None
busy_job Idle = None
busy_job (Busy job) = Some job

-- the name of that job, in a list of one or none
abbrev pub busy_claim : WorkerState → List JobId
busy_claim Gone = []
busy_claim Idle = []
busy_claim (Busy job) = job.id ∷ []

-- whether the worker has a job
abbrev pub is_busy : WorkerState → Bool
is_busy Gone = false
is_busy Idle = false
is_busy (Busy job) = true

-- the worker has the job of this name
abbrev pub IsBusyWith : WorkerState → JobId → Type 0
IsBusyWith Gone id = ⊥
IsBusyWith Idle id = ⊥
IsBusyWith (Busy job) id = job.id ≡ id

-- ---- four workers

-- the state of the worker of this number at first: idle if its number is no more than the count, else gone
abbrev pub start_state : ℕ → ℕ → WorkerState
start_state count number = if nat_le number count then Idle else Gone

-- the four workers at first
abbrev pub new_crew : ℕ → List WorkerState
new_crew count = start_state count 1 ∷ start_state count 2 ∷ start_state count 3 ∷ start_state count 4 ∷ []

-- the state of the worker of an index, which counts from 1
abbrev pub state_of : List WorkerState → ℕ → WorkerState
state_of crew index = get_or crew (index - 1) Gone

-- the crew with the worker of this index in another state
abbrev pub with_state : List WorkerState → ℕ → WorkerState → List WorkerState
with_state crew index state = slice_set crew (index - 1) state

-- the names of the jobs that the workers have
abbrev pub busy_claims : List WorkerState → List JobId
busy_claims crew = flat_map busy_claim crew

-- whether any worker has a job
abbrev pub has_busy : List WorkerState → Bool
has_busy crew = list_any is_busy crew

-- each live job is one that a worker of the crew has
abbrev pub CrewHolds : BookValue → List WorkerState → Type 0
CrewHolds book crew = (j : LiveJob) → IsIn j book.live → IsIn j.id (busy_claims crew)

-- the jobs of these names are live no more, and no job has become live
abbrev pub Ends : BookValue → List JobId → BookValue → Type 0
Ends old ids new = (j : LiveJob) → IsIn j new.live → IsIn j old.live × (IsIn j.id ids → ⊥)

-- a coordinator after a worker has left this state: the claim of a busy worker is given back
abbrev pub after_leaving : CoordValue → WorkerState → CoordValue
after_leaving c Gone = c
after_leaving c Idle = c
after_leaving c (Busy job) = after_give_back c job.id

-- a coordinator after each worker of a crew, in order, has left its state
abbrev pub after_all_leave : CoordValue → List WorkerState → CoordValue
after_all_leave c [] = c
after_all_leave c (s ∷ ss) = after_all_leave (after_leaving c s) ss
