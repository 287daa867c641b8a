-- What a worker does with a message (RocksDB wiki, Remote Compaction: a worker gets the input of a job, compacts it, and sends the result back).
use Rattle.std.specs.Prelude.{◌≡◌, ◌⊎◌, ℕ, Bool, not, ◌&&◌, ◌||◌, List, [], ◌∷◌, ◌++◌, Option, None, Some, length, map, filter, nat_eq, nat_lt, if◌then◌else◌}
use Rattle.lsm_key.specs.Sets.{IsIn, is_among}
use Rattle.lsm_table.specs.Tables.{Opened}
use Rattle.lsm_claim.specs.declared.job.JobId.{JobId}
use Rattle.lsm_claim.specs.Jobs.{same_job_id}
use Rattle.lsm_edit.specs.declared.file.FileMeta.{FileMeta}
use Rattle.lsm_edit.specs.declared.served.Placed.{Placed}
use Rattle.lsm_edit.specs.Served.{IsAwaited}
use Rattle.lsm_msg.specs.declared.job.JobParts.{JobParts}
use Rattle.lsm_msg.specs.declared.message.Body.{Body}
use Rattle.lsm_msg.specs.declared.message.Body.TheVariants as body
use Rattle.lsm_msg.specs.declared.message.Message.{Message}
use Rattle.lsm_msg.specs.declared.node.Node.TheVariants.{Worker}
use Rattle.lsm_msg.specs.Messages.{fetches, to_coordinator}
use Rattle.lsm_merge.specs.Inputs.{HaveSameEntry, CanMerge, lists_of}
use Rattle.lsm_merge.specs.Outputs.{IsMerge}
use Rattle.lsm_work.specs.declared.change.WorkChange.{WorkChange}
use Rattle.lsm_work.specs.declared.change.WorkChange.TheVariants.{Collecting, Merged, Dropped, Ignored}

-- what contracts see of a task: a job, with what has come of its inputs
pub record TaskValue : Type 0 where
  pub job : JobParts
  pub received : List Placed  -- the inputs that have come, with their tables, by number

-- what contracts see of a worker
pub record WorkerValue : Type 0 where
  pub index : ℕ
  pub task : Option TaskValue  -- none while it is idle

-- what comes of a message
pub record WorkOutcome : Type 0 where
  pub change : WorkChange
  pub sent : List Message
  pub worker : WorkerValue

-- ---- tasks

-- no input has come
abbrev pub new_task : JobParts → TaskValue
new_task job = record { job = job; received = [] }

-- the numbers of the files
abbrev pub numbers_of : List Placed → List ℕ
numbers_of places = map (λ p. p.meta.number) places

-- the inputs that have not come, by number
abbrev pub missing : TaskValue → List FileMeta
missing t = filter (λ f. not (is_among (numbers_of t.received) f.number)) t.job.inputs

-- all inputs have come
abbrev pub IsComplete : TaskValue → Type 0
IsComplete t = map (λ p. p.meta) t.received ≡ t.job.inputs

-- the tables of the inputs that have come
abbrev pub received_tables : TaskValue → List Opened
received_tables t = map (λ p. p.table) t.received

-- one input more has come
abbrev pub with_input : Placed → TaskValue → TaskValue
with_input p t = record t { received = filter (λ q. nat_lt q.meta.number p.meta.number) t.received ++ p ∷ filter (λ q. nat_lt p.meta.number q.meta.number) t.received }

-- a job is later than another by its epoch, and in one epoch by its number
abbrev pub is_later : JobId → JobId → Bool
is_later a b = nat_lt b.epoch a.epoch || (nat_eq a.epoch b.epoch && nat_lt b.number a.number)

-- ---- what comes of a message

-- nothing changes, and nothing is sent
abbrev pub ignores : WorkerValue → WorkOutcome
ignores w = record { change = Ignored; sent = []; worker = w }

-- it has this task, and sends messages
abbrev pub collects : WorkerValue → TaskValue → List Message → WorkOutcome
collects w t sent = record { change = Collecting (length (missing t)); sent = sent; worker = record w { task = Some t } }

-- it has this task, and asks for each missing input
abbrev pub fetching : WorkerValue → TaskValue → WorkOutcome
fetching w t = collects w t (fetches (Worker w.index) (missing t))

-- it drops its task, and is idle
abbrev pub drops : WorkerValue → WorkOutcome
drops w = record { change = Dropped; sent = []; worker = record w { task = None } }

-- it sends these outputs to the coordinator as the result of the job, and is idle
abbrev pub sends_result : WorkerValue → JobId → List (List ℕ) → WorkOutcome
sends_result w id outputs =
    record { change = Merged; sent = to_coordinator (Worker w.index) (body.Result (record { job = id; tables = outputs })) ∷ []; worker = record w { task = None } }

-- a job: an idle worker takes each; another asks again for what it lacks, takes a later one in place of its own, and ignores the rest
abbrev pub after_job : WorkerValue → JobParts → Option TaskValue → WorkOutcome
after_job w job None = fetching w (new_task job)
after_job w job (Some t) =
    if same_job_id job.id t.job.id then fetching w t
    else if is_later job.id t.job.id then fetching w (new_task job)
    else ignores w

-- a file that is no longer served
abbrev pub after_gone : WorkerValue → ℕ → Option TaskValue → WorkOutcome
after_gone w number None = ignores w
after_gone w number (Some t) = if is_among (map (λ f. f.number) (missing t)) number then drops w else ignores w

-- the tables of a job are merged
abbrev pub MergesInputs : WorkerValue → TaskValue → WorkOutcome → Type 0
MergesInputs w t o =
    ((outputs : List (List ℕ)) × CanMerge (received_tables t) t.job × IsMerge (received_tables t) t.job outputs × (o ≡ sends_result w t.job.id outputs))
    ⊎ (HaveSameEntry (lists_of (received_tables t)) × (o ≡ drops w))

-- one input more has come: it waits for those that are still missing, or merges
abbrev pub Proceeds : WorkerValue → TaskValue → List FileMeta → WorkOutcome → Type 0
Proceeds w t (f ∷ fs) o = o ≡ collects w t []
Proceeds w t [] o = IsComplete t × MergesInputs w t o

-- a table: it counts only if it is awaited
abbrev pub TakesTable : WorkerValue → ℕ → List ℕ → Option TaskValue → WorkOutcome → Type 0
TakesTable w number bytes None o = o ≡ ignores w
TakesTable w number bytes (Some t) o =
    ((p : Placed) × IsAwaited (missing t) number bytes p × Proceeds w (with_input p t) (missing (with_input p t)) o)
    ⊎ (((p : Placed) → IsAwaited (missing t) number bytes p → ⊥) × (o ≡ ignores w))

-- what comes of a message to a worker
abbrev pub Works : WorkerValue → Body → WorkOutcome → Type 0
Works w (body.Job job) o = o ≡ after_job w job w.task
Works w (body.Table number bytes) o = TakesTable w number bytes w.task o
Works w (body.Gone number) o = o ≡ after_gone w number w.task
Works w (body.Fetch number) o = o ≡ ignores w
Works w (body.Result made) o = o ≡ ignores w
Works w (body.Ask number) o = o ≡ ignores w
Works w (body.Edit edit) o = o ≡ ignores w
Works w (body.Base version) o = o ≡ ignores w
Works w (body.Current number) o = o ≡ ignores w
