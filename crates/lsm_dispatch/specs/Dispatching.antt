-- What a dispatch does to a coordinator: it takes the results that workers bring, hands out jobs, and finds what is still due (RocksDB wiki,
-- Remote Compaction: the primary alone installs what a worker made of a job). `old` is the coordinator before a step and `new` the one after
-- it, `crew` the states of the workers before it and `crew_new` those after it.
use Rattle.std.specs.Prelude.{◌≡◌, ◌⊎◌, ℕ, Bool, true, false, List, [], ◌∷◌, Option, None, Some, Result, Ok, Err, MatchOption, if◌then◌else◌}
use Rattle.lsm_key.specs.Sets.{IsIn}
use Rattle.lsm_claim.specs.declared.job.LiveJob.{LiveJob}
use Rattle.lsm_claim.specs.Book.{holds}
use Rattle.lsm_msg.specs.declared.job.JobParts.{JobParts}
use Rattle.lsm_msg.specs.declared.job.JobResult.{JobResult}
use Rattle.lsm_msg.specs.declared.message.Body.{Body}
use Rattle.lsm_msg.specs.declared.message.Body.TheVariants as body
use Rattle.lsm_msg.specs.declared.message.Message.{Message}
use Rattle.lsm_msg.specs.declared.node.Node.{Node}
use Rattle.lsm_msg.specs.declared.node.Node.TheVariants as node
use Rattle.lsm_coord.specs.declared.coord.install.Install.TheVariants as became
use Rattle.lsm_coord.specs.declared.coord.install.InstallError.{InstallError}
use Rattle.lsm_coord.specs.declared.coord.install.InstallError.TheVariants.{BadResult, WrongJob}
use Rattle.lsm_coord.specs.declared.error.CoordError.{CoordError}
use Rattle.lsm_coord.specs.declared.error.CoordError.TheVariants as refusal
use Rattle.lsm_coord.specs.Contract.Calls.{TrimRefuses, after_give_back, with_live_tables}
use Rattle.lsm_coord.specs.Contract.Installing.{Became, HoldsSoundMerge}
use Rattle.lsm_coord.specs.Contract.Picking.{HasFreeClaim, IsPicked, IsPickedAfter, NothingToCompact, OnlyTooLarge, PickRefuses}
use Rattle.lsm_coord.specs.Contract.Replies.{error_of}
use Rattle.lsm_coord.specs.Contract.Serving.{TakesMemory}
use Rattle.lsm_coord.specs.Contract.Value.{CoordValue}
use Rattle.lsm_pick.specs.After.{CompactPointersValue}
use Rattle.lsm_store.specs.Store.{IsNoneDue, Keeps}
use Rattle.lsm_store.specs.declared.due.Due.{Due}
use Rattle.lsm_store.specs.declared.due.Due.TheVariants as due
use Rattle.lsm_dispatch.specs.declared.crew.WorkerState.{WorkerState}
use Rattle.lsm_dispatch.specs.declared.crew.WorkerState.TheVariants.{Gone, Idle, Busy}
use Rattle.lsm_dispatch.specs.Crews.{CrewHolds, IsBusyWith, state_of, with_state}

-- ---- a claim whose result comes

-- What becomes of a claim when a result of its job comes. `Ok (Some number)`: the result is installed, as the version of this number.
-- `Ok None`: the job is live no more, and nothing changes. `Err why`: the install is refused, and the claim is given back.
abbrev pub Settles : CoordValue → LiveJob → JobResult → Result (Option ℕ) InstallError → CoordValue → Type 0
Settles old claim made (Ok (Some number)) new = (files : List ℕ) × Became old claim made (became.Done number files) new
Settles old claim made (Ok None) new = (holds old.book claim.id ≡ false) × (new ≡ old)
Settles old claim made (Err why) new = (mid : CoordValue) × Became old claim made (became.Kept claim why) mid × (new ≡ after_give_back mid claim.id)

-- Whether the worker goes on to take jobs: not if its result is of another job, or no output of its own.
abbrev pub stays_after : Result (Option ℕ) InstallError → Bool
stays_after (Ok number) = true
stays_after (Err WrongJob) = false
stays_after (Err BadResult) = false
stays_after (Err why) = true

-- A trim to the version of this number: the floor rises to it, and each table that only earlier versions list is gone from the vault.
-- Beside that only the count of the device's failures may change.
abbrev pub TrimsTo : CoordValue → ℕ → CoordValue → Type 0
TrimsTo old number new = new ≡ record (with_live_tables old number) { failures = new.failures }

-- Behind an install comes a trim to its version; where nothing was installed, nothing is trimmed.
abbrev pub TrimsAfter : Result (Option ℕ) InstallError → CoordValue → CoordValue → Type 0
TrimsAfter (Ok (Some number)) mid new = TrimsTo mid number new
TrimsAfter (Ok None) mid new = new ≡ mid
TrimsAfter (Err why) mid new = new ≡ mid

-- A result of a claim's job is taken: the claim is settled, and what an install replaced is trimmed. `stays` is whether its worker stays.
pub record TakesClaim (old : CoordValue) (claim : LiveJob) (made : JobResult) (stays : Bool) (new : CoordValue) : Type 0 where
  pub answer : Result (Option ℕ) InstallError
  pub mid : CoordValue  -- the claim is settled, and nothing is trimmed yet
  pub settles : Settles old claim made answer mid
  pub trims : TrimsAfter answer mid new
  pub stays_is : stays ≡ stays_after answer

-- The errors of taking a result: its install failed through no fault of the worker, or it succeeded and the trim after it failed.
abbrev pub ResultRefuses : CoordValue → LiveJob → JobResult → CoordError → CoordValue → Type 0
ResultRefuses old claim made e new =
    ((why : InstallError) × Settles old claim made (Err why) new × (stays_after (Err why) ≡ true) × (e ≡ error_of why))
    ⊎ ((number : ℕ) × (mid : CoordValue) × Settles old claim made (Ok (Some number)) mid × TrimRefuses mid number e new)

-- ---- a message that comes

-- The worker that sent the message, and its result; none if no worker sent it, or if it brings no result.
abbrev pub result_in : Node → Body → Option (ℕ × JobResult)
result_in (node.Worker index) (body.Result made) = Some (index, made)
result_in src said = None

-- The worker of this index has the result's job, and the result is taken. The worker is idle then, or gone if it does not stay.
pub record CrewTakes (crew : List WorkerState) (old : CoordValue) (index : ℕ) (made : JobResult) (crew_new : List WorkerState) (new : CoordValue) : Type 0 where
  pub claim : LiveJob
  pub had : state_of crew index ≡ Busy claim
  pub stays : Bool
  pub takes : TakesClaim old claim made stays new
  pub state : crew_new ≡ with_state crew index (if stays then Idle else Gone)

-- The worker of this index has the result's job, and taking the result ends in an error. The worker is idle then.
pub record CrewRefuses (crew : List WorkerState) (old : CoordValue) (index : ℕ) (made : JobResult) (e : CoordError) (crew_new : List WorkerState) (new : CoordValue) : Type 0 where
  pub claim : LiveJob
  pub had : state_of crew index ≡ Busy claim
  pub of_job : claim.id ≡ made.job
  pub refuses : ResultRefuses old claim made e new
  pub idle : crew_new ≡ with_state crew index Idle

-- What a message changes: a result is taken if the worker that sent it has its job. Any other message, also a question, changes nothing.
abbrev pub HandlesMessage : List WorkerState → CoordValue → Node → Body → List WorkerState → CoordValue → Type 0
HandlesMessage crew old src said crew_new new = MatchOption (result_in src said) ((crew_new ≡ crew) × (new ≡ old)) (λ r.
    (IsBusyWith (state_of crew r.0) r.1.job → CrewTakes crew old r.0 r.1 crew_new new)
    × ((IsBusyWith (state_of crew r.0) r.1.job → ⊥) → (crew_new ≡ crew) × (new ≡ old)))

-- The errors of handling a message. With a result: that of taking it. With a question: there is no memory for its answer, and nothing changes.
abbrev pub HandlingRefuses : List WorkerState → CoordValue → Node → Body → CoordError → List WorkerState → CoordValue → Type 0
HandlingRefuses crew old src said e crew_new new =
    MatchOption (result_in src said) ((e ≡ refusal.OutOfMemory) × TakesMemory old said × (crew_new ≡ crew) × (new ≡ old)) (λ r. CrewRefuses crew old r.0 r.1 e crew_new new)

-- ---- a job that is handed out

-- The errors of picking a job for a worker: all that a pick may be refused for, except that each compaction exceeds a limit (`TooWide`).
abbrev pub JobRefuses : CoordValue → CoordError → Type 0
JobRefuses c e = PickRefuses c e × (e ≡ refusal.TooWide → ⊥)

-- `Some sent`: the worker was idle; the job that is next in the order of some compact pointers is picked, the worker has its claim, and `sent` is the
-- message that takes the job to it.
-- `None`: the worker was not idle, or no compaction is due that a job may hold; nothing changes.
abbrev pub HandsOut : List WorkerState → CoordValue → ℕ → List WorkerState → CoordValue → Option Message → Type 0
HandsOut crew old index crew_new new (Some sent) =
    (state_of crew index ≡ Idle) × (claim : LiveJob) × (job : JobParts) × (pointers : CompactPointersValue) × IsPickedAfter (Some pointers) old claim job new
    × (crew_new ≡ with_state crew index (Busy claim))
    × (sent ≡ record { src = node.Coordinator; dst = node.Worker index; body = body.Job job })
HandsOut crew old index crew_new new None = (crew_new ≡ crew) × (new ≡ old) × ((state_of crew index ≡ Idle → ⊥) ⊎ IsNoneDue old)

-- ---- what is due

-- What is due, found by a pick whose claim is given back: `Nothing`; `TooLarge`, only what exceeds a job size limit; or `More`, where the
-- book has counted the claim and all else is as before.
abbrev pub IsDue : CoordValue → CoordValue → Due → Type 0
IsDue old new due.Nothing = (new ≡ old) × HasFreeClaim old × NothingToCompact old
IsDue old new due.TooLarge = (new ≡ old) × HasFreeClaim old × OnlyTooLarge old
IsDue old new due.More = (claim : LiveJob) × (job : JobParts) × (mid : CoordValue) × IsPicked old claim job mid × (new ≡ after_give_back mid claim.id)

-- What is still due when a dispatch has ended well: nothing, or only what exceeds a job size limit.
abbrev pub IsLeftDue : CoordValue → Due → Type 0
IsLeftDue c due.Nothing = NothingToCompact c
IsLeftDue c due.TooLarge = OnlyTooLarge c
IsLeftDue c due.More = ⊥

-- ---- what the store holds after a whole dispatch

-- a result, with the claim that it came for and the coordinator at that moment
pub record TakenResult : Type 0 where
  pub at : CoordValue
  pub claim : LiveJob
  pub made : JobResult

-- The result is installed in that coordinator, which becomes the new one.
abbrev pub InstallsTaken : TakenResult → CoordValue → Type 0
InstallsTaken t new = (number : ℕ) × (files : List ℕ) × Became t.at t.claim t.made (became.Done number files) new

-- The result is the merge of the inputs of the claim's job.
abbrev pub IsMergeOfJob : TakenResult → Type 0
IsMergeOfJob t = HoldsSoundMerge t.at t.claim.id t.made

-- From the old coordinator to the new one exactly these results were installed, in this order. Nothing else changed what the store holds,
-- and nor did the install of a result that is the merge of its job.
abbrev pub InstallsInOrder : CoordValue → List TakenResult → CoordValue → Type 0
InstallsInOrder old [] new = Keeps old new
InstallsInOrder old (t ∷ ts) new = Keeps old t.at × (after : CoordValue) × InstallsTaken t after × (IsMergeOfJob t → Keeps t.at after) × InstallsInOrder after ts new

-- Some results were installed, and if each of them is the merge of its job, the store holds what it held.
pub record KeepsIfMerged (old new : CoordValue) : Type 0 where
  pub results : List TakenResult
  pub passes : InstallsInOrder old results new
  pub keeps : ((t : TakenResult) → IsIn t results → IsMergeOfJob t) → Keeps old new

-- What each part of a dispatch keeps: if the busy workers had every live claim before, they have every one after; and installs alone, of
-- these results, changed what the store holds.
pub record RunKeeps (crew : List WorkerState) (old : CoordValue) (crew_new : List WorkerState) (new : CoordValue) : Type 0 where
  pub held : CrewHolds old.book crew → CrewHolds new.book crew_new
  pub results : List TakenResult
  pub passes : InstallsInOrder old results new
