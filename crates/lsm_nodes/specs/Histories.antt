-- Histories of a shared coordinator, and what lies under its lock (Herlihy and Wing 1990: histories of invocations with their responses; Owicki and Gries 1976: auxiliary variables).
use Rattle.std.specs.Prelude.{◌≡◌, ℕ, ◌≤◌, Bool, true, false, List, [], ◌∷◌, ◌++◌, length, map, filter}
use Rattle.std.specs.List.{flat_map}
use Rattle.std.proofs.Common.{lit≤}
use Rattle.lsm_key.specs.Sets.{IsIn}
use Rattle.lsm_claim.specs.Book.{holds}
use Rattle.lsm_edit.specs.declared.edit.Edit.{Edit}
use Rattle.lsm_edit.specs.declared.edit.EditKind.{EditKind}
use Rattle.lsm_edit.specs.declared.edit.EditKind.TheVariants as kind
use Rattle.lsm_edit.specs.Served.{ServedValue, first_served}
use Rattle.lsm_msg.specs.declared.job.JobParts.{JobParts}
use Rattle.lsm_vault.specs.Stored.{empty_vault}
use Rattle.lsm_versions.specs.Manifest.{read_edits}
use Rattle.lsm_coord.specs.declared.answer.Answer.{Answer}
use Rattle.lsm_coord.specs.declared.answer.Answer.TheVariants as answer
use Rattle.lsm_coord.specs.declared.call.Call.{Call}
use Rattle.lsm_coord.specs.declared.call.Call.TheVariants as call
use Rattle.lsm_coord.specs.Model.Event.{Event, Reply}
use Rattle.lsm_coord.specs.Model.Event as say
use Rattle.lsm_coord.specs.Model.Run.{Run}
use Rattle.lsm_coord.specs.Model.State.{State}
use Rattle.lsm_coord.specs.Contract.Installing.{HoldsMergeOf}
use Rattle.lsm_coord.specs.Contract.Replies.{refusal_of}
use Rattle.lsm_coord.specs.Contract.Seats.{opened_coord}
use Rattle.lsm_coord.specs.Contract.Shows.{Shows, place_of}
use Rattle.lsm_coord.specs.Contract.Sound.{IsSound}
use Rattle.lsm_coord.specs.Contract.Value.{CoordValue}
use Rattle.lsm_nodes.specs.declared.exchange.Exchange.{Exchange}

-- a call with its answer, and the version with its tables before it
pub record WitnessedValue : Type 0 where
  pub exchange : Exchange
  pub before : ServedValue

-- ---- exchanges as events

-- what a call asks of a store: whichever dispatcher picks, and whichever message brings a result
abbrev pub event_of_call : Call → Event
event_of_call (call.Write ops) = say.Write ops
event_of_call call.Freeze = say.Freeze
event_of_call call.Flush = say.Flush
event_of_call call.Snap = say.Snap
event_of_call (call.Release id) = say.Release id
event_of_call (call.Get key at) = say.Get key at
event_of_call (call.Scan r) = say.Scan r.lo r.hi r.at r.limit
event_of_call call.Show = say.Show say.Coordinator
event_of_call call.Pick = say.Pick 1
event_of_call (call.Install id made) = say.Deliver 1
event_of_call (call.Trim to) = say.Trim to

-- the answer to a release does not say of what
abbrev pub release_of : Call → Reply
release_of (call.Release id) = say.Released id
release_of asked = say.Other

-- what an answer says of a store
abbrev pub reply_of_answer : Call → Answer → Reply
reply_of_answer asked (answer.Refused why) = say.Refused (refusal_of why)
reply_of_answer asked (answer.Wrote first last) = say.Wrote first last
reply_of_answer asked (answer.Froze seq) = say.Froze seq
reply_of_answer asked (answer.Flushed f) = say.Flushed f.number f.seq f.file
reply_of_answer asked (answer.Snapped id at) = say.Snapped id at
reply_of_answer asked answer.Released = release_of asked
reply_of_answer asked (answer.Got value) = say.Got value
reply_of_answer asked (answer.Scanned pairs) = say.Scanned pairs
reply_of_answer asked (answer.Shown v) = say.Shown v.number v.flushed (map place_of v.files)
reply_of_answer asked (answer.Picked job) = say.Other
reply_of_answer asked answer.Idle = say.Other
reply_of_answer asked (answer.Installed number files) = say.Installed number files
reply_of_answer asked (answer.Stale id epoch) = say.Refused say.OldEpoch
reply_of_answer asked (answer.Trimmed floor files) = say.Trimmed floor

-- a recorded call with its answer, as the model has them
abbrev pub step_of : WitnessedValue → Event × Reply
step_of w = (event_of_call w.exchange.call, reply_of_answer w.exchange.call w.exchange.answer)

-- the recorded calls of a history with their answers, in their order, as the model has them
abbrev pub steps_of : List WitnessedValue → List (Event × Reply)
steps_of history = map step_of history

-- ---- installs

-- an edit of this kind is that of an install
abbrev pub is_install : EditKind → Bool
is_install kind.Install = true
is_install kind.Flush = false
is_install kind.Epoch = false

-- the version and the files of each install among edits
abbrev pub installs_of : List Edit → List (ℕ × List ℕ)
installs_of edits = map (λ e. (e.number, map (λ f. f.number) e.added)) (filter (λ e. is_install e.kind) edits)

-- those of a manifest
abbrev pub installs_in : List (List ℕ) → List (ℕ × List ℕ)
installs_in texts = installs_of (read_edits texts)

-- those of an answer: that of an install which was done has one, any other none
abbrev pub installed_by : Answer → List (ℕ × List ℕ)
installed_by (answer.Installed number files) = (number, files) ∷ []
installed_by answered = []

-- those of a history
abbrev pub installed_in : List WitnessedValue → List (ℕ × List ℕ)
installed_in history = flat_map (λ w. installed_by w.exchange.answer) history

-- ---- jobs

-- the job was picked in the history
abbrev pub IsPickedIn : List WitnessedValue → JobParts → Type 0
IsPickedIn history job = (w : WitnessedValue) × IsIn w history × (w.exchange.answer ≡ answer.Picked job)

-- an install that is done holds the merge of a job of its name, which was picked before it
abbrev pub HoldsMerge : List WitnessedValue → ServedValue → Call → Answer → Type 0
HoldsMerge past before (call.Install id made) (answer.Installed number files) =
    (job : JobParts) × IsPickedIn past job × (job.id ≡ id) × HoldsMergeOf before job made
HoldsMerge past before asked answered = Unit {0}

-- each install of the history does
abbrev pub HoldsMerges : List WitnessedValue → Type 0
HoldsMerges history =
    (past : List WitnessedValue) (w : WitnessedValue) (rest : List WitnessedValue) → history ≡ past ++ w ∷ rest
    → HoldsMerge past w.before w.exchange.call w.exchange.answer

-- the names of the jobs that were picked are given
abbrev pub AreGiven : List WitnessedValue → CoordValue → Type 0
AreGiven history c = (job : JobParts) → IsPickedIn history job → job.id.number ≤ c.book.made

-- each job that was picked and is live may be installed
abbrev pub AreSoundJobs : List WitnessedValue → CoordValue → Type 0
AreSoundJobs history c = (job : JobParts) → IsPickedIn history job → holds c.book job.id ≡ true → IsSound c job

-- ---- the value under the lock

-- a coordinator over nothing: what a ledger names until a program picks its own
abbrev pub no_coord : CoordValue
no_coord = opened_coord (record { l0 = 1; base = 1; block = 1; l0_some = lit≤ tt; l0_most = lit≤ tt; base_some = lit≤ tt; base_most = lit≤ tt; block_some = lit≤ tt; block_most = lit≤ tt }) (record { served = first_served; stored = empty_vault; retired = []; floor = 0; failures = 0 })

-- what contracts see of a coordinator under its lock
pub record SharedValue : Type 0 where
  pub coord : CoordValue
  pub history : List WitnessedValue  -- the recorded calls, from the first on

-- from each state that the coordinator showed at the start, the history is a run to a state that it shows
abbrev pub RunsFrom : CoordValue → List WitnessedValue → CoordValue → Type 0
RunsFrom start history c = (s : State) → Shows start s → (t : State) × Run s (steps_of history) t × Shows c t

-- if it showed one, each job that was picked and is live may be installed
abbrev pub AreSoundFrom : CoordValue → List WitnessedValue → CoordValue → Type 0
AreSoundFrom start history c = (s : State) → Shows start s → AreSoundJobs history c

-- The total of the ledger is the history's length, and the installs in the manifest are those at the start and those of the
-- history. If each install of the history holds the merge of its job, the history is a run from each state that was shown at the
-- start to one that the coordinator shows, and each of its jobs that is live may be installed.
pub record IsShared (start : CoordValue) (s : SharedValue) (total : ℕ) : Type 0 where
  pub counted : total ≡ length s.history
  pub installed : installs_in s.coord.stored.edits ≡ installs_in start.stored.edits ++ installed_in s.history
  pub given : AreGiven s.history s.coord
  pub run : HoldsMerges s.history → RunsFrom start s.history s.coord
  pub sound : HoldsMerges s.history → AreSoundFrom start s.history s.coord
