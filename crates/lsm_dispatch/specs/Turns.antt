-- A dispatch in turns: it hands out jobs and takes letters, one after another, until nothing is left to do or it stops for a reason
-- (RocksDB wiki, Remote Compaction: the host decides where a job runs and how its bytes travel).
use Rattle.std.specs.Prelude.{◌≡◌, ◌⊎◌, ℕ, ◌+◌, ◌<◌, ◌≤◌, true, false, List, [], ◌∷◌, ◌++◌, Option, None, Some, IfSome}
use Rattle.std.specs.List.{flat_map}
use Rattle.std.specs.Io.KnownBytes.{Appends, Consumes, IsAtEnd}
use Rattle.lsm_key.specs.declared.limits.TheConstants.{MAX_NODES}
use Rattle.lsm_msg.specs.declared.message.Message.{Message}
use Rattle.lsm_msg.specs.Messages.{IsSpelled, sized}
use Rattle.lsm_pipe.specs.declared.error.PipeError.{PipeError}
use Rattle.lsm_pipe.specs.declared.error.PipeError.TheVariants as pipe
use Rattle.lsm_pipe.specs.Frames.{FrameRefuses, IsSinkError, SendRefuses, framed}
use Rattle.lsm_coord.specs.declared.error.CoordError.{CoordError}
use Rattle.lsm_coord.specs.Contract.Serving.{answer_message}
use Rattle.lsm_coord.specs.Contract.Value.{CoordValue}
use Rattle.lsm_store.specs.Store.{IsNoneDue}
use Rattle.lsm_store.specs.declared.due.Due.TheVariants as due
use Rattle.lsm_dispatch.specs.declared.crew.WorkerState.{WorkerState}
use Rattle.lsm_dispatch.specs.declared.crew.WorkerState.TheVariants.{Gone, Idle}
use Rattle.lsm_dispatch.specs.declared.error.DispatchError.{DispatchError}
use Rattle.lsm_dispatch.specs.declared.error.DispatchError.TheVariants as error
use Rattle.lsm_dispatch.specs.declared.letter.Letter.{Letter}
use Rattle.lsm_dispatch.specs.declared.letter.Letter.TheVariants as letter
use Rattle.lsm_dispatch.specs.Crews.{after_leaving, has_busy, state_of, with_state}
use Rattle.lsm_dispatch.specs.Dispatching.{HandlesMessage, HandlingRefuses, HandsOut, IsDue, JobRefuses}
use Rattle.lsm_dispatch.specs.Letters.{IsLetter, NoLetter}

-- ---- who waits

-- if a worker below this number is idle, no compaction is due that a job may hold
abbrev pub NoneWaitsBefore : ℕ → List WorkerState → CoordValue → Type 0
NoneWaitsBefore number crew c = (index : ℕ) → 1 ≤ index → index < number → state_of crew index ≡ Idle → IsNoneDue c

-- the same of all workers
abbrev pub NoneWaits : List WorkerState → CoordValue → Type 0
NoneWaits crew c = NoneWaitsBefore (MAX_NODES + 1) crew c

-- the dispatch waits for a letter: a worker has a job, and if another is idle, no compaction is due that a job may hold
abbrev pub AwaitsLetter : List WorkerState → CoordValue → Type 0
AwaitsLetter crew c = (has_busy crew ≡ true) × NoneWaits crew c

-- the worker of this number is looked at: it gets the next job, if it is idle and one is due
abbrev pub AsksWorker : ℕ → List WorkerState → CoordValue → List WorkerState → CoordValue → Type 0
AsksWorker number crew old crew_new new = (sent : Option Message) × HandsOut crew old number crew_new new sent

-- ---- turns

-- A turn. `Hands`: the worker of this index gets the next job, if it is idle and one is due. `Takes`: a frame with this payload comes.
-- `sent` is the message that is sent in the turn, if one is.
pub data Turn : Type 0 where
  Hands : (index : ℕ) (sent : Option Message) → Turn
  Takes : (payload : List ℕ) (sent : Option Message) → Turn

-- What a letter changes, and what is sent in answer. A question is answered and a result taken. A worker that is gone, or there again, has
-- no job any more: its claim is given back.
abbrev pub TakesLetter : List WorkerState → CoordValue → Letter → Option Message → List WorkerState → CoordValue → Type 0
TakesLetter crew old (letter.Message m) sent crew_new new = HandlesMessage crew old m.src m.body crew_new new × (sent ≡ answer_message old m m.body)
TakesLetter crew old (letter.Gone index) sent crew_new new = (crew_new ≡ with_state crew index Gone) × (new ≡ after_leaving old (state_of crew index)) × (sent ≡ None)
TakesLetter crew old (letter.There index) sent crew_new new = (crew_new ≡ with_state crew index Idle) × (new ≡ after_leaving old (state_of crew index)) × (sent ≡ None)

-- what a turn changes: it hands out a job, or takes a letter that was waited for
abbrev pub IsTurn : List WorkerState → CoordValue → Turn → List WorkerState → CoordValue → Type 0
IsTurn crew old (Hands index sent) crew_new new = HandsOut crew old index crew_new new sent
IsTurn crew old (Takes payload sent) crew_new new = AwaitsLetter crew old × (l : Letter) × IsLetter payload l × TakesLetter crew old l sent crew_new new

-- the turns follow one another, from the first crew and coordinator to the last
abbrev pub TurnsThrough : List WorkerState → CoordValue → List Turn → List WorkerState → CoordValue → Type 0
TurnsThrough crew old [] crew_new new = (crew_new ≡ crew) × (new ≡ old)
TurnsThrough crew old (t ∷ ts) crew_new new = (crew_mid : List WorkerState) × (mid : CoordValue) × IsTurn crew old t crew_mid mid × TurnsThrough crew_mid mid ts crew_new new

-- the bytes that are read in a turn: those of its frame
abbrev pub bytes_read : Turn → List ℕ
bytes_read (Hands index sent) = []
bytes_read (Takes payload sent) = sized payload

-- a message that may be there, as a list of one or none
abbrev pub one_or_none : Option Message → List Message
one_or_none None = []
one_or_none (Some m) = m ∷ []

-- the message that is sent in a turn, as a list of one or none
abbrev pub sent_in : Turn → List Message
sent_in (Hands index sent) = one_or_none sent
sent_in (Takes payload sent) = one_or_none sent

-- A dispatch goes on for some turns. The reader had the bytes `was` to give and has `left`, the writer had `held` and has `holds`, each if it
-- is known: what was read is the frames of the letters, and what was written is the frames of the messages that the turns send.
pub record RunsOver (crew : List WorkerState) (old : CoordValue) (was left held holds : Option (List ℕ)) (crew_new : List WorkerState) (new : CoordValue) : Type 0 where
  pub turns : List Turn
  pub through : TurnsThrough crew old turns crew_new new
  pub read : Consumes was left (flat_map bytes_read turns)
  pub written : Appends held holds (framed (flat_map sent_in turns))

-- it went on until no worker had a job, and none was due for an idle one: the reader had `was`, the writer `held`, and they have `left` and `holds`
pub record RunEnds (crew : List WorkerState) (old : CoordValue) (was left held holds : Option (List ℕ)) (new : CoordValue) : Type 0 where
  pub crew_new : List WorkerState
  pub runs : RunsOver crew old was left held holds crew_new new
  pub none : has_busy crew_new ≡ false
  pub asked : NoneWaits crew_new new

-- ---- why it stops

-- of the bytes that a reader has, if they are known, these come next
abbrev pub ComesNext : Option (List ℕ) → List ℕ → Type 0
ComesNext known bytes = IfSome known (λ all. (rest : List ℕ) × (all ≡ bytes ++ rest))

-- some turn that may come next sends this message
pub record IsNextSent (crew : List WorkerState) (c : CoordValue) (known : Option (List ℕ)) (m : Message) : Type 0 where
  pub turn : Turn
  pub crew_new : List WorkerState
  pub new : CoordValue
  pub is : IsTurn crew c turn crew_new new
  pub comes : ComesNext known (bytes_read turn)
  pub sends : sent_in turn ≡ m ∷ []

-- a whole frame comes next, and its bytes are no letter
abbrev pub IsNoLetter : List ℕ → Type 0
IsNoLetter all = (payload : List ℕ) × (rest : List ℕ) × (all ≡ sized payload ++ rest) × NoLetter payload pipe.NotMessage

-- why the next letter is not read
abbrev pub LetterRefuses : Option (List ℕ) → PipeError → Type 0
LetterRefuses known pipe.NotMessage = IfSome known IsNoLetter
LetterRefuses known e = FrameRefuses known e

-- why no letter comes; that there is no end may be reported at any time
abbrev pub ReadStops : List WorkerState → CoordValue → Option (List ℕ) → PipeError → Type 0
ReadStops crew c known pipe.NoEnd = Unit {0}
ReadStops crew c known e = AwaitsLetter crew c × LetterRefuses known e

-- a message that is not sent is not written, not even in part, unless the sink failed
abbrev pub IsUnwritten : Option (List ℕ) → Option (List ℕ) → PipeError → Type 0
IsUnwritten held holds e = IsSinkError e ⊎ (holds ≡ held)

-- no message is sent unless a turn sends it
abbrev pub WriteStops : List WorkerState → CoordValue → Option (List ℕ) → PipeError → Type 0
WriteStops crew c known e = (m : Message) × IsNextSent crew c known m × SendRefuses m e

-- the next job is not picked for an idle worker
abbrev pub PickStops : List WorkerState → CoordValue → CoordError → Type 0
PickStops crew c e = (index : ℕ) × (state_of crew index ≡ Idle) × JobRefuses c e

-- the message that comes next ends in an error
pub record ActStops (crew : List WorkerState) (c : CoordValue) (known : Option (List ℕ)) (e : CoordError) : Type 0 where
  pub payload : List ℕ
  pub next : Message
  pub crew_new : List WorkerState
  pub new : CoordValue
  pub waits : AwaitsLetter crew c
  pub comes : ComesNext known (sized payload)
  pub spelled : IsSpelled payload next
  pub refuses : HandlingRefuses crew c next.src next.body e crew_new new

-- Why a dispatch stops at this point, by what is left of its input then. If it was not the sink that failed, nothing more was written.
abbrev pub TurnStops : List WorkerState → CoordValue → Option (List ℕ) → Option (List ℕ) → Option (List ℕ) → DispatchError → Type 0
TurnStops crew c known holds last (error.Pipe e) = (WriteStops crew c known e × IsUnwritten holds last e) ⊎ (ReadStops crew c known e × (last ≡ holds))
TurnStops crew c known holds last (error.Coord e) = (PickStops crew c e ⊎ ActStops crew c known e) × (last ≡ holds)
TurnStops crew c known holds last error.EndsEarly = IsAtEnd known × AwaitsLetter crew c × (last ≡ holds)
TurnStops crew c known holds last error.NoWorker = ⊥

-- it stops for this reason after some turns
pub record RunStops (crew : List WorkerState) (old : CoordValue) (was held last : Option (List ℕ)) (e : DispatchError) : Type 0 where
  pub crew_new : List WorkerState
  pub new : CoordValue
  pub left : Option (List ℕ)
  pub holds : Option (List ℕ)
  pub runs : RunsOver crew old was left held holds crew_new new
  pub stops : TurnStops crew_new new left holds last e

-- why a message is not sent, if there is one
abbrev pub OneRefuses : Option Message → Option (List ℕ) → Option (List ℕ) → DispatchError → Type 0
OneRefuses sent held holds e = (m : Message) × (sent ≡ Some m) × (why : PipeError) × SendRefuses m why × IsUnwritten held holds why × (e ≡ error.Pipe why)

-- Why a dispatch ends early: it stopped; or all its turns were done, and a compaction was due then for which there was no worker, or what is
-- due could not be found out.
abbrev pub DispatchRefuses : List WorkerState → CoordValue → Option (List ℕ) → Option (List ℕ) → Option (List ℕ) → Option (List ℕ) → CoordValue → DispatchError → Type 0
DispatchRefuses crew old was left held last new error.NoWorker = (at : CoordValue) × RunEnds crew old was left held last at × IsDue at new due.More
DispatchRefuses crew old was left held last new (error.Coord e) = RunStops crew old was held last (error.Coord e) ⊎ ((at : CoordValue) × RunEnds crew old was left held last at × JobRefuses at e)
DispatchRefuses crew old was left held last new e = RunStops crew old was held last e
