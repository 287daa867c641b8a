-- What answers over a port: it takes the messages that come, one after another, and sends the answer to each (the store's own).
use Rattle.std.specs.Prelude.{◌≡◌, ◌⊎◌, ℕ, List, [], ◌∷◌, ◌++◌, Option, None, Some}
use Rattle.lsm_claim.specs.declared.job.JobId.{JobId}
use Rattle.lsm_msg.specs.declared.job.JobParts.{JobParts}
use Rattle.lsm_msg.specs.declared.job.JobResult.{JobResult}
use Rattle.lsm_msg.specs.declared.message.Body.TheVariants as body
use Rattle.lsm_msg.specs.declared.message.Message.{Message}
use Rattle.lsm_msg.specs.declared.node.Node.TheVariants as node
use Rattle.lsm_coord.specs.Contract.Memory.{IsFit}
use Rattle.lsm_coord.specs.Contract.Serving.{answer_message}
use Rattle.lsm_coord.specs.Contract.Value.{CoordValue}
use Rattle.lsm_threads.specs.declared.ending.Ending.{Ending}
use Rattle.lsm_threads.specs.Endings.{IsOfMail}
use Rattle.lsm_threads.specs.Ports.{Traffic}

-- an answer, or none
abbrev pub as_list : Option Message → List Message
as_list None = []
as_list (Some m) = m ∷ []

-- a coordinator whose versions, files and claims are fit answers this
abbrev pub IsAnswered : Message → List Message → Type 0
IsAnswered asked said = (c : CoordValue) × IsFit c × (said ≡ as_list (answer_message c asked asked.body))

-- these messages come, each when the one before is answered, and these answers are sent
abbrev pub ServesThrough : List Message → List Message → Type 0
ServesThrough [] sent = sent ≡ []
ServesThrough (m ∷ ms) sent = (said : List Message) × IsAnswered m said × (later : List Message) × ServesThrough ms later × (sent ≡ said ++ later)

-- a message that has come is answered
pub record AnswersOver (m : Message) (was has held holds : Option (List Message)) : Type 0 where
  pub said : List Message
  pub answered : IsAnswered m said
  pub passes : Traffic was has held holds [] said

-- a message comes and is answered
pub record ServesOver (was has held holds : Option (List Message)) : Type 0 where
  pub message : Message
  pub said : List Message
  pub answered : IsAnswered message said
  pub passes : Traffic was has held holds (message ∷ []) said

-- no message more
abbrev pub IsOneAtMost : List Message → Type 0
IsOneAtMost came = (came ≡ []) ⊎ ((m : Message) × (came ≡ m ∷ []))

-- no message more comes, or it is not answered
pub record StopsServing (was has held holds : Option (List Message)) : Type 0 where
  pub came : List Message
  pub few : IsOneAtMost came
  pub passes : Traffic was has held holds came []

-- messages come and are answered
pub record AnswersAll (was has held holds : Option (List Message)) : Type 0 where
  pub messages : List Message
  pub sent : List Message
  pub serves : ServesThrough messages sent
  pub passes : Traffic was has held holds messages sent

-- each message that came is answered, but for one at most, which came last
pub record ServesUntil (was has held holds : Option (List Message)) : Type 0 where
  pub messages : List Message
  pub sent : List Message
  pub serves : ServesThrough messages sent
  pub last : List Message
  pub few : IsOneAtMost last
  pub passes : Traffic was has held holds (messages ++ last) sent

-- ---- the link to a worker

-- what contracts see of a link
pub record LinkValue : Type 0 where
  pub worker : ℕ  -- the index of the worker that it leads to
  pub got : Option (List Message)  -- the messages that came, if they are known
  pub sent : Option (List Message)  -- the messages that were sent, if they are known
  pub lost : Option Ending  -- why the last job came back without a result, if it did

-- what a link knows of the last job: nothing if its result came back, else what came, or was to be sent, or want of memory
abbrev pub IsLost : Option JobResult → Option Ending → Type 0
IsLost (Some made) lost = lost ≡ None
IsLost None lost = (ending : Ending) × (lost ≡ Some ending) × IsOfMail ending

-- the message that takes a job to a worker
abbrev pub sent_job : ℕ → JobParts → Message
sent_job worker job = record { src = node.Coordinator; dst = node.Worker worker; body = body.Job job }

-- the result of the job comes
pub record FindsResult (id : JobId) (was has held holds : Option (List Message)) (made : JobResult) : Type 0 where
  pub last : Message
  pub result : last.body ≡ body.Result made
  pub named : made.job ≡ id
  pub passes : Traffic was has held holds (last ∷ []) []

-- the next message is the result; or it is answered
abbrev pub FindsNext : JobId → Option (List Message) → Option (List Message) → Option (List Message) → Option (List Message) → Option JobResult → Type 0
FindsNext id was has held holds (Some made) = FindsResult id was has held holds made
FindsNext id was has held holds None = ServesOver was has held holds

-- the job is sent to the worker, and what comes is answered
pub record Carries (worker : ℕ) (job : JobParts) (was has held holds : Option (List Message)) : Type 0 where
  pub messages : List Message
  pub answers : List Message
  pub serves : ServesThrough messages answers
  pub passes : Traffic was has held holds messages (sent_job worker job ∷ answers)

-- the job is sent to the worker, what comes is answered, and then the result comes
pub record BringsBack (worker : ℕ) (job : JobParts) (was has held holds : Option (List Message)) (made : JobResult) : Type 0 where
  pub messages : List Message
  pub answers : List Message
  pub last : Message
  pub serves : ServesThrough messages answers
  pub result : last.body ≡ body.Result made
  pub passes : Traffic was has held holds (messages ++ last ∷ []) (sent_job worker job ∷ answers)
