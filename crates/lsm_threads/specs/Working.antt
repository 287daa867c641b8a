-- A worker over a port: it takes the messages that come, one after another, and sends what comes of each (RocksDB wiki, Remote Compaction: the host decides where a job runs and how its bytes travel).
use Rattle.std.specs.Prelude.{◌≡◌, ◌⊎◌, List, [], ◌∷◌, ◌++◌, Option}
use Rattle.lsm_msg.specs.declared.message.Message.{Message}
use Rattle.lsm_work.specs.declared.change.WorkChange.TheVariants as work
use Rattle.lsm_work.specs.Workers.{WorkOutcome, WorkerValue, Works}
use Rattle.lsm_threads.specs.declared.ending.Ending.{Ending}
use Rattle.lsm_threads.specs.declared.ending.Ending.TheVariants.{Dropped, OutOfMemory}
use Rattle.lsm_threads.specs.Endings.{IsOfMail}
use Rattle.lsm_threads.specs.Ports.{IsBegun, Traffic}

-- a message that is taken, after which the worker goes on: it did not give its job up
pub record StaysAtWork (w : WorkerValue) (m : Message) (o : WorkOutcome) : Type 0 where
  pub works : Works w m.body o
  pub stays : o.change ≡ work.Dropped → ⊥

-- these messages come, each when what came of the one before is sent, and these are sent
abbrev pub WorksThroughAll : WorkerValue → List Message → List Message → WorkerValue → Type 0
WorksThroughAll w [] sent new = (sent ≡ []) × (new ≡ w)
WorksThroughAll w (m ∷ ms) sent new = (o : WorkOutcome) × StaysAtWork w m o × (later : List Message) × WorksThroughAll o.worker ms later new × (sent ≡ o.sent ++ later)

-- ---- the last message

-- it makes the worker give its job up
pub record GivesJobUp (w : WorkerValue) (m : Message) (sent : List Message) (new : WorkerValue) (e : Ending) : Type 0 where
  pub outcome : WorkOutcome
  pub works : Works w m.body outcome
  pub dropped : outcome.change ≡ work.Dropped
  pub all : sent ≡ outcome.sent
  pub after : new ≡ outcome.worker
  pub ends : e ≡ Dropped

-- not all is sent that comes of it
pub record IsCutOff (w : WorkerValue) (m : Message) (sent : List Message) (new : WorkerValue) (e : Ending) : Type 0 where
  pub outcome : WorkOutcome
  pub works : Works w m.body outcome
  pub begun : IsBegun sent outcome.sent
  pub after : new ≡ outcome.worker
  pub ends : IsOfMail e

-- nothing comes of it for want of memory
pub record FindsNoMemory (w : WorkerValue) (sent : List Message) (new : WorkerValue) (e : Ending) : Type 0 where
  pub none : sent ≡ []
  pub same : new ≡ w
  pub ends : e ≡ OutOfMemory

-- a message ends the loop: the job is given up, not all is sent that comes of it, or memory runs out
abbrev pub EndsBy : WorkerValue → Message → List Message → WorkerValue → Ending → Type 0
EndsBy w m sent new e = GivesJobUp w m sent new e ⊎ (IsCutOff w m sent new e ⊎ FindsNoMemory w sent new e)

-- nothing more comes; or what comes is the last message
abbrev pub EndsLoop : WorkerValue → List Message → List Message → WorkerValue → Ending → Type 0
EndsLoop w came sent new e = ((came ≡ []) × (sent ≡ []) × (new ≡ w) × IsOfMail e) ⊎ ((m : Message) × (came ≡ m ∷ []) × EndsBy w m sent new e)

-- ---- over a port

-- a message that has come is taken, and what comes of it is sent
pub record HearsMessage (old new : WorkerValue) (m : Message) (was has held holds : Option (List Message)) : Type 0 where
  pub outcome : WorkOutcome
  pub next : StaysAtWork old m outcome
  pub after : new ≡ outcome.worker
  pub passes : Traffic was has held holds [] outcome.sent

-- a message that has come ends the work
pub record EndsAtMessage (old new : WorkerValue) (m : Message) (was has held holds : Option (List Message)) (e : Ending) : Type 0 where
  pub went : List Message
  pub stops : EndsBy old m went new e
  pub passes : Traffic was has held holds [] went

-- a message comes and is taken, and what comes of it is sent
pub record HearsNext (old new : WorkerValue) (was has held holds : Option (List Message)) : Type 0 where
  pub message : Message
  pub outcome : WorkOutcome
  pub next : StaysAtWork old message outcome
  pub after : new ≡ outcome.worker
  pub passes : Traffic was has held holds (message ∷ []) outcome.sent

-- the worker's work ends
pub record StopsOver (old new : WorkerValue) (was has held holds : Option (List Message)) (e : Ending) : Type 0 where
  pub came : List Message
  pub went : List Message
  pub stops : EndsLoop old came went new e
  pub passes : Traffic was has held holds came went

-- messages come and are taken, and what comes of them is sent
pub record WorksOverPort (old new : WorkerValue) (was has held holds : Option (List Message)) : Type 0 where
  pub messages : List Message
  pub sent : List Message
  pub works : WorksThroughAll old messages sent new
  pub passes : Traffic was has held holds messages sent

-- the same, up to what ends the work
pub record WorksUntil (old new : WorkerValue) (was has held holds : Option (List Message)) (e : Ending) : Type 0 where
  pub messages : List Message
  pub sent : List Message
  pub middle : WorkerValue
  pub works : WorksThroughAll old messages sent middle
  pub came : List Message
  pub went : List Message
  pub stops : EndsLoop middle came went new e
  pub passes : Traffic was has held holds (messages ++ came) (sent ++ went)
