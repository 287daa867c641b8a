-- A worker over two streams: it takes the messages that come, one after another, and sends what comes of each (RocksDB wiki, Remote
-- Compaction: the host decides where a job runs and how its bytes travel).
use Rattle.std.specs.Prelude.{◌≡◌, ◌⊎◌, ℕ, Bool, true, false, List, [], ◌∷◌, ◌++◌, Option, IfSome}
use Rattle.std.specs.Io.KnownBytes.{Appends, Consumes, IsAtEnd}
use Rattle.lsm_msg.specs.declared.message.Message.{Message}
use Rattle.lsm_msg.specs.declared.node.Node.TheVariants.{Worker}
use Rattle.lsm_msg.specs.Messages.{IsMessage, message, sized}
use Rattle.lsm_work.specs.declared.change.WorkChange.TheVariants.{Dropped}
use Rattle.lsm_work.specs.Workers.{WorkOutcome, WorkerValue, Works, ignores}
use Rattle.lsm_pipe.specs.declared.error.PipeError.{PipeError}
use Rattle.lsm_pipe.specs.declared.error.PipeError.TheVariants.{GaveUp, NoEnd, OutOfMemory, TooLarge, WriteFault}
use Rattle.lsm_pipe.specs.Frames.{HasTooLarge, MessageRefuses, framed}

-- what comes of a message at the worker of this index: one that is for another node is ignored
abbrev pub WorksOnMessage : ℕ → WorkerValue → Message → WorkOutcome → Type 0
WorksOnMessage index w m o = ((m.dst ≡ Worker index) × Works w m.body o) ⊎ ((m.dst ≡ Worker index → ⊥) × (o ≡ ignores w))

-- a message that is taken, after which the worker goes on: it did not give its job up
pub record TakesNext (index : ℕ) (w : WorkerValue) (m : Message) (o : WorkOutcome) : Type 0 where
  pub sound : IsMessage m
  pub takes : WorksOnMessage index w m o
  pub stays : o.change ≡ Dropped → ⊥

-- these messages come, each when what came of the one before is sent, and these are sent
abbrev pub WorksThrough : ℕ → WorkerValue → List Message → List Message → WorkerValue → Type 0
WorksThrough index w [] sent new = (sent ≡ []) × (new ≡ w)
WorksThrough index w (m ∷ ms) sent new =
    (o : WorkOutcome) × TakesNext index w m o × (later : List Message) × WorksThrough index o.worker ms later new × (sent ≡ o.sent ++ later)

-- what a reader loses is the frames of the messages that the worker takes, and what a writer gets is the frames of those that it sends
pub record WorksOver (index : ℕ) (old : WorkerValue) (was left : Option (List ℕ)) (held holds : Option (List ℕ)) (new : WorkerValue) : Type 0 where
  pub messages : List Message
  pub sent : List Message
  pub works : WorksThrough index old messages sent new
  pub read : Consumes was left (framed messages)
  pub written : Appends held holds (framed sent)

-- the input is the frames of the messages that the worker takes, and what a writer gets is the frames of those that it sends
pub record WorksAll (index : ℕ) (old : WorkerValue) (input : Option (List ℕ)) (held holds : Option (List ℕ)) : Type 0 where
  pub messages : List Message
  pub sent : List Message
  pub last : WorkerValue
  pub works : WorksThrough index old messages sent last
  pub read : IfSome input (λ all. all ≡ framed messages)
  pub written : Appends held holds (framed sent)

-- what comes of a message at the worker is sent
pub record TakesOver (index : ℕ) (old : WorkerValue) (m : Message) (held holds : Option (List ℕ)) (new : WorkerValue) : Type 0 where
  pub outcome : WorkOutcome
  pub next : TakesNext index old m outcome
  pub after : new ≡ outcome.worker
  pub written : Appends held holds (framed outcome.sent)

-- one message of them; the answer is whether there was one
abbrev pub WorksOnce : ℕ → WorkerValue → Option (List ℕ) → Option (List ℕ) → Option (List ℕ) → Option (List ℕ) → WorkerValue → Bool → Type 0
WorksOnce index old was left held holds new true = (m : Message) × TakesOver index old m held holds new × Consumes was left (sized (message m))
WorksOnce index old was left held holds new false = IsAtEnd was × Consumes was left [] × (new ≡ old) × Appends held holds []

-- the worker gives its job up
abbrev pub GivesItsJobUp : WorkOutcome → Type 0
GivesItsJobUp o = o.change ≡ Dropped

-- a message that it sends has too many bytes
abbrev pub SendsTooLarge : WorkOutcome → Type 0
SendsTooLarge o = HasTooLarge o.sent

-- why a message that came is not taken, or what comes of it not sent
abbrev pub TakeStops : ℕ → WorkerValue → Message → PipeError → Type 0
TakeStops index w m GaveUp = (o : WorkOutcome) × WorksOnMessage index w m o × GivesItsJobUp o
TakeStops index w m TooLarge = (o : WorkOutcome) × WorksOnMessage index w m o × SendsTooLarge o
TakeStops index w m NoEnd = Unit {0}
TakeStops index w m WriteFault = Unit {0}
TakeStops index w m OutOfMemory = Unit {0}
TakeStops index w m e = ⊥

-- what comes of the next message ends the work
pub record EndsWork (Ends : WorkOutcome → Type 0) (index : ℕ) (w : WorkerValue) (known : Option (List ℕ)) : Type 0 where
  pub next : Message
  pub outcome : WorkOutcome
  pub comes : IfSome known (λ bytes. (rest : List ℕ) × (bytes ≡ sized (message next) ++ rest))
  pub taken : WorksOnMessage index w next outcome
  pub ends : Ends outcome

-- why a worker ends before the input does, by what is left of the input then
abbrev pub WorkStops : ℕ → WorkerValue → Option (List ℕ) → PipeError → Type 0
WorkStops index w known GaveUp = EndsWork GivesItsJobUp index w known
WorkStops index w known TooLarge = EndsWork SendsTooLarge index w known
WorkStops index w known NoEnd = Unit {0}
WorkStops index w known WriteFault = Unit {0}
WorkStops index w known e = MessageRefuses known e

-- it ends for this reason after a first part of the messages
pub record StopsAfter (index : ℕ) (old : WorkerValue) (was : Option (List ℕ)) (e : PipeError) : Type 0 where
  pub messages : List Message
  pub sent : List Message
  pub last : WorkerValue
  pub left : Option (List ℕ)
  pub works : WorksThrough index old messages sent last
  pub read : Consumes was left (framed messages)
  pub stops : WorkStops index last left e
