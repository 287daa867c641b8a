-- How loops end (the store's own).
use Rattle.std.specs.Prelude.{◌≡◌, ◌⊎◌, ℕ, ◌<◌, ◌≤◌, length}
use Rattle.lsm_msg.specs.declared.message.Message.{Message}
use Rattle.lsm_msg.specs.declared.message.TheConstants.{MAX_MESSAGE_BYTES}
use Rattle.lsm_msg.specs.Messages.{message}
use Rattle.lsm_threads.specs.declared.ending.Ending.{Ending}
use Rattle.lsm_threads.specs.declared.ending.Ending.TheVariants.{AtGoal, Current, Dropped, Closed, NoMessage, TooLarge, OutOfMemory}

-- what came, or was to be sent, or want of memory ends it
abbrev pub IsOfMail : Ending → Type 0
IsOfMail AtGoal = ⊥
IsOfMail Current = ⊥
IsOfMail Dropped = ⊥
IsOfMail ending = Unit {0}

-- what came is no message, nothing more comes, or memory runs out
abbrev pub IsOfArrival : Ending → Type 0
IsOfArrival NoMessage = Unit {0}
IsOfArrival Closed = Unit {0}
IsOfArrival OutOfMemory = Unit {0}
IsOfArrival ending = ⊥

-- the message has too many bytes, which comes before all else; or nothing more is taken, or memory runs out
abbrev pub IsOfSending : Message → Ending → Type 0
IsOfSending m TooLarge = MAX_MESSAGE_BYTES < length (message m)
IsOfSending m Closed = length (message m) ≤ MAX_MESSAGE_BYTES
IsOfSending m OutOfMemory = length (message m) ≤ MAX_MESSAGE_BYTES
IsOfSending m ending = ⊥

-- the worker gave its job up, or what came, what was to be sent or want of memory ends it
abbrev pub IsOfWorker : Ending → Type 0
IsOfWorker ending = (ending ≡ Dropped) ⊎ IsOfMail ending

-- why two loops ended, of which each closes the other's channels
abbrev pub cause_of : Ending → Ending → Ending
cause_of Closed other = other
cause_of mine other = mine

-- a follower's loop ends at its goal exactly if its version has reached it, unless memory runs out
abbrev pub EndsAt : ℕ → ℕ → Ending → Type 0
EndsAt goal number AtGoal = goal ≤ number
EndsAt goal number Dropped = ⊥
EndsAt goal number OutOfMemory = Unit {0}
EndsAt goal number ending = number < goal
