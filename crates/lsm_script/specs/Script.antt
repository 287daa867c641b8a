-- What a script says: the events of its lines, or its first fault (the store's own script format, one command a line).
use Rattle.std.specs.Prelude.{ℕ, ◌+◌, ◌==◌, Bool, false, List, [], ◌∷◌, ◌++◌, Option, None, Some, Result, Ok, Err, codes, if◌then◌else◌}
use Rattle.std.specs.Str.{bytes_eq}
use Rattle.lsm_key.specs.Reading.{◌>>=◌}
use Rattle.lsm_line.specs.declared.fault.Reason.{Reason}
use Rattle.lsm_line.specs.declared.fault.Reason.TheVariants.{UnknownCommand, WrongWordCount, BadName}
use Rattle.lsm_line.specs.Commands.{key_or_value, put, delete, batch, flush, snap, release, get, number_or_fault, scan}
use Rattle.lsm_line.specs.Text.{lines, words}
use Rattle.lsm_line.specs.Numbers.{number}
use Rattle.lsm_script.specs.declared.command.Command.{Command}
use Rattle.lsm_script.specs.declared.command.Command.TheVariants as command
use Rattle.lsm_script.specs.declared.fault.Fault.{Fault}
use Rattle.lsm_script.specs.Nodes.{index_of, index_or_fault, worker_index, follower_index}
use Rattle.lsm_script.specs.Deliveries.{deliver}
use Rattle.lsm_coord.specs.Model.Event as say

-- the command of a name
unfoldable pub read_command : List ℕ → Option Command
read_command word =
    if bytes_eq word (codes "put") then Some command.Put
    else if bytes_eq word (codes "del") then Some command.Delete
    else if bytes_eq word (codes "batch") then Some command.Batch
    else if bytes_eq word (codes "freeze") then Some command.Freeze
    else if bytes_eq word (codes "flush") then Some command.Flush
    else if bytes_eq word (codes "snap") then Some command.Snap
    else if bytes_eq word (codes "release") then Some command.Release
    else if bytes_eq word (codes "get") then Some command.Get
    else if bytes_eq word (codes "scan") then Some command.Scan
    else if bytes_eq word (codes "show") then Some command.Show
    else if bytes_eq word (codes "trim") then Some command.Trim
    else if bytes_eq word (codes "pick") then Some command.Pick
    else if bytes_eq word (codes "giveup") then Some command.GiveUp
    else if bytes_eq word (codes "deliver") then Some command.Deliver
    else if bytes_eq word (codes "restart") then Some command.Restart
    else if bytes_eq word (codes "ask") then Some command.Ask
    else if bytes_eq word (codes "read") then Some command.Read
    else None

-- a line that begins with a number sign is a comment
abbrev pub is_comment : List ℕ → Bool
is_comment [] = false
is_comment (byte ∷ word) = byte == 35

-- a freeze, without arguments
abbrev pub freeze : List (List ℕ) → Result say.Event Reason
freeze [] = Ok say.Freeze
freeze args = Err WrongWordCount

-- a listing of what is no coordinator: a follower's
abbrev pub show_follower : Option ℕ → Result say.Event Reason
show_follower None = Err BadName
show_follower (Some index) = Ok (say.Show (say.Follower index))

-- a listing of the coordinator or of a follower
abbrev pub show : List (List ℕ) → Result say.Event Reason
show (node ∷ []) =
    if bytes_eq node (codes "c") then Ok (say.Show say.Coordinator)
    else show_follower (follower_index node)
show args = Err WrongWordCount

-- a trim, which raises the floor to a version
abbrev pub trim : List (List ℕ) → Result say.Event Reason
trim (version ∷ []) = do
  n ← number_or_fault (number version)
  Ok (say.Trim n)
trim args = Err WrongWordCount

-- a pick of a dispatcher
abbrev pub pick : List (List ℕ) → Result say.Event Reason
pick (dispatcher ∷ []) = do
  index ← index_or_fault (index_of (number dispatcher))
  Ok (say.Pick index)
pick args = Err WrongWordCount

-- a dispatcher gives its claim back
abbrev pub give_up : List (List ℕ) → Result say.Event Reason
give_up (dispatcher ∷ []) = do
  index ← index_or_fault (index_of (number dispatcher))
  Ok (say.GiveUp index)
give_up args = Err WrongWordCount

-- a restart of what is no coordinator: a worker's or a follower's
abbrev pub restart_other : Option ℕ → Option ℕ → Result say.Event Reason
restart_other (Some worker) follower = Ok (say.Restart (say.Worker worker))
restart_other None (Some follower) = Ok (say.Restart (say.Follower follower))
restart_other None None = Err BadName

-- a restart of the coordinator, of a worker or of a follower
abbrev pub restart : List (List ℕ) → Result say.Event Reason
restart (node ∷ []) =
    if bytes_eq node (codes "c") then Ok (say.Restart say.Coordinator)
    else restart_other (worker_index node) (follower_index node)
restart args = Err WrongWordCount

-- a follower asks for a later version
abbrev pub ask : List (List ℕ) → Result say.Event Reason
ask (follower ∷ []) = do
  index ← index_or_fault (index_of (number follower))
  Ok (say.Ask index)
ask args = Err WrongWordCount

-- a read of a key at a follower
abbrev pub read : List (List ℕ) → Result say.Event Reason
read (follower ∷ key ∷ []) = do
  index ← index_or_fault (index_of (number follower))
  k ← key_or_value key
  Ok (say.Read index k)
read args = Err WrongWordCount

-- one event as a list, or the fault
abbrev pub one_event : Result say.Event Reason → Result (List say.Event) Reason
one_event asks = asks >>= λ event. Ok (event ∷ [])

-- the events of a command with these arguments
abbrev pub events_of_command : Option Command → List (List ℕ) → Result (List say.Event) Reason
events_of_command None args = Err UnknownCommand
events_of_command (Some command.Put) args = one_event (put args)
events_of_command (Some command.Delete) args = one_event (delete args)
events_of_command (Some command.Batch) args = one_event (batch args)
events_of_command (Some command.Freeze) args = one_event (freeze args)
events_of_command (Some command.Flush) args = one_event (flush args)
events_of_command (Some command.Snap) args = one_event (snap args)
events_of_command (Some command.Release) args = one_event (release args)
events_of_command (Some command.Get) args = one_event (get args)
events_of_command (Some command.Scan) args = one_event (scan args)
events_of_command (Some command.Show) args = one_event (show args)
events_of_command (Some command.Trim) args = one_event (trim args)
events_of_command (Some command.Pick) args = one_event (pick args)
events_of_command (Some command.GiveUp) args = one_event (give_up args)
events_of_command (Some command.Deliver) args = deliver args
events_of_command (Some command.Restart) args = one_event (restart args)
events_of_command (Some command.Ask) args = one_event (ask args)
events_of_command (Some command.Read) args = one_event (read args)

-- the events of a line's words: a line without words, and a comment, have none
unfoldable pub events_of_words : List (List ℕ) → Result (List say.Event) Reason
events_of_words [] = Ok []
events_of_words (word ∷ args) = if is_comment word then Ok [] else events_of_command (read_command word) args

-- what was read of a line, or its fault under the number of the line
abbrev pub at_line : {A : Type 0} → ℕ → Result A Reason → Result A Fault
at_line n (Ok x) = Ok x
at_line n (Err reason) = Err (record { line = n; reason = reason })

-- the events of lines that are numbered from n on, or the first fault
unfoldable pub events_from : ℕ → List (List ℕ) → Result (List say.Event) Fault
events_from n [] = Ok []
events_from n (line ∷ lines) = do
  asked ← at_line n (events_of_words (words line))
  events ← events_from (n + 1) lines
  Ok (asked ++ events)

-- the events of a text, or its first fault
abbrev pub script : List ℕ → Result (List say.Event) Fault
script text = events_from 1 (lines text)
