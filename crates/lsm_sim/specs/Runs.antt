-- What running a script reads and writes.
use Rattle.std.specs.Prelude.{◌≡◌, ◌⊎◌, ℕ, List, Option, IfSome, Ok, Err, map, take}
use Rattle.std.specs.Io.KnownBytes.{Appends}
use Rattle.lsm_coord.specs.Model.Run.{RunOfNew}
use Rattle.lsm_key.specs.declared.limits.Limits.{Limits}
use Rattle.lsm_key.specs.declared.refused.Refused.{Refused}
use Rattle.lsm_key.specs.declared.refused.Refused.TheVariants as refused
use Rattle.lsm_script.specs.declared.fault.Fault.{Fault}
use Rattle.lsm_sim.specs.declared.error.RunError.{RunError}
use Rattle.lsm_sim.specs.declared.error.RunError.TheVariants.{Script, ReadFault, WriteFault, OutOfMemory}
use Rattle.lsm_script.specs.Replies.{reply_lines}
use Rattle.lsm_script.specs.Script.{script}
use Rattle.lsm_io.specs.declared.error.StreamError.{StreamError}
use Rattle.lsm_io.specs.declared.error.StreamError.TheVariants as stream
use Rattle.lsm_world.specs.declared.event.Event.{Event}
use Rattle.lsm_world.specs.declared.reply.Reply.{Reply}
use Rattle.lsm_world.specs.Events.{event_of}
use Rattle.lsm_world.specs.Nodes.{StoreValue}
use Rattle.lsm_world.specs.Schedules.{WorldValue, IsNew, AskedAll, RunsTo, events_in, model_steps, replies_in}

-- the error of a script that is refused
abbrev pub run_error_of : Refused Fault → RunError
run_error_of refused.OutOfMemory = OutOfMemory
run_error_of (refused.Fault fault) = Script fault.line fault.reason

-- the error of a script that can't be read, or whose lines can't be written
abbrev pub run_error_of_stream : StreamError → RunError
run_error_of_stream stream.ReadFault = ReadFault
run_error_of_stream stream.WriteFault = WriteFault
run_error_of_stream stream.OutOfMemory = OutOfMemory

-- the exit status of an error (the store's own)
abbrev pub exit_status : RunError → ℕ
exit_status (Script line reason) = 2
exit_status ReadFault = 1
exit_status WriteFault = 1
exit_status OutOfMemory = 1

-- these are the events, in order; each that was taken asked its node and got its reply, and with the replies they are a run of the model
pub record Happens (old : StoreValue) (events : List Event) (steps : List (Event × Reply)) (new : StoreValue) : Type 0 where
  pub events_are : events_in steps ≡ events
  pub asked : AskedAll old steps new
  pub runs : RunsTo old steps new

-- The events got some replies of the nodes of a new store of these limits. With the replies they are a run of a new store, and the
-- text is the replies' lines.
pub record Prints (limits : Limits) (events : List Event) (text : List ℕ) : Type 0 where
  pub first : WorldValue
  pub is_new : IsNew limits first
  pub steps : List (Event × Reply)
  pub events_are : events_in steps ≡ events
  pub last : StoreValue
  pub asked : AskedAll first.nodes steps last
  pub runs : RunOfNew (model_steps steps)
  pub prints : text ≡ reply_lines (replies_in steps)

-- what was written after what a writer held is what the events of the script print
abbrev pub PrintsScript : Limits → List ℕ → Option (List ℕ) → Option (List ℕ) → Type 0
PrintsScript limits script_text old new =
    (events : List Event) × (script script_text ≡ Ok (map event_of events)) × (text : List ℕ) × Prints limits events text × Appends old new text

-- a first part of the events happened, and what was written is a prefix of the lines of its replies
abbrev pub HappensInPart : StoreValue → List Event → StoreValue → Option (List ℕ) → Option (List ℕ) → Type 0
HappensInPart old events new was held =
    (n : ℕ) × (steps : List (Event × Reply)) × (k : ℕ) × Happens old (take n events) steps new × Appends was held (take k (reply_lines (replies_in steps)))

-- what was written after what a writer held is a prefix of what a first part of the events of the script prints
abbrev pub PrintsAPart : Limits → List ℕ → Option (List ℕ) → Option (List ℕ) → Type 0
PrintsAPart limits script_text old new =
    (events : List Event) × (script script_text ≡ Ok (map event_of events))
    × (n : ℕ) × (text : List ℕ) × (k : ℕ) × Prints limits (take n events) text × Appends old new (take k text)

-- what each error says of the script, if that is known, and of what was written
abbrev pub StopsFor : Limits → RunError → Option (List ℕ) → Option (List ℕ) → Option (List ℕ) → Type 0
StopsFor limits (Script line reason) known old new = IfSome known (λ text. script text ≡ Err (record { line = line; reason = reason })) × (new ≡ old)
StopsFor limits ReadFault known old new = new ≡ old
StopsFor limits WriteFault known old new = IfSome known (λ text. PrintsAPart limits text old new)
StopsFor limits OutOfMemory known old new = (new ≡ old) ⊎ IfSome known (λ text. PrintsAPart limits text old new)
