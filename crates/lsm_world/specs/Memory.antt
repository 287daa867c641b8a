-- What a lack of memory does to an event, and which events take no memory but for their place in the trace (the store's own).
use Rattle.std.specs.Prelude.{◌≡◌}
use Rattle.lsm_world.specs.declared.event.Event.{Event}
use Rattle.lsm_world.specs.declared.event.Event.TheVariants as event
use Rattle.lsm_world.specs.declared.refusal.Refusal.TheVariants as why
use Rattle.lsm_world.specs.declared.reply.Reply.{Reply}
use Rattle.lsm_world.specs.declared.reply.Reply.TheVariants as reply

-- memory ran out: the event is refused for that, and nothing is done
abbrev pub LacksMemory : {X : Type 0} → X → Reply → X → Type 0
LacksMemory old r new = (r ≡ reply.Refused why.OutOfMemory) × (new ≡ old)

-- the event takes no memory beside its place in the trace
abbrev pub TakesNoMemory : Event → Type 0
TakesNoMemory (event.Release id) = Unit {0}
TakesNoMemory (event.GiveUp d) = Unit {0}
TakesNoMemory (event.RestartWorker index) = Unit {0}
TakesNoMemory (event.RestartFollower index) = Unit {0}
TakesNoMemory e = ⊥

-- an event that is taken and takes no memory is not refused for want of it
abbrev pub IsNotShort : Event → Reply → Type 0
IsNotShort e r = TakesNoMemory e → r ≡ reply.Refused why.OutOfMemory → ⊥
