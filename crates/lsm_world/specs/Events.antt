-- What events ask of the store and its nodes.
use Rattle.lsm_coord.specs.Model.Event as say
use Rattle.lsm_world.specs.declared.event.Event.{Event}
use Rattle.lsm_world.specs.declared.event.Event.TheVariants as event

-- an event, in the words of the model
abbrev pub event_of : Event → say.Event
event_of (event.Write ops) = say.Write ops
event_of event.Freeze = say.Freeze
event_of event.Flush = say.Flush
event_of event.Snap = say.Snap
event_of (event.Release id) = say.Release id
event_of (event.Get key at) = say.Get key at
event_of (event.Scan range) = say.Scan range.lo range.hi range.at range.limit
event_of event.Show = say.Show say.Coordinator
event_of (event.Trim number) = say.Trim number
event_of (event.Pick dispatcher) = say.Pick dispatcher
event_of (event.GiveUp dispatcher) = say.GiveUp dispatcher
event_of (event.Deliver message) = say.Deliver message
event_of event.RestartCoordinator = say.Restart say.Coordinator
event_of (event.RestartWorker worker) = say.Restart (say.Worker worker)
event_of (event.Ask follower) = say.Ask follower
event_of (event.Read follower key) = say.Read follower key
event_of (event.ShowFollower follower) = say.Show (say.Follower follower)
event_of (event.RestartFollower follower) = say.Restart (say.Follower follower)
