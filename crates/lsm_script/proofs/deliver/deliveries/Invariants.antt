-- the deliveries so far
use Rattle.std.proofs.Common.{◌≡◌, map}
use Rattle.lsm_world.specs.Events.{event_of}
use Rattle.lsm_script.specs.Deliveries.{deliveries}
use Rattle.lsm_script.proofs.deliver.deliveries.Given as goal

abbrev pub invariant-loop-place : goal.invariant-loop-place
invariant-loop-place l = map event_of l.events.items ≡ deliveries l.first l.place
