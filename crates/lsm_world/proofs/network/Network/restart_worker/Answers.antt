-- A worker that is started anew has no task.
use Rattle.std.proofs.Common.{List, ap, refl}
use Rattle.lsm_work.specs.Workers.{WorkerValue}
use Rattle.lsm_world.specs.Nodes.{NetworkValue}
use Rattle.lsm_world.proofs.WorkersInPlace.{anew_in_place, anew_keeps}
use Rattle.lsm_world.proofs.network.Network.restart_worker.Goals as goal

pub returns-clause-asks : goal.returns-clause-asks
returns-clause-asks c =
    let old : NetworkValue = record { workers = c.self.inside.workers; followers = c.self.inside.followers; messages = c.self.inside.messages } in
    let place = anew_in_place old c.args.index c.replace-worker.result c.new.result c.restart.new.self c.replace-worker.new.self c.replace.new.self c.replace-worker.ensures.before c.replace-worker.ensures.after c.restart.ensures c.replace.ensures.after in
    rw (← c.self.view_is) (refl, (c.replace-worker.result, c.replace-worker.ensures.before, ap (λ (workers : List WorkerValue). record old { workers = workers }) place))

pub returns-clause-keeps : goal.returns-clause-keeps
returns-clause-keeps c =
    rw (← c.self.view_is) (anew_keeps _ c.args.index c.replace-worker.result c.new.result c.restart.new.self c.replace-worker.new.self c.replace.new.self c.replace-worker.ensures.before c.replace-worker.ensures.after c.restart.ensures c.replace.ensures.after)
