use Rattle.std.proofs.Common.{refl}
use Rattle.lsm_world.specs.Nodes.{NodesValue, nodes_of}
use Rattle.lsm_world.specs.Schedules.{AreNew}
use Rattle.lsm_world.proofs.FirstHistory.{first_history}
use Rattle.lsm_world.proofs.nodes.Nodes.new.Goals as goal

pub invariant_of-result : goal.invariant_of-result
invariant_of-result g c =
    let made : NodesValue = nodes_of c.args.coord c.new.result c.new-2.result in
    let new : AreNew c.args.coord.limits made = record {
      shown = c.requires.shown;
      limits = refl;
      kept = c.requires.kept;
      book = c.requires.book;
      desk = c.new.ensures;
      workers = c.new-2.ensures.workers;
      followers = c.new-2.ensures.followers;
      messages = c.new-2.ensures.messages;
    } in
    (_, first_history c.args.coord.limits made new c.know_fit.ensures)
