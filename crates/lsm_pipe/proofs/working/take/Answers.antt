use Rattle.std.proofs.Common.{◌≡◌, rules}
use Rattle.lsm_msg.specs.declared.node.Node.TheVariants.{Worker}
use Rattle.lsm_pipe.proofs.WorkSteps.{taken_ignored}
use Rattle.lsm_pipe.proofs.working.take.Goals as goal

pub returns-then-ne-clause-ok : goal.returns-then-ne-clause-ok
returns-then-ne-clause-ok g c =
    let other : c.args.message.now.dst ≡ Worker c.args.index → ⊥ = search rules in
    taken_ignored c.args.index c.args.worker.now c.args.message.now (g.W.Sink.contents c.args.writer.now) c.requires other
