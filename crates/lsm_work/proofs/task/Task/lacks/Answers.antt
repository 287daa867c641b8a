use Rattle.lsm_work.specs.Workers.{missing}
use Rattle.lsm_work.proofs.Steps.{lacks-is}
use Rattle.std.proofs.Common.{◌∙◌}
use Rattle.lsm_work.proofs.task.Task.lacks.Goals as goal

pub returns : goal.returns
returns c = c.is_some.ensures ∙ lacks-is c.awaited.result (λ r. r.0.now) (missing c.args.self.now) c.args.number c.awaited.ensures.missing c.awaited.ensures.none
