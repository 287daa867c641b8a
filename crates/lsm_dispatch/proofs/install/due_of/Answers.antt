use Rattle.std.proofs.Common.{subst}
use Rattle.lsm_coord.specs.Contract.Picking.{IsPicked, Picks}
use Rattle.lsm_dispatch.proofs.install.due_of.Goals as goal

pub returns-in-Ok-Some-clause-ok : goal.returns-in-Ok-Some-clause-ok
returns-in-Ok-Some-clause-ok g c =
    let p : IsPicked c.args.coord.now c.in-Ok-Some.claim c.in-Ok-Some._job c.pick.new.self = subst (Picks c.args.coord.now c.pick.new.self) c.in-Ok-Some.field-0-is c.in-Ok-Some.ensures.ok in
    (c.in-Ok-Some.claim, c.in-Ok-Some._job, c.pick.new.self, p, c.give_back.ensures.book)
