use Rattle.lsm_dispatch.proofs.HeldClaims.{four_left}
use Rattle.lsm_dispatch.proofs.KeptSteps.{four_keep, four_returned}
use Rattle.lsm_dispatch.proofs.crew.Crew.close.Goals as goal

pub returns-clause-none : goal.returns-clause-none
returns-clause-none g c =
    let r = c.into_states-first.result in
    four_left c.args.coord.now c.settle.new.coord c.settle-2.new.coord c.settle-3.new.coord c.settle-4.new.coord r.0 r.1 r.2 r.3 c.args.self c.into_states-first.ensures c.settle.ensures c.settle-2.ensures c.settle-3.ensures c.settle-4.ensures

pub returns-clause-keeps : goal.returns-clause-keeps
returns-clause-keeps g c =
    let r = c.into_states-first.result in
    four_keep c.args.coord.now c.settle.new.coord c.settle-2.new.coord c.settle-3.new.coord c.settle-4.new.coord r.0 r.1 r.2 r.3 c.settle.ensures c.settle-2.ensures c.settle-3.ensures c.settle-4.ensures

pub returns-clause-returned : goal.returns-clause-returned
returns-clause-returned g c =
    let r = c.into_states-first.result in
    four_returned c.args.coord.now c.settle.new.coord c.settle-2.new.coord c.settle-3.new.coord c.settle-4.new.coord r.0 r.1 r.2 r.3 c.args.self c.into_states-first.ensures c.settle.ensures c.settle-2.ensures c.settle-3.ensures c.settle-4.ensures
