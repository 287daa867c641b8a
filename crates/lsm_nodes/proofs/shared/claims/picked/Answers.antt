-- A claim that goes back leaves only its number.
use Rattle.std.proofs.Common.{Option, subst}
use Rattle.lsm_claim.specs.declared.job.LiveJob.{LiveJob}
use Rattle.lsm_msg.specs.declared.job.JobParts.{JobParts}
use Rattle.lsm_coord.specs.Contract.Picking.{IsPicked, Picks}
use Rattle.lsm_nodes.proofs.RecordedPicks.{picks_in_vain}
use Rattle.lsm_nodes.proofs.shared.claims.picked.Goals as goal

pub returns-in-Err-picked_answers-clause-does : goal.returns-in-Err-picked_answers-clause-does
returns-in-Err-picked_answers-clause-does g c =
    let h = c.in-Ok-Some.ensures in
    let picked : IsPicked c.args.coord.now c.in-Ok-Some.claim c.in-Ok-Some.job c.pick.new.self = subst (λ (x : Option (LiveJob × JobParts)). Picks c.args.coord.now c.pick.new.self x) c.in-Ok-Some.field-0-is h.ok in
    picks_in_vain c.args.coord.now c.pick.new.self c.give_back.new.self c.in-Ok-Some.claim c.in-Ok-Some.job h.step picked h.sound c.give_back.ensures.step c.give_back.ensures.book c.give_back.ensures.sound
