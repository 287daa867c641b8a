use Rattle.std.proofs.Common.{List, arith, subst}
use Rattle.lsm_edit.specs.declared.served.Placed.{Placed}
use Rattle.lsm_pick.specs.Reach.{Grows, candidate_of, joins_at}
use Rattle.lsm_pick.proofs.ReachGrows.{grows_deep, grows_both}
use Rattle.lsm_pick.proofs.reach.widened.Goals as goal

pub returns-then-first-gt0-clause-grows : goal.returns-then-first-gt0-clause-grows
returns-then-first-gt0-clause-grows c =
    let below = c.with_next-below.result in
    grows_deep (candidate_of c.args.first.now c.args.older_only) c.args.served.now.places c.args.reach.lo.now c.args.reach.hi.now below.lo.now below.hi.now (λ e. absurd (omega (arith, e, c.if-first-gt0.true))) c.with_next-below.ensures

pub returns-clause-grows : goal.returns-clause-grows
returns-clause-grows c =
    let t = candidate_of c.args.first.now c.args.older_only in
    let below = c.with_next-below.result in
    let both = c.with_level_zero.result in
    let zero : Grows t c.args.served.now.places (joins_at t 0) below.lo.now below.hi.now both.lo.now both.hi.now =
    subst (λ (ps : List Placed). Grows t ps (joins_at t 0) below.lo.now below.hi.now both.lo.now both.hi.now) c.places-places.ensures.all c.with_level_zero.ensures in
    grows_both t c.args.served.now.places c.args.reach.lo.now c.args.reach.hi.now below.lo.now below.hi.now both.lo.now both.hi.now c.with_next-below.ensures zero
