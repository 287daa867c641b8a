use Rattle.std.proofs.Common.{◌+◌, ◌&&◌, List, ℕ, subst, sym, arith, refl, cond}
use Rattle.lsm_key.specs.Sets.{IsIn}
use Rattle.lsm_key.proofs.Membership.{IsIn-at}
use Rattle.lsm_edit.specs.declared.served.Placed.{Placed}
use Rattle.lsm_key.specs.KeyRanges.{lower}
use Rattle.lsm_pick.specs.Reach.{is_met, may_join, candidate_of}
use Rattle.lsm_pick.proofs.ReachWalks.{Walk, walk_none, walk_by, walk_done, zero_walked, zero_all}
use Rattle.lsm_pick.proofs.reach.with_level_zero.Goals as goal

pub loop-placed-init : goal.loop-placed-init
loop-placed-init c = walk_none (candidate_of c.args.first.now c.args.older_only) c.args.places.now c.args.places.now 0 c.args.reach.lo.now c.args.reach.hi.now

pub loop-placed-preserved : goal.loop-placed-preserved
loop-placed-preserved c =
    let places = c.args.places.now in
    let t = candidate_of c.args.first.now c.args.older_only in
    let lo = c.args.reach.lo.now in
    let hi = c.args.reach.hi.now in
    let p = c.placed-item.result in
    let i = c.loop-placed.placed-index in
    let old_lo = c.loop-placed.wider.lo.now in
    let old_hi = c.loop-placed.wider.hi.now in
    let here : IsIn p places = subst (λ (x : Placed). IsIn x places) (sym c.placed-item.is) (IsIn-at places i p c.loop-placed-test.true) in
    let b = may_join t p.meta && is_met old_lo old_hi p.meta in
    let more = walk_by t places places 0 lo hi old_lo old_hi i p c.loop-placed-test.true c.placed-item.is c.loop-placed.invariant here b refl in
    subst (λ (k : List ℕ). Walk t places places 0 lo hi k c.taking-wider.result.hi.now (i + 1)) (sym c.taking-wider.ensures.lo)
    (subst (λ (k : List ℕ). Walk t places places 0 lo hi (cond b (lower old_lo p.meta.smallest) old_lo) k (i + 1)) (sym c.taking-wider.ensures.hi) more)

pub returns-then-placed-gt0 : goal.returns-then-placed-gt0
returns-then-placed-gt0 c =
    let places = c.args.places.now in
    let t = candidate_of c.args.first.now c.args.older_only in
    let lo = c.args.reach.lo.now in
    let hi = c.args.reach.hi.now in
    walk_done t places places 0 lo hi c.loop-placed.wider.lo.now c.loop-placed.wider.hi.now c.loop-placed.placed-index c.loop-placed.invariant
    (zero_walked places t lo hi c.loop-placed.placed-index c.placed-item.result c.requires.ordered c.loop-placed-test.true c.placed-item.is c.if-placed-gt0.true)

pub returns : goal.returns
returns c =
    let places = c.args.places.now in
    let t = candidate_of c.args.first.now c.args.older_only in
    let lo = c.args.reach.lo.now in
    let hi = c.args.reach.hi.now in
    walk_done t places places 0 lo hi c.loop-placed.wider.lo.now c.loop-placed.wider.hi.now c.loop-placed.placed-index c.loop-placed.invariant
    (zero_all places t lo hi c.loop-placed.placed-index (omega (arith, c.loop-placed-test.false)))
