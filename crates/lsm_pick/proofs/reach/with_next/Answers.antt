use Rattle.std.proofs.Common.{◌∙◌, ◌+◌, List, ℕ, ap, subst, sym, arith, eqb}
use Rattle.std.proofs.lemmas.Bool.{and_parts, or_left}
use Rattle.lsm_key.specs.Order.{key_le}
use Rattle.lsm_key.specs.Sets.{IsIn}
use Rattle.lsm_key.proofs.Membership.{IsIn-at}
use Rattle.lsm_edit.specs.declared.served.Placed.{Placed}
use Rattle.lsm_key.specs.KeyRanges.{higher, lower}
use Rattle.lsm_pick.specs.Reach.{candidate_of}
use Rattle.lsm_pick.proofs.ReachGrows.{met_more}
use Rattle.lsm_pick.proofs.ReachWalks.{Walk, walk_none, walk_more, walk_done, rest_in, all_walked, stopped_at, begun_met}
use Rattle.lsm_pick.proofs.reach.with_next.Goals as goal

pub loop-placed-init : goal.loop-placed-init
loop-placed-init c =
    let places = c.args.served.now.places in
    walk_none (candidate_of c.args.first.now c.args.older_only) places c.level_from-placed-items.result.now (c.args.first.now.level + 1) c.args.reach.lo.now c.args.reach.hi.now

pub loop-placed-preserved : goal.loop-placed-preserved
loop-placed-preserved c =
    let places = c.args.served.now.places in
    let rest = c.level_from-placed-items.result.now in
    let lo = c.args.reach.lo.now in
    let hi = c.args.reach.hi.now in
    let level = c.args.first.now.level + 1 in
    let t = candidate_of c.args.first.now c.args.older_only in
    let w = c.loop-placed.invariant in
    let p = c.placed-item.result in
    let here : IsIn p rest = subst (λ (x : Placed). IsIn x rest) (sym c.placed-item.is) (IsIn-at rest c.loop-placed.placed-index p c.loop-placed-test.true) in
    let begun = sym c.begins_by.ensures ∙ c.if-not-begins_by.false in
    let met = begun_met places rest level lo hi (omega arith) c.level_from-placed-items.ensures.sound.recorded c.level_from-placed-items.ensures.sound.ordered c.level_from-placed-items.ensures.from t p here begun in
    let join = or_left (eqb p.meta.level level) _ (and_parts (eqb p.meta.level level) (key_le p.meta.smallest hi) begun).0 in
    let old_lo = c.loop-placed.wider.lo.now in
    let old_hi = c.loop-placed.wider.hi.now in
    let more = walk_more t places rest level lo hi old_lo old_hi c.loop-placed.placed-index p c.loop-placed-test.true c.placed-item.is w
    (rest_in places rest level lo hi (omega arith) c.level_from-placed-items.ensures.sound.recorded c.level_from-placed-items.ensures.sound.ordered c.level_from-placed-items.ensures.from t p here)
    join (met_more lo hi old_lo old_hi p.meta w.low w.high met) in
    subst (λ (k : List ℕ). Walk t places rest level lo hi k c.hull_with-wider.result.hi.now (c.loop-placed.placed-index + 1)) (sym (c.hull_with-wider.ensures.lo ∙ ap (lower old_lo) c.range.ensures.lo))
    (subst (λ (k : List ℕ). Walk t places rest level lo hi (lower old_lo p.meta.smallest) k (c.loop-placed.placed-index + 1)) (sym (c.hull_with-wider.ensures.hi ∙ ap (higher old_hi) c.range.ensures.hi)) more)

pub returns-then-not-begins_by : goal.returns-then-not-begins_by
returns-then-not-begins_by c =
    let places = c.args.served.now.places in
    let rest = c.level_from-placed-items.result.now in
    let lo = c.args.reach.lo.now in
    let hi = c.args.reach.hi.now in
    let level = c.args.first.now.level + 1 in
    let t = candidate_of c.args.first.now c.args.older_only in
    walk_done t places rest level lo hi c.loop-placed.wider.lo.now c.loop-placed.wider.hi.now c.loop-placed.placed-index c.loop-placed.invariant
    (stopped_at places rest level lo hi (omega arith) c.level_from-placed-items.ensures.sound.recorded c.level_from-placed-items.ensures.sound.ordered c.level_from-placed-items.ensures.from t
    c.loop-placed.placed-index c.placed-item.result c.loop-placed-test.true c.placed-item.is (sym c.begins_by.ensures ∙ c.if-not-begins_by.true))

pub returns : goal.returns
returns c =
    let places = c.args.served.now.places in
    let rest = c.level_from-placed-items.result.now in
    let lo = c.args.reach.lo.now in
    let hi = c.args.reach.hi.now in
    let level = c.args.first.now.level + 1 in
    let t = candidate_of c.args.first.now c.args.older_only in
    walk_done t places rest level lo hi c.loop-placed.wider.lo.now c.loop-placed.wider.hi.now c.loop-placed.placed-index c.loop-placed.invariant
    (all_walked places rest level lo hi (omega arith) c.level_from-placed-items.ensures.sound.recorded c.level_from-placed-items.ensures.sound.ordered c.level_from-placed-items.ensures.from t
    c.loop-placed.placed-index (omega (arith, c.loop-placed-test.false)))
