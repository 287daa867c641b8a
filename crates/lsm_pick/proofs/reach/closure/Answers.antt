use Rattle.std.proofs.Common.{◌≡◌, ◌∙◌, true, List, ℕ, subst, sym}
use Rattle.std.proofs.lemmas.Bool.{true≢false}
use Rattle.lsm_key.proofs.Membership.{IsIn-map, IsIn-mapped}
use Rattle.lsm_edit.specs.declared.file.FileMeta.{FileMeta}
use Rattle.lsm_edit.specs.declared.served.Placed.{Placed}
use Rattle.lsm_pick.specs.Reach.{IsReach, is_inside, is_met, may_join, candidate_of}
use Rattle.lsm_pick.proofs.ReachGrows.{reach_first}
use Rattle.lsm_pick.proofs.ClosureEnds.{fewer_outside}
use Rattle.lsm_pick.proofs.reach.closure.Goals as goal

pub loop-reach-init : goal.loop-reach-init
loop-reach-init c =
    let t = candidate_of c.args.first.now c.args.older_only in
    let files = c.args.served.now.version.files in (
      subst (λ (k : List ℕ). IsReach files t k c.range-reach.result.hi.now) (sym c.range-reach.ensures.lo)
          (subst (λ (k : List ℕ). IsReach files t t.first.smallest k) (sym c.range-reach.ensures.hi) (reach_first files t c.requires.listed)),
      c.widened-wider.ensures.grows,
    )

pub loop-reach-preserved : goal.loop-reach-preserved
loop-reach-preserved c =
    let t = candidate_of c.args.first.now c.args.older_only in
    let files = c.args.served.now.version.files in
    let places = c.args.served.now.places in
    let old = c.loop-reach.invariant in (
      (old.1).sound files (λ p m. ((c.widened-wider.ensures.sound).listed p.meta).0 (IsIn-map (λ (q : Placed). q.meta) p places m)) old.0,
      c.widened-wider-in-loop-reach.ensures.grows,
    )

pub loop-reach-smaller : goal.loop-reach-smaller
loop-reach-smaller c =
    let t = candidate_of c.args.first.now c.args.older_only in
    let files = c.args.served.now.version.files in
    let places = c.args.served.now.places in
    let old = c.loop-reach.invariant in
    let next = (old.1).sound files (λ p m. ((c.widened-wider.ensures.sound).listed p.meta).0 (IsIn-map (λ (q : Placed). q.meta) p places m)) old.0 in
    fewer_outside files t c.loop-reach.reach.lo.now c.loop-reach.reach.hi.now c.loop-reach.wider.lo.now c.loop-reach.wider.hi.now next (old.1).low (old.1).high
    (λ same. true≢false (sym ((c.same.ensures).1 same) ∙ c.loop-reach-test.true))

pub returns : goal.returns
returns c =
    let t = candidate_of c.args.first.now c.args.older_only in
    let files = c.args.served.now.version.files in
    let places = c.args.served.now.places in
    let old = c.loop-reach.invariant in
    let same = (c.same.ensures).0 c.loop-reach-test.false in
    record {
      reach = old.0;
      full = λ f m j met.
          let p = IsIn-mapped (λ (q : Placed). q.meta) f places (((c.widened-wider.ensures.sound).listed f).1 m) in
          subst (λ (k : List ℕ). is_inside k c.loop-reach.reach.hi.now f ≡ true) same.0
          (subst (λ (k : List ℕ). is_inside c.loop-reach.wider.lo.now k f ≡ true) same.1
          (subst (λ (g : FileMeta). is_inside c.loop-reach.wider.lo.now c.loop-reach.wider.hi.now g ≡ true) (sym p.2)
          ((old.1).taken p.0 p.1 (subst (λ (g : FileMeta). may_join t g ≡ true) p.2 j) (subst (λ (g : FileMeta). is_met c.loop-reach.reach.lo.now c.loop-reach.reach.hi.now g ≡ true) p.2 met))));
    }
