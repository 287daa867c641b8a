use Rattle.std.proofs.Common.{List, ℕ, sym, ap, subst, ◌∙◌}
use Rattle.lsm_store.specs.Ranges.{IsPart, ReadsFirst, after_pair, part_place}
use Rattle.lsm_store.proofs.RangeParts.{asked, place_after, stays}
use Rattle.lsm_store.proofs.store.range.Part.advance.Goals as goal

pub returns-clause-stays : goal.returns-clause-stays
returns-clause-stays g c =
    subst (IsPart c.args.store.now c.args.hi.now c.args.at) (sym c.in_ok-pair.ensures.after) (stays c.args.store.now c.args.hi.now c.args.at c.refill.new.self c.refill.ensures.stays c.in_ok-pair.pair c.in_ok-pair.ensures.ok)

pub returns-clause-ok : goal.returns-clause-ok
returns-clause-ok g c =
    subst (λ (from : List ℕ). ReadsFirst c.args.store.now from c.args.hi.now c.args.at c.in_ok-pair.pair) c.refill.ensures.place
    (asked c.args.store.now c.args.hi.now c.args.at c.refill.new.self c.refill.ensures.stays c.in_ok-refill.ensures.ready c.in_ok-pair.pair c.in_ok-pair.ensures.ok)

pub returns-clause-after : goal.returns-clause-after
returns-clause-after g c =
    ap part_place c.in_ok-pair.ensures.after ∙ place_after c.refill.new.self c.in_ok-pair.pair c.in_ok-pair.ensures.ok ∙ ap (λ (from : List ℕ). after_pair from c.in_ok-pair.pair) c.refill.ensures.place
