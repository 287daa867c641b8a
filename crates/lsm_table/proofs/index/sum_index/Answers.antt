use Rattle.std.proofs.Common.{◌≡◌, ◌∙◌, ℕ, ◌+◌, ◌-◌, sym, ap, arith}
use Rattle.lsm_table.specs.Index.{index_entry}
use Rattle.lsm_table.specs.TableReading.{sum_at}
use Rattle.lsm_table.proofs.ReadingLoops.{sum_none, sum_more, sum_fails}
use Rattle.lsm_table.proofs.index.sum_index.Goals as goal

pub returns-in-Err : goal.returns-in-Err
returns-in-Err c =
    c.loop-left.invariant.2 ∙ sum_fails c.args.max_key c.loop-left.left c.loop-left.total c.loop-left.rest.now c.in-Err.fault (c.loop-left-test.true) c.in-Err.ensures

pub loop-left-preserved : goal.loop-left-preserved
loop-left-preserved c =
    let i = c.loop-left.invariant in
    let some = c.loop-left-test.true in
    let fits = c.from-total.type_inv in (
      omega (arith, i.0),
      omega (arith, i.0, i.1, some, fits),
      i.2 ∙ sum_more c.args.max_key c.loop-left.left c.loop-left.total c.loop-left.rest.now (index_entry c.in-Ok.found.0) c.in-Ok.found.1.now some c.in-Ok.ensures
          ∙ ap (λ (n : ℕ). sum_at c.args.max_key (c.loop-left.left - 1) (c.loop-left.total + n) c.in-Ok.found.1.now) (sym c.from-total.ensures),
    )

pub returns : goal.returns
returns c =
    let none : c.loop-left.left ≡ 0 = (let no = c.loop-left-test.false in omega (arith, no)) in
    c.loop-left.invariant.2 ∙ ap (λ (n : ℕ). sum_at c.args.max_key n c.loop-left.total c.loop-left.rest.now) none ∙ sum_none c.args.max_key c.loop-left.total c.loop-left.rest.now
