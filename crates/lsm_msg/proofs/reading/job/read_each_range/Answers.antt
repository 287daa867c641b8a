use Rattle.std.proofs.Common.{arith, ◌-◌, ◌+◌}
use Rattle.std.proofs.lemmas.Result.{err_from_is_err_and}
use Rattle.lsm_edit.proofs.ItemsInTurn.{begun, one_read, none_read, all_read}
use Rattle.lsm_msg.specs.MessageReading.{each_at, range_at}
use Rattle.lsm_msg.proofs.reading.job.read_each_range.Goals as goal

pub loop-place-init : goal.loop-place-init
loop-place-init c = begun {S = Unit {0}} (λ s. range_at c.args.max_key) (λ s x. s) c.new-ranges.result c.args.count (c.args.count - 0) tt c.args.rest.now c.new-ranges.ensures (omega arith)

pub returns-in_err-range : goal.returns-in_err-range
returns-in_err-range c =
    let p = err_from_is_err_and c.from_residual.result c.from_residual.ensures.1 in
    rw (p.1, p.2) (none_read {S = Unit {0}} (λ s. range_at c.args.max_key) (λ s x. s) (each_at (range_at c.args.max_key) c.args.count c.args.rest.now) c.loop-place.ranges (c.args.count - c.loop-place._place) (c.args.count - (c.loop-place._place + 1)) tt c.loop-place.rest
    c.loop-place.invariant (omega (arith, c.loop-place-test.true)) c.in_err-range.field-0.0 c.in_err-range.ensures)

pub loop-place-preserved : goal.loop-place-preserved
loop-place-preserved c =
    one_read {S = Unit {0}} (λ s. range_at c.args.max_key) (λ s x. s) (each_at (range_at c.args.max_key) c.args.count c.args.rest.now) c.loop-place.ranges (c.args.count - c.loop-place._place) (c.args.count - (c.loop-place._place + 1)) tt c.loop-place.rest
    c.loop-place.invariant (omega (arith, c.loop-place-test.true)) c.read_range.new.rest c.in_ok-range.range c.push.new.self c.in_ok-range.ensures c.in_ok-push.ensures.ok

pub returns : goal.returns
returns c =
    all_read {S = Unit {0}} (λ s. range_at c.args.max_key) (λ s x. s) (each_at (range_at c.args.max_key) c.args.count c.args.rest.now) c.loop-place.ranges (c.args.count - c.loop-place._place) 0 tt c.loop-place.rest
    c.loop-place.invariant (omega (arith, c.loop-place-test.false))
