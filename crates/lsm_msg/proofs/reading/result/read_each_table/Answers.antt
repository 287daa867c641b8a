use Rattle.std.proofs.Common.{arith, ◌-◌, ◌+◌}
use Rattle.std.proofs.lemmas.Result.{err_from_is_err_and}
use Rattle.lsm_edit.proofs.ItemsInTurn.{begun, one_read, none_read, all_read}
use Rattle.lsm_msg.specs.MessageReading.{each_at, sized_at}
use Rattle.lsm_msg.proofs.reading.result.read_each_table.Goals as goal

pub loop-place-init : goal.loop-place-init
loop-place-init c = begun {S = Unit {0}} (λ s. sized_at) (λ s x. s) c.new-tables.result c.args.count (c.args.count - 0) tt c.args.rest.now c.new-tables.ensures (omega arith)

pub returns-in_err-table : goal.returns-in_err-table
returns-in_err-table c =
    let p = err_from_is_err_and c.from_residual.result c.from_residual.ensures.1 in
    rw (p.1, p.2) (none_read {S = Unit {0}} (λ s. sized_at) (λ s x. s) (each_at sized_at c.args.count c.args.rest.now) c.loop-place.tables (c.args.count - c.loop-place._place) (c.args.count - (c.loop-place._place + 1)) tt c.loop-place.rest
    c.loop-place.invariant (omega (arith, c.loop-place-test.true)) c.in_err-table.field-0.0 c.in_err-table.ensures)

pub loop-place-preserved : goal.loop-place-preserved
loop-place-preserved c =
    one_read {S = Unit {0}} (λ s. sized_at) (λ s x. s) (each_at sized_at c.args.count c.args.rest.now) c.loop-place.tables (c.args.count - c.loop-place._place) (c.args.count - (c.loop-place._place + 1)) tt c.loop-place.rest
    c.loop-place.invariant (omega (arith, c.loop-place-test.true)) c.read_sized.new.rest c.in_ok-table.table c.push.new.self c.in_ok-table.ensures c.in_ok-push.ensures.ok

pub returns : goal.returns
returns c =
    all_read {S = Unit {0}} (λ s. sized_at) (λ s x. s) (each_at sized_at c.args.count c.args.rest.now) c.loop-place.tables (c.args.count - c.loop-place._place) 0 tt c.loop-place.rest
    c.loop-place.invariant (omega (arith, c.loop-place-test.false))
