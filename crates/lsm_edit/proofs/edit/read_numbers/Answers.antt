use Rattle.std.proofs.Common.{arith, ◌-◌, ◌+◌}
use Rattle.std.specs.Int.{w64}
use Rattle.std.proofs.lemmas.Result.{err_from_is_err_and}
use Rattle.lsm_key.specs.Reading.{ranged_number_at}
use Rattle.lsm_key.proofs.FieldLaws.{within_range}
use Rattle.lsm_edit.specs.Edit.{numbers_at, after_number}
use Rattle.lsm_edit.proofs.ItemsInTurn.{begun, one_read, none_read, all_read}
use Rattle.lsm_edit.proofs.edit.read_numbers.Goals as goal

pub loop-place-init : goal.loop-place-init
loop-place-init g c = begun (λ from. ranged_number_at c.args.short c.args.bad w64 from c.args.most) after_number c.new-numbers.result c.args.count (c.args.count - 0) c.args.least c.args.rest.now c.new-numbers.ensures (omega arith)

pub returns-in_err-number : goal.returns-in_err-number
returns-in_err-number g c =
    let p = err_from_is_err_and c.from_residual.result c.from_residual.ensures.1 in
    rw (p.1, p.2) (none_read (λ from. ranged_number_at c.args.short c.args.bad w64 from c.args.most) after_number (numbers_at c.args.short c.args.bad c.args.most c.args.count c.args.least c.args.rest.now) c.loop-place.numbers (c.args.count - c.loop-place._place) (c.args.count - (c.loop-place._place + 1)) c.loop-place.least c.loop-place.rest
    c.loop-place.invariant (omega (arith, c.loop-place-test.true)) c.in_err-number.field-0.0 c.in_err-number.ensures)

pub overflow_add-least : goal.overflow_add-least
overflow_add-least g c =
    let most = (within_range c.args.short c.args.bad w64 c.loop-place.least c.args.most c.loop-place.rest (c.in_ok-number.number, c.read_ranged_u64.new.rest) c.in_ok-number.ensures).1 in
    omega (arith, most, c.requires)

pub loop-place-preserved : goal.loop-place-preserved
loop-place-preserved g c =
    one_read (λ from. ranged_number_at c.args.short c.args.bad w64 from c.args.most) after_number (numbers_at c.args.short c.args.bad c.args.most c.args.count c.args.least c.args.rest.now) c.loop-place.numbers (c.args.count - c.loop-place._place) (c.args.count - (c.loop-place._place + 1)) c.loop-place.least c.loop-place.rest
    c.loop-place.invariant (omega (arith, c.loop-place-test.true)) c.read_ranged_u64.new.rest c.in_ok-number.number c.push.new.self c.in_ok-number.ensures c.in_ok-push.ensures.ok

pub returns : goal.returns
returns g c =
    all_read (λ from. ranged_number_at c.args.short c.args.bad w64 from c.args.most) after_number (numbers_at c.args.short c.args.bad c.args.most c.args.count c.args.least c.args.rest.now) c.loop-place.numbers (c.args.count - c.loop-place._place) 0 c.loop-place.least c.loop-place.rest
    c.loop-place.invariant (omega (arith, c.loop-place-test.false))
