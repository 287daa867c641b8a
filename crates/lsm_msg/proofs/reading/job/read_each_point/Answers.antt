use Rattle.std.proofs.Common.{◌≡◌, arith, ◌-◌, ◌+◌, ◌^◌, ◌∷◌, ◌++◌, [], ℕ, ap, ◌∙◌}
use Rattle.std.specs.Int.{w64}
use Rattle.std.proofs.lemmas.Result.{err_from_is_err_and}
use Rattle.lsm_key.specs.Reading.{ranged_number_at}
use Rattle.lsm_key.proofs.FieldLaws.{within_range}
use Rattle.lsm_edit.specs.Edit.{numbers_at, after_number}
use Rattle.lsm_edit.proofs.ItemsInTurn.{begun, one_read, none_read, all_read}
use Rattle.lsm_msg.specs.declared.fault.MsgFault.TheVariants.{Truncated, BadField}
use Rattle.lsm_msg.proofs.reading.job.read_each_point.Goals as goal

pub loop-place-init : goal.loop-place-init
loop-place-init c = begun (λ from. ranged_number_at Truncated BadField w64 from (2 ^ 56 - 1)) after_number c.new-points.result c.args.count (c.args.count - 0) 0 c.args.rest.now c.new-points.ensures (omega arith)

pub returns-in_err-point : goal.returns-in_err-point
returns-in_err-point c =
    let p = err_from_is_err_and c.from_residual.result c.from_residual.ensures.1 in
    rw (p.1, p.2) (none_read (λ from. ranged_number_at Truncated BadField w64 from (2 ^ 56 - 1)) after_number (numbers_at Truncated BadField (2 ^ 56 - 1) c.args.count 0 c.args.rest.now) c.loop-place.points (c.args.count - c.loop-place._place) (c.args.count - (c.loop-place._place + 1)) c.loop-place.least c.loop-place.rest
    c.loop-place.invariant (omega (arith, c.loop-place-test.true)) c.in_err-point.field-0.0 c.in_err-point.ensures)

pub new-requires : goal.new-requires
new-requires c = let r = within_range Truncated BadField w64 c.loop-place.least (2 ^ 56 - 1) c.loop-place.rest (c.in_ok-point.point, c.read_ranged_u64.new.rest) c.in_ok-point.ensures in omega (arith, r.1)

pub overflow_add-least : goal.overflow_add-least
overflow_add-least c = let r = within_range Truncated BadField w64 c.loop-place.least (2 ^ 56 - 1) c.loop-place.rest (c.in_ok-point.point, c.read_ranged_u64.new.rest) c.in_ok-point.ensures in omega (arith, r.1)

pub loop-place-preserved : goal.loop-place-preserved
loop-place-preserved c =
    let pushed : c.push.new.self ≡ c.loop-place.points ++ c.in_ok-point.point ∷ [] = c.in_ok-push.ensures.ok ∙ ap (λ (n : ℕ). c.loop-place.points ++ n ∷ []) c.new.ensures in
    one_read (λ from. ranged_number_at Truncated BadField w64 from (2 ^ 56 - 1)) after_number (numbers_at Truncated BadField (2 ^ 56 - 1) c.args.count 0 c.args.rest.now) c.loop-place.points (c.args.count - c.loop-place._place) (c.args.count - (c.loop-place._place + 1)) c.loop-place.least c.loop-place.rest
    c.loop-place.invariant (omega (arith, c.loop-place-test.true)) c.read_ranged_u64.new.rest c.in_ok-point.point c.push.new.self c.in_ok-point.ensures pushed

pub returns : goal.returns
returns c =
    all_read (λ from. ranged_number_at Truncated BadField w64 from (2 ^ 56 - 1)) after_number (numbers_at Truncated BadField (2 ^ 56 - 1) c.args.count 0 c.args.rest.now) c.loop-place.points (c.args.count - c.loop-place._place) 0 c.loop-place.least c.loop-place.rest
    c.loop-place.invariant (omega (arith, c.loop-place-test.false))
