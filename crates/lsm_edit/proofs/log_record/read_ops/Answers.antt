use Rattle.std.proofs.Common.{◌≡◌, ℕ, ap, sym, subst, ◌∙◌, arith, ◌-◌, ◌+◌}
use Rattle.std.proofs.lemmas.Result.{err_from_is_err_and}
use Rattle.lsm_key.specs.Reading.{Fails}
use Rattle.lsm_edit.specs.declared.log_record.Remaining.{Remaining}
use Rattle.lsm_edit.specs.LogRecord.{after_op, next_weight, op_at, ops_at}
use Rattle.lsm_edit.proofs.ItemsInTurn.{after_these, begun, one_read, none_read, all_read}
use Rattle.lsm_edit.proofs.LogRecordLaws.{all_of}
use Rattle.lsm_edit.proofs.log_record.read_ops.Goals as goal

pub loop-place-init : goal.loop-place-init
loop-place-init g c = (begun (λ (left : Remaining). op_at c.args.short c.args.bad (next_weight left)) after_op c.new-ops.result.items c.args.count (c.args.count - 0) (all_of c.args.count) c.args.rest.now c.new-ops.ensures.items (omega arith), omega arith)

pub returns-in_err-op : goal.returns-in_err-op
returns-in_err-op g c =
    let p = err_from_is_err_and c.from_residual.result c.from_residual.ensures.1 in
    rw (p.1, p.2) (none_read (λ (left : Remaining). op_at c.args.short c.args.bad (next_weight left)) after_op (ops_at c.args.short c.args.bad c.args.count (all_of c.args.count) c.args.rest.now) c.loop-place.ops.items (c.args.count - c.loop-place._place) (c.args.count - (c.loop-place._place + 1)) c.loop-place.left c.loop-place.rest
    c.loop-place.invariant.0 (omega (arith, c.loop-place-test.true)) c.in_err-op.field-0.0
    (subst (λ (most : ℕ). Fails c.in_err-op.field-0.0 (op_at c.args.short c.args.bad most c.loop-place.rest)) c.next_weight.ensures c.in_err-op.ensures))

pub loop-place-preserved : goal.loop-place-preserved
loop-place-preserved g c =
    let all = ops_at c.args.short c.args.bad c.args.count (all_of c.args.count) c.args.rest.now in
    let on : c.after-left.result ≡ after_op c.loop-place.left c.in_ok-op.op = c.after-left.ensures in
    let count = c.loop-place.invariant.1 in (
      subst (λ (left : Remaining). all ≡ after_these c.push.new.self.items (ops_at c.args.short c.args.bad (c.args.count - (c.loop-place._place + 1)) left c.read_op.new.rest)) (sym on)
          (one_read (λ (left : Remaining). op_at c.args.short c.args.bad (next_weight left)) after_op all c.loop-place.ops.items (c.args.count - c.loop-place._place) (c.args.count - (c.loop-place._place + 1)) c.loop-place.left c.loop-place.rest
          c.loop-place.invariant.0 (omega (arith, c.loop-place-test.true)) c.read_op.new.rest c.in_ok-op.op c.push.new.self.items
          (ap (λ (most : ℕ). op_at c.args.short c.args.bad most c.loop-place.rest) (sym c.next_weight.ensures) ∙ c.in_ok-op.ensures) c.in_ok-push.ensures.items),
      ap (λ (left : Remaining). left.ops) on ∙ omega (arith, count),
    )

pub returns : goal.returns
returns g c =
    all_read (λ (left : Remaining). op_at c.args.short c.args.bad (next_weight left)) after_op (ops_at c.args.short c.args.bad c.args.count (all_of c.args.count) c.args.rest.now) c.loop-place.ops.items (c.args.count - c.loop-place._place) 0 c.loop-place.left c.loop-place.rest
    c.loop-place.invariant.0 (omega (arith, c.loop-place-test.false))
