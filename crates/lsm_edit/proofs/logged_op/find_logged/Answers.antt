use Rattle.std.proofs.Common.{◌≡◌, ◌+◌, length, take, drop, refl, sym, ap, subst, ◌∙◌, arith}
use Rattle.lsm_key.specs.declared.op.Op.{Op}
use Rattle.lsm_key.specs.declared.op.Op.TheVariants.{Put}
use Rattle.lsm_key.specs.Writes.{key_of}
use Rattle.lsm_edit.specs.LogRecord.{op_bytes, op_value}
use Rattle.lsm_edit.proofs.LoggedOps.{key_part, value_part}
use Rattle.lsm_edit.proofs.logged_op.find_logged.Goals as goal

pub returns-in_ok-value-in-Put-clause-key : goal.returns-in_ok-value-in-Put-clause-key
returns-in_ok-value-in-Put-clause-key c =
    let size : c.len.result ≡ length (key_of c.args.op.now) = c.len.ensures.value ∙ ap length c.key.ensures in
    c.in_ok-key.ensures.ok ∙ key_part c.args.logged.now c.args.at c.args.op.now c.requires (c.args.at + 3) (c.args.at + 3 + c.len.result) refl (omega (arith, size))

pub returns-in_ok-value-in-Put-clause-value : goal.returns-in_ok-value-in-Put-clause-value
returns-in_ok-value-in-Put-clause-value c =
    let k = c.in-Put.field-0 in
    let v = c.in-Put.value in
    let is : c.args.op.now ≡ Put k v = c.in-Put.is in
    let size : c.len.result ≡ length k = c.len.ensures.value ∙ ap length c.key.ensures ∙ ap (λ (op : Op). length (key_of op)) is in
    let lies = subst (λ (op : Op). take (length (op_bytes op)) (drop c.args.at c.args.logged.now) ≡ op_bytes op) is c.requires in
    let from = c.args.at + 3 + c.len.result + 4 in
    c.in_ok-value-in-Put.ensures.ok
    ∙ value_part c.args.logged.now c.args.at k v lies from (from + c.len-in-Put.result) (omega (arith, size)) (omega (arith, c.len-in-Put.ensures.value))
    ∙ sym (ap op_value is)

pub returns-in-Delete-clause-key : goal.returns-in-Delete-clause-key
returns-in-Delete-clause-key c =
    let size : c.len.result ≡ length (key_of c.args.op.now) = c.len.ensures.value ∙ ap length c.key.ensures in
    c.in_ok-key.ensures.ok ∙ key_part c.args.logged.now c.args.at c.args.op.now c.requires (c.args.at + 3) (c.args.at + 3 + c.len.result) refl (omega (arith, size))
