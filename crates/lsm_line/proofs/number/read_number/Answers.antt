use Rattle.std.proofs.Common.{◌∙◌, sym, arith, rules}
use Rattle.lsm_line.proofs.NumberWords.{number_over, number_some}
use Rattle.lsm_line.proofs.number.read_number.Goals as goal

pub returns-in_err-checked_mul : goal.returns-in_err-checked_mul
returns-in_err-checked_mul c =
    let over = c.in_err-checked_mul.ensures in
    c.from_residual.ensures ∙ sym (number_over c.args.word.now c.loop-byte.value c.loop-byte.byte-index c.loop-byte-test.true c.loop-byte.invariant.value (omega (arith, over)))

pub returns-in_err-value : goal.returns-in_err-value
returns-in_err-value c =
    let over = c.in_err-value.ensures in
    c.from_residual-in_err-value.ensures ∙ sym (number_over c.args.word.now c.loop-byte.value c.loop-byte.byte-index c.loop-byte-test.true c.loop-byte.invariant.value (omega (arith, over, c.in_ok-checked_mul.ensures, c.from-digit.ensures)))

pub returns : goal.returns
returns c = sym (number_some c.args.word.now c.loop-byte.value c.loop-byte.byte-index (search rules) c.if-word-gt20.false c.loop-byte-test.false c.loop-byte.invariant.value c.loop-byte.invariant.digits c.loop-byte.invariant.fits)
