use Rattle.std.proofs.Common.{◌≡◌, ◌+◌, ◌*◌, ◌≤◌, ◌^◌, arith}
use Rattle.std.proofs.Math.Nat.{pow-le-pow_right}
use Rattle.lsm_key.specs.Prefix.{leading}
use Rattle.lsm_key.proofs.PrefixOrder.{leading_more, leading_below}
use Rattle.lsm_key.proofs.prefix.padded.Goals as goal

pub loop-i-preserved : goal.loop-i-preserved
loop-i-preserved c =
    let more = leading_more c.loop-i.i c.args.key.now in
    let before = c.loop-i.invariant.0 in
    let byte = c.byte_at.ensures in
    let wide = c.from.ensures in
    let is : c.loop-i.prefix * 256 + c.from.result ≡ leading (c.loop-i.i + 1) c.args.key.now = omega (arith, more, before, byte, wide) in
    let low = leading_below (c.loop-i.i + 1) c.args.key.now (λ i. omega (arith, c.type_inv.key i)) in
    (is, omega (arith, is, low))

pub overflow_mul-prefix : goal.overflow_mul-prefix
overflow_mul-prefix c =
    let low = c.loop-i.invariant.1 in
    let within : c.loop-i.i ≤ 7 = omega (arith, c.loop-i-test.true) in
    let most : 256 ^ c.loop-i.i ≤ 256 ^ 7 = pow-le-pow_right (omega arith) within in
    omega (arith, low, most)

pub overflow_add-prefix : goal.overflow_add-prefix
overflow_add-prefix c =
    let low = c.loop-i.invariant.1 in
    let byte = c.byte_at.type_inv in
    let wide = c.from.ensures in
    let within : c.loop-i.i ≤ 7 = omega (arith, c.loop-i-test.true) in
    let most : 256 ^ c.loop-i.i ≤ 256 ^ 7 = pow-le-pow_right (omega arith) within in
    omega (arith, low, most, byte, wide)
