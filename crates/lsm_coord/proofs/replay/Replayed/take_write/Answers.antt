use Rattle.std.proofs.Common.{◌≡◌, ◌+◌, ◌-◌, ◌<◌, ◌≤◌, length, sym, ap, ◌∙◌, arith}
use Rattle.lsm_coord.proofs.ReplayedWrites.{active_weighs, passed_over, taken_up}
use Rattle.lsm_coord.proofs.SpoiledLogs.{fits, not_apart, not_next}
use Rattle.lsm_coord.proofs.replay.Replayed.take_write.Goals as goal

pub returns-then-not-comes_next-clause-refused : goal.returns-then-not-comes_next-clause-refused
returns-then-not-comes_next-clause-refused c = λ records after h good.
    not_next c.args.flushed records c.args.self.now h c.args.first c.args.batch.now after good (sym c.comes_next.ensures ∙ c.if-not-comes_next.true)

pub returns-then-end-below-clause-ok : goal.returns-then-end-below-clause-ok
returns-then-end-below-clause-ok c = λ records h.
    let ops = c.args.batch.now in
    let count : length c.ops.result.now ≡ length ops = ap length c.ops.ensures.all in
    let last : c.new.result ≡ c.args.first + length ops - 1 = omega (arith, c.new.ensures, c.number-from.ensures.value, count, c.requires.sound.1) in
    let low : c.args.first + length ops - 1 ≤ c.args.flushed = omega (arith, c.if-end-below.true, c.number-from.ensures.value, c.number-below.ensures.value, count, c.requires.sound.1) in
    rw last (passed_over c.args.flushed records c.args.self.now h c.args.first ops c.requires.sound (sym c.comes_next.ensures ∙ c.if-not-comes_next.false) low)

pub returns-then-from-below-clause-refused : goal.returns-then-from-below-clause-refused
returns-then-from-below-clause-refused c = λ records after h good.
    let ops = c.args.batch.now in
    let count : length c.ops.result.now ≡ length ops = ap length c.ops.ensures.all in
    let low : c.args.first ≤ c.args.flushed = omega (arith, c.if-from-below.true, c.number-from.ensures.value, c.number-below.ensures.value) in
    let high : c.args.flushed < c.args.first + length ops - 1 = omega (arith, c.if-end-below.false, c.number-from.ensures.value, c.number-below.ensures.value, count, c.requires.sound.1) in
    not_apart c.args.flushed records c.args.self.now h c.args.first ops after good low high

pub returns-then-weight-gt-MAX_MEMTABLE_WEIGHT-clause-refused : goal.returns-then-weight-gt-MAX_MEMTABLE_WEIGHT-clause-refused
returns-then-weight-gt-MAX_MEMTABLE_WEIGHT-clause-refused c = λ records after h good.
    let above : c.args.flushed < c.args.first = omega (arith, c.if-from-below.false, c.number-from.ensures.value, c.number-below.ensures.value) in
    let light = fits c.args.flushed records c.args.self.now h c.args.first c.args.batch.now after good c.requires.sound (sym c.comes_next.ensures ∙ c.if-not-comes_next.false) above in
    let held = active_weighs c.args.flushed records c.args.self.now h in
    omega (arith, light, held, c.if-weight-gt-MAX_MEMTABLE_WEIGHT.true, c.weight.ensures.value, c.weight-2.ensures.value)

pub returns-clause-ok : goal.returns-clause-ok
returns-clause-ok c = λ records h.
    let ops = c.args.batch.now in
    let count : length c.ops.result.now ≡ length ops = ap length c.ops.ensures.all in
    let last : c.new-2.result ≡ c.args.first + length ops - 1 = omega (arith, c.new-2.ensures, c.number-from.ensures.value, count, c.requires.sound.1) in
    let above : c.args.flushed < c.args.first = omega (arith, c.if-from-below.false, c.number-from.ensures.value, c.number-below.ensures.value) in
    rw last (taken_up c.args.flushed records c.args.self.now h c.args.first ops c.requires.sound (sym c.comes_next.ensures ∙ c.if-not-comes_next.false) above c.apply.new.self c.in_ok-_logged.ensures.ok (omega (arith, c.if-weight-gt-MAX_MEMTABLE_WEIGHT.false, c.weight.ensures.value, c.weight-2.ensures.value)))
