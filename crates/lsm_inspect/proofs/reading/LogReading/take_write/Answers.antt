use Rattle.std.proofs.Common.{◌≡◌, ◌+◌, ◌-◌, ◌<◌, ◌≤◌, Some, length, sym, ap, ◌∙◌, arith}
use Rattle.lsm_key.specs.Limits.{total_weight}
use Rattle.lsm_inspect.specs.declared.reading.LogReading.{LogReading}
use Rattle.lsm_inspect.specs.LogReading.{with_weight}
use Rattle.lsm_inspect.proofs.DamagedLogs.{in_part, not_next}
use Rattle.lsm_inspect.proofs.ReadWrites.{weighs, write_passed, write_taken}
use Rattle.lsm_inspect.proofs.reading.LogReading.take_write.Goals as goal

pub returns-then-not-may_begin-clause-refused : goal.returns-then-not-may_begin-clause-refused
returns-then-not-may_begin-clause-refused c = λ records after h.
    rw c.late_or_gap.ensures (not_next c.args.flushed records c.args.self.now h c.args.first c.args.batch.now after (sym c.may_begin.ensures ∙ c.if-not-may_begin.true))

pub returns-then-end-below-clause-ok : goal.returns-then-end-below-clause-ok
returns-then-end-below-clause-ok c = λ records h.
    let ops = c.args.batch.now in
    let count : length c.ops.result.now ≡ length ops = ap length c.ops.ensures.all in
    let last : c.new.result ≡ c.args.first + length ops - 1 = omega (arith, c.new.ensures, c.number-from.ensures.value, count, c.requires.1) in
    let low : c.args.first + length ops - 1 ≤ c.args.flushed = omega (arith, c.if-end-below.true, c.number-from.ensures.value, c.number-below.ensures.value, count, c.requires.1) in
    rw last (write_passed c.args.flushed records c.args.self.now h c.args.first ops c.requires (sym c.may_begin.ensures ∙ c.if-not-may_begin.false) low)

pub returns-then-from-below-clause-refused : goal.returns-then-from-below-clause-refused
returns-then-from-below-clause-refused c = λ records after h.
    let ops = c.args.batch.now in
    let count : length c.ops.result.now ≡ length ops = ap length c.ops.ensures.all in
    let low : c.args.first ≤ c.args.flushed = omega (arith, c.if-from-below.true, c.number-from.ensures.value, c.number-below.ensures.value) in
    let high : c.args.flushed + 1 < c.args.first + length ops = omega (arith, c.if-end-below.false, c.number-from.ensures.value, c.number-below.ensures.value, count, c.requires.1) in
    rw c.number-from.ensures.value (in_part c.args.flushed records c.args.self.now h c.args.first ops after low high)

pub returns-clause-ok : goal.returns-clause-ok
returns-clause-ok c = λ records h.
    let ops = c.args.batch.now in
    let count : length c.ops.result.now ≡ length ops = ap length c.ops.ensures.all in
    let last : c.new-2.result ≡ c.args.first + length ops - 1 = omega (arith, c.new-2.ensures, c.number-from.ensures.value, count, c.requires.1) in
    let above : c.args.flushed < c.args.first = omega (arith, c.if-from-below.false, c.number-from.ensures.value, c.number-below.ensures.value) in
    let old : LogReading = record c.args.self.now { last = Some (c.args.first + length ops - 1) } in
    rw (c.weigh.ensures, c.weight.ensures.value, last) (write_taken c.args.flushed records c.args.self.now h c.args.first ops c.requires (sym c.may_begin.ensures ∙ c.if-not-may_begin.false) above (with_weight (total_weight ops) old) (weighs (total_weight ops) old))
