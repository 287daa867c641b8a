use Rattle.std.proofs.Common.{◌<◌, ◌≤◌, sym, ◌∙◌, arith}
use Rattle.lsm_inspect.proofs.DamagedLogs.{not_there, twice}
use Rattle.lsm_inspect.proofs.ReadFreezes.{freeze_passed, freeze_taken}
use Rattle.lsm_inspect.proofs.reading.LogReading.take_freeze.Goals as goal

pub returns-then-not-may_freeze-clause-refused : goal.returns-then-not-may_freeze-clause-refused
returns-then-not-may_freeze-clause-refused c = λ records after h.
    rw c.late_or_elsewhere.ensures (not_there c.args.flushed records c.args.self.now h c.args.at after (sym c.may_freeze.ensures ∙ c.if-not-may_freeze.true))

pub returns-then-number-clause-ok : goal.returns-then-number-clause-ok
returns-then-number-clause-ok c = λ records h.
    let low : c.args.at ≤ c.args.flushed = omega (arith, c.if-number.true, c.number.ensures.value, c.number-2.ensures.value) in
    freeze_passed c.args.flushed records c.args.self.now h c.args.at (sym c.may_freeze.ensures ∙ c.if-not-may_freeze.false) low

pub returns-then-has_frozen-clause-refused : goal.returns-then-has_frozen-clause-refused
returns-then-has_frozen-clause-refused c = λ records after h.
    let above : c.args.flushed < c.args.at = omega (arith, c.if-number.false, c.number.ensures.value, c.number-2.ensures.value) in
    twice c.args.flushed records c.args.self.now h c.args.at after (sym c.has_frozen.ensures ∙ c.if-has_frozen.true) above

pub returns-clause-ok : goal.returns-clause-ok
returns-clause-ok c = λ records h.
    let above : c.args.flushed < c.args.at = omega (arith, c.if-number.false, c.number.ensures.value, c.number-2.ensures.value) in
    freeze_taken c.args.flushed records c.args.self.now h c.args.at (sym c.may_freeze.ensures ∙ c.if-not-may_freeze.false) above (sym c.has_frozen.ensures ∙ c.if-has_frozen.false)
