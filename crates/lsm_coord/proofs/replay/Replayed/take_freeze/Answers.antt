use Rattle.std.proofs.Common.{◌<◌, ◌≤◌, sym, ◌∙◌, arith}
use Rattle.lsm_coord.proofs.CoordInvariant.{frozen_from, none_from}
use Rattle.lsm_coord.proofs.ReplayedFreezes.{freeze_passed, frozen_now}
use Rattle.lsm_coord.proofs.SpoiledLogs.{not_there, not_twice}
use Rattle.lsm_coord.proofs.replay.Replayed.take_freeze.Goals as goal

pub returns-then-not-is_at-clause-refused : goal.returns-then-not-is_at-clause-refused
returns-then-not-is_at-clause-refused c = λ records after h good.
    not_there c.args.flushed records c.args.self.now h c.args.at after good (sym c.is_at.ensures ∙ c.if-not-is_at.true)

pub returns-then-number-clause-ok : goal.returns-then-number-clause-ok
returns-then-number-clause-ok c = λ records h.
    let low : c.args.at ≤ c.args.flushed = omega (arith, c.if-number.true, c.number.ensures.value, c.number-2.ensures.value) in
    freeze_passed c.args.flushed records c.args.self.now h c.args.at c.requires.sound (sym c.is_at.ensures ∙ c.if-not-is_at.false) low

pub returns-then-is_some-clause-refused : goal.returns-then-is_some-clause-refused
returns-then-is_some-clause-refused c = λ records after h good.
    let above : c.args.flushed < c.args.at = omega (arith, c.if-number.false, c.number.ensures.value, c.number-2.ensures.value) in
    let f = frozen_from c.args.self.now.frozen (sym c.is_some.ensures ∙ c.if-is_some.true) in
    not_twice c.args.flushed records c.args.self.now h c.args.at after good f.0 f.1 above

pub returns-clause-ok : goal.returns-clause-ok
returns-clause-ok c = λ records h.
    let above : c.args.flushed < c.args.at = omega (arith, c.if-number.false, c.number.ensures.value, c.number-2.ensures.value) in
    let free = none_from c.args.self.now.frozen (sym c.is_some.ensures ∙ c.if-is_some.false) in
    rw (c.replace-memtable.ensures.value, c.replace-memtable.ensures.after, c.successor-next.ensures)
    (frozen_now c.args.flushed records c.args.self.now h c.args.at c.requires.sound (sym c.is_at.ensures ∙ c.if-not-is_at.false) above free)
