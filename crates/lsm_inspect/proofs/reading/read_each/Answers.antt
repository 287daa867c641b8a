use Rattle.std.proofs.Common.{[], sym, subst}
use Rattle.std.proofs.lemmas.Result.{err_from_is_err_and}
use Rattle.lsm_inspect.specs.declared.reading.LogReading.{LogReading}
use Rattle.lsm_inspect.specs.LogReading.{HasReadLog}
use Rattle.lsm_inspect.proofs.ReadLogs.{damage_refuses, none_read, read_on, text_refuses}
use Rattle.lsm_inspect.proofs.reading.read_each.Goals as goal

pub loop-text-init : goal.loop-text-init
loop-text-init c = subst (λ (r : LogReading). HasReadLog c.args.flushed [] r) (sym c.requires) (none_read c.args.flushed)

pub returns-in_err-logged-clause-refused : goal.returns-in_err-logged-clause-refused
returns-in_err-logged-clause-refused c =
    let p = err_from_is_err_and c.from_residual.result c.from_residual.ensures.1 in
    rw (p.1, p.2) (text_refuses c.args.flushed c.args.texts.now c.loop-text.text-index c.text-item.result c.loop-text-test.true c.text-item.is c.in_err-logged.field-0.0 c.in_err-logged.ensures.refused)

pub returns-in_err-take-clause-refused : goal.returns-in_err-take-clause-refused
returns-in_err-take-clause-refused c =
    let p = err_from_is_err_and c.from_residual-in_err-take.result c.from_residual-in_err-take.ensures.1 in
    rw (p.1, p.2) (damage_refuses c.args.flushed c.args.texts.now c.loop-text.text-index c.text-item.result c.loop-text-test.true c.text-item.is c.in_ok-logged.logged c.in_ok-logged.ensures.read c.loop-text.reading c.loop-text.invariant c.in_err-take.field-0.0 c.in_err-take.ensures.refused)

pub loop-text-preserved : goal.loop-text-preserved
loop-text-preserved c =
    read_on c.args.flushed c.args.texts.now c.loop-text.text-index c.text-item.result c.loop-text-test.true c.text-item.is c.in_ok-logged.logged c.in_ok-logged.ensures.read c.loop-text.reading c.loop-text.invariant c.take.new.self c.in_ok-take.ensures.ok
