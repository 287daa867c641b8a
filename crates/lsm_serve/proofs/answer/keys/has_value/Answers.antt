use Rattle.std.proofs.Common.{None, subst}
use Rattle.lsm_store.specs.Store.{ReadsValue}
use Rattle.lsm_serve.proofs.answer.keys.has_value.Goals as goal

pub returns-in-None-clause-ok : goal.returns-in-None-clause-ok
returns-in-None-clause-ok g c = subst (ReadsValue c.args.store.now c.args.key.now None) c.in-None.is c.in_ok-get.ensures.ok

pub returns-in-Some-clause-ok : goal.returns-in-Some-clause-ok
returns-in-Some-clause-ok g c = (c.in-Some._value, subst (ReadsValue c.args.store.now c.args.key.now None) c.in-Some.is c.in_ok-get.ensures.ok)
