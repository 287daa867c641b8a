use Rattle.std.proofs.Common.{◌∷◌, [], None, subst}
use Rattle.lsm_key.specs.declared.op.Op.TheVariants.{Delete}
use Rattle.lsm_coord.specs.Contract.Value.{CoordValue}
use Rattle.lsm_store.specs.Store.{Accepts, ReadsValue}
use Rattle.lsm_serve.proofs.answer.keys.delete_key.Goals as goal

pub returns-in-None-clause-ok : goal.returns-in-None-clause-ok
returns-in-None-clause-ok g c = (subst (ReadsValue c.args.store.now c.args.key.now None) c.in-None.is c.in_ok-get.ensures.ok, c.get.ensures.same)

pub returns-in_ok-delete-in-Some-clause-ok : goal.returns-in_ok-delete-in-Some-clause-ok
returns-in_ok-delete-in-Some-clause-ok g c = (
  (c.in-Some._value, subst (ReadsValue c.args.store.now c.args.key.now None) c.in-Some.is c.in_ok-get.ensures.ok),
  subst (λ (s : CoordValue). Accepts s (Delete c.args.key.now ∷ []) c.delete.new.self) c.get.ensures.same c.in_ok-delete-in-Some.ensures.ok.2,
)
