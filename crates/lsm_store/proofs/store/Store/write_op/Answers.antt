use Rattle.std.proofs.Common.{◌≡◌, ◌∷◌, ◌++◌, [], List, ap, subst, ◌∙◌}
use Rattle.std.specs.Prelude.{OnOk}
use Rattle.lsm_key.specs.declared.op.Op.{Op}
use Rattle.lsm_store.specs.Store.{CompactsIfBehind}
use Rattle.lsm_store.proofs.store.Store.write_op.Goals as goal

pub returns-clause-compacted : goal.returns-clause-compacted
returns-clause-compacted g c =
    let one : c.push.new.self ≡ c.args.op ∷ [] = c.in_ok-push.ensures.ok.1 ∙ ap (λ (ops : List Op). ops ++ c.args.op ∷ []) c.new-batch.ensures in
    subst (λ (ops : List Op). OnOk c.write.result (CompactsIfBehind c.args.self.now ops c.write.new.self)) one c.write.ensures.compacted
