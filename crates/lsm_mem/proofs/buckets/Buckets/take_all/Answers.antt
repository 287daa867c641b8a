use Rattle.std.proofs.Common.{◌≡◌, ◌++◌, ◌∷◌, [], List, ℕ, ap, ◌∙◌}
use Rattle.lsm_key.specs.declared.op.Op.{Op}
use Rattle.lsm_key.specs.Writes.{key_of}
use Rattle.lsm_key.specs.Places.{entries_after}
use Rattle.lsm_mem.specs.Chains.{with_entries, without_newest}
use Rattle.lsm_mem.proofs.ChainsGrow.{last_given_back}
use Rattle.lsm_mem.proofs.buckets.Buckets.take_all.Goals as goal

pub loop-op-preserved : goal.loop-op-preserved
loop-op-preserved c before after up is =
    let op = c.in-Some.op.now in
    let left = c.next.new.self.iter.rest.now in
    let whole : c.loop-op.op-iterator.iter.rest.now ≡ left ++ op ∷ [] = c.in-Some.ensures.steps in
    c.take.ensures
    ∙ ap (λ (k : List ℕ). without_newest k c.loop-op.self) (c.as_slice.ensures ∙ c.key.ensures)
    ∙ ap (without_newest (key_of op)) (c.loop-op.invariant before after up is ∙ ap (λ (ops : List Op). with_entries (entries_after after ops) before) whole)
    ∙ last_given_back after left op before up
