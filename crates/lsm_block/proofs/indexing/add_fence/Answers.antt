use Rattle.std.proofs.Common.{◌∙◌}
use Rattle.lsm_block.proofs.IndexedSoFar.{on_ok_from, fence_added}
use Rattle.lsm_block.proofs.indexing.add_fence.Goals as goal

pub returns-in-Ok : goal.returns-in-Ok
returns-in-Ok c es e are at own =
    let f = c.args.fences.now in
    let added = fence_added f.front es f.prefixes.items f.places.items are e c.in-Ok.place (c.in-Ok.ensures.1 ∙ at) in
    on_ok_from c.push.result (λ is. rw (c.push.ensures.front, is.0, is.1, ← own) added) c.push.ensures.ok
