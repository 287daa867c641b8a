use Rattle.std.proofs.Common.{ℕ, List, [], subst}
use Rattle.std.proofs.lemmas.Result.{err_from_is_err_and}
use Rattle.lsm_key.specs.declared.entry.Entry.{Entry}
use Rattle.lsm_merge.specs.Cutting.{IsSplitSoFar}
use Rattle.lsm_merge.specs.Walks.{BeginsWalk}
use Rattle.lsm_merge.proofs.MergedWalks.{walk_merges, walk_refuses}
use Rattle.lsm_merge.proofs.merging.outputs_of.Goals as goal

pub fill-requires-clause-few : goal.fill-requires-clause-few
fill-requires-clause-few c = c.in_ok-walk.ensures.few

pub returns-in_err-fill-clause-refused : goal.returns-in_err-fill-clause-refused
returns-in_err-fill-clause-refused c =
    let walk = c.in_ok-walk.walk in
    let begins = subst (λ (lists : List (List Entry)). BeginsWalk lists walk) c.in_ok-cursors.ensures c.in_ok-walk.ensures.begins.0 in
    let p = err_from_is_err_and c.from_residual-in_err-fill.result c.from_residual-in_err-fill.ensures.1 in
    rw (p.1, p.2) (walk_refuses c.args.tables.now c.args.job.now c.requires walk begins c.in_err-fill.field-0.0 c.in_err-fill.ensures.refused)

pub returns-clause-ok : goal.returns-clause-ok
returns-clause-ok c =
    let job = c.args.job.now in
    let walk = c.in_ok-walk.walk in
    let own = c.in_ok-walk.ensures in
    let begins = subst (λ (lists : List (List Entry)). BeginsWalk lists walk) c.in_ok-cursors.ensures own.begins.0 in
    let begun = subst (λ (target : ℕ). IsSplitSoFar target [] c.new-outputs.result.closed.items c.new-outputs.result.taking) c.block.ensures.value c.new-outputs.ensures in
    walk_merges c.args.tables.now job c.requires walk begins own.begins.1 own.deeper c.fill.new.outputs.closed.items c.fill.new.outputs.taking (c.in_ok-fill.ensures.ok job.block begun) c.in_ok-finish.field-0.items (λ entries. c.in_ok-finish.ensures job.block entries)
