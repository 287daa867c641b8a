use Rattle.std.proofs.Common.{◌≡◌, ◌≤◌, length, true, false, rules, sym, subst}
use Rattle.std.proofs.lemmas.List.Sorted.{IsPartitionPoint-from_clause}
use Rattle.std.specs.List.Sorted.{IsPartitionPoint, IsPartitionedBy}
use Rattle.lsm_key.specs.Order.{precedes}
use Rattle.lsm_table.specs.Heads.{AreTurned}
use Rattle.lsm_table.proofs.TurnedHeads.{fronts, turned_insert}
use Rattle.lsm_table.proofs.heads.put_head.Goals as goal

pub returns-clause-put : goal.returns-clause-put
returns-clause-put g c =
    let f = g.H.Head.entry in
    let hs = c.args.heads.now.items in
    let e = f c.args.head in
    let place = c.partition_point-place.result in
    let split = subst (λ xs. IsPartitionedBy (λ h. precedes e (f h)) xs) (sym c.deref.ensures.value) (fronts f e hs c.requires) in
    let point = IsPartitionPoint-from_clause (λ h. precedes e (f h)) c.deref.result.now place c.partition_point-place.ensures.partitioned split (λ a r q k. search rules) in
    let own = subst (λ xs. IsPartitionPoint (λ h. precedes e (f h) ≡ true) (λ h. precedes e (f h) ≡ false) xs place) c.deref.ensures.value point in
    let within = subst (λ xs. place ≤ length xs) c.deref.ensures.value c.partition_point-place.ensures.bound in
    (place, c.in_ok-insert.ensures.items, subst (λ xs. AreTurned f xs) (sym c.in_ok-insert.ensures.items) (turned_insert f hs place c.args.head within own.0 own.1 c.requires))
