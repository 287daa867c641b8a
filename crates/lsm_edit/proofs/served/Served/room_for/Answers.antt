use Rattle.std.proofs.Common.{rules, ◌≡◌, sym, subst, ℕ, List}
use Rattle.std.specs.List.Sorted.{IsNonDecreasing}
use Rattle.lsm_edit.proofs.served.Served.room_for.Goals as goal

pub invariant_of-result : goal.invariant_of-result
invariant_of-result c =
    let items : c.in_ok-removed.removed.items ≡ c.removed_by.result.now = search rules in
    (c.in_ok-places.ensures.items, subst (λ (ns : List ℕ). IsNonDecreasing ns) (sym items) c.removed_by.ensures.ascending)
