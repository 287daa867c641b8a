use Rattle.std.proofs.Common.{◌≡◌, sym, subst, rules}
use Rattle.lsm_edit.specs.Served.{IsServed}
use Rattle.lsm_edit.proofs.served.Served.copy.Goals as goal

pub invariant_of-result : goal.invariant_of-result
invariant_of-result c =
    let places : c.in_ok-placed.placed.items ≡ c.self.inside.placed.items = search rules in
    let version = c.in_ok-current.ensures in
    subst IsServed (λ i. record { version = sym version i; places = sym places i }) c.self.invariant
