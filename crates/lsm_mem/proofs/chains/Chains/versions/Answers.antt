use Rattle.std.proofs.Common.{sym}
use Rattle.lsm_mem.proofs.ChainsOfMap.{lookup_none, lookup_some}
use Rattle.lsm_mem.proofs.chains.Chains.versions.Goals as goal

pub returns-in_err-get-clause-none : goal.returns-in_err-get-clause-none
returns-in_err-get-clause-none c =
    rw c.from_residual.ensures (λ d m. lookup_none c.args.key.now c.self.inside.by_key.entries (sym c.in_err-get.ensures.value) d (rw c.self.view_is m))

pub returns-clause-found : goal.returns-clause-found
returns-clause-found c =
    rw (c.as_slice.ensures.value, ← c.self.view_is) (lookup_some c.args.key.now c.self.inside.by_key.entries c.in_ok-get.field-0.now (sym c.in_ok-get.ensures.value))
