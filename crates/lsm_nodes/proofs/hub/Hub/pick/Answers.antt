-- The claim has the name of its job.
use Rattle.std.proofs.Common.{inl, inr}
use Rattle.lsm_nodes.proofs.RecordedPicks.{named_alike}
use Rattle.lsm_nodes.proofs.hub.Hub.pick.Goals as goal

pub returns-clause-named : goal.returns-clause-named
returns-clause-named g c = named_alike _ _ c.pick.result (elim c.pick.ensures [ inl m ↦ inl m.0 | inr h ↦ inr h.1 ])
