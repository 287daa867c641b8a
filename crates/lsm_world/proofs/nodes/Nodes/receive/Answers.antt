-- A result that was sent is known.
use Rattle.std.proofs.Common.{subst, sym}
use Rattle.lsm_msg.specs.declared.message.Body.{Body}
use Rattle.lsm_world.specs.History.{IsKnown}
use Rattle.lsm_world.specs.Inner.Handing.{IsQuestion}
use Rattle.lsm_world.proofs.OneSpelling.{stored_known}
use Rattle.lsm_world.proofs.nodes.Nodes.receive.Goals as goal

pub install-requires : goal.install-requires
install-requires g c = record { known = λ h is. subst (IsKnown h) c.in-Result-Worker.is-0 (stored_known h c.args.self.now.network c.args.message.now is.network c.requires.stored) }
