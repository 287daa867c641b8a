-- A claim that goes back leaves the history a run.
use Rattle.lsm_nodes.proofs.SettledClaims.{shared_back}
use Rattle.lsm_nodes.proofs.shared.Shared.give_back.Goals as goal

pub invariant_of-self : goal.invariant_of-self
invariant_of-self g c =
    shared_back g.J.Start.start c.self.inside.coord c.give_back.new.self c.args.claim.id c.self.inside.history.items c.self.inside.book.total c.self.invariant c.give_back.ensures.book c.give_back.ensures.step c.give_back.ensures.sound
