-- What the value under the lock keeps of its jobs.
use Rattle.std.proofs.Common.{List, sym, subst}
use Rattle.lsm_nodes.specs.Histories.{AreSoundFrom, HoldsMerges, RunsFrom, SharedValue, WitnessedValue}
use Rattle.lsm_nodes.proofs.shared.Shared.history.Goals as goal

pub returns-clause-run : goal.returns-clause-run
returns-clause-run g c =
    subst (λ (h : List WitnessedValue). HoldsMerges h → RunsFrom g.J.Start.start h c.args.self.now.coord) (sym c.as_slice.ensures.value)
    (subst (λ (s : SharedValue). HoldsMerges c.self.inside.history.items → RunsFrom g.J.Start.start c.self.inside.history.items s.coord) c.self.view_is c.self.invariant.run)

pub returns-clause-sound : goal.returns-clause-sound
returns-clause-sound g c =
    subst (λ (h : List WitnessedValue). HoldsMerges h → AreSoundFrom g.J.Start.start h c.args.self.now.coord) (sym c.as_slice.ensures.value)
    (subst (λ (s : SharedValue). HoldsMerges c.self.inside.history.items → AreSoundFrom g.J.Start.start c.self.inside.history.items s.coord) c.self.view_is c.self.invariant.sound)
