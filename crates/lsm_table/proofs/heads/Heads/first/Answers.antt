use Rattle.std.proofs.Common.{◌∙◌, ◌-◌, ap, length, subst}
use Rattle.std.specs.List.{slice_get}
use Rattle.lsm_table.specs.Heads.{AreTurned}
use Rattle.lsm_table.proofs.TurnedHeads.{first_is, least_of}
use Rattle.lsm_table.proofs.heads.Heads.first.Goals as goal

pub returns-clause-first : goal.returns-clause-first
returns-clause-first g c = c.last.ensures.value ∙ ap (λ hs. slice_get hs (length hs - 1)) (c.deref.ensures.value ∙ c.self.view_is) ∙ first_is c.args.self.now

pub returns-clause-least : goal.returns-clause-least
returns-clause-least g c =
    let f = g.H.Head.entry in
    least_of f g.H.Head.left c.args.self.now c.last.result (subst (λ hs. AreTurned f hs) c.self.view_is c.self.invariant) (c.last.ensures.value ∙ ap (λ hs. slice_get hs (length hs - 1)) (c.deref.ensures.value ∙ c.self.view_is) ∙ first_is c.args.self.now)
