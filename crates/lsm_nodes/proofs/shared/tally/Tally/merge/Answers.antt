-- The merged tally has the records of both.
use Rattle.std.proofs.Common.{◌≡◌, ◌++◌, ◌∷◌, [], List, ap, ◌∙◌, subst, sym}
use Rattle.lsm_nodes.specs.Tallies.{IsTally, TallyValue, after_merge}
use Rattle.lsm_nodes.specs.declared.shared.tally.Record.{Record}
use Rattle.lsm_nodes.proofs.TalliedRecords.{tally_merge}
use Rattle.lsm_nodes.proofs.shared.tally.Tally.merge.Goals as goal

pub invariant_of-self-2 : goal.invariant_of-self-2
invariant_of-self-2 g c =
    let mine : TallyValue = record { parts = c.self.inside.parts; picked = c.self.inside.picked; installed = c.self.inside.installed; returned = c.self.inside.returned; stale = c.self.inside.stale; mine = c.self.inside.mine.items; others = c.self.inside.others.items } in
    let more : TallyValue = record { parts = c.other.inside.parts; picked = c.other.inside.picked; installed = c.other.inside.installed; returned = c.other.inside.returned; stale = c.other.inside.stale; mine = c.other.inside.mine.items; others = c.other.inside.others.items } in
    let all : c.move_all.new.to.items ≡ (mine.others ++ more.mine ∷ []) ++ more.others =
    c.move_all.ensures ∙ ap (λ (l : List (List Record)). l ++ more.others) (c.push_reserved.ensures.items ∙ ap (λ (l : List (List Record)). l ++ more.mine ∷ []) c.reserve.ensures.items) in
    subst (λ (l : List (List Record)). IsTally (record (after_merge mine more) { others = l }) c.merge.new.self.parts c.merge.new.self.amount) (sym all)
    (tally_merge mine more c.self.inside.share.parts c.self.inside.share.amount c.other.inside.share.parts c.other.inside.share.amount c.merge.new.self.parts c.merge.new.self.amount c.self.invariant c.other.invariant c.merge.ensures.parts c.merge.ensures.amount)
