-- The pick is the last of the history and of the caller's records.
use Rattle.std.proofs.Common.{List, [], ◌∷◌, ◌++◌, ap, subst, ◌∙◌, inr}
use Rattle.lsm_coord.specs.declared.call.Call.TheVariants as call
use Rattle.lsm_nodes.specs.Answers.{pick_answer}
use Rattle.lsm_nodes.specs.Calls.{PicksJob}
use Rattle.lsm_nodes.specs.Histories.{SharedValue, WitnessedValue}
use Rattle.lsm_nodes.specs.Tallies.{exchange_of}
use Rattle.lsm_nodes.proofs.LongerHistories.{shared_push}
use Rattle.lsm_nodes.proofs.RecordedPicks.{extends_pick, uncounted_pick}
use Rattle.lsm_nodes.proofs.TalliedRecords.{recorded_uncounted}
use Rattle.lsm_nodes.proofs.shared.Shared.pick.Goals as goal

pub invariant_of-self-2 : goal.invariant_of-self-2
invariant_of-self-2 g c =
    let w : WitnessedValue = record { exchange = exchange_of c.new-calls.result c.picked-result.result.1; before = g.N.Witness.seen c.of-before.result } in
    shared_push g.J.Start.start _ _ c.self.inside.book.total c.log.new.book.total w c.self.invariant
    (c.log.ensures.history ∙ ap (λ (l : List WitnessedValue). l ++ w ∷ []) c.has_room.ensures.history)
    c.log.ensures.total
    (extends_pick c.self.inside.history.items c.self.inside.coord w c.picked-result.new.coord c.picked-result.result.0 c.new-calls.ensures c.picked-result.ensures.answer c.picked-result.ensures.does)

pub returns : goal.returns
returns g c =
    let new : SharedValue = record { coord = c.picked-result.new.coord; history = c.log.new.history.items } in
    inr (
      recorded_uncounted _ _ new _ _ c.has_room.new.history.items c.has_room.new.mine.items c.log.new.mine.items c.new-calls.result call.Pick c.picked-result.result.1 (pick_answer c.picked-result.result.0) (g.N.Witness.seen c.of-before.result)
          c.self.view_is c.tally.view_is (uncounted_pick c.picked-result.result.0) c.new-calls.ensures c.picked-result.ensures.answer (c.of-before.ensures ∙ c.served.ensures) c.has_room.ensures.history c.has_room.ensures.mine c.log.ensures.history c.log.ensures.mine,
      subst (λ (s : SharedValue). PicksJob s.coord c.picked-result.result.0 c.picked-result.new.coord) c.self.view_is c.picked-result.ensures.does,
    )
