-- The freeze is the last of the history and of the caller's records.
use Rattle.std.proofs.Common.{List, [], ◌∷◌, ◌++◌, ap, subst, ◌∙◌, inr}
use Rattle.lsm_coord.specs.declared.call.Call.TheVariants as call
use Rattle.lsm_nodes.specs.Answers.{freeze_answer}
use Rattle.lsm_nodes.specs.Calls.{Freezes}
use Rattle.lsm_nodes.specs.Histories.{SharedValue, WitnessedValue}
use Rattle.lsm_nodes.specs.Tallies.{exchange_of}
use Rattle.lsm_nodes.proofs.LongerHistories.{shared_push}
use Rattle.lsm_nodes.proofs.RecordedCalls.{extends_freeze, plain_freeze}
use Rattle.lsm_nodes.proofs.TalliedRecords.{recorded_plainly}
use Rattle.lsm_nodes.proofs.shared.Shared.freeze.Goals as goal

pub invariant_of-self-2 : goal.invariant_of-self-2
invariant_of-self-2 g c =
    let e = c.freeze-result.ensures in
    let does : Freezes c.self.inside.coord c.freeze-result.result c.freeze-result.new.self = record { step = e.step; ok = e.ok; refused = e.refused; sound = e.sound } in
    let w : WitnessedValue = record { exchange = exchange_of c.new-calls.result c.freeze_answers-answers.result; before = g.N.Witness.seen c.of-before.result } in
    shared_push g.J.Start.start _ _ c.self.inside.book.total c.log.new.book.total w c.self.invariant
    (c.log.ensures.history ∙ ap (λ (l : List WitnessedValue). l ++ w ∷ []) c.has_room.ensures.history)
    c.log.ensures.total
    (extends_freeze c.self.inside.history.items c.self.inside.coord w c.freeze-result.new.self c.freeze-result.result c.new-calls.ensures c.freeze_answers-answers.ensures does)

pub returns : goal.returns
returns g c =
    let e = c.freeze-result.ensures in
    let does : Freezes c.self.inside.coord c.freeze-result.result c.freeze-result.new.self = record { step = e.step; ok = e.ok; refused = e.refused; sound = e.sound } in
    let new : SharedValue = record { coord = c.freeze-result.new.self; history = c.log.new.history.items } in
    inr (
      recorded_plainly _ _ new _ _ c.has_room.new.history.items c.has_room.new.mine.items c.log.new.mine.items c.new-calls.result call.Freeze c.freeze_answers-answers.result (freeze_answer c.freeze-result.result) (g.N.Witness.seen c.of-before.result)
          c.self.view_is c.tally.view_is (plain_freeze c.freeze-result.result) c.new-calls.ensures c.freeze_answers-answers.ensures (c.of-before.ensures ∙ c.served.ensures) c.has_room.ensures.history c.has_room.ensures.mine c.log.ensures.history c.log.ensures.mine,
      subst (λ (s : SharedValue). Freezes s.coord c.freeze-result.result c.freeze-result.new.self) c.self.view_is does,
    )
