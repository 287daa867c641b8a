-- The write is the last of the history and of the caller's records.
use Rattle.std.proofs.Common.{List, [], ◌∷◌, ◌++◌, ap, subst, ◌∙◌, inr}
use Rattle.lsm_coord.specs.declared.call.Call.TheVariants as call
use Rattle.lsm_nodes.specs.Answers.{write_answer}
use Rattle.lsm_nodes.specs.Calls.{Writes}
use Rattle.lsm_nodes.specs.Histories.{SharedValue, WitnessedValue}
use Rattle.lsm_nodes.specs.Tallies.{exchange_of}
use Rattle.lsm_nodes.proofs.LongerHistories.{shared_push}
use Rattle.lsm_nodes.proofs.RecordedCalls.{extends_write, plain_write}
use Rattle.lsm_nodes.proofs.TalliedRecords.{recorded_plainly}
use Rattle.lsm_nodes.proofs.shared.Shared.write.Goals as goal

pub invariant_of-self-2 : goal.invariant_of-self-2
invariant_of-self-2 g c =
    let e = c.write-result.ensures in
    let does : Writes c.self.inside.coord c.args.batch.now c.write-result.result c.write-result.new.self = record { step = e.step; ok = e.ok; refused = e.refused; sound = e.sound } in
    let w : WitnessedValue = record { exchange = exchange_of c.in-Ok.calls c.write_answers-answers.result; before = g.N.Witness.seen c.of-before.result } in
    shared_push g.J.Start.start _ _ c.self.inside.book.total c.log.new.book.total w c.self.invariant
    (c.log.ensures.history ∙ ap (λ (l : List WitnessedValue). l ++ w ∷ []) c.has_room.ensures.history)
    c.log.ensures.total
    (extends_write c.self.inside.history.items c.self.inside.coord w c.write-result.new.self c.args.batch.now c.write-result.result c.in-Ok.ensures c.write_answers-answers.ensures does)

pub returns : goal.returns
returns g c =
    let e = c.write-result.ensures in
    let does : Writes c.self.inside.coord c.args.batch.now c.write-result.result c.write-result.new.self = record { step = e.step; ok = e.ok; refused = e.refused; sound = e.sound } in
    let new : SharedValue = record { coord = c.write-result.new.self; history = c.log.new.history.items } in
    inr (
      recorded_plainly _ _ new _ _ c.has_room.new.history.items c.has_room.new.mine.items c.log.new.mine.items c.in-Ok.calls (call.Write c.args.batch.now) c.write_answers-answers.result (write_answer c.write-result.result) (g.N.Witness.seen c.of-before.result)
          c.self.view_is c.tally.view_is (plain_write c.write-result.result) c.in-Ok.ensures c.write_answers-answers.ensures (c.of-before.ensures ∙ c.served.ensures) c.has_room.ensures.history c.has_room.ensures.mine c.log.ensures.history c.log.ensures.mine,
      subst (λ (s : SharedValue). Writes s.coord c.args.batch.now c.write-result.result c.write-result.new.self) c.self.view_is does,
    )
