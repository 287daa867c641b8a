-- The listing is the last of the history and of the caller's records.
use Rattle.std.proofs.Common.{List, [], ◌∷◌, ◌++◌, ap, subst, ◌∙◌, inr}
use Rattle.lsm_coord.specs.declared.answer.Answer.TheVariants as answer
use Rattle.lsm_coord.specs.declared.answer.ShownVersion.{ShownVersion}
use Rattle.lsm_coord.specs.declared.call.Call.TheVariants as call
use Rattle.lsm_nodes.specs.Answers.{show_answer}
use Rattle.lsm_nodes.specs.Calls.{ShowsVersion}
use Rattle.lsm_nodes.specs.Histories.{SharedValue, WitnessedValue}
use Rattle.lsm_nodes.specs.Tallies.{exchange_of}
use Rattle.lsm_nodes.proofs.LongerHistories.{shared_push}
use Rattle.lsm_nodes.proofs.RecordedCalls.{extends_show, plain_show, or_memory_gives, shows_of}
use Rattle.lsm_nodes.proofs.TalliedRecords.{recorded_plainly}
use Rattle.lsm_nodes.proofs.shared.Shared.show.Goals as goal

pub invariant_of-self-2 : goal.invariant_of-self-2
invariant_of-self-2 g c =
    let told = or_memory_gives (λ (v : ShownVersion). answer.Shown v) c.shown-outcome.result c.or_memory-result.result.0 c.show_answers-copied.result c.or_memory-result.result.1 c.show_answers-copied.ensures.ok c.show_answers-copied.ensures.err c.or_memory-result.ensures in
    let does : ShowsVersion c.self.inside.coord c.or_memory-result.result.0 c.self.inside.coord = shows_of c.self.inside.coord c.shown-outcome.result c.or_memory-result.result.0 c.shown-outcome.ensures told.1 in
    let w : WitnessedValue = record { exchange = exchange_of c.new-calls.result c.or_memory-result.result.1; before = g.N.Witness.seen c.of-before.result } in
    shared_push g.J.Start.start _ _ c.self.inside.book.total c.log.new.book.total w c.self.invariant
    (c.log.ensures.history ∙ ap (λ (l : List WitnessedValue). l ++ w ∷ []) c.has_room.ensures.history)
    c.log.ensures.total
    (extends_show c.self.inside.history.items c.self.inside.coord w c.self.inside.coord c.or_memory-result.result.0 c.new-calls.ensures told.0 does)

pub returns : goal.returns
returns g c =
    let told = or_memory_gives (λ (v : ShownVersion). answer.Shown v) c.shown-outcome.result c.or_memory-result.result.0 c.show_answers-copied.result c.or_memory-result.result.1 c.show_answers-copied.ensures.ok c.show_answers-copied.ensures.err c.or_memory-result.ensures in
    let does : ShowsVersion c.self.inside.coord c.or_memory-result.result.0 c.self.inside.coord = shows_of c.self.inside.coord c.shown-outcome.result c.or_memory-result.result.0 c.shown-outcome.ensures told.1 in
    let new : SharedValue = record { coord = c.self.inside.coord; history = c.log.new.history.items } in
    inr (
      recorded_plainly _ _ new _ _ c.has_room.new.history.items c.has_room.new.mine.items c.log.new.mine.items c.new-calls.result call.Show c.or_memory-result.result.1 (show_answer c.or_memory-result.result.0) (g.N.Witness.seen c.of-before.result)
          c.self.view_is c.tally.view_is (plain_show c.or_memory-result.result.0) c.new-calls.ensures told.0 (c.of-before.ensures ∙ c.served.ensures) c.has_room.ensures.history c.has_room.ensures.mine c.log.ensures.history c.log.ensures.mine,
      subst (λ (s : SharedValue). ShowsVersion s.coord c.or_memory-result.result.0 c.self.inside.coord) c.self.view_is does,
    )
