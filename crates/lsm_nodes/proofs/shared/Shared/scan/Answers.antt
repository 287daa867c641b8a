-- The scan is the last of the history and of the caller's records.
use Rattle.std.proofs.Common.{List, [], ◌∷◌, ◌++◌, ap, subst, ◌∙◌, inr, refl, ℕ, Vec}
use Rattle.lsm_coord.specs.declared.answer.Answer.TheVariants as answer
use Rattle.lsm_coord.specs.declared.call.Call.TheVariants as call
use Rattle.lsm_nodes.specs.Answers.{scan_answer}
use Rattle.lsm_nodes.specs.Calls.{ScansKeys}
use Rattle.lsm_nodes.specs.Histories.{SharedValue, WitnessedValue}
use Rattle.lsm_nodes.specs.Tallies.{exchange_of}
use Rattle.lsm_nodes.proofs.LongerHistories.{shared_push}
use Rattle.lsm_nodes.proofs.RecordedCalls.{extends_scan, plain_scan, or_memory_gives, scans_of}
use Rattle.lsm_nodes.proofs.TalliedRecords.{recorded_plainly}
use Rattle.lsm_nodes.proofs.shared.Shared.scan.Goals as goal

pub invariant_of-self-2 : goal.invariant_of-self-2
invariant_of-self-2 g c =
    let told = or_memory_gives (λ (pairs : Vec (List ℕ × List ℕ) _). answer.Scanned pairs.items) c.scan-outcome.result c.or_memory-result.result.0 c.scan_answers-copied.result c.or_memory-result.result.1 c.scan_answers-copied.ensures.ok c.scan_answers-copied.ensures.err c.or_memory-result.ensures in
    let does : ScansKeys c.self.inside.coord c.args.lo.now c.args.hi.now c.args.at c.args.limit c.or_memory-result.result.0 c.self.inside.coord = scans_of c.self.inside.coord c.self.inside.coord c.args.lo.now c.args.hi.now c.args.at c.args.limit c.scan-outcome.result c.or_memory-result.result.0 c.scan-outcome.ensures.step refl c.scan-outcome.ensures.refused told.1 in
    let w : WitnessedValue = record { exchange = exchange_of c.in-Ok.calls c.or_memory-result.result.1; before = g.N.Witness.seen c.of-before.result } in
    shared_push g.J.Start.start _ _ c.self.inside.book.total c.log.new.book.total w c.self.invariant
    (c.log.ensures.history ∙ ap (λ (l : List WitnessedValue). l ++ w ∷ []) c.has_room.ensures.history)
    c.log.ensures.total
    (extends_scan c.self.inside.history.items c.self.inside.coord w c.self.inside.coord c.args.lo.now c.args.hi.now c.args.at c.args.limit c.or_memory-result.result.0 c.in-Ok.ensures told.0 does)

pub returns : goal.returns
returns g c =
    let told = or_memory_gives (λ (pairs : Vec (List ℕ × List ℕ) _). answer.Scanned pairs.items) c.scan-outcome.result c.or_memory-result.result.0 c.scan_answers-copied.result c.or_memory-result.result.1 c.scan_answers-copied.ensures.ok c.scan_answers-copied.ensures.err c.or_memory-result.ensures in
    let does : ScansKeys c.self.inside.coord c.args.lo.now c.args.hi.now c.args.at c.args.limit c.or_memory-result.result.0 c.self.inside.coord = scans_of c.self.inside.coord c.self.inside.coord c.args.lo.now c.args.hi.now c.args.at c.args.limit c.scan-outcome.result c.or_memory-result.result.0 c.scan-outcome.ensures.step refl c.scan-outcome.ensures.refused told.1 in
    let new : SharedValue = record { coord = c.self.inside.coord; history = c.log.new.history.items } in
    inr (
      recorded_plainly _ _ new _ _ c.has_room.new.history.items c.has_room.new.mine.items c.log.new.mine.items c.in-Ok.calls (call.Scan (record { lo = c.args.lo.now; hi = c.args.hi.now; at = c.args.at; limit = c.args.limit })) c.or_memory-result.result.1 (scan_answer c.or_memory-result.result.0) (g.N.Witness.seen c.of-before.result)
          c.self.view_is c.tally.view_is (plain_scan c.or_memory-result.result.0) c.in-Ok.ensures told.0 (c.of-before.ensures ∙ c.served.ensures) c.has_room.ensures.history c.has_room.ensures.mine c.log.ensures.history c.log.ensures.mine,
      subst (λ (s : SharedValue). ScansKeys s.coord c.args.lo.now c.args.hi.now c.args.at c.args.limit c.or_memory-result.result.0 c.self.inside.coord) c.self.view_is does,
    )
