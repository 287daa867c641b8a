-- The install is the last of the history and of the caller's records.
use Rattle.std.proofs.Common.{ℕ, ◌+◌, List, [], ◌∷◌, ◌++◌, length, ap, subst, sym, ◌∙◌, inr}
use Rattle.lsm_claim.specs.declared.job.JobId.{JobId}
use Rattle.lsm_coord.specs.declared.call.Call.TheVariants as call
use Rattle.lsm_nodes.specs.declared.shared.tally.Record.{Record}
use Rattle.lsm_nodes.specs.Answers.{HasFewFiles, install_answer}
use Rattle.lsm_nodes.specs.Calls.{InstallsResult}
use Rattle.lsm_nodes.specs.Histories.{SharedValue, WitnessedValue}
use Rattle.lsm_nodes.specs.Tallies.{exchange_of, installs_by, record_at}
use Rattle.lsm_nodes.proofs.LongerHistories.{shared_push}
use Rattle.lsm_nodes.proofs.RecordedInstalls.{extends_install, few_files}
use Rattle.lsm_nodes.proofs.TalliedRecords.{counted_push, recorded_twice}
use Rattle.lsm_nodes.proofs.shared.Shared.install.Goals as goal

pub install_answers-answers-requires-clause-few : goal.install_answers-answers-requires-clause-few
install_answers-answers-requires-clause-few g c =
    let e = c.install-result.ensures in
    let does : InstallsResult c.self.inside.coord c.args.claim c.args.made.now c.install-result.result c.install-result.new.self = record { became = e.became; failures = e.failures; step = e.step; sound = e.sound } in
    subst (λ (n : ℕ). HasFewFiles n c.install-result.result) (sym c.len.ensures) (few_files c.self.inside.coord c.install-result.new.self c.args.claim c.args.made.now c.install-result.result does)

pub invariant_of-self-2 : goal.invariant_of-self-2
invariant_of-self-2 g c =
    let e = c.install-result.ensures in
    let does : InstallsResult c.self.inside.coord c.args.claim c.args.made.now c.install-result.result c.install-result.new.self = record { became = e.became; failures = e.failures; step = e.step; sound = e.sound } in
    let w : WitnessedValue = record { exchange = exchange_of c.in-Ok.calls c.install_answers-answers.result; before = g.N.Witness.seen c.of-before.result } in
    shared_push g.J.Start.start _ _ c.self.inside.book.total c.log.new.book.total w c.self.invariant
    (c.log.ensures.history ∙ ap (λ (l : List WitnessedValue). l ++ w ∷ []) c.has_room.ensures.history)
    c.log.ensures.total
    (extends_install c.self.inside.history.items c.self.inside.coord w c.install-result.new.self c.args.claim c.args.made.now c.install-result.result (c.in-Ok.ensures.call ∙ ap (λ (i : JobId). call.Install i c.args.made.now) c.id.ensures) c.install_answers-answers.ensures
    (c.of-before.ensures ∙ c.served.ensures) does)

pub returns : goal.returns
returns g c =
    let e = c.install-result.ensures in
    let does : InstallsResult c.self.inside.coord c.args.claim c.args.made.now c.install-result.result c.install-result.new.self = record { became = e.became; failures = e.failures; step = e.step; sound = e.sound } in
    let new : SharedValue = record { coord = c.install-result.new.self; history = c.log.new.history.items } in
    let r : Record = record_at (length c.has_room.new.history.items + 1) (exchange_of c.in-Ok.calls c.install_answers-answers.result) in
    inr (
      recorded_twice _ _ new _ _ _ c.has_room.new.history.items c.in-Ok.calls (call.Install c.args.claim.id c.args.made.now) c.install_answers-answers.result (install_answer c.install-result.result) (g.N.Witness.seen c.of-before.result)
          c.self.view_is c.tally.view_is (c.in-Ok.ensures.call ∙ ap (λ (i : JobId). call.Install i c.args.made.now) c.id.ensures) c.install_answers-answers.ensures (c.of-before.ensures ∙ c.served.ensures) c.has_room.ensures.history c.log.ensures.history
          (counted_push _ c.done_by-done.result c.log.new.mine.items r (c.done_by-done.ensures.counts ∙ ap installs_by (sym c.install_answers-answers.ensures)) (c.log.ensures.mine ∙ ap (λ (rs : List Record). rs ++ r ∷ []) c.has_room.ensures.mine)),
      subst (λ (s : SharedValue). InstallsResult s.coord c.args.claim c.args.made.now c.install-result.result c.install-result.new.self) c.self.view_is does,
    )
