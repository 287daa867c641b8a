-- The installs of the history are those of the records.
use Rattle.std.proofs.Common.{List, ◌∷◌, count_by, length, ap, sym, ◌∙◌}
use Rattle.lsm_nodes.specs.Histories.{SharedValue, WitnessedValue, installed_in}
use Rattle.lsm_nodes.specs.Tallies.{TallyValue, all_records, is_done}
use Rattle.lsm_nodes.proofs.PartedHistories.{parted_installs}
use Rattle.lsm_nodes.proofs.shared.Shared.matches.Goals as goal

pub returns-clause-installs : goal.returns-clause-installs
returns-clause-installs g c = λ t.
    let history = c.as_slice.ensures.value ∙ ap (λ (s : SharedValue). s.history) c.self.view_is in
    ap (λ (ws : List WitnessedValue). length (installed_in ws)) (sym history)
    ∙ parted_installs _ _ (c.is_parted.ensures.0 t)
    ∙ (λ i. count_by is_done (all_records (c.as_slice-2.ensures.value i ∷ c.as_slice-3.ensures.value i)))
    ∙ sym c.tally.invariant.done
    ∙ ap (λ (x : TallyValue). x.installed) (c.tally.view_is ∙ c.audit.ensures.same)
