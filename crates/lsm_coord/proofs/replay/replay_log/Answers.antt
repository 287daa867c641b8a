use Rattle.std.proofs.Common.{◌≡◌, ◌∙◌, ℕ, List, IfErr, subst}
use Rattle.std.proofs.lemmas.Result.{IfErr-weaker}
use Rattle.lsm_coord.specs.Inner.Replaying.{LogRefuses}
use Rattle.lsm_coord.proofs.ReplayedLogs.{log_refuses}
use Rattle.lsm_coord.proofs.replay.replay_log.Goals as goal

pub returns-clause-refused : goal.returns-clause-refused
returns-clause-refused g c =
    let texts : c.as_slice.result.now ≡ c.args.recovered.now.stored.log = c.as_slice.ensures.value ∙ c.in_ok-texts.ensures.ok in
    subst (λ (n : ℕ). IfErr c.replay.result (LogRefuses n c.args.recovered.now.stored.log)) c.flushed-flushed.ensures
    (subst (λ (t : List (List ℕ)). IfErr c.replay.result (LogRefuses c.flushed-flushed.result t)) texts (IfErr-weaker c.replay.result _ _ (λ e h. log_refuses c.flushed-flushed.result c.as_slice.result.now e h) c.replay.ensures.refused))
