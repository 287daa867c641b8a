use Rattle.std.proofs.Common.{ℕ, List, sym, ap, subst, ◌∙◌}
use Rattle.lsm_key.specs.Sets.{IsIn}
use Rattle.lsm_claim.specs.declared.ending.Ending.TheVariants.{Returned}
use Rattle.lsm_claim.specs.declared.job.LiveJob.{LiveJob}
use Rattle.lsm_coord.specs.declared.coord.install.Install.TheVariants as became
use Rattle.lsm_coord.specs.Contract.Calls.{after_give_back}
use Rattle.lsm_coord.specs.Contract.Installing.{Became}
use Rattle.lsm_coord.specs.Contract.Shows.{Follows}
use Rattle.lsm_coord.specs.Model.Event.{Deliver, Installed}
use Rattle.lsm_coord.specs.Contract.Value.{CoordValue}
use Rattle.lsm_coord.proofs.GiveBackSteps.{live_before}
use Rattle.lsm_coord.proofs.InstallRefusals.{rejected_stored}
use Rattle.lsm_store.proofs.Compactions.{keeps_then}
use Rattle.lsm_store.proofs.compact.install.Goals as goal

pub returns-in-Done-clause-done : goal.returns-in-Done-clause-done
returns-in-Done-clause-done g c =
    subst (λ (fs : List ℕ). Became c.args.coord.now c.args.claim c.args.made.now (became.Done c.in-Done.number fs) c.install.new.self) (sym c.into_vec.ensures) c.in-Done.ensures.became

pub returns-in-Done-clause-step : goal.returns-in-Done-clause-step
returns-in-Done-clause-step g c = λ message holds.
    subst (λ (fs : List ℕ). Follows c.args.coord.now (Deliver message) (Installed c.in-Done.number fs) c.install.new.self) (sym c.into_vec.ensures) (c.in-Done.ensures.step message (λ done. holds))

pub returns-in-Kept-clause-err : goal.returns-in-Kept-clause-err
returns-in-Kept-clause-err g c =
    let b = c.in-Kept.ensures.became in
    (c.install.new.self, rejected_stored c.args.made.now c.in-Kept.why _ _ b.4, c.give_back.ensures.book ∙ ap (λ (l : LiveJob). after_give_back c.install.new.self l.id) b.2)

pub returns-in-Kept-clause-sound : goal.returns-in-Kept-clause-sound
returns-in-Kept-clause-sound g c = λ holds.
    keeps_then _ _ _ (c.in-Kept.ensures.sound (λ done. holds)) c.give_back.ensures.sound
    (λ j n. live_before c.install.new.self.book c.in-Kept.claim.id Returned j (subst (λ (x : CoordValue). IsIn j x.book.live) c.give_back.ensures.book n))
