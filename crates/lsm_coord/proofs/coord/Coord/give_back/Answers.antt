use Rattle.std.proofs.Common.{◌∙◌, refl}
use Rattle.lsm_claim.specs.declared.ending.Ending.TheVariants.{Returned}
use Rattle.lsm_coord.proofs.StateRefusals.{give_up_may}
use Rattle.lsm_coord.proofs.GiveBackSteps.{epoch_after, legal_after, orderly_after, Shows-beside, gives_back_keeps}
use Rattle.lsm_coord.proofs.coord.Coord.give_back.Goals as goal

pub invariant_of-self : goal.invariant_of-self
invariant_of-self g c =
    let m = c.self.inside in
    let i = c.self.invariant.0 in (
      rw c.settle.ensures.book (record {
        recent = i.recent;
        begun = i.begun;
        waiting = i.waiting;
        opened = i.opened;
        same_epoch = epoch_after m.book c.args.claim.id Returned ∙ i.same_epoch;
        legal = legal_after m.versions.served.version.files m.book c.args.claim.id Returned i.legal;
        orderly = orderly_after m.book c.args.claim.id Returned i.orderly;
        few = i.few;
      }),
      c.self.invariant.1,
      c.self.invariant.2,
    )

pub returns-clause-step : goal.returns-clause-step
returns-clause-step g c = rw (c.settle.ensures.book, ← c.self.view_is) (λ dispatcher index s h. (s, (give_up_may s dispatcher h.up, (index, refl)), Shows-beside _ _ c.self.inside.versions.stored.tables c.self.inside.versions.failures s h))

pub returns-clause-sound : goal.returns-clause-sound
returns-clause-sound g c = rw (c.settle.ensures.book, ← c.self.view_is) (gives_back_keeps _ c.args.claim.id)
