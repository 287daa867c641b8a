use Rattle.std.proofs.Common.{◌∙◌, ap, subst, sym, inl, inr}
use Rattle.lsm_claim.specs.Book.{BookValue}
use Rattle.lsm_msg.specs.Legal.{IsLegal}
use Rattle.lsm_coord.specs.Contract.Memory.{AreLegal, AreJobWants}
use Rattle.lsm_coord.specs.Contract.Value.{CoordValue}
use Rattle.lsm_coord.proofs.PickedJobs.{claimed_or_not, legal_claimed, orderly_claimed}
use Rattle.lsm_coord.proofs.coord.Coord.claim.Goals as goal

pub invariant_of-self : goal.invariant_of-self
invariant_of-self g c =
    let m = c.self.inside in
    let i = c.self.invariant.0 in
    let want = c.args.want in
    let files = m.versions.served.version.files in
    let legal : IsLegal files want = subst (λ (v : CoordValue). IsLegal v.served.version.files want) (sym c.self.view_is) c.requires.1.legal in
    let new = c.claim.new.self in
    let either = claimed_or_not c.claim.result m.book new want c.claim.ensures.ok c.claim.ensures.err in (
      record {
        recent = i.recent;
        begun = i.begun;
        waiting = i.waiting;
        opened = i.opened;
        same_epoch = elim either [ inl e ↦ ap (λ (b : BookValue). b.epoch) e ∙ i.same_epoch | inr e ↦ ap (λ (b : BookValue). b.epoch) e ∙ i.same_epoch ];
        legal = elim either [
          | inl e ↦ subst (λ (b : BookValue). AreLegal files b.live) (sym e) (legal_claimed files m.book want i.legal legal)
          | inr e ↦ subst (λ (b : BookValue). AreLegal files b.live) (sym e) i.legal
        ];
        orderly = elim either [
          | inl e ↦ subst (λ (b : BookValue). AreJobWants b.live) (sym e) (orderly_claimed m.book want i.orderly c.requires.1.orderly)
          | inr e ↦ subst (λ (b : BookValue). AreJobWants b.live) (sym e) i.orderly
        ];
        few = i.few;
      },
      c.self.invariant.1,
      c.self.invariant.2,
    )
