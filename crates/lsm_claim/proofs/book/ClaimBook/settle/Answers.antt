use Rattle.std.proofs.Common.{◌≡◌, ◌∙◌, true, sym, ap}
use Rattle.lsm_claim.specs.declared.ending.Ending.TheVariants.{Installed, Returned}
use Rattle.lsm_claim.specs.Book.{BookValue, holds}
use Rattle.lsm_claim.proofs.BookChanges.{IsBook-settled}
use Rattle.lsm_claim.proofs.book.ClaimBook.settle.Goals as goal

pub invariant_of-self : goal.invariant_of-self
invariant_of-self c =
    let live : holds c.args.self.now c.id-id.result ≡ true = sym c.has.ensures ∙ c.if-not-has.false in
    let same = ap (λ (b : BookValue). holds b c.id-id.result) c.self.view_is in
    rw c.take_out.ensures (IsBook-settled _ c.id-id.result Installed (same ∙ live) c.self.invariant)

pub invariant_of-self-in-Returned : goal.invariant_of-self-in-Returned
invariant_of-self-in-Returned c =
    let live : holds c.args.self.now c.id-id.result ≡ true = sym c.has.ensures ∙ c.if-not-has.false in
    let same = ap (λ (b : BookValue). holds b c.id-id.result) c.self.view_is in
    rw c.take_out.ensures (IsBook-settled _ c.id-id.result Returned (same ∙ live) c.self.invariant)
