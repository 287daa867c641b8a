use Rattle.std.proofs.Common.{◌≡◌, ◌∙◌, None, Some, sym, ap, subst}
use Rattle.lsm_claim.specs.Book.{BookValue, NamesLeast, claim_fault}
use Rattle.lsm_claim.proofs.BookChanges.{IsBook-claimed, names_least}
use Rattle.lsm_claim.proofs.book.ClaimBook.claim.Goals as goal

pub invariant_of-self-2 : goal.invariant_of-self-2
invariant_of-self-2 c =
    let free : claim_fault c.args.self.now c.args.want ≡ None = sym c.claim_fault.ensures ∙ c.in_default.is in
    let same = ap (λ (b : BookValue). claim_fault b c.args.want) c.self.view_is in
    rw (c.in_ok-push.ensures.items, c.in_ok-kept.ensures) (IsBook-claimed _ c.args.want (same ∙ free) c.self.invariant)

pub returns-in-Some-clause-least : goal.returns-in-Some-clause-least
returns-in-Some-clause-least c =
    let fault : claim_fault c.args.self.now c.args.want ≡ Some c.in-Some.why = sym c.claim_fault.ensures ∙ c.in-Some.is in
    let same = ap (λ (b : BookValue). claim_fault b c.args.want) c.self.view_is in
    subst (λ (b : BookValue). NamesLeast b c.args.want c.in-Some.why) c.self.view_is (names_least _ c.args.want c.in-Some.why c.self.invariant.rising (same ∙ fault))
