use Rattle.std.proofs.Common.{subst}
use Rattle.lsm_claim.specs.Book.{BookValue}
use Rattle.lsm_claim.specs.Jobs.{ShareNoKey}
use Rattle.lsm_claim.proofs.BookChanges.{no_shared_key}
use Rattle.lsm_claim.proofs.book.ClaimBook.live.Goals as goal

pub returns-clause-disjoint : goal.returns-clause-disjoint
returns-clause-disjoint c = subst (λ (b : BookValue). ShareNoKey b.live) c.self.view_is (no_shared_key _ c.self.invariant.apart)
