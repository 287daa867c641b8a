use Rattle.std.proofs.Common.{◌++◌, List, subst, sym}
use Rattle.lsm_claim.specs.declared.job.JobId.{JobId}
use Rattle.lsm_coord.specs.Contract.Desks.{claim_of}
use Rattle.lsm_coord.specs.Contract.Restarts.{CoreKeepsSound, seat_of}
use Rattle.lsm_coord.specs.Contract.Seats.{SeatValue, ShowsSeat}
use Rattle.lsm_coord.proofs.ReturnedClaims.{all_returned_keep, four_in_turn, shown_after_all}
use Rattle.lsm_coord.proofs.desk.Desk.close.Goals as goal

pub returns-clause-shown : goal.returns-clause-shown
returns-clause-shown g c =
    let d = c.self.inside in
    let ids : List JobId = claim_of d.first ++ (claim_of d.second ++ (claim_of d.third ++ claim_of d.fourth)) in
    let all = four_in_turn _ _ _ _ _ (claim_of d.first) (claim_of d.second) (claim_of d.third) (claim_of d.fourth) c.close.ensures c.close-2.ensures c.close-3.ensures c.close-4.ensures in
    λ s h. subst (λ (v : SeatValue). ShowsSeat v s) (sym all) (shown_after_all _ ids s h)

pub returns-clause-sound : goal.returns-clause-sound
returns-clause-sound g c =
    let d = c.self.inside in
    let ids : List JobId = claim_of d.first ++ (claim_of d.second ++ (claim_of d.third ++ claim_of d.fourth)) in
    let all = four_in_turn _ _ _ _ _ (claim_of d.first) (claim_of d.second) (claim_of d.third) (claim_of d.fourth) c.close.ensures c.close-2.ensures c.close-3.ensures c.close-4.ensures in
    let old : SeatValue = seat_of g.V.Vault.stored g.V.Vault.failures c.args.seat.now in
    subst (λ (v : SeatValue). CoreKeepsSound old.core v.core) (sym all) (all_returned_keep old ids)
