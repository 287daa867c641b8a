-- Claims that are given back leave the vault.
use Rattle.std.proofs.Common.{ap, ◌∙◌}
use Rattle.lsm_coord.specs.Contract.Desks.{claims_of}
use Rattle.lsm_coord.specs.Contract.Restarts.{after_returning_all}
use Rattle.lsm_coord.specs.Contract.Seats.{SeatValue}
use Rattle.lsm_world.proofs.ClosedStores.{returned_vault}
use Rattle.lsm_world.proofs.store.Store.close.Goals as goal

pub returns-clause-vault : goal.returns-clause-vault
returns-clause-vault g c =
    let ids = claims_of c.parts-seat.result.1 in
    c.close-2.ensures.vault ∙ ap (λ (s : SeatValue). s.stored) (c.close.ensures.returned ∙ ap (λ (s : SeatValue). after_returning_all s ids) c.parts-seat.ensures.seat) ∙ (returned_vault c.args.self ids).0

pub returns-clause-failures : goal.returns-clause-failures
returns-clause-failures g c =
    let ids = claims_of c.parts-seat.result.1 in
    c.close-2.ensures.failures ∙ ap (λ (s : SeatValue). s.failures) (c.close.ensures.returned ∙ ap (λ (s : SeatValue). after_returning_all s ids) c.parts-seat.ensures.seat) ∙ (returned_vault c.args.self ids).1
