use Rattle.std.proofs.Common.{◌∙◌, ◌≤◌, ℕ, None, ap, refl, subst}
use Rattle.lsm_key.specs.declared.limits.Limits.{Limits}
use Rattle.lsm_claim.specs.Book.{new_book}
use Rattle.lsm_vault.specs.Stored.{VaultValue}
use Rattle.lsm_versions.specs.Opening.{CountsRefusal, MayHaveDropped, OpenRefuses}
use Rattle.lsm_coord.specs.Contract.Restarts.{seat_of}
use Rattle.lsm_coord.specs.Contract.Seats.{LogComesFirst, OpensCoord, SeatValue}
use Rattle.lsm_coord.proofs.seat.Seat.restart.Goals as goal

pub returns-in-Ok-clause-restarts : goal.returns-in-Ok-clause-restarts
returns-in-Ok-clause-restarts g c =
    let old : SeatValue = seat_of g.V.Vault.stored g.V.Vault.failures c.args.self in
    let coord = c.in-Ok.coord in
    let left = c.stop-vault.ensures in
    let stored = subst (λ (v : VaultValue). OpensCoord v c.stop-vault.result.2 coord) left.vault c.in-Ok.ensures.ok in
    let opens = subst (λ (l : Limits). OpensCoord old.stored l coord) left.limits stored in
    (coord, opens, refl, subst (λ (n : ℕ). n ≤ coord.failures) left.failures c.in-Ok.ensures.failures)

pub returns-in-Ok-clause-step : goal.returns-in-Ok-clause-step
returns-in-Ok-clause-step g c = λ s h. c.in-Ok.ensures.step s (c.stop-vault.ensures.shown s h)

pub returns-in-Err-clause-restarts : goal.returns-in-Err-clause-restarts
returns-in-Err-clause-restarts g c =
    let old : SeatValue = seat_of g.V.Vault.stored g.V.Vault.failures c.args.self in
    let left = c.stop-vault.ensures in
    let why = c.in-Err.why in
    let new = g.V.Vault.stored c.in-Err.vault in
    let failures = g.V.Vault.failures c.in-Err.vault in
    let e = c.in-Err.ensures in (
      subst (λ (v : VaultValue). OpenRefuses v why) left.vault e.refused,
      subst (λ (v : VaultValue). MayHaveDropped why v new) left.vault e.left,
      subst (λ (n : ℕ). CountsRefusal why n failures) left.failures e.counted,
      λ i. record {
        core = None;
        stored = new;
        failures = failures;
        book = (c.new-book.ensures ∙ ap new_book left.epoch) i;
        limits = left.limits i;
      },
    )

pub returns-in-Err-clause-step : goal.returns-in-Err-clause-step
returns-in-Err-clause-step g c = λ s h. c.in-Err.ensures.stays s (c.stop-vault.ensures.shown s h)

pub returns-in-Err-clause-first : goal.returns-in-Err-clause-first
returns-in-Err-clause-first g c = subst (λ (v : VaultValue). LogComesFirst v c.in-Err.why) c.stop-vault.ensures.vault c.in-Err.ensures.first
