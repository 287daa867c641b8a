-- The seat is another one, and the other parts stay.
use Rattle.std.proofs.Common.{inr}
use Rattle.lsm_coord.specs.Contract.Restarts.{seat_of}
use Rattle.lsm_world.specs.Inner.Storing.{store_of}
use Rattle.lsm_world.proofs.StoreEvents.{known_down, restart_asks, restart_follows, restart_idle, restart_is_plain, restart_known}
use Rattle.lsm_world.proofs.StoreFailures.{restart_counted}
use Rattle.lsm_world.proofs.store.Store.restart.Goals as goal

pub seated-store-requires : goal.seated-store-requires
seated-store-requires g c =
    let is = c.parts-seat.ensures in record {
      idle = restart_idle (seat_of g.V.Vault.stored g.V.Vault.failures c.parts-seat.result.0) c.restart-seat.result.1 (seat_of g.V.Vault.stored g.V.Vault.failures c.restart-seat.result.0) c.restart-seat.ensures.restarts;
      history = restart_known (store_of c.args.self) _ _ _ _ _ is.seat is.desk is.network c.restart-seat.ensures.restarts is.history;
    }

pub returns-clause-asks : goal.returns-clause-asks
returns-clause-asks g c =
    let is = c.parts-seat.ensures in
    inr (restart_asks (store_of c.args.self) _ _ _ _ _ is.seat is.desk is.network c.restart-seat.ensures.restarts _ _ c.restarted-reply.ensures c.seated-store.ensures)

pub returns-clause-follows : goal.returns-clause-follows
returns-clause-follows g c =
    let is = c.parts-seat.ensures in
    restart_follows (store_of c.args.self) _ _ _ _ _ is.seat is.desk is.network c.restart-seat.ensures.restarts c.restarted-reply.result (store_of c.seated-store.result) c.restarted-reply.ensures c.seated-store.ensures c.restart-seat.ensures.step
    (λ h known. known_down h c.args.self is.fit known)

pub returns-clause-plain : goal.returns-clause-plain
returns-clause-plain g c =
    restart_is_plain (store_of c.args.self) _ c.restart-seat.result.1 (seat_of g.V.Vault.stored g.V.Vault.failures c.restart-seat.result.0) c.restarted-reply.result c.parts-seat.ensures.seat c.restarted-reply.ensures c.restart-seat.ensures.step c.requires

pub returns-clause-counted : goal.returns-clause-counted
returns-clause-counted g c =
    let is = c.parts-seat.ensures in
    restart_counted (store_of c.args.self) (store_of c.seated-store.result) c.restarted-reply.result
    (restart_asks (store_of c.args.self) _ _ _ _ _ is.seat is.desk is.network c.restart-seat.ensures.restarts _ _ c.restarted-reply.ensures c.seated-store.ensures)
