-- A coordinator that stops is down: its vault shows what it showed, but the snapshots.
use Rattle.std.proofs.Common.{◌≡◌, ◌≤◌, refl, sym, subst, arith}
use Rattle.lsm_edit.specs.Served.{IsServed}
use Rattle.lsm_vault.specs.Stored.{VaultValue}
use Rattle.lsm_versions.specs.Opening.{ArePlacesKept}
use Rattle.lsm_coord.specs.Model.State.{State, active_start, last_flushed, last_seq}
use Rattle.lsm_coord.specs.Model.Changes.{after_stop}
use Rattle.lsm_coord.specs.Contract.Seats.{ShowsDown}
use Rattle.lsm_coord.specs.Contract.Shows.{Shows}
use Rattle.lsm_coord.specs.Contract.Value.{CoordValue}
use Rattle.lsm_coord.proofs.ShownStates.{stored_same}

-- A coordinator that stops leaves what its vault shows.
pub stops : (c : CoordValue) (s : State) → Shows c s → IsServed c.served → ArePlacesKept c.stored.tables c.served.places → ShowsDown c.stored (after_stop s)
stops c s h is tables =
    let low : last_flushed s ≤ active_start s = h.memtables.flushed in
    let high : active_start s ≤ last_seq s = h.memtables.within in
    record {
      down = refl;
      snapshots = refl;
      made = refl;
      flushed = omega (arith, low, high);
      served = c.served;
      sound = is;
      tables = tables;
      stored = stored_same c.stored.edits c.served s (after_stop s) h.tables refl refl refl refl (λ key. refl);
      logged = h.logged;
    }

-- What is down stays as it is when it stops.
pub stays_down : (vault : VaultValue) (s : State) → ShowsDown vault s → after_stop s ≡ s
stays_down vault s h = λ i. record s { snapshots = sym h.snapshots i; made = sym h.made i; up = sym h.down i }

-- So it is down after it stops again.
pub down_again : (vault : VaultValue) (s : State) → ShowsDown vault s → ShowsDown vault (after_stop s)
down_again vault s h = subst (ShowsDown vault) (sym (stays_down vault s h)) h
