-- What a trim makes of the states that a coordinator shows.
use Rattle.std.proofs.Common.{ℕ, refl, ap, max}
use Rattle.lsm_coord.specs.Model.State.{State}
use Rattle.lsm_coord.specs.Model.Changes as change
use Rattle.lsm_coord.specs.Contract.Calls.{with_floor}
use Rattle.lsm_coord.specs.Contract.Shows.{Shows}
use Rattle.lsm_coord.specs.Contract.Value.{CoordValue}
use Rattle.lsm_coord.proofs.ShownStates.{stored_same}

pub Shows-trimmed : (c : CoordValue) (s : State) (n : ℕ) → Shows c s → Shows (with_floor c n) (change.after_trim s n)
Shows-trimmed c s n h =
    let m = h.memtables in
    record {
      up = h.up;
      last = h.last;
      frozen = h.frozen;
      snapshots = h.snapshots;
      made = h.made;
      floor = ap (λ (floor : ℕ). max floor n) h.floor;
      tables = stored_same c.stored.edits c.served s _ h.tables refl refl refl refl (λ key. refl);
      memtables = record { flushed = m.flushed; within = m.within; active_is = m.active_is; frozen_is = m.frozen_is; kept = m.kept; snapped = m.snapped };
      logged = h.logged;
    }
