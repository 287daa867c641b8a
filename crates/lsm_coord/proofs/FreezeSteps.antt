-- What a freeze makes of the states that a coordinator shows.
use Rattle.std.proofs.Common.{refl, ◌≡◌, ℕ, ◌<◌, List, length, Option, None, Some, sym, ap, subst, ◌∙◌, arith, take, drop, unwrap_or}
use Rattle.std.specs.Option.{option_map}
use Rattle.std.specs.List.Sorted.{IsPermutation}
use Rattle.std.proofs.lemmas.List.{take_all}
use Rattle.std.proofs.lemmas.List.Sorted.{IsPermutation-refl}
use Rattle.std.proofs.Math.Seq.{drop-length}
use Rattle.lsm_key.specs.declared.op.Op.{Op}
use Rattle.lsm_key.specs.Places.{entries_after}
use Rattle.lsm_coord.specs.declared.frozen.Frozen.{Frozen}
use Rattle.lsm_coord.specs.Model.State.{State, last_seq, last_flushed, active_start}
use Rattle.lsm_coord.specs.Contract.Value.{CoordValue}
use Rattle.lsm_coord.specs.Contract.Calls.{after_freezing}
use Rattle.lsm_coord.specs.Contract.Logs.{IsLogged}
use Rattle.lsm_coord.specs.Contract.Shows.{Shows}
use Rattle.lsm_coord.proofs.LoggedCalls.{freeze_holds, held_as}
use Rattle.lsm_coord.proofs.ShownStates.{stored_same}
use Rattle.lsm_coord.proofs.ShownVersions.{flushed_is}
use Rattle.lsm_coord.proofs.WriteSteps.{logged_ops}

-- nothing is frozen
pub none_frozen : (c : CoordValue) (s : State) → Shows c s → c.frozen ≡ None → s.frozen ≡ None
none_frozen c s h none = h.frozen ∙ ap (option_map (λ (f : Frozen). f.end)) none

-- then the active memtable begins after the last flush
pub start_at_flushed : (c : CoordValue) (s : State) → Shows c s → c.frozen ≡ None → active_start s ≡ last_flushed s
start_at_flushed c s h none = ap (λ (o : Option ℕ). unwrap_or o (last_flushed s)) (none_frozen c s h none)

pub Shows-froze : (c : CoordValue) (s : State) → Shows c s → c.frozen ≡ None → IsLogged c.active None c.last c.served.version.flushed c.stored.log → 0 < length c.active → Shows (after_freezing c) (record s { frozen = Some (last_seq s) })
Shows-froze c s h none l some =
    let m = h.memtables in
    let flushed = m.flushed in
    let within = m.within in
    let start : active_start s ≡ last_flushed s = start_at_flushed c s h none in
    let whole : take (last_seq s) s.writes ≡ s.writes = take_all (last_seq s) s.writes (omega arith) in
    record {
      up = h.up;
      last = h.last;
      frozen = ap Some h.last;
      snapshots = h.snapshots;
      made = h.made;
      floor = h.floor;
      tables = stored_same c.stored.edits c.served s _ h.tables refl refl refl refl (λ key. refl);
      memtables = record {
        flushed = omega arith;
        within = omega arith;
        active_is = rw (drop-length s.writes) (IsPermutation-refl _);
        frozen_is = subst (λ (ws : List Op). IsPermutation c.active (entries_after (last_flushed s) (drop (last_flushed s) ws))) (sym whole)
            (subst (λ (n : ℕ). IsPermutation c.active (entries_after n (drop n s.writes))) start m.active_is);
        kept = m.kept;
        snapped = m.snapped;
      };
      logged = held_as c.served.version.flushed (last_flushed s) (after_freezing c).stored.log l.ops (drop (last_flushed s) s.writes) (Some c.last) (Some (last_seq s)) (flushed_is c.stored.edits c.served s h.tables) (logged_ops c s None h l) (ap Some h.last)
          (freeze_holds c.active c.last c.served.version.flushed c.stored.log l some);
    }
