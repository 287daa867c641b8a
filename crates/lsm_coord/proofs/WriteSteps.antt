-- What a write makes of the states that a coordinator shows.
use Rattle.std.proofs.Common.{refl, ◌≡◌, ℕ, ◌+◌, ◌≤◌, List, [], ◌∷◌, ◌++◌, Option, sym, ap, subst, ◌∙◌, arith, length, drop, length-drop, length-append}
use Rattle.std.specs.Prelude.{sum_by}
use Rattle.std.specs.Option.{option_and_then}
use Rattle.std.specs.List.Sorted.{IsPermutation}
use Rattle.std.proofs.lemmas.List.{take-append-le}
use Rattle.std.proofs.lemmas.List.Sorted.{IsPermutation-append, IsPermutation-refl, IsPermutation-sym, IsPermutation-trans, length_permutation, sum_by-IsPermutation}
use Rattle.lsm_key.specs.declared.entry.Entry.{Entry}
use Rattle.lsm_key.specs.declared.op.Op.{Op}
use Rattle.lsm_key.specs.Limits.{total_weight, entry_weight}
use Rattle.lsm_key.specs.Writes.{answer, last_write, value_of}
use Rattle.lsm_key.specs.Places.{entries_after}
use Rattle.lsm_key.proofs.RecentOverStored.{drop-append_le}
use Rattle.lsm_key.proofs.WritesOverStored.{entries_after-append, length-entries_after, weight-entries_after}
use Rattle.lsm_edit.specs.declared.log_record.LogRecord.TheVariants as logged
use Rattle.lsm_edit.specs.LogRecord.{record_bytes}
use Rattle.lsm_edit.specs.Log.{LogHolds}
use Rattle.lsm_coord.specs.declared.frozen.Frozen.{Frozen}
use Rattle.lsm_coord.specs.Model.State.{State, active, last_seq, last_flushed, active_start}
use Rattle.lsm_coord.specs.Contract.Value.{CoordValue, frozen_entries}
use Rattle.lsm_coord.specs.Contract.Logs.{IsLogged, with_logged}
use Rattle.lsm_coord.specs.Contract.Shows.{Shows}
use Rattle.lsm_coord.proofs.LoggedCalls.{end_in, held_as, same_ops}
use Rattle.lsm_coord.proofs.ShownStates.{stored_same}
use Rattle.lsm_coord.proofs.ShownVersions.{flushed_is}

-- a later write changes no earlier answer
answer-append : (writes ops : List Op) (p : ℕ) (key : List ℕ) → p ≤ length writes → answer (writes ++ ops) p key ≡ answer writes p key
answer-append writes ops p key h = ap (λ (ws : List Op). option_and_then value_of (last_write ws key)) (take-append-le p writes ops h)

-- the active memtable weighs what its writes weigh
pub active_weight : (c : CoordValue) (s : State) → Shows c s → total_weight (active s) ≡ sum_by entry_weight c.active
active_weight c s h =
    sym (weight-entries_after (active_start s) (drop (active_start s) s.writes))
    ∙ sum_by-IsPermutation entry_weight c.active (entries_after (active_start s) (drop (active_start s) s.writes)) h.memtables.active_is

-- the active memtable has as many entries as there are writes after its beginning
pub active_count : (c : CoordValue) (s : State) → Shows c s → length c.active + active_start s ≡ last_seq s
active_count c s h =
    let within = h.memtables.within in
    omega (arith, length_permutation c.active (entries_after (active_start s) (drop (active_start s) s.writes)) h.memtables.active_is, length-entries_after (active_start s) (drop (active_start s) s.writes), length-drop (active_start s) s.writes)

-- what the log holds is what a state that is shown has written since the last flush
pub logged_ops : (c : CoordValue) (s : State) (frozen : Option Frozen) → Shows c s → (l : IsLogged c.active frozen c.last c.served.version.flushed c.stored.log) → l.ops ≡ drop (last_flushed s) s.writes
logged_ops c s frozen h l = same_ops c.active frozen c.last c.served.version.flushed c.stored.log l (last_flushed s) (drop (last_flushed s) s.writes) s.frozen (flushed_is c.stored.edits c.served s h.tables) h.logged

-- the entries of the memtable, in whatever order, and those of the batch
pub Shows-written : (c : CoordValue) (entries : List Entry) (s : State) (ops : List Op) → IsPermutation (c.active ++ entries_after c.last ops) entries → Shows c s
    → (l : IsLogged c.active c.frozen c.last c.served.version.flushed c.stored.log) → LogHolds c.served.version.flushed (c.stored.log ++ record_bytes (logged.Write (c.last + 1) ops) ∷ []) (l.ops ++ ops) (end_in c.frozen)
    → Shows (record c { active = entries; stored = with_logged c.stored (logged.Write (c.last + 1) ops); last = c.last + length ops }) (record s { writes = s.writes ++ ops })
Shows-written c entries s ops perm h l held =
    let m = h.memtables in
    let within = m.within in
    let flushed = m.flushed in
    let long : length (s.writes ++ ops) ≡ length s.writes + length ops = length-append s.writes ops in
    let start : ℕ = active_start s in
    let log : List (List ℕ) = c.stored.log ++ record_bytes (logged.Write (c.last + 1) ops) ∷ [] in
    let whole : l.ops ++ ops ≡ drop (last_flushed s) (s.writes ++ ops) = ap (λ (os : List Op). os ++ ops) (logged_ops c s c.frozen h l) ∙ sym (drop-append_le (last_flushed s) s.writes ops (omega (arith, flushed, within))) in
    let seam : start + length (drop start s.writes) ≡ c.last = omega (arith, length-drop start s.writes, h.last) in
    let fresh : entries_after start (drop start (s.writes ++ ops)) ≡ entries_after start (drop start s.writes) ++ entries_after c.last ops =
    ap (entries_after start) (drop-append_le start s.writes ops within) ∙ entries_after-append start (drop start s.writes) ops ∙ ap (λ (n : ℕ). entries_after start (drop start s.writes) ++ entries_after n ops) seam in
    record {
      up = h.up;
      last = long ∙ ap (λ (n : ℕ). n + length ops) h.last;
      frozen = h.frozen;
      snapshots = h.snapshots;
      made = h.made;
      floor = h.floor;
      tables = stored_same c.stored.edits c.served s _ h.tables refl refl refl refl (λ key. answer-append s.writes ops (last_flushed s) key (omega arith));
      memtables = record {
        flushed = flushed;
        within = omega (arith, long);
        active_is = rw fresh (IsPermutation-trans entries (c.active ++ entries_after c.last ops) (entries_after start (drop start s.writes) ++ entries_after c.last ops) (IsPermutation-sym (c.active ++ entries_after c.last ops) entries perm)
            (IsPermutation-append c.active (entries_after start (drop start s.writes)) (entries_after c.last ops) (entries_after c.last ops) m.active_is (IsPermutation-refl (entries_after c.last ops))));
        frozen_is = subst (λ (ws : List Op). IsPermutation (frozen_entries c.frozen) (entries_after (last_flushed s) (drop (last_flushed s) ws))) (sym (take-append-le start s.writes ops within)) m.frozen_is;
        kept = λ x live low key. m.kept x live low key ∙ sym (answer-append s.writes ops x.at key (omega arith));
        snapped = λ x live. let high = m.snapped x live in omega (arith, long);
      };
      logged = held_as c.served.version.flushed (last_flushed s) log (l.ops ++ ops) (drop (last_flushed s) (s.writes ++ ops)) (end_in c.frozen) s.frozen (flushed_is c.stored.edits c.served s h.tables) whole h.frozen held;
    }
