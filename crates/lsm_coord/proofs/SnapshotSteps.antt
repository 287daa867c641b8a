-- What a snapshot and its release make of the states that a coordinator shows.
use Rattle.std.proofs.Common.{◌≡◌, ℕ, ◌+◌, Bool, true, false, not, cond, List, [], ◌∷◌, ◌++◌, Option, None, Some, filter, refl, ap, subst, arith, inl, inr, is_some, is_none}
use Rattle.std.specs.Prelude.{if◌then◌else◌}
use Rattle.lsm_coord.specs.declared.error.CoordError.TheVariants.{NoSnapshot}
use Rattle.lsm_key.proofs.AscendingEntries.{IsIn-filter}
use Rattle.lsm_key.specs.Sets.{IsIn}
use Rattle.lsm_key.specs.Visible.{value_at}
use Rattle.lsm_key.specs.Writes.{answer}
use Rattle.lsm_key.proofs.Membership.{IsIn-append_cases}
use Rattle.lsm_coord.specs.declared.snapshot.SnapId.{SnapId}
use Rattle.lsm_coord.specs.declared.snapshot.Snapshot.{Snapshot}
use Rattle.lsm_coord.specs.Model.State.{State, last_seq, last_flushed, same_snapshot_id, snapshot_at}
use Rattle.lsm_coord.specs.Model.Changes.{with_snapshot, without_snapshot, next_snapshot}
use Rattle.lsm_coord.specs.Contract.Value.{CoordValue, stored_entries}
use Rattle.lsm_coord.specs.Contract.Calls.{after_snapshot, after_release, point_of, IsPoint}
use Rattle.lsm_coord.specs.Contract.Shows.{Shows}
use Rattle.lsm_coord.proofs.ShownStates.{stored_same}

pub Shows-snapped : (c : CoordValue) (s : State) → Shows c s → Shows (after_snapshot c) (with_snapshot s)
Shows-snapped c s h =
    let m = h.memtables in
    let flushed = m.flushed in
    let within = m.within in
    let fresh : Snapshot = record { id = next_snapshot s; at = last_seq s } in
    record {
      up = h.up;
      last = h.last;
      frozen = h.frozen;
      snapshots = λ i. h.snapshots i ++ record { id = record { epoch = h.tables.epoch i; number = h.made i + 1 }; at = h.last i } ∷ [];
      made = ap (λ (n : ℕ). n + 1) h.made;
      floor = h.floor;
      tables = stored_same c.stored.edits c.served s _ h.tables refl refl refl refl (λ key. refl);
      memtables = record {
        flushed = m.flushed;
        within = m.within;
        active_is = m.active_is;
        frozen_is = m.frozen_is;
        kept = λ x live low key. elim (IsIn-append_cases x s.snapshots (fresh ∷ []) live) [
          | inl old ↦ m.kept x old low key
          | inr new ↦ elim new [
            | inl e ↦
                let at : x.at ≡ last_seq s = ap (λ (y : Snapshot). y.at) e in
                let now : last_flushed s ≡ x.at = omega (arith, at, low) in
                subst (λ (p : ℕ). value_at (stored_entries c.served) key p ≡ answer s.writes p key) now (h.tables.answers key)
            | inr none ↦ absurd none
          ]
        ];
        snapped = λ x live. elim (IsIn-append_cases x s.snapshots (fresh ∷ []) live) [
          | inl old ↦ m.snapped x old
          | inr new ↦ elim new [ inl e ↦ (let at : x.at ≡ last_seq s = ap (λ (y : Snapshot). y.at) e in omega arith) | inr none ↦ absurd none ]
        ];
      };
      logged = h.logged;
    }

-- ---- a release

pub Shows-released : (c : CoordValue) (s : State) (id : SnapId) → Shows c s → Shows (after_release c id) (without_snapshot s id)
Shows-released c s id h =
    let m = h.memtables in
    let others : Snapshot → Bool = λ live. not (same_snapshot_id live.id id) in
    record {
      up = h.up;
      last = h.last;
      frozen = h.frozen;
      snapshots = ap (filter others) h.snapshots;
      made = h.made;
      floor = h.floor;
      tables = stored_same c.stored.edits c.served s _ h.tables refl refl refl refl (λ key. refl);
      memtables = record {
        flushed = m.flushed;
        within = m.within;
        active_is = m.active_is;
        frozen_is = m.frozen_is;
        kept = λ x live low key. m.kept x (IsIn-filter others x s.snapshots live).0 low key;
        snapped = λ x live. m.snapped x (IsIn-filter others x s.snapshots live).0;
      };
      logged = h.logged;
    }

-- ---- the sequence of a read

found_either : (b : Bool) (x : Snapshot) (xs : List Snapshot) (rest : Option ℕ) (at : ℕ) → (rest ≡ Some at → (y : Snapshot) × IsIn y xs × (y.at ≡ at)) → cond b (Some x.at) rest ≡ Some at
    → (y : Snapshot) × IsIn y (x ∷ xs) × (y.at ≡ at)
found_either true x xs rest at h e = (x, inl refl, cc)
found_either false x xs rest at h e = let r = h e in (r.0, inr r.1, r.2)

-- it is that of a live snapshot
pub found_live : (xs : List Snapshot) (id : SnapId) (at : ℕ) → snapshot_at xs id ≡ Some at → (x : Snapshot) × IsIn x xs × (x.at ≡ at)
found_live [] id at e = absurd cc
found_live (x ∷ xs) id at e = found_either (same_snapshot_id x.id id) x xs (snapshot_at xs id) at (found_live xs id at) e

-- a read's sequence is a point
pub is_point : (c : CoordValue) (at : Option SnapId) (p : ℕ) → point_of c at ≡ Some p → IsPoint c p
is_point c None p e = inl (let same : p ≡ c.last = cc in same)
is_point c (Some id) p e = inr (found_live c.snapshots id p e)

-- a snapshot that lives can be let go
pub releasable : (o : Option ℕ) → is_some o ≡ true → (if is_none o then Some NoSnapshot else None) ≡ None
releasable None h = absurd cc
releasable (Some at) h = refl
