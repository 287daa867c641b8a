-- What the coordinator's steps do to what a store holds.
use Rattle.std.proofs.Common.{◌≡◌, ℕ, ◌+◌, Bool, true, false, List, [], ◌∷◌, ◌++◌, Option, None, Some, Result, Vec, length, refl, sym, ap, subst, ◌∙◌, arith, inl, inr, is_none}
use Rattle.std.specs.Prelude.{IsSome}
use Rattle.std.specs.Bool.{if◌then◌else◌}
use Rattle.lsm_key.specs.declared.op.Op.{Op}
use Rattle.lsm_key.specs.Writes.{answer}
use Rattle.lsm_vault.specs.Stored.{VaultValue}
use Rattle.lsm_versions.specs.declared.error.OpenError.{OpenError}
use Rattle.lsm_coord.specs.declared.error.CoordError.{CoordError}
use Rattle.lsm_coord.specs.declared.snapshot.SnapId.{SnapId}
use Rattle.lsm_coord.specs.declared.snapshot.Snapshot.{Snapshot}
use Rattle.lsm_coord.specs.Model.Changes.{IsIndex, after_restart, after_stop, read_at}
use Rattle.lsm_coord.specs.Model.Event.{Event, Refusal, Reply}
use Rattle.lsm_coord.specs.Model.Event as say
use Rattle.lsm_coord.specs.Model.Range.{IsRange}
use Rattle.lsm_coord.specs.Model.Rules.{read_refusal, unless_down}
use Rattle.lsm_coord.specs.Model.State.{State, snapshot_at}
use Rattle.lsm_coord.specs.Model.Step.{Leaves}
use Rattle.lsm_coord.specs.Contract.Seats.{OpenFollows, OpenRefusedFollows, ShowsDown, open_refusal}
use Rattle.lsm_coord.specs.Contract.Shows.{Follows, Shows}
use Rattle.lsm_coord.specs.Contract.Value.{CoordValue}
use Rattle.lsm_coord.proofs.RestartStops.{down_again}
use Rattle.lsm_store.specs.Compacting.{IsCompacted}
use Rattle.lsm_store.specs.Store.{Accepts, AddsSnapshot, CanRead, Holds, HoldsStored, Keeps, ReadsRange, seen_count}

-- ---- a state that has the same writes and snapshots

pub keeps_then : (old mid new : CoordValue) → Keeps old mid → Keeps mid new → Keeps old new
keeps_then old mid new first second writes snapshots h = second writes snapshots (first writes snapshots h)

-- a compaction's steps
pub compaction_keeps : {Z : Type 0} (old new : CoordValue) (r : Result (Option (ℕ × Vec ℕ Z)) CoordError) → ((dispatcher message : ℕ) → IsIndex dispatcher → (s : State) → Shows old s → IsCompacted dispatcher message s r new) → Keeps old new
compaction_keeps old new r steps writes snapshots h =
    let done = steps 1 1 (omega arith, omega arith) h.state h.shown in
    record { state = done.after; shown = done.shown; writes_are = done.writes ∙ h.writes_are; snapshots_are = done.snapshots ∙ h.snapshots_are }

-- a trim, refused or not
trim_leaves : (s : State) (n : ℕ) (why : Refusal) (t : State) → Leaves s (say.Trim n) why t → (t.writes ≡ s.writes) × (t.snapshots ≡ s.snapshots)
trim_leaves s n say.Device t h = (ap (λ (x : State). x.writes) h, ap (λ (x : State). x.snapshots) h)
trim_leaves s n say.OutOfMemory t (inl h) = (ap (λ (x : State). x.writes) h.1, ap (λ (x : State). x.snapshots) h.1)
trim_leaves s n say.OutOfMemory t (inr h) = (ap (λ (x : State). x.writes) h, ap (λ (x : State). x.snapshots) h)
trim_leaves s n why t h = (ap (λ (x : State). x.writes) h, ap (λ (x : State). x.snapshots) h)

pub refused_trim_keeps : (old new : CoordValue) (n : ℕ) (why : Refusal) → Follows old (say.Trim n) (say.Refused why) new → Keeps old new
refused_trim_keeps old new n why follows writes snapshots h =
    let r = follows h.state h.shown in
    let left = trim_leaves h.state n why r.0 (r.1).1 in
    record { state = r.0; shown = r.2; writes_are = left.0 ∙ h.writes_are; snapshots_are = left.1 ∙ h.snapshots_are }

pub trim_keeps : (old new : CoordValue) (n floor : ℕ) → Follows old (say.Trim n) (say.Trimmed floor) new → Keeps old new
trim_keeps old new n floor follows writes snapshots h =
    let r = follows h.state h.shown in
    let is = ((r.1).1).1 in
    record { state = r.0; shown = r.2; writes_are = ap (λ (x : State). x.writes) is ∙ h.writes_are; snapshots_are = ap (λ (x : State). x.snapshots) is ∙ h.snapshots_are }

-- a write that is refused
pub refused_write_keeps : (old new : CoordValue) (ops : List Op) (why : Refusal) → Follows old (say.Write ops) (say.Refused why) new → Keeps old new
refused_write_keeps old new ops why follows writes snapshots h =
    let r = follows h.state h.shown in
    let is = (r.1).1 in
    record { state = r.0; shown = r.2; writes_are = ap (λ (x : State). x.writes) is ∙ h.writes_are; snapshots_are = ap (λ (x : State). x.snapshots) is ∙ h.snapshots_are }

-- a flush that is refused
pub refused_flush_keeps : (old new : CoordValue) (why : Refusal) → Follows old say.Flush (say.Refused why) new → Keeps old new
refused_flush_keeps old new why follows writes snapshots h =
    let r = follows h.state h.shown in
    let is = (r.1).1 in
    record { state = r.0; shown = r.2; writes_are = ap (λ (x : State). x.writes) is ∙ h.writes_are; snapshots_are = ap (λ (x : State). x.snapshots) is ∙ h.snapshots_are }

-- a flush
pub flush_keeps : (old new : CoordValue) (number seq file : ℕ) → Follows old say.Flush (say.Flushed number seq file) new → Keeps old new
flush_keeps old new number seq file follows writes snapshots h =
    let r = follows h.state h.shown in
    let is = ((r.1).1).3 in
    record { state = r.0; shown = r.2; writes_are = ap (λ (x : State). x.writes) is ∙ h.writes_are; snapshots_are = ap (λ (x : State). x.snapshots) is ∙ h.snapshots_are }

-- and a write after it
pub accepts_then : (old mid new : CoordValue) (ops : List Op) → Keeps old mid → Accepts mid ops new → Accepts old ops new
accepts_then old mid new ops keeps accepts writes snapshots h = accepts writes snapshots (keeps writes snapshots h)

-- and what keeps it all after that
pub accepts_kept : (old mid new : CoordValue) (ops : List Op) → Accepts old ops mid → Keeps mid new → Accepts old ops new
accepts_kept old mid new ops accepts keeps writes snapshots h = keeps (writes ++ ops) snapshots (accepts writes snapshots h)

-- ---- snapshots

pub snapshot_adds : (old new : CoordValue) (id : SnapId) (seq : ℕ) → Follows old say.Snap (say.Snapped id seq) new → AddsSnapshot old id new
snapshot_adds old new id seq follows writes snapshots h =
    let s = h.state in
    let r = follows s h.shown in
    let does = (r.1).1 in (
      does.0 ∙ (λ i. record { epoch = h.shown.tables.epoch i; number = h.shown.made i + 1 }),
      record {
        state = r.0;
        shown = r.2;
        writes_are = ap (λ (x : State). x.writes) does.2 ∙ h.writes_are;
        snapshots_are = ap (λ (x : State). x.snapshots) does.2 ∙ (λ i. h.snapshots_are i ++ record { id = sym does.0 i; at = length (h.writes_are i) } ∷ []);
      },
    )

-- ---- reads

live_of : (up : Bool) (at : Option ℕ) → (if up then (if is_none at then Some say.NoSnapshot else None) else Some say.Down) ≡ None → IsSome at
live_of true (Some x) e = refl
live_of true None e = absurd cc
live_of false at e = absurd cc

pub can_read : (s : State) (at : Option SnapId) → unless_down s (read_refusal s at) ≡ None → CanRead s.snapshots at
can_read s None e = tt
can_read s (Some id) e = live_of s.up (snapshot_at s.snapshots id) e

read_is : (s : State) (at : Option SnapId) → read_at s at ≡ seen_count s.writes s.snapshots at
read_is s None = refl
read_is s (Some id) = refl

pub scan_reads : (c new : CoordValue) (lo hi : List ℕ) (at : Option SnapId) (limit : ℕ) (pairs : List (List ℕ × List ℕ)) → Follows c (say.Scan lo hi at limit) (say.Scanned pairs) new → ReadsRange c lo hi at limit pairs
scan_reads c new lo hi at limit pairs follows writes snapshots h =
    let s = h.state in
    let r = follows s h.shown in
    let range : IsRange (answer s.writes (seen_count s.writes s.snapshots at)) lo hi limit pairs = subst (λ (n : ℕ). IsRange (answer s.writes n) lo hi limit pairs) (read_is s at) ((r.1).1).0 in
    subst (λ (ws : List Op). CanRead snapshots at × IsRange (answer ws (seen_count ws snapshots at)) lo hi limit pairs) h.writes_are
    (subst (λ (xs : List Snapshot). CanRead xs at × IsRange (answer s.writes (seen_count s.writes xs at)) lo hi limit pairs) h.snapshots_are
    (can_read s at (r.1).0, range))

-- ---- the vault

pub closed_holds : (c : CoordValue) → ((s : State) → Shows c s → ShowsDown c.stored (after_stop s)) → (writes : List Op) (snapshots : List Snapshot) → Holds c writes snapshots → HoldsStored c.stored writes
closed_holds c stops writes snapshots h = record { state = after_stop h.state; shown = stops h.state h.shown; writes_are = h.writes_are }

pub opened_holds : (vault : VaultValue) (c : CoordValue) → OpenFollows vault c → (writes : List Op) → HoldsStored vault writes → Holds c writes []
opened_holds vault c follows writes h =
    let s = h.state in
    let r = follows s (down_again vault s h.shown) in
    let is : r.0 ≡ after_restart s = (r.1).1.3 in
    record { state = r.0; shown = r.2; writes_are = ap (λ (x : State). x.writes) is ∙ h.writes_are; snapshots_are = ap (λ (x : State). x.snapshots) is }

-- a restart that is refused
restart_leaves : (s : State) (why : Refusal) (t : State) → Leaves s (say.Restart say.Coordinator) why t → t.writes ≡ s.writes
restart_leaves s say.OutOfMemory t (inl is) = ap (λ (x : State). x.writes) is
restart_leaves s say.OutOfMemory t (inr is) = ap (λ (x : State). x.writes) is
restart_leaves s why t is = ap (λ (x : State). x.writes) is

pub refused_holds : (vault new : VaultValue) (why : OpenError) → OpenRefusedFollows vault why new → (writes : List Op) → HoldsStored vault writes → HoldsStored new writes
refused_holds vault new why follows writes h =
    let s = h.state in
    let r = follows s (down_again vault s h.shown) in
    record { state = r.0; shown = r.2; writes_are = restart_leaves s (open_refusal why) r.0 (r.1).1 ∙ h.writes_are }
