-- What keeps jobs sound.
use Rattle.std.proofs.Common.{◌≡◌, ℕ, ◌≤◌, not, List, [], ◌∷◌, sym, ap, subst, arith, inl, inr}
use Rattle.lsm_key.specs.declared.entry.Entry.{Entry}
use Rattle.lsm_key.specs.Sets.{IsIn}
use Rattle.lsm_key.specs.Places.{all_entries}
use Rattle.lsm_key.proofs.AscendingEntries.{IsIn-filter}
use Rattle.lsm_key.proofs.Membership.{IsIn-append_left, IsIn-append_right, IsIn-append_cases, IsIn-one}
use Rattle.lsm_claim.specs.declared.job.Want.{Want}
use Rattle.lsm_table.specs.Tables.{Opened}
use Rattle.lsm_edit.specs.declared.file.FileMeta.{FileMeta}
use Rattle.lsm_edit.specs.declared.served.Placed.{Placed}
use Rattle.lsm_edit.specs.Version.{IsVersion}
use Rattle.lsm_edit.specs.Served.{tables_of}
use Rattle.lsm_msg.proofs.FlushKeepsJobs.{job_flushed, knows_flushed}
use Rattle.lsm_coord.specs.declared.snapshot.SnapId.{SnapId}
use Rattle.lsm_coord.specs.declared.snapshot.Snapshot.{Snapshot}
use Rattle.lsm_coord.specs.Model.State.{State, same_snapshot_id}
use Rattle.lsm_coord.specs.Contract.Memory.{AreLegal}
use Rattle.lsm_coord.specs.Contract.Value.{CoordValue}
use Rattle.lsm_coord.specs.Contract.Shows.{Shows}
use Rattle.lsm_coord.specs.Contract.Calls.{AddsTable, after_snapshot, after_release, flush_source}
use Rattle.lsm_coord.specs.Contract.Sound.{IsSound, KeepsSound}

-- a call that leaves the tables, the book and the snapshots
pub same_keeps : (old new : CoordValue) → new.limits ≡ old.limits → new.served ≡ old.served → new.book ≡ old.book → new.snapshots ≡ old.snapshots → KeepsSound old new
same_keeps old new limits served book snapshots job sound held =
    subst (λ (x : CoordValue). IsSound x job)
    (λ i. record new { limits = sym limits i; served = sym served i; book = sym book i; snapshots = sym snapshots i })
    (record { claimed = sound.claimed; block = sound.block; snapshots = sound.snapshots; deeper = sound.deeper })

pub nothing_keeps : (old new : CoordValue) → new ≡ old → KeepsSound old new
nothing_keeps old new same job sound held = subst (λ (x : CoordValue). IsSound x job) (sym same) sound

-- ---- a flush: a new table of level 0

pub flush_keeps : (old new : CoordValue) (file : FileMeta) (table : Opened) → IsVersion old.served.version → file.number ≡ old.served.version.next_file → file.level ≡ 0 → AreLegal old.served.version.files old.book.live
    → AddsTable old file table new → KeepsSound old new
flush_keeps old new file table is number level all adds job sound held =
    let claimed = sound.claimed in
    let want : Want = (claimed.live).want in
    let end : ℕ = (flush_source old).end in
    let fresh : old.served.version.next_file ≤ file.number = omega arith in
    let legal = all claimed.live claimed.member in
    let place : Placed = record { meta = file; table = table } in
    subst (λ (x : CoordValue). IsSound x job) (sym adds.new_is) (record {
      claimed = record { live = claimed.live; member = claimed.member; named = claimed.named; of_want = job_flushed old.served end file is level fresh want legal job claimed.of_want };
      snapshots = λ x live. elim (sound.snapshots x live) [
        | inl point ↦ inl point
        | inr written ↦ inr (λ p m input. elim m [
          | inr before ↦ written p before input
          | inl same ↦
              let here : IsIn p.meta old.served.version.files = ((claimed.of_want.inputs p.meta).0 input).0 in
              let low = is.below p.meta here in
              let its : p.meta.number ≡ file.number = ap (λ (q : Placed). q.meta.number) same in
              absurd (omega arith)
        ])
      ];
      block = sound.block;
      deeper = knows_flushed old.served end file is level fresh want legal job claimed.of_want table sound.deeper;
    })

-- ---- snapshots

-- a snapshot of the present sees every table
pub snapshot_keeps : (c : CoordValue) (s : State) → Shows c s → KeepsSound c (after_snapshot c)
snapshot_keeps c s h job sound held = record {
  claimed = sound.claimed;
  snapshots = λ x live. elim (IsIn-append_cases x c.snapshots _ live) [
    | inl old ↦ sound.snapshots x old
    | inr new ↦ inr (λ p mp input e me.
        let low = h.tables.old e (in_stored c.served.places p mp e me) in
        let flushed = h.memtables.flushed in
        let within = h.memtables.within in
        let last = h.last in
        let at : x.at ≡ c.last = ap (λ (y : Snapshot). y.at) (IsIn-one x _ new) in
        omega arith)
  ];
  block = sound.block;
  deeper = sound.deeper;
}
  where
    in_stored : (places : List Placed) (p : Placed) → IsIn p places → (e : Entry) → IsIn e p.table.entries → IsIn e (all_entries (tables_of places))
    in_stored [] p m e me = absurd m
    in_stored (q ∷ places) p m e me = elim m [
      | inl is ↦ IsIn-append_left e q.table.entries (all_entries (tables_of places)) (subst (λ (x : Placed). IsIn e x.table.entries) is me)
      | inr rest ↦ IsIn-append_right e q.table.entries (all_entries (tables_of places)) (in_stored places p rest e me)
    ]

pub release_keeps : (c : CoordValue) (id : SnapId) → KeepsSound c (after_release c id)
release_keeps c id job sound held = record {
  claimed = sound.claimed;
  snapshots = λ x live. sound.snapshots x (IsIn-filter (λ other. not (same_snapshot_id other.id id)) x c.snapshots live).0;
  block = sound.block;
  deeper = sound.deeper;
}
