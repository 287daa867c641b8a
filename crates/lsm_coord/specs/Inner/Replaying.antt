-- What a replay of a log has made of its records so far (LevelDB, db_impl.cc: DBImpl::RecoverLogFile; the freezes are the store's own).
use Rattle.std.specs.Prelude.{◌≡◌, ℕ, ◌+◌, ◌<◌, ◌≤◌, Bool, false, List, [], ◌∷◌, ◌++◌, Option, None, Some, length, map, nat_eq, nat_le, nat_lt}
use Rattle.std.specs.Option.{option_map, unwrap_or}
use Rattle.std.specs.List.Sorted.{IsPermutation}
use Rattle.lsm_key.specs.declared.limits.TheConstants.{MAX_MEMTABLE_WEIGHT}
use Rattle.lsm_key.specs.Limits.{total_weight}
use Rattle.lsm_key.specs.Places.{entries_after}
use Rattle.lsm_edit.specs.declared.log_record.LogRecord.{LogRecord}
use Rattle.lsm_edit.specs.LogRecord.{record_bytes}
use Rattle.lsm_edit.specs.Log.{BadLog as IsBadLog, BeginsLate, IsGood, Linked, Straddles, active_ops, end_of, frozen_ops, log_freezes, log_frozen, read_records}
use Rattle.lsm_edit.specs.LogLaws.{AreRecords}
use Rattle.lsm_versions.specs.declared.error.OpenError.{OpenError}
use Rattle.lsm_versions.specs.declared.error.OpenError.TheVariants.{OutOfMemory, BadManifest, MissingTable, BadLog, Device, NumbersExhausted}
use Rattle.lsm_coord.specs.declared.frozen.Frozen.{Frozen}
use Rattle.lsm_coord.specs.declared.replay.Replayed.{Replayed}
use Rattle.lsm_coord.specs.Contract.Logs.{IsLogged, records_upto}
use Rattle.lsm_coord.specs.Contract.Value.{frozen_entries, start_of}

-- a write that begins here comes next: after the last one, or in time if it is the first
abbrev pub write_is_next : ℕ → Option ℕ → ℕ → Bool
write_is_next flushed None first = nat_le first (flushed + 1)
write_is_next flushed (Some last) first = nat_eq first (last + 1)

-- a freeze here is at the last sequence of the last write
abbrev pub is_at : Option ℕ → ℕ → Bool
is_at None at = false
is_at (Some last) at = nat_eq at last

-- The records are those of a good log as far as they go, and the memtables have their operations above the flushed sequence.
pub record HasReplayed (flushed : ℕ) (records : List LogRecord) (r : Replayed) : Type 0 where
  pub sound : AreRecords records
  pub begun : BeginsLate flushed records → ⊥
  pub linked : Linked None records
  pub apart : Straddles flushed records → ⊥
  pub once : length (log_freezes flushed records) ≤ 1
  pub frozen_light : total_weight (frozen_ops flushed records) ≤ MAX_MEMTABLE_WEIGHT
  pub active_light : total_weight (active_ops flushed records) ≤ MAX_MEMTABLE_WEIGHT
  pub last_is : r.last ≡ end_of records
  pub frozen_end : option_map (λ (f : Frozen). f.end) r.frozen ≡ log_frozen flushed records
  pub active_is : IsPermutation r.active (entries_after (start_of r.frozen flushed) (active_ops flushed records))
  pub frozen_is : IsPermutation (frozen_entries r.frozen) (entries_after flushed (frozen_ops flushed records))
  pub between : (f : Frozen) → r.frozen ≡ Some f → (flushed < f.end) × (f.end ≤ unwrap_or (end_of records) 0)
  pub read_is : r.read ≡ length records
  pub all_upto : (n : ℕ) → unwrap_or (end_of records) 0 ≤ n → records_upto n records ≡ length records
  pub flushed_upto : r.flushed_upto ≡ records_upto flushed records
  pub frozen_upto : (f : Frozen) → r.frozen ≡ Some f → r.frozen_upto ≡ records_upto f.end records

-- one record more
abbrev pub TakesUp : ℕ → LogRecord → Replayed → Replayed → Type 0
TakesUp flushed logged old new = (records : List LogRecord) → HasReplayed flushed records old → HasReplayed flushed (records ++ logged ∷ []) new

-- no good log has this record next
abbrev pub SpoilsLog : ℕ → LogRecord → Replayed → Type 0
SpoilsLog flushed logged old = (records after : List LogRecord) → HasReplayed flushed records old → IsGood flushed (records ++ logged ∷ after) → ⊥

-- the record is not taken up
abbrev pub TakeRefuses : ℕ → LogRecord → Replayed → OpenError → Type 0
TakeRefuses flushed logged old BadLog = SpoilsLog flushed logged old
TakeRefuses flushed logged old OutOfMemory = Unit {0}
TakeRefuses flushed logged old BadManifest = ⊥
TakeRefuses flushed logged old MissingTable = ⊥
TakeRefuses flushed logged old Device = ⊥
TakeRefuses flushed logged old NumbersExhausted = ⊥

-- the texts of a log have been read
pub record HasRead (flushed : ℕ) (texts : List (List ℕ)) (r : Replayed) : Type 0 where
  pub records : List LogRecord
  pub spelled : texts ≡ map record_bytes records
  pub replayed : HasReplayed flushed records r

-- no record has been read
abbrev pub no_records : Replayed
no_records = record { active = []; frozen = None; last = None; read = 0; flushed_upto = 0; frozen_upto = 0 }

-- the last write ends below the flushed sequence
abbrev pub ends_below : ℕ → Option ℕ → Bool
ends_below flushed None = false
ends_below flushed (Some last) = nat_lt last flushed

-- A whole log has been read. It is good, the memtables have what it holds, and the counts are those of all records, of those up to
-- the flushed sequence, and of those up to the end of what is frozen.
pub record ReplaysLog (flushed : ℕ) (texts : List (List ℕ)) (r : Replayed) : Type 0 where
  pub logged : IsLogged r.active r.frozen (unwrap_or r.last flushed) flushed texts
  pub all : r.read ≡ length texts
  pub flushed_upto : r.flushed_upto ≡ records_upto flushed (read_records texts)
  pub frozen_upto : (f : Frozen) → r.frozen ≡ Some f → r.frozen_upto ≡ records_upto f.end (read_records texts)

-- a log is not replayed, for this reason
abbrev pub ReplayRefuses : ℕ → List (List ℕ) → OpenError → Type 0
ReplayRefuses flushed texts BadLog = IsBadLog flushed texts
ReplayRefuses flushed texts OutOfMemory = Unit {0}
ReplayRefuses flushed texts BadManifest = ⊥
ReplayRefuses flushed texts MissingTable = ⊥
ReplayRefuses flushed texts Device = ⊥
ReplayRefuses flushed texts NumbersExhausted = ⊥

-- that of a vault is not read, or not replayed
abbrev pub LogRefuses : ℕ → List (List ℕ) → OpenError → Type 0
LogRefuses flushed texts BadLog = IsBadLog flushed texts
LogRefuses flushed texts OutOfMemory = Unit {0}
LogRefuses flushed texts BadManifest = ⊥
LogRefuses flushed texts MissingTable = ⊥
LogRefuses flushed texts Device = Unit {0}
LogRefuses flushed texts NumbersExhausted = ⊥
