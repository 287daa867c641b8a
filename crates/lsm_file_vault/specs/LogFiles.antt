-- When the records of a log outlive a power cut (LevelDB, db.h: WriteOptions::sync).
use Rattle.std.specs.Prelude.{◌≡◌, ℕ, ◌+◌, ◌-◌, ◌^◌, ◌<◌, min, Bool, true, false, not, ◌&&◌, ◌||◌, ◌==◌, nat_lt, List, [], ◌++◌, length, if◌then◌else◌}
use Rattle.lsm_file_vault.specs.declared.log_sync.LogSync.{LogSync}
use Rattle.lsm_file_vault.specs.declared.log_sync.LogSync.TheVariants.{Each, Asked, Gathered}

-- all that was written is synced, and no frame waits to be written
abbrev pub AreSynced : Bool → List ℕ → Type 0
AreSynced is_unsynced gathered = (is_unsynced ≡ false) × (gathered ≡ [])

-- frames that wait are fewer than 64 KiB
abbrev pub IsShort : List ℕ → Type 0
IsShort gathered = length gathered < 65536

-- whether these frames, the last of which was just appended, wait to be written
abbrev pub wait : LogSync → List ℕ → Bool
wait Each frames = false
wait Asked frames = false
wait Gathered frames = nat_lt (length frames) 65536

-- whether frames are written without a sync
abbrev pub is_late : LogSync → Bool
is_late Each = false
is_late Asked = true
is_late Gathered = true

-- the frames that still wait after an append
abbrev pub gathered_after : LogSync → List ℕ → List ℕ
gathered_after log_sync frames = if wait log_sync frames then frames else []

-- whether records in the file lack a sync after an append, if they did before
abbrev pub is_unsynced_after : LogSync → List ℕ → Bool → Bool
is_unsynced_after log_sync frames was = if wait log_sync frames then was else is_late log_sync

-- where the next frame is written, once these are written from here on
abbrev pub place_behind : ℕ → List ℕ → ℕ
place_behind bytes frames = min (bytes + length frames) (2 ^ 64 - 1)

-- the same after an append
abbrev pub place_after : LogSync → List ℕ → ℕ → ℕ
place_after log_sync frames bytes = if wait log_sync frames then bytes else place_behind bytes frames

-- whether a cut has nothing to do: a log that is not in doubt, and no record to cut off
abbrev pub cuts_none : Bool → ℕ → ℕ → List ℕ → Bool
cuts_none is_broken count bytes gathered = not is_broken && (count == 0 || bytes == 0 && length gathered == 0)
