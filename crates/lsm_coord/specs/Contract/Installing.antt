-- What an install accepts, and what it does (RocksDB wiki, Remote Compaction: the primary verifies and installs the result of a job; LevelDB, db_impl.cc: InstallCompactionResults).
use Rattle.std.specs.Prelude.{◌≡◌, ◌↔◌, ℕ, ◌+◌, ◌<◌, ◌≤◌, ◌^◌, Bool, true, false, ◌&&◌, List, [], ◌∷◌, ◌++◌, Option, None, Some, find, length, map, nat_le, slice_get, if◌then◌else◌}
use Rattle.lsm_key.specs.declared.entry.Entry.{Entry}
use Rattle.lsm_key.specs.declared.limits.TheConstants.{MAX_NUMBER}
use Rattle.lsm_key.specs.Sets.{IsIn}
use Rattle.lsm_key.specs.Order.{key_lt}
use Rattle.lsm_key.specs.KeyRanges.{range_encloses}
use Rattle.lsm_claim.specs.declared.ending.Ending.TheVariants as ending
use Rattle.lsm_claim.specs.declared.hull.Hull.{Hull}
use Rattle.lsm_claim.specs.declared.job.JobId.{JobId}
use Rattle.lsm_claim.specs.declared.job.LiveJob.{LiveJob}
use Rattle.lsm_claim.specs.declared.job.Want.{Want}
use Rattle.lsm_claim.specs.Jobs.{same_job_id}
use Rattle.lsm_claim.specs.Book.{after_settling, holds}
use Rattle.lsm_table.specs.Tables.{Opened, IsTable, smallest_key, largest_key, target_of}
use Rattle.lsm_edit.specs.declared.file.FileMeta.{FileMeta}
use Rattle.lsm_edit.specs.declared.edit.Edit.{Edit}
use Rattle.lsm_edit.specs.Edit.{IsSpelledEdit}
use Rattle.lsm_edit.specs.Next.{install_edit}
use Rattle.lsm_edit.specs.declared.served.Placed.{Placed}
use Rattle.lsm_edit.specs.Served.{ServedValue, after_advance, placed_of}
use Rattle.lsm_edit.specs.Version.{VersionValue, apply_fault}
use Rattle.lsm_msg.specs.declared.job.JobParts.{JobParts}
use Rattle.lsm_msg.specs.declared.job.JobResult.{JobResult}
use Rattle.lsm_msg.specs.Merge.{HoldsKept}
use Rattle.lsm_msg.specs.Installs.{entries_of}
use Rattle.lsm_versions.specs.Kept.{put_tables}
use Rattle.lsm_versions.specs.Retention.{retired_after}
use Rattle.lsm_coord.specs.declared.coord.install.Install.{Install}
use Rattle.lsm_coord.specs.declared.coord.install.Install.TheVariants as became
use Rattle.lsm_coord.specs.declared.coord.install.InstallError.{InstallError}
use Rattle.lsm_coord.specs.declared.coord.install.InstallError.TheVariants.{WrongJob, BadResult, NumbersExhausted, OutOfMemory, Device}
use Rattle.lsm_coord.specs.Contract.Calls.{HasFailed, MayHaveStored}
use Rattle.lsm_coord.specs.Contract.Sound.{IsSound}
use Rattle.lsm_coord.specs.Contract.Value.{CoordValue}

-- ---- outputs

-- the texts are those of these tables, one by one
abbrev pub DecodeTo : List (List ℕ) → List Opened → Type 0
DecodeTo [] [] = Unit {0}
DecodeTo (text ∷ texts) (t ∷ ts) = (t.bytes ≡ text) × IsTable text t.entries × DecodeTo texts ts
DecodeTo [] (t ∷ ts) = ⊥
DecodeTo (text ∷ texts) [] = ⊥

-- all keys of the table are in the hull
abbrev pub is_table_inside : Hull → Opened → Bool
is_table_inside hull t = range_encloses hull.lo hull.hi (smallest_key t.entries) (largest_key t.entries)

-- all keys of the one table are before those of the other
abbrev pub IsTableBefore : Opened → Opened → Type 0
IsTableBefore t u = key_lt (largest_key t.entries) (smallest_key u.entries) ≡ true

-- each is before all after it
abbrev pub AreAscending : List Opened → Type 0
AreAscending [] = Unit {0}
AreAscending (t ∷ ts) = ((u : Opened) → IsIn u ts → IsTableBefore t u) × AreAscending ts

-- what the outputs of a job may be: tables of this block target with only keys of its hull, in ascending order
pub record AreOutputTables (block : ℕ) (hull : Hull) (texts : List (List ℕ)) (ts : List Opened) : Type 0 where
  pub few : length texts < 2 ^ 32
  pub tables : DecodeTo texts ts
  pub cut : (t : Opened) → IsIn t ts → target_of t.bytes ≡ block
  pub inside : (t : Opened) → IsIn t ts → is_table_inside hull t ≡ true
  pub ascending : AreAscending ts

-- its keys are in the hull, and after those of the last table before it
abbrev pub comes_next : Hull → Option Opened → Opened → Bool
comes_next hull None t = is_table_inside hull t
comes_next hull (Some last) t = is_table_inside hull t && key_lt (largest_key last.entries) (smallest_key t.entries)

-- the record of a table
abbrev pub record_of : ℕ → ℕ → Opened → FileMeta
record_of level number t = record { number = number; level = level; smallest = smallest_key t.entries; largest = largest_key t.entries; bytes = length t.bytes; entries = length t.entries }

-- the records of tables under consecutive numbers
abbrev pub records : ℕ → ℕ → List Opened → List FileMeta
records level number [] = []
records level number (t ∷ ts) = record_of level number t ∷ records level (number + 1) ts

-- ---- the next version

-- the outputs replace the inputs, one level deeper, under the next file numbers
abbrev pub install_edit_of : VersionValue → Want → List Opened → Edit
install_edit_of v want ts = install_edit v want.files (records (want.level + 1) v.next_file ts)

-- the file numbers of the outputs: as many as there are, from the next file number on
abbrev pub output_numbers : VersionValue → Want → List Opened → List ℕ
output_numbers v want ts = map (λ f. f.number) (records (want.level + 1) v.next_file ts)

-- the version's number and the file numbers fit
pub record HasNumbers (v : VersionValue) (ts : List Opened) : Type 0 where
  pub number : v.number + 1 ≤ MAX_NUMBER
  pub next_file : v.next_file + length ts ≤ MAX_NUMBER

-- why an install has no numbers for its version and its files
abbrev pub number_fault : VersionValue → ℕ → Option InstallError
number_fault v files = if nat_le (v.number + 1) MAX_NUMBER && nat_le (v.next_file + files) MAX_NUMBER then None else Some NumbersExhausted

-- ---- what is accepted

-- the texts of a result are tables that the job may have as outputs
abbrev pub HasOutputs : ℕ → Hull → List (List ℕ) → Type 0
HasOutputs block hull texts = (ts : List Opened) × AreOutputTables block hull texts ts

-- A result that may be installed for a running job: it is of that job, its texts are tables of the store's block target with only
-- keys of the job's hull, in ascending order, and there are numbers left for the version and the files.
pub record IsAcceptable (block : ℕ) (v : VersionValue) (live : LiveJob) (made : JobResult) (ts : List Opened) : Type 0 where
  pub same_job : made.job ≡ live.id
  pub outputs : AreOutputTables block live.want.hull made.tables ts
  pub numbers : HasNumbers v ts

-- The version after an install: the outputs replace the inputs, one level deeper; the inputs retire; the edit is the last of the
-- manifest, the vault has the outputs, and the claim is settled.
pub record IsInstallDone (old : CoordValue) (live : LiveJob) (ts : List Opened) (new : CoordValue) : Type 0 where
  pub edit : Edit
  pub edit_is : edit ≡ install_edit_of old.served.version live.want ts
  pub applies : apply_fault old.served.version edit ≡ None
  pub text : List ℕ
  pub spelled : IsSpelledEdit text edit
  pub new_is : new ≡ record old {
    served = after_advance old.served edit ts;
    stored = record old.stored { edits = old.stored.edits ++ text ∷ []; tables = put_tables old.stored.tables (placed_of edit.added ts) };
    retired = retired_after old.retired old.served live.want.files;
    book = after_settling old.book live.id ending.Installed;
    failures = new.failures;
  }
  pub counted : old.failures ≤ new.failures

-- why a result is rejected: the first reason that holds, unless memory runs out
abbrev pub Rejects : ℕ → VersionValue → LiveJob → JobResult → InstallError → Type 0
Rejects block v live made WrongJob = made.job ≡ live.id → ⊥
Rejects block v live made BadResult = (made.job ≡ live.id) × (HasOutputs block live.want.hull made.tables → ⊥)
Rejects block v live made NumbersExhausted =
    (made.job ≡ live.id) × (ts : List Opened) × AreOutputTables block live.want.hull made.tables ts × (HasNumbers v ts → ⊥)
Rejects block v live made OutOfMemory = made.job ≡ live.id
Rejects block v live made Device = (ts : List Opened) × IsAcceptable block v live made ts

-- a table of the result, and the number that an install gives it: the next file numbers, in the tables' order
abbrev pub IsOutput : VersionValue → JobResult → ℕ → List ℕ → Type 0
IsOutput v made n bytes = (place : ℕ) × (n ≡ v.next_file + place) × (slice_get made.tables place ≡ Some bytes)

-- what a rejected result leaves: nothing has changed, unless memory ran out or the device failed after an output was put
abbrev pub LeavesRejected : JobResult → InstallError → CoordValue → CoordValue → Type 0
LeavesRejected made WrongJob old new = new ≡ old
LeavesRejected made BadResult old new = new ≡ old
LeavesRejected made NumbersExhausted old new = new ≡ old
LeavesRejected made OutOfMemory old new = MayHaveStored (IsOutput old.served.version made) old new
LeavesRejected made Device old new = HasFailed (IsOutput old.served.version made) old new

-- ---- what becomes of a claim

-- the job that the book has under a name
abbrev pub IsLive : CoordValue → JobId → LiveJob → Type 0
IsLive c id live = find (λ j. same_job_id j.id id) c.book.live ≡ Some live

-- A claim that the book does not have is stale, and the epoch is reported; a rejected result leaves the claim; an acceptable one
-- is installed, and the version's number and its new files are reported.
abbrev pub Became : CoordValue → LiveJob → JobResult → Install → CoordValue → Type 0
Became old claim made (became.Done number files) new =
    (live : LiveJob) × IsLive old claim.id live
    × (ts : List Opened) × IsAcceptable old.limits.block old.served.version live made ts
    × IsInstallDone old live ts new × (number ≡ old.served.version.number + 1) × (files ≡ output_numbers old.served.version live.want ts)
Became old claim made (became.Stale job epoch) new =
    (holds old.book claim.id ≡ false) × (job ≡ claim.id) × (epoch ≡ old.book.epoch) × (new ≡ old)
Became old claim made (became.Kept back why) new =
    (live : LiveJob) × IsLive old claim.id live × (back ≡ claim) × Rejects old.limits.block old.served.version live made why × LeavesRejected made why old new

-- the result was installed
abbrev pub IsDone : Install → Type 0
IsDone (became.Done number files) = Unit {0}
IsDone (became.Stale job epoch) = ⊥
IsDone (became.Kept back why) = ⊥

-- ---- the promise of a sound job

-- the entries of the tables of the job's inputs, in whatever order
abbrev pub AreEntriesOf : ServedValue → JobParts → List Entry → Type 0
AreEntriesOf served job entries = (e : Entry) → IsIn e entries ↔ ((p : Placed) × IsIn p served.places × IsIn p.meta job.inputs × IsIn e p.table.entries)

-- the result's tables hold exactly what a merge keeps of the job's inputs
pub record HoldsMergeOf (served : ServedValue) (job : JobParts) (made : JobResult) : Type 0 where
  pub inputs : List Entry
  pub are : AreEntriesOf served job inputs
  pub tables : List Opened
  pub opened : DecodeTo made.tables tables
  pub kept : HoldsKept inputs job.points job.deeper (entries_of tables)

-- a sound job has this name, and the result's tables hold what a merge keeps of its inputs
abbrev pub HoldsSoundMerge : CoordValue → JobId → JobResult → Type 0
HoldsSoundMerge c id made = (job : JobParts) × (job.id ≡ id) × IsSound c job × HoldsMergeOf c.served job made
