-- What a compaction is: a pick, the merge of its job, and the install of what the merge makes (LevelDB, db_impl.cc: BackgroundCompaction, DoCompactionWork, InstallCompactionResults).
use Rattle.std.specs.Prelude.{◌≡◌, ℕ, ◌+◌, ◌≤◌, ◌⊎◌, List, [], ◌∷◌, ◌++◌, Option, None, Some, Result, Ok, Err, Vec}
use Rattle.lsm_key.specs.Sets.{IsIn}
use Rattle.lsm_claim.specs.declared.job.LiveJob.{LiveJob}
use Rattle.lsm_table.specs.Tables.{Opened}
use Rattle.lsm_edit.specs.declared.file.FileMeta.{FileMeta}
use Rattle.lsm_edit.specs.declared.served.Placed.{Placed}
use Rattle.lsm_edit.specs.Served.{table_at}
use Rattle.lsm_msg.specs.declared.job.JobParts.{JobParts}
use Rattle.lsm_msg.specs.declared.job.JobResult.{JobResult}
use Rattle.lsm_pick.specs.After.{CompactPointersValue}
use Rattle.lsm_merge.specs.Inputs.{HaveSameEntry, lists_of}
use Rattle.lsm_merge.specs.Outputs as merge
use Rattle.lsm_coord.specs.declared.coord.install.Install.TheVariants as became
use Rattle.lsm_coord.specs.declared.coord.install.InstallError.{InstallError}
use Rattle.lsm_coord.specs.declared.error.CoordError.{CoordError}
use Rattle.lsm_coord.specs.declared.error.CoordError.TheVariants.{Device, NumbersExhausted, OutOfMemory}
use Rattle.lsm_coord.specs.Model.Event as say
use Rattle.lsm_claim.specs.declared.job.JobId.{JobId}
use Rattle.lsm_versions.specs.Kept.{StaysBelow}
use Rattle.lsm_coord.specs.Contract.Calls.{MayHaveStored, after_give_back}
use Rattle.lsm_coord.specs.Contract.Installing.{AreOutputTables, Became, HasNumbers, HoldsMergeOf, IsLive, IsOutput, Rejects}
use Rattle.lsm_coord.specs.Contract.Picking.{HasFreeClaim, IsPickedAfter, NothingToCompact, PickRefuses}
use Rattle.lsm_coord.specs.Contract.Replies.{error_of, refusal_of}
use Rattle.lsm_coord.specs.Model.Run.{Run}
use Rattle.lsm_coord.specs.Contract.Shows.{Shows}
use Rattle.lsm_coord.specs.Model.State.{State}
use Rattle.lsm_coord.specs.Model.Step.{Step}
use Rattle.lsm_coord.specs.Contract.Value.{CoordValue}

-- ---- the tables of a job

-- a table, or none
abbrev pub list_of_option : Option Opened → List Opened
list_of_option None = []
list_of_option (Some t) = t ∷ []

-- the tables of those files that have one, in their order
abbrev pub tables_at : List Placed → List FileMeta → List Opened
tables_at places [] = []
tables_at places (f ∷ fs) = list_of_option (table_at places f.number) ++ tables_at places fs

-- the version lists each of the job's inputs
abbrev pub AreServed : CoordValue → JobParts → Type 0
AreServed c job = (f : FileMeta) → IsIn f job.inputs → IsIn f c.served.version.files

-- a merge of the tables makes this result, or two of them share an entry
abbrev pub Merges : List Opened → JobParts → Option JobResult → Type 0
Merges tables job None = HaveSameEntry (lists_of tables)
Merges tables job (Some made) = (made.job ≡ job.id) × merge.IsMerge tables job made.tables

-- ---- the install

-- a result of the claim's job is refused for this reason
pub record KeptBack (c : CoordValue) (claim : LiveJob) (made : JobResult) (e : CoordError) : Type 0 where
  pub live : LiveJob
  pub is_live : IsLive c claim.id live
  pub why : InstallError
  pub told : e ≡ error_of why
  pub rejects : Rejects c.limits.block c.served.version live made why

-- the claim is given back; the vault may have outputs of the result, and its device may have failed
abbrev pub GivesBack : CoordValue → JobId → JobResult → CoordValue → Type 0
GivesBack old id made new = (mid : CoordValue) × MayHaveStored (IsOutput old.served.version made) old mid × (new ≡ after_give_back mid id)

-- ---- a compaction

-- a pick in the order of the pointers, if there are any, a result that holds exactly what a merge keeps of the job's inputs, and its install
pub record IsCompaction (pointers : Option CompactPointersValue) (old : CoordValue) (number : ℕ) (files : List ℕ) (new : CoordValue) : Type 0 where
  pub claim : LiveJob
  pub job : JobParts
  pub claimed : CoordValue
  pub picked : IsPickedAfter pointers old claim job claimed
  pub made : JobResult
  pub merged : HoldsMergeOf claimed.served job made
  pub installed : Became claimed claim made (became.Done number files) new

-- The old value, except that the book may count one more claim as issued and returned: no claim is left behind. The vault may have
-- tables under numbers that no file has been given yet, and its device may have failed.
pub record IsLeft (old new : CoordValue) : Type 0 where
  pub rest : new ≡ record old { book = new.book; stored = record old.stored { tables = new.stored.tables }; failures = new.failures }
  pub below : StaysBelow old.served.version.next_file old.stored.tables new.stored.tables
  pub counted : old.failures ≤ new.failures
  pub book : (new.book ≡ old.book) ⊎ (new.book ≡ record old.book { made = old.book.made + 1; returned = old.book.returned + 1 })

-- None is returned if there is nothing to compact: if a state is shown there is no other cause
abbrev pub CompactsAfter : {Z : Type 0} → Option CompactPointersValue → CoordValue → CoordValue → Option (ℕ × Vec ℕ Z) → Type 0
CompactsAfter pointers old new None = IsLeft old new × ((s : State) → Shows old s → HasFreeClaim old × NothingToCompact old × (new ≡ old))
CompactsAfter pointers old new (Some made) = IsCompaction pointers old made.0 made.1.items new

-- the same without pointers
abbrev pub Compacts : {Z : Type 0} → CoordValue → CoordValue → Option (ℕ × Vec ℕ Z) → Type 0
Compacts old new made = CompactsAfter None old new made

-- the numbers are exhausted by the outputs of the merge
pub record LacksNumbers (pointers : Option CompactPointersValue) (c : CoordValue) : Type 0 where
  pub claim : LiveJob
  pub job : JobParts
  pub claimed : CoordValue
  pub picked : IsPickedAfter pointers c claim job claimed
  pub made : JobResult
  pub merged : HoldsMergeOf claimed.served job made
  pub tables : List Opened
  pub outputs : AreOutputTables claimed.limits.block claim.want.hull made.tables tables
  pub lacks : HasNumbers c.served.version tables → ⊥

-- why there is no compaction: what a pick refuses, the numbers of its outputs, or the device after a pick
abbrev pub CompactionRefusesAfter : Option CompactPointersValue → CoordValue → CoordError → Type 0
CompactionRefusesAfter pointers c NumbersExhausted = PickRefuses c NumbersExhausted ⊎ LacksNumbers pointers c
CompactionRefusesAfter pointers c Device = PickRefuses c OutOfMemory
CompactionRefusesAfter pointers c e = PickRefuses c e

-- the same without pointers
abbrev pub CompactionRefuses : CoordValue → CoordError → Type 0
CompactionRefuses c e = CompactionRefusesAfter None c e

-- The events of a compaction by a dispatcher, with their replies: its pick, and the message that brings the result, or the claim
-- that is given up.
abbrev pub Leads : {Z : Type 0} → ℕ → ℕ → State → Result (Option (ℕ × Vec ℕ Z)) CoordError → State → Type 0
Leads dispatcher message s (Ok None) t = Step s (say.Pick dispatcher) say.Other t
Leads dispatcher message s (Ok (Some made)) t = Run s ((say.Pick dispatcher, say.Other) ∷ (say.Deliver message, say.Installed made.0 made.1.items) ∷ []) t
Leads dispatcher message s (Err e) t =
    Step s (say.Pick dispatcher) (say.Refused (refusal_of e)) t
    ⊎ Run s ((say.Pick dispatcher, say.Other) ∷ (say.GiveUp dispatcher, say.Other) ∷ []) t

-- a state that shows the same writes and snapshots, so that every read is answered as before
pub record IsCompacted {Z : Type 0} (dispatcher message : ℕ) (s : State) (result : Result (Option (ℕ × Vec ℕ Z)) CoordError) (new : CoordValue) : Type 0 where
  pub after : State
  pub leads : Leads dispatcher message s result after
  pub shown : Shows new after
  pub writes : after.writes ≡ s.writes
  pub snapshots : after.snapshots ≡ s.snapshots
