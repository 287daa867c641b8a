-- When tables may be merged: they are the inputs of the job, and no two of them share an entry (LevelDB, db_impl.cc, DoCompactionWork; the refusals are the store's own).
use Rattle.std.specs.Prelude.{◌≡◌, ◌⊎◌, List, [], ◌∷◌, map}
use Rattle.lsm_key.specs.declared.entry.Entry.{Entry}
use Rattle.lsm_key.specs.Places.{all_entries}
use Rattle.lsm_key.specs.Sets.{IsIn}
use Rattle.lsm_table.specs.Tables.{Opened}
use Rattle.lsm_edit.specs.Served.{AreAsRecorded}
use Rattle.lsm_msg.specs.declared.job.JobParts.{JobParts}
use Rattle.lsm_merge.specs.declared.error.MergeError.{MergeError}
use Rattle.lsm_merge.specs.declared.error.MergeError.TheVariants.{WrongInputs, SameEntry, OutOfMemory}

-- the entries of each table
abbrev pub lists_of : List Opened → List (List Entry)
lists_of tables = map (λ t. t.entries) tables

-- an entry of the one has the key and the sequence of an entry of the other
abbrev pub ShareEntry : List Entry → List Entry → Type 0
ShareEntry xs ys = (e : Entry) × (f : Entry) × IsIn e xs × IsIn f ys × (e.ikey.key ≡ f.ikey.key) × (e.ikey.seq ≡ f.ikey.seq)

-- one of the lists shares an entry with the later ones
abbrev pub HaveSameEntry : List (List Entry) → Type 0
HaveSameEntry [] = ⊥
HaveSameEntry (es ∷ later) = ShareEntry es (all_entries later) ⊎ HaveSameEntry later

-- the tables are the inputs of the job, as its records say, and no two of them share an entry
pub record CanMerge (tables : List Opened) (job : JobParts) : Type 0 where
  pub inputs : AreAsRecorded job.inputs tables
  pub apart : HaveSameEntry (lists_of tables) → ⊥

-- when each refusal is returned: the first reason that holds, and out of memory only if none does
abbrev pub IsRefused : List Opened → JobParts → MergeError → Type 0
IsRefused tables job WrongInputs = AreAsRecorded job.inputs tables → ⊥
IsRefused tables job SameEntry = AreAsRecorded job.inputs tables × HaveSameEntry (lists_of tables)
IsRefused tables job OutOfMemory = CanMerge tables job
