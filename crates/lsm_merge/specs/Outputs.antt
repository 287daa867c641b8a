-- What a merge makes (LevelDB, db_impl.cc, DoCompactionWork: an output is closed at a size; the rule that no key is in two of them is RocksDB's, wiki, Leveled Compaction).
use Rattle.std.specs.Prelude.{◌≡◌, ℕ, ◌<◌, ◌≤◌, true, not, List, [], ◌∷◌, length, filter, sum_by, All, AllPairs}
use Rattle.lsm_key.specs.declared.entry.Entry.{Entry}
use Rattle.lsm_key.specs.Limits.{entry_weight}
use Rattle.lsm_key.specs.Order.{IsAscending, key_lt}
use Rattle.lsm_key.specs.Places.{all_entries}
use Rattle.lsm_key.specs.Sets.{IsIn}
use Rattle.lsm_key.specs.Visible.{has_key}
use Rattle.lsm_table.specs.Tables.{Opened, IsTable, largest_key, target_of}
use Rattle.lsm_msg.specs.declared.job.JobParts.{JobParts}
use Rattle.lsm_msg.specs.Merge.{HoldsKept}
use Rattle.lsm_merge.specs.declared.outputs.TheConstants.{OUTPUT_TARGET}
use Rattle.lsm_merge.specs.Inputs.{lists_of}

-- the weight of entries: how many bytes they take in blocks
abbrev pub weight_of_entries : List Entry → ℕ
weight_of_entries entries = sum_by entry_weight entries

-- the entries but those of the last key
abbrev pub before_last_key : List Entry → List Entry
before_last_key entries = filter (λ e. not (has_key (largest_key entries) e)) entries

-- each key of the one is before each of the other
abbrev pub HasLowerKeys : List Entry → List Entry → Type 0
HasLowerKeys entries later = (e f : Entry) → IsIn e entries → IsIn f later → key_lt e.ikey.key f.ikey.key ≡ true

-- outputs are closed as soon as they weigh enough, but not between entries of one key
pub record AreCut (outputs : List (List Entry)) : Type 0 where
  pub some : All (λ entries. 0 < length entries) outputs  -- none is empty
  pub late : All (λ entries. weight_of_entries (before_last_key entries) < OUTPUT_TARGET) outputs  -- none could be closed before its last key
  pub full : AllPairs (λ entries later. OUTPUT_TARGET ≤ weight_of_entries entries) outputs  -- each but the last weighs enough
  pub apart : AllPairs HasLowerKeys outputs  -- no key is in two

-- the outputs are the tables of these entries, one by one, with their blocks cut at the target
abbrev pub EncodeEntries : ℕ → List (List ℕ) → List (List Entry) → Type 0
EncodeEntries target [] [] = Unit {0}
EncodeEntries target (bytes ∷ more) (entries ∷ later) = IsTable bytes entries × (target_of bytes ≡ target) × EncodeEntries target more later
EncodeEntries target [] (entries ∷ later) = ⊥
EncodeEntries target (bytes ∷ more) [] = ⊥

-- the outputs of a merge: what is kept of the inputs, in order, cut into tables of the job's block target
pub record IsMerge (tables : List Opened) (job : JobParts) (outputs : List (List ℕ)) : Type 0 where
  pub entries : List (List Entry)
  pub spelled : EncodeEntries job.block outputs entries
  pub kept : HoldsKept (all_entries (lists_of tables)) job.points job.deeper (all_entries entries)
  pub ascending : IsAscending (all_entries entries)
  pub cut : AreCut entries
