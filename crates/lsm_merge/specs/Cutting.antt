-- Cutting entries into outputs while they come (LevelDB, db_impl.cc, DoCompactionWork: an output is finished at max_output_file_size).
use Rattle.std.specs.Prelude.{◌≡◌, ℕ, ◌+◌, ◌<◌, ◌≤◌, Bool, ◌&&◌, not, List, [], ◌∷◌, ◌++◌, length, filter, nat_le, ⊤}
use Rattle.lsm_key.specs.declared.entry.Entry.{Entry}
use Rattle.lsm_key.specs.Places.{all_entries}
use Rattle.lsm_key.specs.Visible.{has_key}
use Rattle.lsm_key.specs.declared.limits.TheConstants.{MAX_POINTS}
use Rattle.lsm_block.specs.Blocks.{AreEntries}
use Rattle.lsm_table.specs.Building.{Draft}
use Rattle.lsm_table.specs.Tables.{largest_key}
use Rattle.lsm_merge.specs.declared.outputs.TheConstants.{OUTPUT_TARGET}
use Rattle.lsm_merge.specs.Outputs.{weight_of_entries, before_last_key, HasLowerKeys, AreCut, EncodeEntries}

-- of each key at most one entry for each point, and the newest
abbrev pub AreFew : List Entry → Type 0
AreFew entries = (key : List ℕ) → length (filter (has_key key) entries) ≤ MAX_POINTS + 1

-- the first output of entries, with those behind it
pub record IsFirstOutput (output later : List Entry) : Type 0 where
  pub some : 0 < length output
  pub late : weight_of_entries (before_last_key output) < OUTPUT_TARGET
  pub full : 0 < length later → OUTPUT_TARGET ≤ weight_of_entries output
  pub apart : HasLowerKeys output later

-- each output is the first of those behind it and of the entries that are left
abbrev pub AreFirstOutputs : List (List Entry) → List Entry → Type 0
AreFirstOutputs [] rest = ⊤
AreFirstOutputs (output ∷ later) rest = IsFirstOutput output (all_entries later ++ rest) × AreFirstOutputs later rest

-- an output is closed before an entry: it weighs enough, and the entry has another key than its last one
abbrev pub closes_before : List Entry → Entry → Bool
closes_before output e = nat_le OUTPUT_TARGET (weight_of_entries output) && not (has_key (largest_key output) e)

-- one more entry
abbrev pub draft_with : Draft → Entry → Draft
draft_with draft e = record { target = draft.target; entries = draft.entries ++ e ∷ [] }

-- an entry may come behind these
pub record MayCome (entries : List Entry) (e : Entry) : Type 0 where
  pub sound : AreEntries (entries ++ e ∷ [])
  pub few : AreFew (entries ++ e ∷ [])

-- these entries are cut into closed outputs, which are tables of this block target, and one that takes more entries
pub record IsSplitSoFar (target : ℕ) (entries : List Entry) (closed : List (List ℕ)) (taking : Draft) : Type 0 where
  pub lists : List (List Entry)
  pub spelled : EncodeEntries target closed lists
  pub aims : taking.target ≡ target
  pub all : all_entries lists ++ taking.entries ≡ entries
  pub cut : AreFirstOutputs lists taking.entries
  pub late : weight_of_entries (before_last_key taking.entries) < OUTPUT_TARGET
  pub some : 0 < length lists → 0 < length taking.entries

-- the outputs are tables of this block target that have these entries between them, cut as a merge does
pub record IsSplitInto (target : ℕ) (entries : List Entry) (outputs : List (List ℕ)) : Type 0 where
  pub lists : List (List Entry)
  pub spelled : EncodeEntries target outputs lists
  pub all : all_entries lists ≡ entries
  pub cut : AreCut lists
