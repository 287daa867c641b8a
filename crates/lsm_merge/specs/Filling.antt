-- What a merge's outputs have of its walk (LevelDB, db_impl.cc, DoCompactionWork: one pass that adds what is kept to the output).
use Rattle.std.specs.Prelude.{◌≡◌, ℕ, false, List, [], ◌∷◌, ◌++◌, ⊤}
use Rattle.lsm_key.specs.declared.entry.Entry.{Entry}
use Rattle.lsm_block.specs.Blocks.{AreEntries}
use Rattle.lsm_table.specs.Building.{Draft}
use Rattle.lsm_merge.specs.declared.cursor_head.CursorHead.{CursorHead}
use Rattle.lsm_merge.specs.declared.error.MergeError.{MergeError}
use Rattle.lsm_merge.specs.declared.error.MergeError.TheVariants.{WrongInputs, SameEntry, OutOfMemory}
use Rattle.lsm_merge.specs.Cutting.{IsSplitSoFar}
use Rattle.lsm_merge.specs.Walks.{GivesInTurn, Took, WalkValue, follows, last_taken}

-- the walk has taken entries, and what it keeps of them is in the outputs
pub record IsFilling (start now : WalkValue) (target : ℕ) (closed : List (List ℕ)) (taking : Draft) : Type 0 where
  pub taken : List Entry
  pub kept : List Entry
  pub took : Took start taken kept now
  pub sound : AreEntries kept
  pub split : IsSplitSoFar target kept closed taking

-- and nothing is left to take
pub record IsFilled (start : WalkValue) (target : ℕ) (closed : List (List ℕ)) (taking : Draft) : Type 0 where
  pub last : WalkValue
  pub filling : IsFilling start last target closed taking
  pub ended : last.heads ≡ []

-- why a walk's entries are not all taken: one of them does not come after the one before it, or memory ran out
abbrev pub StopsFilling : WalkValue → MergeError → Type 0
StopsFilling start WrongInputs = ⊥
StopsFilling start SameEntry = (taken : List Entry) × (e : Entry) × (after : List CursorHead) × GivesInTurn start.heads (taken ++ e ∷ []) after × (follows (last_taken start.before taken) e ≡ false)
StopsFilling start OutOfMemory = ⊤
