-- What the definition of a merge implies (order theory: a set has one strictly ascending list; LevelDB, doc/impl.md: compactions).
use Rattle.std.specs.Prelude.{◌≡◌, ◌⊎◌, ℕ, false, List, [], ◌∷◌, ◌++◌, All}
use Rattle.lsm_key.specs.declared.entry.Entry.{Entry}
use Rattle.lsm_key.specs.Order.{IsAscending}
use Rattle.lsm_key.specs.Places.{all_entries}
use Rattle.lsm_key.specs.Sets.{IsIn}
use Rattle.lsm_table.specs.Tables.{Opened}
use Rattle.lsm_msg.specs.declared.job.JobParts.{JobParts}
use Rattle.lsm_msg.specs.Merge.{HoldsKept}
use Rattle.lsm_merge.specs.declared.cursor_head.CursorHead.{CursorHead}
use Rattle.lsm_merge.specs.Inputs.{HaveSameEntry}
use Rattle.lsm_merge.specs.Outputs.{IsMerge}
use Rattle.lsm_merge.specs.Walks.{BeginsWalk, GivesInTurn, Took, WalkValue, follows, last_taken}

-- the outputs of a job are determined, to the byte
abbrev pub AMergeHasOneOutcome : Type 0
AMergeHasOneOutcome = (tables : List Opened) (job : JobParts) (one other : List (List ℕ)) → IsMerge tables job one → IsMerge tables job other → one ≡ other

-- a walk that came to its end gave what a merge of the lists keeps, in order, and no two of them share an entry
abbrev pub AnEndedWalkGaveWhatIsKept : Type 0
AnEndedWalkGaveWhatIsKept = (lists : List (List Entry)) (start last : WalkValue) (taken kept : List Entry) → BeginsWalk lists start → Took start taken kept last → last.heads ≡ [] → HoldsKept (all_entries lists) start.points start.deeper kept × IsAscending kept × (HaveSameEntry lists → ⊥)

-- where an entry does not come after the one before it, two of the lists share it
abbrev pub AWalkIsRefusedForASharedEntry : Type 0
AWalkIsRefusedForASharedEntry = (lists : List (List Entry)) (start : WalkValue) (taken : List Entry) (e : Entry) (after : List CursorHead) → All IsAscending lists → BeginsWalk lists start → GivesInTurn start.heads (taken ++ e ∷ []) after → follows (last_taken start.before taken) e ≡ false → HaveSameEntry lists

-- what a cursor has given, but for the one entry that it is read up to, was taken
abbrev pub AWalkReadsOneEntryAhead : Type 0
AWalkReadsOneEntryAhead = (lists : List (List Entry)) (start last : WalkValue) (taken kept : List Entry) → BeginsWalk lists start → Took start taken kept last → (h : CursorHead) → IsIn h last.heads → (given : List Entry) × IsIn (given ++ h.entry ∷ h.rest) lists × ((e : Entry) → IsIn e given → IsIn e taken)

-- of each cursor all was taken, or a head holds the entry that it is read up to, and what it gave before that was taken
abbrev pub AWalkTakesFromEachCursor : Type 0
AWalkTakesFromEachCursor = (lists : List (List Entry)) (start last : WalkValue) (taken kept : List Entry) → BeginsWalk lists start → Took start taken kept last → (list : List Entry) → IsIn list lists
    → ((e : Entry) → IsIn e list → IsIn e taken) ⊎ ((h : CursorHead) × IsIn h last.heads × (given : List Entry) × (list ≡ given ++ h.entry ∷ h.rest) × ((e : Entry) → IsIn e given → IsIn e taken))
