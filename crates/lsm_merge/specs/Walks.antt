-- A merge of the entries of cursors, one by one (LevelDB, db_impl.cc, DoCompactionWork: one pass over a merging iterator).
use Rattle.std.specs.Prelude.{◌≡◌, ◌⊎◌, ℕ, ◌<◌, Bool, true, false, List, [], ◌∷◌, Option, Some, None, Result, Ok, Err, filter, length, ⊤}
use Rattle.lsm_key.specs.declared.entry.Entry.{Entry}
use Rattle.lsm_key.specs.declared.range.KeyRange.{KeyRange}
use Rattle.lsm_key.specs.Order.{precedes}
use Rattle.lsm_key.specs.Places.{all_entries}
use Rattle.lsm_table.specs.Heads.{AdvancesHeads, PutInOrder, first_of, has_entry, lists_ahead}
use Rattle.lsm_merge.specs.declared.cursor_head.CursorHead.{CursorHead}
use Rattle.lsm_merge.specs.declared.error.MergeError.{MergeError}
use Rattle.lsm_merge.specs.declared.error.MergeError.TheVariants.{SameEntry, OutOfMemory}
use Rattle.lsm_merge.specs.Keeping.{kept_list}

-- a cursor's entries, read up to the first, if there is one
abbrev pub IsReadUpTo : List Entry → Option CursorHead → Type 0
IsReadUpTo entries None = entries ≡ []
IsReadUpTo entries (Some h) = entries ≡ h.entry ∷ h.rest

-- what each cursor has left, with the entry that it is read up to
abbrev pub cursor_lists : List CursorHead → List (List Entry)
cursor_lists heads = lists_ahead (λ h. h.entry) (λ h. h.rest) heads

-- the first entry in order is this one, and its cursor is read up to the next one
abbrev pub IsGivenFirst : List CursorHead → Entry → List CursorHead → Type 0
IsGivenFirst old e new = (first : CursorHead) × (first_of old ≡ Some first) × (first.entry ≡ e) × AdvancesHeads (λ h. h.entry) (λ h. h.rest) old (Some first) new

-- the next entries of a merge are these
abbrev pub GivesInTurn : List CursorHead → List Entry → List CursorHead → Type 0
GivesInTurn old [] new = new ≡ old
GivesInTurn old (e ∷ es) new = (next : List CursorHead) × IsGivenFirst old e next × GivesInTurn next es new

-- how many entries are left to merge
abbrev pub left_to_merge : List CursorHead → ℕ
left_to_merge heads = length (all_entries (cursor_lists heads))

-- the value of a walk
pub record WalkValue : Type 0 where
  pub heads : List CursorHead
  pub before : Option Entry
  pub points : List ℕ
  pub deeper : List KeyRange
  pub refused : Option MergeError

-- a walk from the front of cursors that have these lists left
pub record BeginsWalk (lists : List (List Entry)) (start : WalkValue) : Type 0 where
  pub cursors : List CursorHead
  pub read : cursor_lists cursors ≡ filter has_entry lists  -- each that has an entry is read up to it, and no further
  pub placed : PutInOrder (λ h. h.entry) (λ h. h.rest) cursors start.heads
  pub fresh : start.before ≡ None
  pub going : start.refused ≡ None

-- an entry comes after the one before it, if there is one
abbrev pub follows : Option Entry → Entry → Bool
follows None e = true
follows (Some before) e = precedes before e

-- each entry comes after the one before it
abbrev pub AllFollow : Option Entry → List Entry → Type 0
AllFollow before [] = ⊤
AllFollow before (e ∷ es) = (follows before e ≡ true) × AllFollow (Some e) es

-- the last of these entries, or else the one before them
abbrev pub last_taken : Option Entry → List Entry → Option Entry
last_taken before [] = before
last_taken before (e ∷ es) = last_taken (Some e) es

-- a walk took these entries, in order, of which it keeps those
pub record Took (old : WalkValue) (taken kept : List Entry) (new : WalkValue) : Type 0 where
  pub takes : GivesInTurn old.heads taken new.heads
  pub ordered : AllFollow old.before taken
  pub keeps : kept_list old.points old.deeper old.before taken ≡ kept
  pub before : new.before ≡ last_taken old.before taken
  pub points : new.points ≡ old.points
  pub deeper : new.deeper ≡ old.deeper

-- a call of `step`, if none was refused before
abbrev pub Steps : WalkValue → Result (Option Entry) MergeError → WalkValue → Type 0
Steps old (Ok (Some e)) new = (taken : List Entry) × Took old taken (e ∷ []) new × (new.refused ≡ None)
Steps old (Ok None) new = (taken : List Entry) × Took old taken [] new × (new.heads ≡ []) × (new.refused ≡ None)
Steps old (Err why) new = (taken : List Entry) × (last : WalkValue) × (e : Entry) × Took old taken [] last × GivesInTurn last.heads (e ∷ []) new.heads × (follows last.before e ≡ false) × (why ≡ SameEntry) × (new.refused ≡ Some SameEntry)

-- a call of `step`: what was refused is refused again
abbrev pub Walks : WalkValue → Result (Option Entry) MergeError → WalkValue → Type 0
Walks old result new = ((why : MergeError) → old.refused ≡ Some why → (result ≡ Err why) × (new ≡ old)) × (old.refused ≡ None → Steps old result new)

-- a call of `next`: a step, but that memory may run out, which is answered from then on
abbrev pub WalksOrStops : WalkValue → Result (Option Entry) MergeError → WalkValue → Type 0
WalksOrStops old result new = Walks old result new ⊎ ((old.refused ≡ None) × (result ≡ Err OutOfMemory) × (new.refused ≡ Some OutOfMemory))

-- an entry that is given is no longer left
abbrev pub IsFewer : WalkValue → Option Entry → WalkValue → Type 0
IsFewer old None new = ⊤
IsFewer old (Some e) new = left_to_merge new.heads < left_to_merge old.heads
