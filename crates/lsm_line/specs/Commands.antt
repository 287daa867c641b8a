-- What the commands of a store ask: what their words say, or their first fault (the store's own format, one command a line).
use Rattle.std.specs.Prelude.{◌≡◌, ℕ, ◌+◌, ◌==◌, Bool, List, [], ◌∷◌, Option, None, Some, Result, Ok, Err, codes, take, drop, position, if◌then◌else◌}
use Rattle.std.specs.Str.{bytes_eq}
use Rattle.lsm_key.specs.declared.op.Op.{Op}
use Rattle.lsm_key.specs.declared.op.Op.TheVariants as op
use Rattle.lsm_key.specs.declared.refused.Refused.{Refused}
use Rattle.lsm_key.specs.Reading.{◌>>=◌, Fails}
use Rattle.lsm_line.specs.declared.fault.Reason.{Reason}
use Rattle.lsm_line.specs.declared.fault.Reason.TheVariants.{WrongWordCount, BadNumber, BadName, BadToken}
use Rattle.lsm_line.specs.declared.call.Call.{Call}
use Rattle.lsm_line.specs.declared.call.Call.TheVariants as call
use Rattle.lsm_line.specs.declared.words.Words.{Words}
use Rattle.lsm_line.specs.Numbers.{number}
use Rattle.lsm_line.specs.Text.{words}
use Rattle.lsm_line.specs.Tokens.{token}
use Rattle.lsm_coord.specs.declared.snapshot.SnapId.{SnapId}
use Rattle.lsm_coord.specs.Model.Event as say

-- what a call asks, as the model says it
abbrev pub call_event : Call → say.Event
call_event (call.Write ops) = say.Write ops
call_event call.Flush = say.Flush
call_event call.Snap = say.Snap
call_event (call.Release id) = say.Release id
call_event (call.Get key at) = say.Get key at
call_event (call.Scan range) = say.Scan range.lo range.hi range.at range.limit
call_event call.Show = say.Show say.Coordinator

-- the words that are left of a line
abbrev pub words_left : Words → List (List ℕ)
words_left line = words line.rest.now

-- a key or value word
abbrev pub key_or_value : List ℕ → Result (List ℕ) Reason
key_or_value word = elim (token word) [ None ↦ Err BadToken | Some bytes ↦ Ok bytes ]

-- a full stop
abbrev pub is_point : ℕ → Bool
is_point byte = byte == 46

-- an epoch and a number
abbrev pub snapshot_from : Option ℕ → Option ℕ → Option SnapId
snapshot_from (Some epoch) (Some number) = Some (record { epoch = epoch; number = number })
snapshot_from epoch number = None

-- the word before the index of a point, and the word after it
abbrev pub snapshot_around : List ℕ → Option ℕ → Option SnapId
snapshot_around word None = None
snapshot_around word (Some point) = snapshot_from (number (take point word)) (number (drop (point + 1) word))

-- the name of a snapshot: its epoch and its number, with a point between them
abbrev pub read_snapshot : List ℕ → Option SnapId
read_snapshot word = snapshot_around word (position is_point word)

-- the same after an at sign
abbrev pub reading_at : List ℕ → Option SnapId
reading_at [] = None
reading_at (byte ∷ name) = if byte == 64 then read_snapshot name else None

-- a word that must name something
abbrev pub name_or_fault : Option SnapId → Result SnapId Reason
name_or_fault None = Err BadName
name_or_fault (Some id) = Ok id

-- a put of one key
abbrev pub put : List (List ℕ) → Result say.Event Reason
put (key ∷ value ∷ []) = do
  k ← key_or_value key
  v ← key_or_value value
  Ok (say.Write (op.Put k v ∷ []))
put args = Err WrongWordCount

-- a deletion of one key
abbrev pub delete : List (List ℕ) → Result say.Event Reason
delete (key ∷ []) = do
  k ← key_or_value key
  Ok (say.Write (op.Delete k ∷ []))
delete args = Err WrongWordCount

-- an operation of a batch, before those that are read after it
abbrev pub with_first : Op → Result (List Op) Reason → Result (List Op) Reason
with_first first rest = do
  ops ← rest
  Ok (first ∷ ops)

unfoldable mutual
  -- the operations of a batch, read from left to right: a wrong word is reported before one that is missing after it
  pub operations : List (List ℕ) → Result (List Op) Reason
  operations [] = Ok []
  operations (name ∷ args) =
      if bytes_eq name (codes "put") then after_put args
      else if bytes_eq name (codes "del") then after_delete args
      else Err BadName

  -- a key, a value, and the operations after them
  pub after_put : List (List ℕ) → Result (List Op) Reason
  after_put [] = Err WrongWordCount
  after_put (key ∷ []) = do
    k ← key_or_value key
    Err WrongWordCount
  after_put (key ∷ value ∷ args) = do
    k ← key_or_value key
    v ← key_or_value value
    with_first (op.Put k v) (operations args)

  -- a key, and the operations after it
  pub after_delete : List (List ℕ) → Result (List Op) Reason
  after_delete [] = Err WrongWordCount
  after_delete (key ∷ args) = do
    k ← key_or_value key
    with_first (op.Delete k) (operations args)

-- what was read is the first operation of all, before those of the words that are left; or it is the fault of all, unless memory ran out
abbrev pub GivesFirst : Result Op (Refused Reason) → Result (List Op) Reason → List (List ℕ) → Type 0
GivesFirst (Ok first) all left = all ≡ with_first first (operations left)
GivesFirst (Err e) all left = Fails e all

-- operations that are written together
abbrev pub batch : List (List ℕ) → Result say.Event Reason
batch args = do
  ops ← operations args
  Ok (say.Write ops)

-- a flush, without arguments
abbrev pub flush : List (List ℕ) → Result say.Event Reason
flush [] = Ok say.Flush
flush args = Err WrongWordCount

-- a snapshot, without arguments
abbrev pub snap : List (List ℕ) → Result say.Event Reason
snap [] = Ok say.Snap
snap args = Err WrongWordCount

-- a release of the snapshot of this name
abbrev pub release : List (List ℕ) → Result say.Event Reason
release (name ∷ []) = do
  id ← name_or_fault (read_snapshot name)
  Ok (say.Release id)
release args = Err WrongWordCount

-- a get names the snapshot that it reads at, or reads the latest
abbrev pub get : List (List ℕ) → Result say.Event Reason
get (key ∷ []) = do
  k ← key_or_value key
  Ok (say.Get k None)
get (key ∷ name ∷ []) = do
  k ← key_or_value key
  id ← name_or_fault (reading_at name)
  Ok (say.Get k (Some id))
get args = Err WrongWordCount

-- a word that must be a number
abbrev pub number_or_fault : Option ℕ → Result ℕ Reason
number_or_fault None = Err BadNumber
number_or_fault (Some n) = Ok n

-- a scan of a range of keys, latest or at a snapshot
abbrev pub scan_at : List ℕ → List ℕ → List ℕ → Result (Option SnapId) Reason → Result say.Event Reason
scan_at lo hi limit at = do
  l ← key_or_value lo
  h ← key_or_value hi
  n ← number_or_fault (number limit)
  id ← at
  Ok (say.Scan l h id n)

-- the name of a snapshot to read at, or its fault
abbrev pub some_name : Result SnapId Reason → Result (Option SnapId) Reason
some_name name = name >>= λ id. Ok (Some id)

-- a scan names the snapshot that it reads at, or reads the latest
abbrev pub scan : List (List ℕ) → Result say.Event Reason
scan (lo ∷ hi ∷ limit ∷ []) = scan_at lo hi limit (Ok None)
scan (lo ∷ hi ∷ limit ∷ name ∷ []) = scan_at lo hi limit (some_name (name_or_fault (reading_at name)))
scan args = Err WrongWordCount

-- a listing of the store
abbrev pub show_store : List (List ℕ) → Result say.Event Reason
show_store (node ∷ []) = if bytes_eq node (codes "c") then Ok (say.Show say.Coordinator) else Err BadName
show_store args = Err WrongWordCount
