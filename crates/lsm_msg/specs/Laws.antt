-- What the definition of a merge implies, in general and in cases that a reader can check by hand (LevelDB, db_impl.cc, DoCompactionWork).
use Rattle.std.specs.Prelude.{◌≡◌, ℕ, ◌<◌, ◌≤◌, List, [], ◌∷◌}
use Rattle.std.specs.Option.{option_and_then}
use Rattle.lsm_key.specs.declared.entry.Entry.{Entry}
use Rattle.lsm_key.specs.declared.entry.Kind.TheVariants.{Delete, Put}
use Rattle.lsm_key.specs.Sets.{IsIn}
use Rattle.lsm_key.specs.Visible.{IsUnique, newest, entry_value, value_at}
use Rattle.lsm_key.specs.declared.range.KeyRange.{KeyRange}
use Rattle.lsm_msg.specs.Merge.{IsKept, HoldsKept}

-- a merge makes no entry
abbrev pub KeptAreInputs : Type 0
KeptAreInputs = (inputs : List Entry) (points : List ℕ) (deeper : List KeyRange) (e : Entry) → IsKept inputs points deeper e → IsIn e inputs

-- of two entries of a key the older one is dropped if no point sees it without the newer
abbrev pub HiddenEntriesGo : Type 0
HiddenEntriesGo =
    (inputs : List Entry) (points : List ℕ) (deeper : List KeyRange) (older later : Entry) → IsIn later inputs → older.ikey.key ≡ later.ikey.key
    → older.ikey.seq < later.ikey.seq → ((p : ℕ) → IsIn p points → older.ikey.seq ≤ p → later.ikey.seq ≤ p)
    → IsKept inputs points deeper older → ⊥

-- reads of the two return the same: the latest read, a read at each point, and one that sees every input
abbrev pub ReadAlike : List ℕ → List Entry → List Entry → List Entry → Type 0
ReadAlike points inputs one other =
    (key : List ℕ)
    → (option_and_then entry_value (newest one key) ≡ option_and_then entry_value (newest other key))
    × ((p : ℕ) → IsIn p points → value_at one key p ≡ value_at other key p)
    × ((p : ℕ) → ((e : Entry) → IsIn e inputs → e.ikey.seq ≤ p) → value_at one key p ≡ value_at other key p)

-- reads of the outputs return what reads of the inputs returned
abbrev pub ReadsStay : Type 0
ReadsStay =
    (inputs outputs : List Entry) (points : List ℕ) (deeper : List KeyRange) → IsUnique inputs → HoldsKept inputs points deeper outputs
    → ReadAlike points inputs outputs inputs

-- the text a, by its byte
abbrev pub key_a : List ℕ
key_a = 97 ∷ []

-- the range that has the key a and no other
abbrev pub over_a : KeyRange
over_a = record { lo = key_a; hi = key_a }

-- the key a is put at sequence 1, and deleted at sequence 2
abbrev pub put_of_a : Entry
put_of_a = record { ikey = record { key = key_a; seq = 1; kind = Put }; value = 49 ∷ [] }

-- the deletion of the key a, at sequence 2
abbrev pub deletion : Entry
deletion = record { ikey = record { key = key_a; seq = 2; kind = Delete }; value = [] }

-- a snapshot at sequence 1 keeps both
abbrev pub ASnapshotKeepsBoth : Type 0
ASnapshotKeepsBoth = HoldsKept (deletion ∷ put_of_a ∷ []) (1 ∷ []) [] (deletion ∷ put_of_a ∷ [])

-- with no snapshot and no deeper file both go
abbrev pub BothGo : Type 0
BothGo = HoldsKept (deletion ∷ put_of_a ∷ []) [] [] []

-- a deeper file that may have the key keeps the deletion
abbrev pub ADeeperFileKeepsTheDeletion : Type 0
ADeeperFileKeepsTheDeletion = HoldsKept (deletion ∷ put_of_a ∷ []) [] (over_a ∷ []) (deletion ∷ [])
