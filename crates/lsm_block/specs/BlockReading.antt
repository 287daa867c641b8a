-- Reading a block from the front, with the first fault that is met.
use Rattle.std.specs.Prelude.{ℕ, zero, suc, ◌+◌, ◌-◌, List, [], ◌∷◌, ◌++◌, length, Result, Ok, Err, nat_lt, ◌==◌, if◌then◌else◌, Bool, true, slice_get, Option, Some, None}
use Rattle.std.specs.Int.{w32}
use Rattle.std.specs.Ordering.{is_lt}
use Rattle.lsm_key.specs.declared.entry.Entry.{Entry}
use Rattle.lsm_key.specs.declared.entry.Kind.{Kind}
use Rattle.lsm_key.specs.declared.limits.TheConstants.{MAX_KEY_BYTES}
use Rattle.lsm_key.specs.Order.{place_cmp}
use Rattle.lsm_key.specs.Reading.{◌>>=◌, number_at, piece_at, key_at, trailer_at}
use Rattle.lsm_block.specs.declared.fault.BlockFault.{BlockFault}
use Rattle.lsm_block.specs.declared.fault.BlockFault.TheVariants.{Truncated, BadKind, BadLength, OutOfOrder}
use Rattle.lsm_key.specs.Entries.{longest}

-- the value of an entry of this kind
unfoldable pub value_field_at : Kind → List ℕ → Result (List ℕ × List ℕ) BlockFault
value_field_at kind bytes = do
  n ← number_at Truncated w32 bytes
  if nat_lt (longest kind) n.0 then Err BadLength else piece_at Truncated n.0 n.1

-- an entry: its key, which has at most limit bytes, its trailer, its value
unfoldable pub entry_within : ℕ → List ℕ → Result (Entry × List ℕ) BlockFault
entry_within limit bytes = do
  key ← key_at limit Truncated BadLength bytes
  tag ← trailer_at Truncated BadKind key.1
  value ← value_field_at tag.0.1 tag.1
  Ok (record { ikey = record { key = key.0; seq = tag.0.0; kind = tag.0.1 }; value = value.0 }, value.1)

-- an entry of any key
abbrev pub entry_at : List ℕ → Result (Entry × List ℕ) BlockFault
entry_at bytes = entry_within MAX_KEY_BYTES bytes

-- the last entry, if there is one
abbrev pub last_of : List Entry → Option Entry
last_of es = slice_get es (length es - 1)

-- an entry may come right after another: its key is greater, or its sequence smaller
abbrev pub may_follow : Option Entry → Entry → Bool
may_follow None e = true
may_follow (Some l) e = is_lt (place_cmp l.ikey.key l.ikey.seq e.ikey.key e.ikey.seq)

-- the entry after these ones
unfoldable pub next_at : ℕ → List Entry → List ℕ → Result (Entry × List ℕ) BlockFault
next_at limit es bytes = do
  x ← entry_within limit bytes
  if may_follow (last_of es) x.0 then Ok x else Err OutOfOrder

-- entries to the end of the bytes, after these ones, fewer than n of them
unfoldable pub entries_at : ℕ → ℕ → List Entry → List ℕ → Result (List Entry) BlockFault
entries_at limit zero es bytes = Err Truncated
entries_at limit (suc n) es bytes = do
  x ← next_at limit es bytes
  if length x.1 == 0 then Ok (es ++ x.0 ∷ []) else entries_at limit n (es ++ x.0 ∷ []) x.1

-- all of the bytes, which have no more entries than bytes; no key has more than limit bytes
unfoldable pub read_block : ℕ → List ℕ → Result (List Entry) BlockFault
read_block limit bytes = entries_at limit (length bytes + 1) [] bytes
