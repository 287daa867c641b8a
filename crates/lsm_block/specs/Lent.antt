-- An entry that is read where it lies (LevelDB, table/block.cc, Block::Iter: key and value are slices of the block's bytes).
use Rattle.std.specs.Prelude.{◌≡◌, ◌<◌, ◌≤◌, ℕ, List, [], Result, Ok, Err, length, slice_index}
use Rattle.std.specs.List.{slice_range}
use Rattle.lsm_key.specs.declared.entry.Entry.{Entry}
use Rattle.lsm_key.specs.declared.entry.Kind.TheVariants.{Delete}
use Rattle.lsm_key.specs.Entries.{IsEntry}
use Rattle.lsm_key.specs.Prefix.{prefix_of}
use Rattle.lsm_block.specs.declared.fault.BlockFault.{BlockFault}
use Rattle.lsm_block.specs.Blocks.{HasSequence, entry}
use Rattle.lsm_block.specs.BlockReading.{entry_at}

-- the entry that was read, and some entry where there was a fault
abbrev pub entry_read : Result (Entry × List ℕ) BlockFault → Entry
entry_read (Ok x) = x.0
entry_read (Err f) = record { ikey = record { key = []; seq = 0; kind = Delete }; value = [] }

-- the entry in front of the bytes
abbrev pub front_entry : List ℕ → Entry
front_entry bytes = entry_read (entry_at bytes)

-- the bytes are those of one entry, and the prefix is its key's
pub record IsLent (bytes : List ℕ) (prefix : ℕ) : Type 0 where
  pub read : entry_at bytes ≡ Ok (front_entry bytes, [])
  pub spelled : bytes ≡ entry (front_entry bytes)
  pub sound : IsEntry (front_entry bytes)
  pub sequence : HasSequence (front_entry bytes)
  pub fits : (i : ℕ) → slice_index (front_entry bytes).ikey.key i < 256
  pub prefixed : prefix ≡ prefix_of [] (front_entry bytes).ikey.key

-- so is the part of a block's bytes from a place to an end
pub record IsLentAt (bytes : List ℕ) (place end : ℕ) (prefix : ℕ) : Type 0 where
  pub order : place ≤ end
  pub within : end ≤ length bytes
  pub lent : IsLent (slice_range bytes place end) prefix
