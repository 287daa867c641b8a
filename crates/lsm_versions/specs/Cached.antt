-- A cache of blocks beside a version, and what is read through it.
use Rattle.std.specs.Prelude.{◌≡◌, ℕ, List, Option, Result, IfOk, IfErr, IsSome}
use Rattle.std.specs.Option.{option_and_then}
use Rattle.std.specs.declared.alloc.AllocError.{AllocError}
use Rattle.lsm_key.specs.declared.entry.Entry.{Entry}
use Rattle.lsm_key.specs.Sets.{IsIn}
use Rattle.lsm_key.specs.Visible.{entry_value}
use Rattle.lsm_cache.specs.Cached.{HoldsBlocks}
use Rattle.lsm_cache.specs.declared.cache.BlockCache.{BlockCache}
use Rattle.lsm_edit.specs.declared.served.Placed.{Placed}

-- the cache holds, under the number of each file, only blocks of the file's table
abbrev pub HoldsAll : List Placed → BlockCache → Type 0
HoldsAll places cache = (p : Placed) → IsIn p places → HoldsBlocks p.meta.number p.table.entries cache

-- the value that a read gives which finds the entry, or no memory to copy it, if it has one
abbrev pub CopiesValue : Option Entry → Result (Option (List ℕ)) AllocError → Type 0
CopiesValue found result = IfOk result (λ value. value ≡ option_and_then entry_value found) × IfErr result (λ _. IsSome (option_and_then entry_value found))
