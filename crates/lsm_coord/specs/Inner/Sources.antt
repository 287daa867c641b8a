-- What a scan reads (LevelDB, db_impl.cc, NewInternalIterator: an iterator for each memtable and for the tables).
use Rattle.std.specs.Prelude.{◌≡◌, List, [], ◌∷◌, Option, Some, None}
use Rattle.lsm_key.specs.declared.entry.Entry.{Entry}
use Rattle.lsm_table.specs.Heads.{lists_ahead}
use Rattle.lsm_coord.specs.declared.source.Source.{Source}
use Rattle.lsm_coord.specs.declared.source.Source.TheVariants as source

-- the entry that a source is read up to
abbrev pub source_entry : Source → Entry
source_entry (source.Memtable head) = head.entry.now
source_entry (source.Tables head) = head.entry

-- the entries that it has left behind that one
abbrev pub left_behind : Source → List Entry
left_behind (source.Memtable head) = head.rest
left_behind (source.Tables head) = head.rest

-- the entries of each source
abbrev pub source_lists : List Source → List (List Entry)
source_lists sources = lists_ahead source_entry left_behind sources

-- entries read up to the first, if there is one
abbrev pub IsRead : List Entry → Option Source → Type 0
IsRead entries None = entries ≡ []
IsRead entries (Some s) = entries ≡ source_entry s ∷ left_behind s
