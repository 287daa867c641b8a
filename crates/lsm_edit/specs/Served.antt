-- A version with its tables, in the order of a search (LevelDB, implementation notes: level 0; version_set.cc, Version::Get).
use Rattle.std.specs.Prelude.{◌≡◌, ℕ, Bool, true, not, ◌&&◌, ◌||◌, List, [], ◌∷◌, Option, None, Some, length, map, filter, nat_eq, nat_lt, if◌then◌else◌}
use Rattle.std.specs.List.{list_any}
use Rattle.lsm_key.specs.declared.entry.Entry.{Entry}
use Rattle.lsm_key.specs.Sets.{IsIn, SameMembers}
use Rattle.lsm_key.specs.Order.{key_le}
use Rattle.lsm_key.specs.KeyRanges.{in_closed_range}
use Rattle.lsm_table.specs.Tables.{Opened, IsTable, smallest_key, largest_key}
use Rattle.lsm_edit.specs.declared.file.FileMeta.{FileMeta}
use Rattle.lsm_edit.specs.declared.edit.Edit.{Edit}
use Rattle.lsm_edit.specs.declared.served.Placed.{Placed}
use Rattle.lsm_edit.specs.Version.{VersionValue, first_version, after_apply, has_number, is_listed, lacking}

-- a table is as its record says
pub record IsAsRecorded (f : FileMeta) (t : Opened) : Type 0 where
  pub table : IsTable t.bytes t.entries
  pub smallest : f.smallest ≡ smallest_key t.entries
  pub largest : f.largest ≡ largest_key t.entries
  pub bytes : f.bytes ≡ length t.bytes
  pub entries : f.entries ≡ length t.entries

-- tables one by one as their records say
abbrev pub AreAsRecorded : List FileMeta → List Opened → Type 0
AreAsRecorded [] [] = Unit {0}
AreAsRecorded (f ∷ fs) (t ∷ ts) = IsAsRecorded f t × AreAsRecorded fs ts
AreAsRecorded [] (t ∷ ts) = ⊥
AreAsRecorded (f ∷ fs) [] = ⊥

-- the value of a version with its tables
pub record ServedValue : Type 0 where
  pub version : VersionValue
  pub places : List Placed  -- the files with their tables, in the order of a search

-- before the first edit
abbrev pub first_served : ServedValue
first_served = record { version = first_version; places = [] }

-- a file is searched before another: an upper level first, in level 0 the greater number, in a deeper level the lesser keys
abbrev pub is_before : FileMeta → FileMeta → Bool
is_before f g =
    nat_lt f.level g.level
    || (nat_eq f.level g.level && (if nat_eq f.level 0 then nat_lt g.number f.number else not (key_le g.smallest f.largest)))

-- each file is searched before those behind it
abbrev pub AreInSearchOrder : List Placed → Type 0
AreInSearchOrder [] = Unit {0}
AreInSearchOrder (p ∷ ps) = ((q : Placed) → IsIn q ps → is_before p.meta q.meta ≡ true) × AreInSearchOrder ps

-- each file with its table
abbrev pub placed_of : List FileMeta → List Opened → List Placed
placed_of [] ts = []
placed_of (f ∷ fs) [] = []
placed_of (f ∷ fs) (t ∷ ts) = record { meta = f; table = t } ∷ placed_of fs ts

-- inserted before the first file that it is searched before
abbrev pub put_in_order : Placed → List Placed → List Placed
put_in_order p [] = p ∷ []
put_in_order p (q ∷ qs) = if is_before p.meta q.meta then p ∷ q ∷ qs else q ∷ put_in_order p qs

-- files inserted among others that are in search order
abbrev pub put_all : List Placed → List Placed → List Placed
put_all [] qs = qs
put_all (p ∷ ps) qs = put_in_order p (put_all ps qs)

-- files in search order
abbrev pub in_order : List Placed → List Placed
in_order ps = put_all ps []

-- the files but those of these numbers
abbrev pub places_without : List ℕ → List Placed → List Placed
places_without numbers ps = filter (λ p. not (list_any (λ n. has_number n p.meta) numbers)) ps

-- the next version, with the tables that the edit's files came with
abbrev pub after_advance : ServedValue → Edit → List Opened → ServedValue
after_advance s edit tables = record { version = after_apply s.version edit; places = put_all (placed_of edit.added tables) (places_without edit.removed s.places) }

-- each table is as its file's record says
abbrev pub AllRecorded : List Placed → Type 0
AllRecorded ps = (p : Placed) → IsIn p ps → IsAsRecorded p.meta p.table

-- the bytes are the table of one of these files, the one of this number
pub record IsAwaited (files : List FileMeta) (n : ℕ) (text : List ℕ) (p : Placed) : Type 0 where
  pub file : IsIn p.meta files
  pub number : p.meta.number ≡ n
  pub bytes : p.table.bytes ≡ text
  pub recorded : IsAsRecorded p.meta p.table

-- each has a record of its own
abbrev pub AreDistinct : List Placed → Type 0
AreDistinct [] = Unit {0}
AreDistinct (p ∷ ps) = ((q : Placed) → IsIn q ps → p.meta ≡ q.meta → ⊥) × AreDistinct ps

-- tables are those of the files that another version lists and this one does not, each once
pub record AreLacking (old new : VersionValue) (received : List Placed) : Type 0 where
  pub recorded : AllRecorded received
  pub files : SameMembers (map (λ p. p.meta) received) (lacking old new)
  pub once : AreDistinct received

-- another version: the places of its files that stay, and among them those that came
abbrev pub after_rebase : ServedValue → VersionValue → List Placed → ServedValue
after_rebase s v received = record { version = v; places = put_all received (filter (λ p. is_listed v.files p.meta) s.places) }

-- the entries of each table, in the order of a search
abbrev pub tables_of : List Placed → List (List Entry)
tables_of ps = map (λ p. p.table.entries) ps

-- the key is in the file's range
abbrev pub is_covered : FileMeta → List ℕ → Bool
is_covered f key = in_closed_range f.smallest f.largest key

-- the file is of an upper level, or of this one with all its keys below the key
abbrev pub comes_left : ℕ → List ℕ → Placed → Bool
comes_left level key p = nat_lt p.meta.level level || (nat_eq p.meta.level level && not (key_le key p.meta.largest))

-- the table of a number
abbrev pub table_at : List Placed → ℕ → Option Opened
table_at [] n = None
table_at (p ∷ ps) n = if nat_eq p.meta.number n then Some p.table else table_at ps n

-- a version whose files have each their table, as their records say
pub record IsServed (s : ServedValue) : Type 0 where
  pub ordered : AreInSearchOrder s.places
  pub listed : SameMembers (map (λ p. p.meta) s.places) s.version.files
  pub recorded : AllRecorded s.places

-- the entries that a cursor has left, none if there is no cursor
abbrev pub left_of : Option (List Entry) → List Entry
left_of None = []
left_of (Some es) = es
