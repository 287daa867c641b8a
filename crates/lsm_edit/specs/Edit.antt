-- Edits: what they may say, and how they are encoded (LevelDB, version edits).
use Rattle.std.specs.Prelude.{◌≡◌, ℕ, zero, suc, ◌+◌, ◌<◌, ◌≤◌, ◌-◌, ◌^◌, List, [], ◌∷◌, ◌++◌, length, Result, Ok, Err, ◌==◌, All, AllPairs, if◌then◌else◌}
use Rattle.std.specs.Int.{w8, w32, w64, to_be_bytes}
use Rattle.std.specs.List.{flat_map}
use Rattle.lsm_key.specs.declared.limits.TheConstants.{MAX_KEY_BYTES, MAX_NUMBER}
use Rattle.lsm_key.specs.Reading.{◌>>=◌, number_at, ranged_number_at}
use Rattle.lsm_edit.specs.declared.file.FileMeta.{FileMeta}
use Rattle.lsm_edit.specs.declared.file.FileBounds.{FileBounds}
use Rattle.lsm_edit.specs.declared.edit.Edit.{Edit}
use Rattle.lsm_edit.specs.declared.edit.EditKind.{EditKind}
use Rattle.lsm_edit.specs.declared.edit.Shape.{Shape}
use Rattle.lsm_edit.specs.declared.edit.EditKind.TheVariants.{Flush, Install, Epoch}
use Rattle.lsm_edit.specs.declared.format.FormatFault.{FormatFault}
use Rattle.lsm_edit.specs.declared.format.FormatFault.TheVariants.{Truncated, BadField, TrailingBytes}
use Rattle.lsm_edit.specs.File.{IsFile, file, file_at}

-- the code of a kind in an edit
abbrev pub edit_kind_code : EditKind → ℕ
edit_kind_code Flush = 1
edit_kind_code Install = 2
edit_kind_code Epoch = 3

-- a flush adds one file to level 0, an install replaces files by ones of a deeper level, an opening does neither
abbrev pub shape : EditKind → Shape
shape Flush = record { least_removed = 0; most_removed = 0; least_added = 1; most_added = 1; lowest = 0; deepest = 0 }
shape Install = record { least_removed = 1; most_removed = 4294967295; least_added = 0; most_added = 4294967295; lowest = 1; deepest = 6 }
shape Epoch = record { least_removed = 0; most_removed = 0; least_added = 0; most_added = 0; lowest = 0; deepest = 0 }

-- numbers of files, ascending
abbrev pub AreRemoved : EditKind → List ℕ → Type 0
AreRemoved kind numbers =
    ((shape kind).least_removed ≤ length numbers) × (length numbers ≤ (shape kind).most_removed)
    × All (λ n. (1 ≤ n) × (n ≤ MAX_NUMBER)) numbers × AllPairs (λ m n. m < n) numbers

-- files of one level, with ascending numbers
abbrev pub AreAdded : EditKind → List FileMeta → Type 0
AreAdded kind files =
    ((shape kind).least_added ≤ length files) × (length files ≤ (shape kind).most_added)
    × All IsFile files × All (λ f. ((shape kind).lowest ≤ f.level) × (f.level ≤ (shape kind).deepest)) files
    × AllPairs (λ f g. f.number < g.number) files × AllPairs (λ f g. f.level ≡ g.level) files

-- an edit that may be written: its numbers are in range, and its files are as its kind has them
pub record IsEdit (e : Edit) : Type 0 where
  pub first : 1 ≤ e.number
  pub last : e.number ≤ MAX_NUMBER
  pub flushed : e.flushed < 2 ^ 56
  pub some_epoch : 1 ≤ e.epoch
  pub epoch : e.epoch ≤ MAX_NUMBER
  pub some_file : 1 ≤ e.next_file
  pub next_file : e.next_file ≤ MAX_NUMBER
  pub removed : AreRemoved e.kind e.removed
  pub added : AreAdded e.kind e.added

-- a count, and each number
abbrev pub removed_bytes : List ℕ → List ℕ
removed_bytes numbers = to_be_bytes w32 (length numbers) ++ flat_map (to_be_bytes w64) numbers

-- a count, and each file
abbrev pub added_bytes : List FileMeta → List ℕ
added_bytes files = to_be_bytes w32 (length files) ++ flat_map file files

-- all but the files that are added
abbrev pub head : Edit → List ℕ
head e = to_be_bytes w64 e.number ++ to_be_bytes w8 (edit_kind_code e.kind) ++ to_be_bytes w64 e.flushed ++ to_be_bytes w64 e.epoch ++ to_be_bytes w64 e.next_file ++ removed_bytes e.removed

-- the bytes of an edit
abbrev pub edit : Edit → List ℕ
edit e = head e ++ added_bytes e.added

-- the bytes are those of this edit
pub record IsSpelledEdit (bytes : List ℕ) (e : Edit) : Type 0 where
  pub sound : IsEdit e
  pub spelled : bytes ≡ edit e

-- the kind of a code, or the fault if it is no kind's
abbrev pub edit_kind_from : {F : Type 0} → F → ℕ → Result EditKind F
edit_kind_from bad n = if n == 1 then Ok Flush else if n == 2 then Ok Install else if n == 3 then Ok Epoch else Err bad

-- a kind from the front, by its code
abbrev pub edit_kind_at : {F : Type 0} → F → F → List ℕ → Result (EditKind × List ℕ) F
edit_kind_at short bad bytes = do
  code ← number_at short w8 bytes
  kind ← edit_kind_from bad code.0
  Ok (kind, code.1)

-- n items, each read as those before it require
abbrev pub items_at : {S X F : Type 0} → (S → List ℕ → Result (X × List ℕ) F) → (S → X → S) → ℕ → S → List ℕ → Result (List X × List ℕ) F
items_at read next zero s bytes = Ok ([], bytes)
items_at read next (suc n) s bytes = do
  x ← read s bytes
  xs ← items_at read next n (next s x.0) x.1
  Ok (x.0 ∷ xs.0, xs.1)

-- the least number that may follow a number
abbrev pub after_number : ℕ → ℕ → ℕ
after_number least n = n + 1

-- count numbers, ascending, none above most
abbrev pub numbers_at : {F : Type 0} → F → F → ℕ → ℕ → ℕ → List ℕ → Result (List ℕ × List ℕ) F
numbers_at short bad most count least bytes = items_at (λ from. ranged_number_at short bad w64 from most) after_number count least bytes

-- a file of the same level and a greater number may follow a file
abbrev pub after_file : FileBounds → FileMeta → FileBounds
after_file within f = record { least = f.number + 1; most = within.most; lowest = f.level; deepest = f.level }

-- count files of one level, with ascending numbers and keys of at most limit bytes
abbrev pub files_at : {F : Type 0} → ℕ → F → F → ℕ → FileBounds → List ℕ → Result (List FileMeta × List ℕ) F
files_at limit short bad count within bytes = items_at (λ within. file_at limit short bad within []) after_file count within bytes

-- a count that the kind allows, and that many numbers of removed files
unfoldable pub removed_at : {F : Type 0} → F → F → EditKind → List ℕ → Result (List ℕ × List ℕ) F
removed_at short bad kind bytes = do
  count ← ranged_number_at short bad w32 (shape kind).least_removed (shape kind).most_removed bytes
  numbers_at short bad MAX_NUMBER count.0 1 count.1

-- a count that the kind allows, and that many added files, with keys of at most limit bytes
unfoldable pub added_at : {F : Type 0} → ℕ → F → F → EditKind → List ℕ → Result (List FileMeta × List ℕ) F
added_at limit short bad kind bytes = do
  count ← ranged_number_at short bad w32 (shape kind).least_added (shape kind).most_added bytes
  files_at limit short bad count.0 (record { least = 1; most = MAX_NUMBER; lowest = (shape kind).lowest; deepest = (shape kind).deepest }) count.1

-- an edit from the front, with keys of at most limit bytes
unfoldable pub edit_at : {F : Type 0} → ℕ → F → F → List ℕ → Result (Edit × List ℕ) F
edit_at limit short bad bytes = do
  number ← ranged_number_at short bad w64 1 MAX_NUMBER bytes
  kind ← edit_kind_at short bad number.1
  flushed ← ranged_number_at short bad w64 0 (2 ^ 56 - 1) kind.1
  epoch ← ranged_number_at short bad w64 1 MAX_NUMBER flushed.1
  next_file ← ranged_number_at short bad w64 1 MAX_NUMBER epoch.1
  removed ← removed_at short bad kind.0 next_file.1
  added ← added_at limit short bad kind.0 removed.1
  Ok (record { number = number.0; kind = kind.0; flushed = flushed.0; epoch = epoch.0; next_file = next_file.0; removed = removed.0; added = added.0 }, added.1)

-- an edit, all of the bytes
unfoldable pub read_edit : List ℕ → Result Edit FormatFault
read_edit bytes = do
  e ← edit_at MAX_KEY_BYTES Truncated BadField bytes
  if length e.1 == 0 then Ok e.0 else Err TrailingBytes
