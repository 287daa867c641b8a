-- Versions as the fold of their edits, and which edits apply (LevelDB, implementation notes: manifest; version_set.cc).
use Rattle.std.specs.Prelude.{◌≡◌, ℕ, ◌+◌, ◌<◌, ◌≤◌, ◌^◌, Bool, false, not, ◌&&◌, ◌||◌, List, [], ◌∷◌, ◌++◌, Option, None, Some, filter, nat_eq, nat_lt, nat_le, if◌then◌else◌}
use Rattle.std.specs.List.{list_any}
use Rattle.lsm_key.specs.declared.limits.TheConstants.{MAX_NUMBER}
use Rattle.lsm_key.specs.Sets.{IsIn}
use Rattle.lsm_key.specs.KeyRanges.{ranges_meet}
use Rattle.lsm_edit.specs.declared.file.FileMeta.{FileMeta}
use Rattle.lsm_edit.specs.declared.edit.Edit.{Edit}
use Rattle.lsm_edit.specs.declared.edit.EditKind.{EditKind}
use Rattle.lsm_edit.specs.declared.edit.EditKind.TheVariants.{Flush, Install, Epoch}
use Rattle.lsm_edit.specs.declared.version.ApplyError.{ApplyError}
use Rattle.lsm_edit.specs.declared.version.ApplyError.TheVariants.{WrongNumber, NoSuchFile, FileExists, Overlap, FlushedBack, BadCounter}
use Rattle.lsm_edit.specs.File.{IsFile, same_file}

-- the value of a version: its numbers, and the files that it lists
pub record VersionValue : Type 0 where
  pub number : ℕ
  pub flushed : ℕ  -- every write up to it is in the files
  pub epoch : ℕ
  pub next_file : ℕ
  pub files : List FileMeta  -- by number

-- before the first edit
abbrev pub first_version : VersionValue
first_version = record { number = 0; flushed = 0; epoch = 0; next_file = 1; files = [] }

-- the file has this number
abbrev pub has_number : ℕ → FileMeta → Bool
has_number n f = nat_eq f.number n

-- a file is one of these, by its whole record
abbrev pub is_listed : List FileMeta → FileMeta → Bool
is_listed files f = list_any (same_file f) files

-- the files of a version that another one does not list
abbrev pub lacking : VersionValue → VersionValue → List FileMeta
lacking old new = filter (λ f. not (is_listed old.files f)) new.files

-- the files without those of these numbers
abbrev pub files_without : List ℕ → List FileMeta → List FileMeta
files_without numbers files = filter (λ f. not (list_any (λ n. has_number n f) numbers)) files

-- one step of the fold: less the removed files, with the added ones
abbrev pub files_after : List FileMeta → Edit → List FileMeta
files_after files edit = files_without edit.removed files ++ edit.added

-- two files have a key in common, by their ranges
abbrev pub files_meet : FileMeta → FileMeta → Bool
files_meet f g = ranges_meet f.smallest f.largest g.smallest g.largest

-- two files of a level from 1 up whose ranges meet
abbrev pub clashes : FileMeta → FileMeta → Bool
clashes f g = nat_eq f.level g.level && (nat_lt 0 f.level && files_meet f g)

-- two files of a level from 1 up overlap
abbrev pub has_overlap : List FileMeta → Bool
has_overlap [] = false
has_overlap (f ∷ fs) = list_any (clashes f) fs || has_overlap fs

-- a flush moves the flushed sequence on, another edit leaves it
abbrev pub goes_back : EditKind → ℕ → ℕ → Bool
goes_back Flush old new = nat_le new old
goes_back Install old new = not (nat_eq new old)
goes_back Epoch old new = not (nat_eq new old)

-- an opening begins the next epoch, another edit stays in it
abbrev pub miscounts : EditKind → ℕ → ℕ → Bool
miscounts Flush old new = not (nat_eq new old)
miscounts Install old new = not (nat_eq new old)
miscounts Epoch old new = not (nat_eq new (old + 1))

-- the next file number falls back, or is not above an added file's
abbrev pub is_low : VersionValue → Edit → Bool
is_low v edit = nat_lt edit.next_file v.next_file || list_any (λ f. nat_le edit.next_file f.number) edit.added

-- why an edit does not apply: the first reason that holds
abbrev pub apply_fault : VersionValue → Edit → Option ApplyError
apply_fault v edit =
    if not (nat_eq edit.number (v.number + 1)) then Some WrongNumber
    else if list_any (λ n. not (list_any (has_number n) v.files)) edit.removed then Some NoSuchFile
    else if list_any (λ f. nat_lt f.number v.next_file) edit.added then Some FileExists
    else if has_overlap (files_after v.files edit) then Some Overlap
    else if goes_back edit.kind v.flushed edit.flushed then Some FlushedBack
    else if is_low v edit || miscounts edit.kind v.epoch edit.epoch then Some BadCounter
    else None

-- the version that an edit makes of one to which it applies
abbrev pub after_apply : VersionValue → Edit → VersionValue
after_apply v edit = record { number = edit.number; flushed = edit.flushed; epoch = edit.epoch; next_file = edit.next_file; files = files_after v.files edit }

-- numbers rise from file to file
abbrev pub FileNumbersRise : List FileMeta → Type 0
FileNumbersRise [] = Unit {0}
FileNumbersRise (f ∷ fs) = ((g : FileMeta) → IsIn g fs → f.number < g.number) × FileNumbersRise fs

-- what every version keeps
pub record IsVersion (v : VersionValue) : Type 0 where
  pub number : v.number ≤ MAX_NUMBER
  pub flushed : v.flushed < 2 ^ 56
  pub epoch : v.epoch ≤ MAX_NUMBER
  pub some_file : 1 ≤ v.next_file
  pub next_file : v.next_file ≤ MAX_NUMBER
  pub files : (f : FileMeta) → IsIn f v.files → IsFile f
  pub below : (f : FileMeta) → IsIn f v.files → f.number < v.next_file
  pub rising : FileNumbersRise v.files
  pub disjoint : has_overlap v.files ≡ false
