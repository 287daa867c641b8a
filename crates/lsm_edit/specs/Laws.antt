-- What edits that apply in turn keep (LevelDB, version_set.cc: the number of a file is never given again).
use Rattle.std.specs.Prelude.{◌≡◌, ℕ, List, [], ◌∷◌, Some}
use Rattle.lsm_key.specs.Sets.{IsIn}
use Rattle.lsm_edit.specs.declared.file.FileMeta.{FileMeta}
use Rattle.lsm_edit.specs.declared.edit.Edit.{Edit}
use Rattle.lsm_edit.specs.declared.edit.EditKind.TheVariants.{Flush, Install, Epoch}
use Rattle.lsm_edit.specs.declared.version.ApplyError.TheVariants.{NoSuchFile, FileExists}
use Rattle.lsm_edit.specs.Version.{VersionValue, IsVersion, first_version, apply_fault}
use Rattle.lsm_edit.specs.Edits.{Apply, IsEditHistory, RemovedOnce, after_edits, versions_from}

-- from any version on, as from the first
abbrev pub NoFileIsRemovedTwice : Type 0
NoFileIsRemovedTwice = (v : VersionValue) (edits : List Edit) → IsVersion v → Apply v edits → RemovedOnce edits

-- files of one number, in two versions or in one, are the same
abbrev pub ANumberNamesOneFile : Type 0
ANumberNamesOneFile = (v : VersionValue) (edits : List Edit) → IsEditHistory v edits
    → (one other : VersionValue) → IsIn one (versions_from v edits) → IsIn other (versions_from v edits)
    → (f g : FileMeta) → IsIn f one.files → IsIn g other.files → f.number ≡ g.number → f ≡ g

-- ---- written out

-- a file of the key a
abbrev file_of : ℕ → ℕ → FileMeta
file_of number level = record { number = number; level = level; smallest = 97 ∷ []; largest = 97 ∷ []; bytes = 48; entries = 1 }

abbrev opening : Edit
opening = record { number = 1; kind = Epoch; flushed = 0; epoch = 1; next_file = 1; removed = []; added = [] }

abbrev flush : Edit
flush = record { number = 2; kind = Flush; flushed = 1; epoch = 1; next_file = 2; removed = []; added = file_of 1 0 ∷ [] }

-- file 1 becomes file 2
abbrev merge : Edit
merge = record { number = 3; kind = Install; flushed = 1; epoch = 1; next_file = 3; removed = 1 ∷ []; added = file_of 2 1 ∷ [] }

-- file 1 goes once more
abbrev second_merge : Edit
second_merge = record { number = 4; kind = Install; flushed = 1; epoch = 1; next_file = 3; removed = 1 ∷ []; added = [] }

-- file 1 comes once more
abbrev second_flush : Edit
second_flush = record { number = 4; kind = Flush; flushed = 2; epoch = 1; next_file = 3; removed = []; added = file_of 1 0 ∷ [] }

-- an opening, a flush and a merge of the flushed file apply in turn
abbrev pub AMergeApplies : Type 0
AMergeApplies = Apply first_version (opening ∷ flush ∷ merge ∷ [])

abbrev merged : VersionValue
merged = after_edits first_version (opening ∷ flush ∷ merge ∷ [])

-- after them an edit that removes the merged file again is refused: there is no such file
abbrev pub ASecondRemovalDoesNot : Type 0
ASecondRemovalDoesNot = apply_fault merged second_merge ≡ Some NoSuchFile

-- and so is one that adds a file under its number again: the number was given
abbrev pub AGivenNumberDoesNot : Type 0
AGivenNumberDoesNot = apply_fault merged second_flush ≡ Some FileExists
