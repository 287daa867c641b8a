-- The edits that follow a version (LevelDB, version_edit.h).
use Rattle.std.specs.Prelude.{ℕ, ◌+◌, List, [], ◌∷◌}
use Rattle.lsm_edit.specs.declared.file.FileMeta.{FileMeta}
use Rattle.lsm_edit.specs.declared.edit.Edit.{Edit}
use Rattle.lsm_edit.specs.declared.edit.EditKind.TheVariants.{Flush, Install, Epoch}
use Rattle.lsm_edit.specs.Version.{VersionValue}

-- a new file takes in the writes up to a sequence
abbrev pub flush_edit : VersionValue → ℕ → FileMeta → Edit
flush_edit v flushed f = record { number = v.number + 1; kind = Flush; flushed = flushed; epoch = v.epoch; next_file = v.next_file + 1; removed = []; added = f ∷ [] }

-- a coordinator opens the store
abbrev pub epoch_edit : VersionValue → Edit
epoch_edit v = record { number = v.number + 1; kind = Epoch; flushed = v.flushed; epoch = v.epoch + 1; next_file = v.next_file; removed = []; added = [] }

-- the number after those of files with ascending numbers, or the given one if there are none
abbrev pub number_after : ℕ → List FileMeta → ℕ
number_after n [] = n
number_after n (f ∷ fs) = number_after (f.number + 1) fs

-- new files replace others
abbrev pub install_edit : VersionValue → List ℕ → List FileMeta → Edit
install_edit v removed added = record { number = v.number + 1; kind = Install; flushed = v.flushed; epoch = v.epoch; next_file = number_after v.next_file added; removed = removed; added = added }
