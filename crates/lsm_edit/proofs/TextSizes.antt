-- How long the texts of edits and bases are.
use Rattle.std.proofs.Common.{◌≡◌, ℕ, ◌+◌, ◌*◌, ◌≤◌, List, [], ◌∷◌, length, refl, arith}
use Rattle.std.specs.List.{flat_map}
use Rattle.std.specs.Int.{w64, to_be_bytes}
use Rattle.std.proofs.lemmas.List.{length-append}
use Rattle.lsm_edit.specs.declared.edit.Edit.{Edit}
use Rattle.lsm_edit.specs.declared.file.FileMeta.{FileMeta}
use Rattle.lsm_edit.specs.File.{file}
use Rattle.lsm_edit.specs.Edit.{added_bytes, edit}
use Rattle.lsm_edit.specs.Base.{base}
use Rattle.lsm_edit.specs.Version.{VersionValue}

pub numbers_long : (ns : List ℕ) → length (flat_map (to_be_bytes w64) ns) ≡ 8 * length ns
numbers_long [] = refl
numbers_long (n ∷ ns) = (let rest = numbers_long ns in omega (arith, rest))

pub edit_long : (e : Edit) → length (edit e) ≡ 41 + 8 * length e.removed + length (flat_map file e.added)
edit_long e =
    let parts = length-append (flat_map (to_be_bytes w64) e.removed) (added_bytes e.added) in
    let removed = numbers_long e.removed in
    omega (arith, parts, removed)

pub base_long : (v : VersionValue) → length (base v) ≡ 36 + length (flat_map file v.files)
base_long v = omega arith

pub files_long : (files : List FileMeta) → length files ≤ length (flat_map file files)
files_long [] = omega arith
files_long (f ∷ files) = (let rest = files_long files in let parts = length-append (file f) (flat_map file files) in omega (arith, rest, parts))
