use Rattle.std.proofs.Common.{◌≡◌, ℕ, ◌+◌, ◌-◌, ◌^◌, arith, ap, sym, length, List, ◌∙◌}
use Rattle.std.specs.Prelude.{min}
use Rattle.std.specs.List.{flat_map}
use Rattle.lsm_edit.specs.declared.file.FileMeta.{FileMeta}
use Rattle.lsm_edit.specs.File.{file, size}
use Rattle.lsm_edit.proofs.TextSizes.{base_long}
use Rattle.lsm_edit.proofs.VersionFiles.{all_files}
use Rattle.lsm_edit.proofs.base.base_bytes.Goals as goal

pub files_bytes-requires : goal.files_bytes-requires
files_bytes-requires c = rw c.files.ensures.all (all_files c.args.version.now.files c.files.ensures.sound.files)

pub returns : goal.returns
returns c =
    let v = c.args.version.now in
    let files = c.files_bytes.ensures ∙ ap (λ (fs : List FileMeta). size (flat_map file fs)) c.files.ensures.all in
    let made : c.saturating_add.result ≡ min (36 + length (flat_map file v.files)) (2 ^ 64 - 1) = omega (arith, c.saturating_add.ensures, files) in
    made ∙ ap (λ (n : ℕ). min n (2 ^ 64 - 1)) (sym (base_long v))
