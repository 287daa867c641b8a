use Rattle.std.proofs.Common.{◌≡◌, ℕ, ◌+◌, ◌*◌, ◌-◌, ◌^◌, arith, ap, sym, length, List, ◌∙◌}
use Rattle.std.specs.Prelude.{min}
use Rattle.std.specs.List.{flat_map}
use Rattle.lsm_edit.specs.declared.file.FileMeta.{FileMeta}
use Rattle.lsm_edit.specs.File.{file, size}
use Rattle.lsm_edit.proofs.TextSizes.{edit_long}
use Rattle.lsm_edit.proofs.edit.edit_bytes.Goals as goal

pub returns : goal.returns
returns c =
    let long = edit_long c.args.e.now in
    let files = c.files_bytes.ensures ∙ ap (λ (fs : List FileMeta). size (flat_map file fs)) c.as_slice-2.ensures in
    let removed = ap length c.as_slice.ensures in
    let made : c.saturating_add.result ≡ min (41 + 8 * length c.args.e.now.removed + length (flat_map file c.args.e.now.added)) (2 ^ 64 - 1) = omega (arith, c.saturating_add.ensures, files, removed) in
    made ∙ ap (λ (n : ℕ). min n (2 ^ 64 - 1)) (sym long)
