use Rattle.std.proofs.Common.{◌≡◌, ℕ, ◌+◌, ◌*◌, ◌-◌, ◌^◌, arith, ap, sym, length, List, ◌∙◌}
use Rattle.std.specs.Prelude.{min}
use Rattle.std.specs.List.{flat_map}
use Rattle.lsm_key.specs.declared.range.KeyRange.{KeyRange}
use Rattle.lsm_edit.specs.declared.file.FileMeta.{FileMeta}
use Rattle.lsm_edit.specs.File.{file, size}
use Rattle.lsm_msg.specs.Messages.{range}
use Rattle.lsm_msg.proofs.MessageSizes.{job_long}
use Rattle.lsm_msg.proofs.writing.job.job_bytes.Goals as goal

pub returns : goal.returns
returns c =
    let j = c.args.j.now in
    let files = c.files_bytes.ensures ∙ ap (λ (fs : List FileMeta). size (flat_map file fs)) c.inputs.ensures.all in
    let rs = c.ranges_bytes.ensures ∙ ap (λ (rs : List KeyRange). size (flat_map range rs)) c.deeper.ensures.all in
    let ps = ap length c.points.ensures.all in
    let made : c.saturating_add-2.result ≡ min (28 + 8 * length j.points + length (flat_map file j.inputs) + length (flat_map range j.deeper)) (2 ^ 64 - 1) =
    omega (arith, c.saturating_add.ensures, c.saturating_add-2.ensures, files, rs, ps) in
    made ∙ ap (λ (n : ℕ). min n (2 ^ 64 - 1)) (sym (job_long j))
