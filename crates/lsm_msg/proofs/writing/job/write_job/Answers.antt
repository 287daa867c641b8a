use Rattle.std.proofs.Common.{rules, ap, List, ◌++◌, ◌∙◌, length}
use Rattle.std.specs.Int.{w8, w16, w32, to_be_bytes}
use Rattle.std.specs.List.{flat_map}
use Rattle.lsm_key.specs.declared.range.KeyRange.{KeyRange}
use Rattle.lsm_edit.specs.declared.file.FileMeta.{FileMeta}
use Rattle.lsm_edit.specs.File.{file}
use Rattle.lsm_edit.proofs.JoinedBytes.{six}
use Rattle.lsm_msg.specs.Messages.{job_id, points, ranges}
use Rattle.lsm_msg.proofs.writing.job.write_job.Goals as goal

pub returns : goal.returns
returns c =
    let j = c.args.j.now in
    six c.args.out.now.items (job_id j.id) (to_be_bytes w8 j.level) (to_be_bytes w32 j.block) (points j.points) (to_be_bytes w16 (length j.inputs) ++ flat_map file j.inputs) (ranges j.deeper)
    c.write_job_id.new.out.items c.put_u8.new.self.items c.put_u32.new.self.items c.write_points.new.out.items c.write_inputs.new.out.items c.write_ranges.new.out.items
    (search rules) (search rules) (search rules) (search rules)
    (c.in_ok-write_inputs.ensures ∙ ap (λ (fs : List FileMeta). c.write_points.new.out.items ++ (to_be_bytes w16 (length fs) ++ flat_map file fs)) c.inputs.ensures.all)
    (c.in_ok-write_ranges.ensures ∙ ap (λ (rs : List KeyRange). c.write_inputs.new.out.items ++ ranges rs) c.deeper.ensures.all)
