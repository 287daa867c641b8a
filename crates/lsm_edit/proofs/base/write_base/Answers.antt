use Rattle.std.proofs.Common.{rules, ap, List, ◌++◌, ◌∙◌, sym, subst, length, ◌<◌, ◌^◌}
use Rattle.std.specs.Int.{w64, to_be_bytes}
use Rattle.lsm_edit.specs.declared.file.FileMeta.{FileMeta}
use Rattle.lsm_edit.specs.Edit.{added_bytes}
use Rattle.lsm_edit.proofs.JoinedBytes.{five}
use Rattle.lsm_edit.proofs.VersionFiles.{all_files}
use Rattle.lsm_edit.proofs.base.write_base.Goals as goal

pub write_files-requires-clause-sound : goal.write_files-requires-clause-sound
write_files-requires-clause-sound c = rw c.files.ensures.all (all_files c.args.version.now.files c.files.ensures.sound.files)

pub write_files-requires-clause-few : goal.write_files-requires-clause-few
write_files-requires-clause-few c = subst (λ (fs : List FileMeta). length fs < 2 ^ 32) (sym c.files.ensures.all) c.requires.few

pub returns : goal.returns
returns c =
    let v = c.args.version.now in
    five c.args.out.now.items (to_be_bytes w64 v.number) (to_be_bytes w64 v.flushed) (to_be_bytes w64 v.epoch) (to_be_bytes w64 v.next_file) (added_bytes v.files)
    c.put_u64.new.self.items c.put_u64-2.new.self.items c.put_u64-3.new.self.items c.put_u64-4.new.self.items c.write_files.new.out.items
    (search rules) (search rules) (search rules) (search rules)
    (c.in_ok-write_files.ensures ∙ ap (λ (fs : List FileMeta). c.put_u64-4.new.self.items ++ added_bytes fs) c.files.ensures.all)
