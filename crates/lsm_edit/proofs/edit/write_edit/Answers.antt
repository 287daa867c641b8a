use Rattle.std.proofs.Common.{sym, subst, List, length, ◌<◌, ◌^◌}
use Rattle.std.specs.List.{All}
use Rattle.lsm_edit.specs.declared.file.FileMeta.{FileMeta}
use Rattle.lsm_edit.specs.File.{IsFile}
use Rattle.lsm_edit.proofs.EditLaws.{added_small, added_files}
use Rattle.lsm_edit.proofs.edit.write_edit.Goals as goal

pub write_files-requires-clause-sound : goal.write_files-requires-clause-sound
write_files-requires-clause-sound c = subst (λ (files : List FileMeta). All IsFile files) (sym c.as_slice.ensures) (added_files c.args.e.now.kind c.args.e.now.added c.requires.added)

pub write_files-requires-clause-few : goal.write_files-requires-clause-few
write_files-requires-clause-few c = subst (λ (files : List FileMeta). length files < 2 ^ 32) (sym c.as_slice.ensures) (added_small c.args.e.now.kind c.args.e.now.added c.requires.added)
