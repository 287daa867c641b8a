use Rattle.std.proofs.lemmas.Slice.Eq.{slice_eq-Decides}
use Rattle.lsm_edit.specs.File.{same_file}
use Rattle.lsm_edit.proofs.SameFiles.{file_Decides}
use Rattle.lsm_edit.proofs.file.same_files.Goals as goal

pub returns : goal.returns
returns c = slice_eq-Decides {E = same_file} file_Decides c.args.files.now c.args.others.now c.eq.result c.eq.ensures
