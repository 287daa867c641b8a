use Rattle.std.proofs.Common.{◌≡◌, ◌++◌, drop, map}
use Rattle.lsm_edit.specs.declared.file.FileMeta.{FileMeta}
use Rattle.lsm_pick.specs.Rule.{inputs_of}
use Rattle.lsm_coord.proofs.job.inputs_of.Given as goal

abbrev pub invariant-loop-file : goal.invariant-loop-file
invariant-loop-file l =
    (l.inputs.items ++ inputs_of (drop l.file-index l.files) l.want ≡ inputs_of l.files l.want)
    × (drop l.next l.numbers ≡ map (λ (f : FileMeta). f.number) (inputs_of (drop l.file-index l.files) l.want))
