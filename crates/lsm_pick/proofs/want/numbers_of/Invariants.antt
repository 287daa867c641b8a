use Rattle.std.proofs.Common.{◌≡◌, map, take}
use Rattle.std.specs.List.{filter}
use Rattle.lsm_edit.specs.declared.file.FileMeta.{FileMeta}
use Rattle.lsm_pick.specs.Reach.{is_taken, candidate_of}
use Rattle.lsm_pick.proofs.want.numbers_of.Given as goal

abbrev pub invariant-loop-file : goal.invariant-loop-file
invariant-loop-file l = l.numbers.items ≡ map (λ (f : FileMeta). f.number) (filter (is_taken (candidate_of l.first l.older_only) l.reach.lo.now l.reach.hi.now) (take l.file-index l.files))
