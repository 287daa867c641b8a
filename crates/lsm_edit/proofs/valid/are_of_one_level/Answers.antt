use Rattle.std.proofs.Common.{◌≡◌, ◌∙◌, refl, arith}
use Rattle.lsm_edit.specs.declared.file.FileMeta.{FileMeta}
use Rattle.lsm_edit.proofs.AdjacentPairs.{from_adjacent}
use Rattle.lsm_edit.proofs.valid.are_of_one_level.Goals as goal

pub returns : goal.returns
returns c = (λ _. from_adjacent (λ (f g : FileMeta). f.level ≡ g.level) (λ x y z h k. h ∙ k) c.args.files.now (λ k d within. c.loop-i.invariant k d (omega arith)), λ _. refl)
