-- what is written, and what is left to write
use Rattle.std.proofs.Common.{◌≡◌, ◌++◌, drop}
use Rattle.std.specs.List.{flat_map}
use Rattle.lsm_serve.specs.Figures.{level_lines}
use Rattle.lsm_serve.proofs.answer.figures.write_levels.Given as goal

abbrev pub invariant-loop-level : goal.invariant-loop-level
invariant-loop-level g l =
    l.out.items ++ flat_map (level_lines l.store.served.version.files) (drop l.level-index l.levels) ≡ l.fn.out.items ++ flat_map (level_lines l.store.served.version.files) l.levels
