use Rattle.std.proofs.Common.{◌≡◌, not, take}
use Rattle.std.specs.List.{filter}
use Rattle.lsm_follow.specs.Pending.{has_come}
use Rattle.lsm_follow.proofs.follower.Follower.missing_of.Given as goal

abbrev pub invariant-loop-file : goal.invariant-loop-file
invariant-loop-file l = l.missing.items ≡ filter (λ f. not (has_come l.self f)) (take l.file-index l.file-items)
