use Rattle.std.proofs.Common.{◌≡◌, All, not, take}
use Rattle.std.specs.List.{filter}
use Rattle.lsm_key.specs.Sets.{is_among}
use Rattle.lsm_msg.specs.Messages.{IsMessage, fetches}
use Rattle.lsm_msg.specs.declared.node.Node.TheVariants.{Worker}
use Rattle.lsm_work.proofs.task.Task.fetches.Given as goal

-- the inputs looked at that have not come are asked for
abbrev pub invariant-loop-file : goal.invariant-loop-file
invariant-loop-file l = (l.sent.items ≡ fetches (Worker l.index) (filter (λ f. not (is_among l.self-inside.numbers.items f.number)) (take l.file-index l.file-items))) × All IsMessage l.sent.items
