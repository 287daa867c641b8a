use Rattle.std.proofs.Common.{◌≡◌, All, take}
use Rattle.lsm_msg.specs.declared.node.Node.TheVariants.{Follower}
use Rattle.lsm_msg.specs.Messages.{IsMessage, fetches}
use Rattle.lsm_follow.proofs.pending.fetches.Given as goal

abbrev pub invariant-loop-file : goal.invariant-loop-file
invariant-loop-file l = (l.sent.items ≡ fetches (Follower l.index) (take l.file-index l.files)) × All IsMessage l.sent.items
