use Rattle.std.proofs.Common.{refl, subst}
use Rattle.lsm_follow.specs.Followers.{TakesMissing}
use Rattle.lsm_follow.specs.Pending.{IsFollower}
use Rattle.lsm_follow.proofs.Onward.{answers_onward, table_onward}
use Rattle.lsm_follow.proofs.follower.Follower.on_message.Goals as goal

pub returns-in-Table-clause-onward : goal.returns-in-Table-clause-onward
returns-in-Table-clause-onward c =
    let s = c.args.self.now in
    let is = subst IsFollower c.self.view_is c.self.invariant in
    answers_onward s c.on_table.new.self (TakesMissing s c.in-Table.file c.in-Table.bytes s.pending) (λ o h. table_onward s c.in-Table.file c.in-Table.bytes o is s.pending refl h) (λ r. r.0) (λ r. r.1.items) c.on_table.result c.on_table.ensures.ok c.on_table.ensures.err
