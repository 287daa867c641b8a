-- A follower that is started anew is at version 0.
use Rattle.std.proofs.Common.{List, ap, refl}
use Rattle.lsm_follow.specs.Followers.{FollowerValue}
use Rattle.lsm_world.specs.Nodes.{NetworkValue}
use Rattle.lsm_world.proofs.FollowersInPlace.{reset_in_place, reset_keeps}
use Rattle.lsm_world.proofs.network.Network.restart_follower.Goals as goal

pub returns-clause-asks : goal.returns-clause-asks
returns-clause-asks c =
    let old : NetworkValue = record { workers = c.self.inside.workers; followers = c.self.inside.followers; messages = c.self.inside.messages } in
    let place = reset_in_place old c.args.index c.replace-follower.result c.new.result c.restart.new.self c.replace-follower.new.self c.replace.new.self c.replace-follower.ensures.before c.replace-follower.ensures.after c.restart.ensures c.replace.ensures.after in
    rw (← c.self.view_is) (refl, (c.replace-follower.result, c.replace-follower.ensures.before, ap (λ (followers : List FollowerValue). record old { followers = followers }) place))

pub returns-clause-keeps : goal.returns-clause-keeps
returns-clause-keeps c =
    rw (← c.self.view_is) (reset_keeps _ c.args.index c.replace-follower.result c.new.result c.restart.new.self c.replace-follower.new.self c.replace.new.self c.replace-follower.ensures.before c.replace-follower.ensures.after c.restart.ensures c.replace.ensures.after)
