-- The follower is taken from its place, and put back as it became.
use Rattle.std.proofs.lemmas.Result.{IfOk-weaker, on_err_weaker}
use Rattle.lsm_follow.specs.Followers.{TakesBody}
use Rattle.lsm_world.specs.Inner.Working.{HasFollowed}
use Rattle.lsm_world.proofs.FourPlaces.{put_back, put_back_same}
use Rattle.lsm_world.proofs.network.followers.tell.Goals as goal

pub returns-clause-ok : goal.returns-clause-ok
returns-clause-ok c =
    IfOk-weaker c.on_message-done.result
    (λ r. TakesBody c.replace-follower.result c.args.message.now.body (record { change = r.0; sent = r.1.items; follower = c.on_message-done.new.self }))
    (λ r. HasFollowed c.args.followers.now c.args.index c.args.message.now.body r.0 r.1.items c.replace.new.self)
    (λ r follows. record {
      before = c.replace-follower.result;
      after = c.on_message-done.new.self;
      is_there = c.replace-follower.ensures.before;
      follows = follows;
      new_is = put_back c.args.followers.now c.replace-follower.new.self c.replace.new.self c.args.index c.new.result c.on_message-done.new.self c.replace-follower.ensures.after c.replace.ensures.after;
    })
    c.on_message-done.ensures.ok

pub returns-clause-err : goal.returns-clause-err
returns-clause-err c =
    on_err_weaker c.on_message-done.result
    (λ same. put_back_same c.args.followers.now c.replace-follower.new.self c.replace.new.self c.args.index c.new.result c.replace-follower.result c.on_message-done.new.self c.replace-follower.ensures.before c.replace-follower.ensures.after c.replace.ensures.after same)
    c.on_message-done.ensures.err
