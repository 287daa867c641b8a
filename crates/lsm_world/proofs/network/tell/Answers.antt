-- The worker is taken from its place, and put back as it became.
use Rattle.std.proofs.lemmas.Result.{IfOk-weaker, on_err_weaker}
use Rattle.lsm_work.specs.Workers.{Works}
use Rattle.lsm_world.specs.Inner.Working.{HasWorked}
use Rattle.lsm_world.proofs.FourPlaces.{put_back, put_back_same}
use Rattle.lsm_world.proofs.network.tell.Goals as goal

pub returns-clause-ok : goal.returns-clause-ok
returns-clause-ok c =
    IfOk-weaker c.on_message-done.result
    (λ r. Works c.replace-worker.result c.args.message.now.body (record { change = r.0; sent = r.1.items; worker = c.on_message-done.new.self }))
    (λ r. HasWorked c.args.workers.now c.args.index c.args.message.now.body r.0 r.1.items c.replace.new.self)
    (λ r works. record {
      before = c.replace-worker.result;
      after = c.on_message-done.new.self;
      is_there = c.replace-worker.ensures.before;
      works = works;
      new_is = put_back c.args.workers.now c.replace-worker.new.self c.replace.new.self c.args.index c.new.result c.on_message-done.new.self c.replace-worker.ensures.after c.replace.ensures.after;
    })
    c.on_message-done.ensures.ok

pub returns-clause-err : goal.returns-clause-err
returns-clause-err c =
    on_err_weaker c.on_message-done.result
    (λ same. put_back_same c.args.workers.now c.replace-worker.new.self c.replace.new.self c.args.index c.new.result c.replace-worker.result c.on_message-done.new.self c.replace-worker.ensures.before c.replace-worker.ensures.after c.replace.ensures.after same)
    c.on_message-done.ensures.err
