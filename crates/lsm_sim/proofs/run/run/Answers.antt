use Rattle.std.proofs.Common.{◌++◌, [], refl, sym, ◌∙◌, rules}
use Rattle.std.proofs.KnownBytes.{Appends-nil, Keeps-refl}
use Rattle.std.proofs.lemmas.List.{nil_from_length}
use Rattle.lsm_key.proofs.Results.{on_err}
use Rattle.lsm_script.specs.Replies.{line}
use Rattle.lsm_sim.proofs.RunSteps.{happens_none, IsSoFar-step, IsSoFar-written, IsSoFar-end, done_more, on_ok}
use Rattle.lsm_sim.proofs.StoppedRuns.{IsSoFar-stops, IsSoFar-halts}
use Rattle.lsm_sim.proofs.run.run.Goals as goal

pub loop-event-init : goal.loop-event-init
loop-event-init g c = record {
  all = c.into_iter-event-iterator.ensures.into_iter_gives.0;
  so = record {
    steps = [];
    happens = happens_none c.args.world.now.nodes;
    done = [];
    wrote = Appends-nil (g.W.Write.contents c.args.writer.now);
    text = rw c.new-out.ensures.items refl;
  };
}

pub loop-event-preserved-then-len-ge-BUFFER_BYTES : goal.loop-event-preserved-then-len-ge-BUFFER_BYTES
loop-event-preserved-then-len-ge-BUFFER_BYTES g c =
    let was = g.W.Write.contents c.args.writer.now in
    let held = g.W.Write.contents c.loop-event.writer in
    let out = c.write_line.new.out.items in
    let all = done_more c.loop-event.yielded c.loop-event.event-iterator.rest.items c.next.new.self.rest.items c.args.events.items c.in-Some.event c.loop-event.invariant.all c.in-Some.ensures.steps.0 in
    let so = IsSoFar-step c.args.world.now.nodes c.loop-event.world.nodes c.step-reply.new.self.nodes c.loop-event.yielded c.in-Some.event c.step-reply.result was held c.loop-event.out.items out c.loop-event.invariant.so c.step-reply.ensures.asks c.step-reply.ensures.step c.in_ok-write_line.ensures in
    record { all = all; so = IsSoFar-written c.args.world.now.nodes c.step-reply.new.self.nodes _ was held (g.W.Write.contents c.write_all.new.writer) (g.W.Write.contents c.write_all.new.writer) out c.deref.result.now c.clear.new.self.items so c.deref.ensures.value c.in_ok-write_all.ensures.ok refl (search rules) }

pub loop-event-preserved : goal.loop-event-preserved
loop-event-preserved g c =
    let was = g.W.Write.contents c.args.writer.now in
    let held = g.W.Write.contents c.loop-event.writer in
    let out = c.write_line.new.out.items in
    let all = done_more c.loop-event.yielded c.loop-event.event-iterator.rest.items c.next.new.self.rest.items c.args.events.items c.in-Some.event c.loop-event.invariant.all c.in-Some.ensures.steps.0 in
    let so = IsSoFar-step c.args.world.now.nodes c.loop-event.world.nodes c.step-reply.new.self.nodes c.loop-event.yielded c.in-Some.event c.step-reply.result was held c.loop-event.out.items out c.loop-event.invariant.so c.step-reply.ensures.asks c.step-reply.ensures.step c.in_ok-write_line.ensures in
    record { all = all; so = so }

pub returns-in_err-write_line-clause-err : goal.returns-in_err-write_line-clause-err
returns-in_err-write_line-clause-err g c =
    let was = g.W.Write.contents c.args.writer.now in
    let held = g.W.Write.contents c.loop-event.writer in
    let out = c.loop-event.out.items ++ line c.step-reply.result in
    let all = done_more c.loop-event.yielded c.loop-event.event-iterator.rest.items c.next.new.self.rest.items c.args.events.items c.in-Some.event c.loop-event.invariant.all c.in-Some.ensures.steps.0 in
    let so = IsSoFar-step c.args.world.now.nodes c.loop-event.world.nodes c.step-reply.new.self.nodes c.loop-event.yielded c.in-Some.event c.step-reply.result was held c.loop-event.out.items out c.loop-event.invariant.so c.step-reply.ensures.asks c.step-reply.ensures.step refl in
    on_err c.from_residual.result _ (IsSoFar-halts c.args.world.now.nodes c.step-reply.new.self.nodes _ c.next.new.self.rest.items c.args.events.items was held held out all so (Keeps-refl held))

pub returns-in_err-write_all-clause-err : goal.returns-in_err-write_all-clause-err
returns-in_err-write_all-clause-err g c =
    let was = g.W.Write.contents c.args.writer.now in
    let held = g.W.Write.contents c.loop-event.writer in
    let out = c.write_line.new.out.items in
    let all = done_more c.loop-event.yielded c.loop-event.event-iterator.rest.items c.next.new.self.rest.items c.args.events.items c.in-Some.event c.loop-event.invariant.all c.in-Some.ensures.steps.0 in
    let so = IsSoFar-step c.args.world.now.nodes c.loop-event.world.nodes c.step-reply.new.self.nodes c.loop-event.yielded c.in-Some.event c.step-reply.result was held c.loop-event.out.items out c.loop-event.invariant.so c.step-reply.ensures.asks c.step-reply.ensures.step c.in_ok-write_line.ensures in
    on_err c.from_residual-in_err-write_all.result _ (IsSoFar-stops c.args.world.now.nodes c.step-reply.new.self.nodes _ c.next.new.self.rest.items c.args.events.items was held (g.W.Write.contents c.write_all.new.writer) out c.deref.result.now all so c.deref.ensures.value c.in_err-write_all.ensures.err)

pub returns-in_err-write_all-2-clause-err : goal.returns-in_err-write_all-2-clause-err
returns-in_err-write_all-2-clause-err g c =
    let was = g.W.Write.contents c.args.writer.now in
    let held = g.W.Write.contents c.loop-event.writer in
    on_err c.from_residual-in_err-write_all-2.result _ (IsSoFar-stops c.args.world.now.nodes c.loop-event.world.nodes c.loop-event.yielded c.loop-event.event-iterator.rest.items c.args.events.items was held (g.W.Write.contents c.write_all-2.new.writer) c.loop-event.out.items c.deref-2.result.now c.loop-event.invariant.all c.loop-event.invariant.so c.deref-2.ensures.value c.in_err-write_all-2.ensures.err)

pub returns-clause-ok : goal.returns-clause-ok
returns-clause-ok g c =
    let was = g.W.Write.contents c.args.writer.now in
    let held = g.W.Write.contents c.loop-event.writer in
    let after = g.W.Write.contents c.write_all-2.new.writer in
    let rest = c.loop-event.event-iterator.rest in
    let empty = nil_from_length rest.items (sym rest.ok.0 ∙ c.in-None.ensures.steps.0) in
    let so = IsSoFar-written c.args.world.now.nodes c.loop-event.world.nodes _ was held after after c.loop-event.out.items c.deref-2.result.now [] c.loop-event.invariant.so c.deref-2.ensures.value c.in_ok-write_all-2.ensures.ok refl refl in
    on_ok c.map_err.result _ (IsSoFar-end c.args.world.now.nodes c.loop-event.world.nodes c.loop-event.yielded c.loop-event.event-iterator.rest.items c.args.events.items was after (g.W.Write.contents c.flush.new.self) [] c.loop-event.invariant.all empty so refl c.flush.ensures.bytes)

pub returns-clause-err : goal.returns-clause-err
returns-clause-err g c =
    let was = g.W.Write.contents c.args.writer.now in
    let held = g.W.Write.contents c.loop-event.writer in
    let after = g.W.Write.contents c.write_all-2.new.writer in
    let so = IsSoFar-written c.args.world.now.nodes c.loop-event.world.nodes _ was held after after c.loop-event.out.items c.deref-2.result.now [] c.loop-event.invariant.so c.deref-2.ensures.value c.in_ok-write_all-2.ensures.ok refl refl in
    on_err c.map_err.result _ (IsSoFar-halts c.args.world.now.nodes c.loop-event.world.nodes c.loop-event.yielded c.loop-event.event-iterator.rest.items c.args.events.items was after (g.W.Write.contents c.flush.new.self) [] c.loop-event.invariant.all so c.flush.ensures.bytes)
