use Rattle.std.proofs.Common.{◌≡◌, [], ◌∷◌, List, arith, length, length-append, rules, subst, take}
use Rattle.std.specs.List.{zip}
use Rattle.std.proofs.lemmas.List.{take_all, take_more}
use Rattle.std.proofs.lemmas.List.Elements.{All-append}
use Rattle.lsm_work.proofs.Steps.{All-one}
use Rattle.lsm_world.specs.declared.event.Event.{Event}
use Rattle.lsm_key.specs.declared.limits.Limits.{Limits}
use Rattle.lsm_coord.specs.Model.Run.{Run}
use Rattle.lsm_coord.specs.Model.State.{State, first_state}
use Rattle.lsm_world.specs.Schedules.{AskedAll, IsNew, IsPlain, IsTraced, RunsTo, model_steps}
use Rattle.lsm_world.proofs.HeadlineClauses.{follower_reads_newest, one_answer, one_listing, reads_newest, scans_newest}
use Rattle.lsm_world.proofs.RunningSchedules.{asked_more, counted_more, runs_more, traced_more, zip_more}
use Rattle.lsm_world.proofs.world.World.run.Given.{Over}
use Rattle.lsm_world.proofs.world.World.run.Goals as goal

pub loop-event-preserved : goal.loop-event-preserved
loop-event-preserved g c =
    let more = take_more c.args.events.now c.loop-event.event-index c.event-item.result c.loop-event-test.true in
    let done = take c.loop-event.event-index c.args.events.now in
    let is = c.loop-event.invariant in
    let one = c.step_of-reply.ensures in
    let both = zip_more done c.loop-event.replies.items c.event-item.result c.step_of-reply.result is.each in
    record {
      each = rw (more, ← c.event-item.is, c.push_reserved.ensures.items, length-append c.loop-event.replies.items (c.step_of-reply.result ∷ []), length-append done (c.event-item.result ∷ [])) (omega (arith, is.each));
      asks = rw (more, ← c.event-item.is, c.push_reserved.ensures.items, both) (asked_more _ _ _ _ _ _ is.asks one.asks);
      run = rw (more, ← c.event-item.is, c.push_reserved.ensures.items, both) (runs_more c.args.self.now.nodes c.loop-event.self.nodes c.step_of-reply.new.self.nodes _ _ _ is.run one.step);
      counted = rw c.push_reserved.ensures.items (counted_more c.loop-event.replies.items c.step_of-reply.result _ _ _ is.counted one.counted);
      trace = rw (more, ← c.event-item.is, c.push_reserved.ensures.items, both) (traced_more c.args.self.now.trace c.loop-event.self.trace c.step_of-reply.new.self.trace (zip done c.loop-event.replies.items) _ _ is.trace one.trace);
      plain = rw c.push_reserved.ensures.items (All-append IsPlain c.loop-event.replies.items _ is.plain (All-one IsPlain c.step_of-reply.result one.plain));
      count = search rules;
      room = search rules;
    }

-- at its end the loop has taken each event
all_taken : (g : Over) (c : goal.After-known-2 g) → take c.loop-event.event-index c.args.events.now ≡ c.args.events.now
all_taken g c = take_all c.loop-event.event-index c.args.events.now (omega (arith, c.loop-event-test.false))

run_of_all : (g : Over) (c : goal.After-known-2 g) → RunsTo c.args.self.now.nodes (zip c.args.events.now c.loop-event.replies.items) c.loop-event.self.nodes
run_of_all g c = subst (λ (es : List Event). RunsTo c.args.self.now.nodes (zip es c.loop-event.replies.items) c.loop-event.self.nodes) (all_taken g c) c.loop-event.invariant.run

pub returns-clause-each : goal.returns-clause-each
returns-clause-each g c = subst (λ (es : List Event). length c.loop-event.replies.items ≡ length es) (all_taken g c) c.loop-event.invariant.each

pub returns-clause-asks : goal.returns-clause-asks
returns-clause-asks g c = subst (λ (es : List Event). AskedAll c.args.self.now.nodes (zip es c.loop-event.replies.items) c.loop-event.self.nodes) (all_taken g c) c.loop-event.invariant.asks

pub returns-clause-run : goal.returns-clause-run
returns-clause-run g c = run_of_all g c

pub returns-clause-trace : goal.returns-clause-trace
returns-clause-trace g c = subst (λ (es : List Event). IsTraced c.args.self.now.trace (zip es c.loop-event.replies.items) c.loop-event.self.trace) (all_taken g c) c.loop-event.invariant.trace

-- the events with their replies, as a run of a new world
run_of_new : (g : Over) (c : goal.After-known-2 g) → (due : Limits) → IsNew due c.args.self.now → (t : State) × Run first_state (model_steps (zip c.args.events.now c.loop-event.replies.items)) t
run_of_new g c due new = let then = run_of_all g c first_state new.4 in (then.0, then.1)

pub returns-clause-reads : goal.returns-clause-reads
returns-clause-reads g c = λ due new. let run = run_of_new g c due new in reads_newest _ run.0 run.1

pub returns-clause-scans : goal.returns-clause-scans
returns-clause-scans g c = λ due new. let run = run_of_new g c due new in scans_newest _ run.0 run.1

pub returns-clause-follower_reads : goal.returns-clause-follower_reads
returns-clause-follower_reads g c = λ due new. let run = run_of_new g c due new in follower_reads_newest _ run.0 run.1

pub returns-clause-one_listing : goal.returns-clause-one_listing
returns-clause-one_listing g c = λ due new. let run = run_of_new g c due new in one_listing _ run.0 run.1

pub returns-clause-one_answer : goal.returns-clause-one_answer
returns-clause-one_answer g c = λ due new. let run = run_of_new g c due new in one_answer _ run.0 run.1
