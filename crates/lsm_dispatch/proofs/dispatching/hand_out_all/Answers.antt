use Rattle.std.proofs.Common.{refl, ◌∙◌, arith}
use Rattle.std.proofs.lemmas.Result.{err_from_is_err_and}
use Rattle.lsm_dispatch.proofs.KeptSteps.{run_keeps_none, run_keeps_then}
use Rattle.lsm_dispatch.proofs.TurnSteps.{runs_none, runs_then, stops_later, waits_more, waits_none}
use Rattle.lsm_dispatch.proofs.dispatching.hand_out_all.Goals as goal

pub loop-number-init : goal.loop-number-init
loop-number-init g c = record {
  runs = λ input. runs_none c.args.crew.now c.args.coord.now input (g.W.Sink.contents c.args.writer.now);
  asks = waits_none c.args.crew.now c.args.coord.now;
  counted = omega arith;
  sound = refl;
  keeps = run_keeps_none c.args.crew.now c.args.coord.now;
}

pub loop-number-preserved : goal.loop-number-preserved
loop-number-preserved g c =
    let written = g.W.Sink.contents in
    record {
      runs = λ input. runs_then c.args.crew.now c.loop-number.crew c.hand_out_to.new.crew c.args.coord.now c.loop-number.coord c.hand_out_to.new.coord input input input (written c.args.writer.now) (written c.loop-number.writer) (written c.hand_out_to.new.writer) (c.loop-number.invariant.runs input) (c.in_ok-hand_out_to.ensures.ok input);
      asks = waits_more c.loop-number.number c.loop-number.crew c.hand_out_to.new.crew c.loop-number.coord c.hand_out_to.new.coord c.show-listing.ensures.fit c.loop-number.invariant.asks c.in_ok-hand_out_to.ensures.asks;
      counted = omega (arith, c.loop-number.invariant.counted, c.in_ok-hand_out_to.ensures.counted);
      sound = c.in_ok-hand_out_to.ensures.faults ∙ c.loop-number.invariant.sound;
      keeps = run_keeps_then c.args.crew.now c.loop-number.crew c.hand_out_to.new.crew c.args.coord.now c.loop-number.coord c.hand_out_to.new.coord c.loop-number.invariant.keeps c.in_ok-hand_out_to.ensures.keeps;
    }

pub returns-in_err-hand_out_to-clause-refused : goal.returns-in_err-hand_out_to-clause-refused
returns-in_err-hand_out_to-clause-refused g c =
    let written = g.W.Sink.contents in
    let p = err_from_is_err_and c.from_residual.result c.from_residual.ensures.1 in
    rw (p.1, p.2) (λ input. stops_later c.args.crew.now c.loop-number.crew c.args.coord.now c.loop-number.coord input input (written c.args.writer.now) (written c.loop-number.writer) (written c.hand_out_to.new.writer) c.in_err-hand_out_to.field-0.0 (c.loop-number.invariant.runs input) (c.in_err-hand_out_to.ensures.refused input))

pub returns-in_err-hand_out_to-clause-keeps : goal.returns-in_err-hand_out_to-clause-keeps
returns-in_err-hand_out_to-clause-keeps g c = run_keeps_then c.args.crew.now c.loop-number.crew c.hand_out_to.new.crew c.args.coord.now c.loop-number.coord c.hand_out_to.new.coord c.loop-number.invariant.keeps c.in_err-hand_out_to.ensures.keeps
