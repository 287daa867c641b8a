use Rattle.std.proofs.Common.{◌≡◌, false, refl, ◌∙◌, arith, inr, rules}
use Rattle.std.proofs.lemmas.Result.{err_from_is_err_and}
use Rattle.lsm_dispatch.specs.Crews.{has_busy}
use Rattle.lsm_dispatch.proofs.KeptSteps.{run_keeps_none, run_keeps_then}
use Rattle.lsm_dispatch.proofs.TurnSteps.{reads_no_more, runs_none, runs_then, stops_later}
use Rattle.lsm_dispatch.proofs.dispatching.run.Goals as goal

pub loop-turn-init : goal.loop-turn-init
loop-turn-init g c = record {
  runs = runs_none c.args.crew.now c.args.coord.now (g.R.Source.remaining c.args.reader.now) (g.W.Sink.contents c.args.writer.now);
  reads = omega arith;
  writes = omega arith;
  read_faults = refl;
  write_faults = refl;
  keeps = run_keeps_none c.args.crew.now c.args.coord.now;
}

pub loop-turn-preserved : goal.loop-turn-preserved
loop-turn-preserved g c =
    let left = g.R.Source.remaining in
    let written = g.W.Sink.contents in
    let first = runs_then c.args.crew.now c.loop-turn.crew c.hand_out_all.new.crew c.args.coord.now c.loop-turn.coord c.hand_out_all.new.coord (left c.args.reader.now) (left c.loop-turn.reader) (left c.loop-turn.reader) (written c.args.writer.now) (written c.loop-turn.writer) (written c.hand_out_all.new.writer) c.loop-turn.invariant.runs (c.in_ok-hand_out_all.ensures.ok (left c.loop-turn.reader)) in
    let kept = run_keeps_then c.args.crew.now c.loop-turn.crew c.hand_out_all.new.crew c.args.coord.now c.loop-turn.coord c.hand_out_all.new.coord c.loop-turn.invariant.keeps c.in_ok-hand_out_all.ensures.keeps in
    record {
      runs = runs_then c.args.crew.now c.hand_out_all.new.crew c.take_letter.new.crew c.args.coord.now c.hand_out_all.new.coord c.take_letter.new.coord (left c.args.reader.now) (left c.loop-turn.reader) (left c.take_letter.new.reader) (written c.args.writer.now) (written c.hand_out_all.new.writer) (written c.take_letter.new.writer) first c.in_ok-take_letter.ensures.ok;
      reads = omega (arith, c.loop-turn.invariant.reads, c.in_ok-take_letter.ensures.turns);
      writes = omega (arith, c.loop-turn.invariant.writes, c.in_ok-hand_out_all.ensures.counted, c.in_ok-take_letter.ensures.counted.1);
      read_faults = c.in_ok-take_letter.ensures.read_faults ∙ c.loop-turn.invariant.read_faults;
      write_faults = c.in_ok-take_letter.ensures.write_faults ∙ c.in_ok-hand_out_all.ensures.faults ∙ c.loop-turn.invariant.write_faults;
      keeps = run_keeps_then c.args.crew.now c.hand_out_all.new.crew c.take_letter.new.crew c.args.coord.now c.hand_out_all.new.coord c.take_letter.new.coord kept c.in_ok-take_letter.ensures.keeps;
    }

pub returns-in_err-hand_out_all-clause-refused : goal.returns-in_err-hand_out_all-clause-refused
returns-in_err-hand_out_all-clause-refused g c =
    let left = g.R.Source.remaining in
    let written = g.W.Sink.contents in
    let p = err_from_is_err_and c.from_residual.result c.from_residual.ensures.1 in
    rw (p.1, p.2) (stops_later c.args.crew.now c.loop-turn.crew c.args.coord.now c.loop-turn.coord (left c.args.reader.now) (left c.loop-turn.reader) (written c.args.writer.now) (written c.loop-turn.writer) (written c.hand_out_all.new.writer) c.in_err-hand_out_all.field-0.0 c.loop-turn.invariant.runs (c.in_err-hand_out_all.ensures.refused (left c.loop-turn.reader)))

pub returns-in_err-hand_out_all-clause-counted : goal.returns-in_err-hand_out_all-clause-counted
returns-in_err-hand_out_all-clause-counted g c =
    let p = err_from_is_err_and c.from_residual.result c.from_residual.ensures.1 in
    let said = c.in_err-hand_out_all.ensures.counted in
    rw (p.1, p.2) (omega (arith, c.loop-turn.invariant.reads), omega (arith, c.loop-turn.invariant.writes, said.0), inr said.1)

pub returns-in_err-hand_out_all-clause-read_faults : goal.returns-in_err-hand_out_all-clause-read_faults
returns-in_err-hand_out_all-clause-read_faults g c =
    let p = err_from_is_err_and c.from_residual.result c.from_residual.ensures.1 in
    rw (p.1, p.2) (omega (arith, c.loop-turn.invariant.read_faults, c.in_err-hand_out_all.ensures.unread))

pub returns-in_err-hand_out_all-clause-write_faults : goal.returns-in_err-hand_out_all-clause-write_faults
returns-in_err-hand_out_all-clause-write_faults g c =
    let p = err_from_is_err_and c.from_residual.result c.from_residual.ensures.1 in
    rw (p.1, p.2) (omega (arith, c.loop-turn.invariant.write_faults, c.in_err-hand_out_all.ensures.faults))

pub returns-in_err-hand_out_all-clause-keeps : goal.returns-in_err-hand_out_all-clause-keeps
returns-in_err-hand_out_all-clause-keeps g c = run_keeps_then c.args.crew.now c.loop-turn.crew c.hand_out_all.new.crew c.args.coord.now c.loop-turn.coord c.hand_out_all.new.coord c.loop-turn.invariant.keeps c.in_err-hand_out_all.ensures.keeps

pub returns-in_err-take_letter-clause-refused : goal.returns-in_err-take_letter-clause-refused
returns-in_err-take_letter-clause-refused g c =
    let left = g.R.Source.remaining in
    let written = g.W.Sink.contents in
    let first = runs_then c.args.crew.now c.loop-turn.crew c.hand_out_all.new.crew c.args.coord.now c.loop-turn.coord c.hand_out_all.new.coord (left c.args.reader.now) (left c.loop-turn.reader) (left c.loop-turn.reader) (written c.args.writer.now) (written c.loop-turn.writer) (written c.hand_out_all.new.writer) c.loop-turn.invariant.runs (c.in_ok-hand_out_all.ensures.ok (left c.loop-turn.reader)) in
    let p = err_from_is_err_and c.from_residual-in_err-take_letter.result c.from_residual-in_err-take_letter.ensures.1 in
    rw (p.1, p.2) (stops_later c.args.crew.now c.hand_out_all.new.crew c.args.coord.now c.hand_out_all.new.coord (left c.args.reader.now) (left c.loop-turn.reader) (written c.args.writer.now) (written c.hand_out_all.new.writer) (written c.take_letter.new.writer) c.in_err-take_letter.field-0.0 first c.in_err-take_letter.ensures.refused)

pub returns-in_err-take_letter-clause-counted : goal.returns-in_err-take_letter-clause-counted
returns-in_err-take_letter-clause-counted g c =
    let p = err_from_is_err_and c.from_residual-in_err-take_letter.result c.from_residual-in_err-take_letter.ensures.1 in
    let said = c.in_err-take_letter.ensures.counted in
    rw (p.1, p.2) (omega (arith, c.loop-turn.invariant.reads, said.0), omega (arith, c.loop-turn.invariant.writes, c.in_ok-hand_out_all.ensures.counted, said.1), said.2)

pub returns-in_err-take_letter-clause-read_faults : goal.returns-in_err-take_letter-clause-read_faults
returns-in_err-take_letter-clause-read_faults g c =
    let p = err_from_is_err_and c.from_residual-in_err-take_letter.result c.from_residual-in_err-take_letter.ensures.1 in
    rw (p.1, p.2) (omega (arith, c.loop-turn.invariant.read_faults, c.in_err-take_letter.ensures.read_faults))

pub returns-in_err-take_letter-clause-write_faults : goal.returns-in_err-take_letter-clause-write_faults
returns-in_err-take_letter-clause-write_faults g c =
    let p = err_from_is_err_and c.from_residual-in_err-take_letter.result c.from_residual-in_err-take_letter.ensures.1 in
    rw (p.1, p.2) (omega (arith, c.loop-turn.invariant.write_faults, c.in_ok-hand_out_all.ensures.faults, c.in_err-take_letter.ensures.write_faults))

pub returns-in_err-take_letter-clause-keeps : goal.returns-in_err-take_letter-clause-keeps
returns-in_err-take_letter-clause-keeps g c =
    let kept = run_keeps_then c.args.crew.now c.loop-turn.crew c.hand_out_all.new.crew c.args.coord.now c.loop-turn.coord c.hand_out_all.new.coord c.loop-turn.invariant.keeps c.in_ok-hand_out_all.ensures.keeps in
    run_keeps_then c.args.crew.now c.hand_out_all.new.crew c.take_letter.new.crew c.args.coord.now c.hand_out_all.new.coord c.take_letter.new.coord kept c.in_err-take_letter.ensures.keeps

pub returns-then-not-is_busy-clause-ok : goal.returns-then-not-is_busy-clause-ok
returns-then-not-is_busy-clause-ok g c =
    let left = g.R.Source.remaining in
    let written = g.W.Sink.contents in
    runs_then c.args.crew.now c.loop-turn.crew c.hand_out_all.new.crew c.args.coord.now c.loop-turn.coord c.hand_out_all.new.coord (left c.args.reader.now) (left c.loop-turn.reader) (left c.loop-turn.reader) (written c.args.writer.now) (written c.loop-turn.writer) (written c.hand_out_all.new.writer) c.loop-turn.invariant.runs (c.in_ok-hand_out_all.ensures.ok (left c.loop-turn.reader))

pub returns-then-not-is_busy-clause-idle : goal.returns-then-not-is_busy-clause-idle
returns-then-not-is_busy-clause-idle g c =
    let none : has_busy c.hand_out_all.new.crew ≡ false = search rules in
    (none, c.in_ok-hand_out_all.ensures.asks)

pub returns-then-not-is_busy-clause-keeps : goal.returns-then-not-is_busy-clause-keeps
returns-then-not-is_busy-clause-keeps g c = run_keeps_then c.args.crew.now c.loop-turn.crew c.hand_out_all.new.crew c.args.coord.now c.loop-turn.coord c.hand_out_all.new.coord c.loop-turn.invariant.keeps c.in_ok-hand_out_all.ensures.keeps

pub returns-clause-refused : goal.returns-clause-refused
returns-clause-refused g c =
    let left = g.R.Source.remaining in
    let written = g.W.Sink.contents in
    stops_later c.args.crew.now c.loop-turn.crew c.args.coord.now c.loop-turn.coord (left c.args.reader.now) (left c.loop-turn.reader) (written c.args.writer.now) (written c.loop-turn.writer) (written c.loop-turn.writer) _ c.loop-turn.invariant.runs (reads_no_more c.loop-turn.crew c.loop-turn.coord (left c.loop-turn.reader) (written c.loop-turn.writer))
