use Rattle.std.proofs.Common.{◌≡◌, true, None, arith, rules}
use Rattle.lsm_pipe.proofs.WorkSteps.{works_more}
use Rattle.lsm_pipe.proofs.working.work.Goals as goal

pub loop-turn-preserved : goal.loop-turn-preserved
loop-turn-preserved g c =
    let more : c.in_ok-turn.field-0 ≡ true = search rules in
    record {
      over = works_more c.args.index (record { index = c.args.index; task = None }) c.loop-turn.worker c.turn.new.worker (g.R.Source.remaining c.args.reader.now) (g.R.Source.remaining c.loop-turn.reader) (g.R.Source.remaining c.turn.new.reader) (g.W.Sink.contents c.args.writer.now) (g.W.Sink.contents c.loop-turn.writer) (g.W.Sink.contents c.turn.new.writer) c.in_ok-turn.field-0 more c.loop-turn.invariant.over c.in_ok-turn.ensures.ok;
      reads = omega (arith, c.loop-turn.invariant.reads, c.in_ok-turn.ensures.turns);
      writes = omega (arith, c.loop-turn.invariant.writes, c.in_ok-turn.ensures.counted.1);
      read_faults = omega (arith, c.loop-turn.invariant.read_faults, c.in_ok-turn.ensures.read_faults);
      write_faults = omega (arith, c.loop-turn.invariant.write_faults, c.in_ok-turn.ensures.write_faults);
    }
