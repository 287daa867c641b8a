use Rattle.std.proofs.Common.{◌≤◌, length, rules, arith}
use Rattle.std.proofs.lemmas.List.{take_rest}
use Rattle.lsm_io.proofs.KnownStreams.{IsWritten-more}
use Rattle.lsm_io.proofs.sink.write_whole.Goals as goal

pub loop-rest-preserved : goal.loop-rest-preserved
loop-rest-preserved g c =
    let few : c.in_ok-len.len ≤ length c.loop-rest.rest.now = search rules in
    record {
      written = IsWritten-more _ _ _ c.args.bytes.now c.loop-rest.rest.now _ c.in_ok-len.len c.loop-rest.invariant.written few c.in_ok-len.ensures.bytes (take_rest c.loop-rest.rest.now c.in_ok-len.len);
      counted = omega (arith, c.loop-rest.invariant.counted, c.in_ok-len.ensures.counted);
      sound = omega (arith, c.loop-rest.invariant.sound, c.in_ok-len.ensures.faults);
    }
