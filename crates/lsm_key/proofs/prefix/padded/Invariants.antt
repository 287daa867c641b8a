use Rattle.std.proofs.Common.{◌≡◌, ◌<◌, ◌^◌}
use Rattle.lsm_key.specs.Prefix.{leading}
use Rattle.lsm_key.proofs.prefix.padded.Given as goal

abbrev pub invariant-loop-i : goal.invariant-loop-i
invariant-loop-i l = (l.prefix ≡ leading l.i l.key) × (l.prefix < 256 ^ l.i)
