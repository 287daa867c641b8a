use Rattle.std.proofs.Common.{arith, ◌-◌, ◌^◌}
use Rattle.std.specs.Int.{w64}
use Rattle.lsm_key.proofs.FieldLaws.{within_range}
use Rattle.lsm_edit.proofs.edit.read_edit.Goals as goal

pub new-requires : goal.new-requires
new-requires g c = let r = within_range c.args.short c.args.bad w64 0 (2 ^ 56 - 1) c.read_kind.new.rest (c.in_ok-flushed.flushed, c.read_ranged_u64-2.new.rest) c.in_ok-flushed.ensures in omega (arith, r.1)
