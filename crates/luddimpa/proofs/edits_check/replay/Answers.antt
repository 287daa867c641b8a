use Rattle.std.proofs.Common.{refl}
use Rattle.luddimpa.proofs.EditsInTurn.{begun, one_more}
use Rattle.luddimpa.proofs.edits_check.replay.Goals as goal

pub returns-in_default : goal.returns-in_default
returns-in_default c = (c.args.edits.now, begun c.args.edits.now c.new-version.result c.args.edits.now c.new-version.ensures refl, tt)

pub loop-alloc-init : goal.loop-alloc-init
loop-alloc-init c = begun c.args.edits.now c.new-version.result c.in-Ok.rest c.new-version.ensures c.in-Ok.ensures

pub loop-alloc-preserved : goal.loop-alloc-preserved
loop-alloc-preserved c =
    one_more c.args.edits.now c.loop-alloc.version c.loop-alloc.rest c.apply_next.new.version c.apply_next.new.rest c.loop-alloc.invariant c.in-Ok-apply_next.ensures.ok
