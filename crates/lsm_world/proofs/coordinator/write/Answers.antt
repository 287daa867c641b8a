-- The batch has the operations, and a write that is refused leaves the files.
use Rattle.std.proofs.Common.{◌≡◌, List, None, inr, subst}
use Rattle.lsm_key.specs.declared.op.Op.{Op}
use Rattle.lsm_coord.specs.Contract.Calls.{IsWritten, write_fault}
use Rattle.lsm_world.proofs.PlainReplies.{write_plain}
use Rattle.lsm_world.proofs.RefusedBatches.{refused_calls, refused_follows, refused_plain}
use Rattle.lsm_world.proofs.SameFiles.{append_keeps}
use Rattle.lsm_world.proofs.coordinator.write.Goals as goal

pub returns-in-Err-clause-calls : goal.returns-in-Err-clause-calls
returns-in-Err-clause-calls g c = refused_calls c.args.coord.now c.args.ops.now c.in-Err.why c.in-Err.ensures.refused

pub returns-in-Err-clause-follows : goal.returns-in-Err-clause-follows
returns-in-Err-clause-follows g c = refused_follows c.args.coord.now c.args.ops.now c.in-Err.why c.in-Err.ensures.refused

pub returns-in-Err-clause-plain : goal.returns-in-Err-clause-plain
returns-in-Err-clause-plain g c = refused_plain c.args.ops.now c.in-Err.why c.in-Err.ensures.refused

pub returns-in-Err-write-clause-files : goal.returns-in-Err-write-clause-files
returns-in-Err-write-clause-files g c = append_keeps (write_fault c.args.coord.now c.in-Ok.batch) _ _ c.in-Err-write.error c.in-Err-write.ensures.refused c.write.ensures.sound

pub returns-in-Err-write-clause-plain : goal.returns-in-Err-write-clause-plain
returns-in-Err-write-clause-plain g c = write_plain c.args.coord.now c.write.new.self c.in-Ok.batch c.in-Err-write.error c.in-Err-write.ensures.refused

pub returns-clause-calls : goal.returns-clause-calls
returns-clause-calls g c =
    let wrote = subst (λ (ops : List Op). (write_fault c.args.coord.now ops ≡ None) × IsWritten c.args.coord.now ops c.write.new.self) c.in-Ok.ensures.ok c.in-Ok-write.ensures.ok in
    inr (c.in-Ok.ensures.faultless, wrote.0, wrote.1)
