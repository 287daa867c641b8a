use Rattle.std.proofs.Common.{◌++◌, length}
use Rattle.std.specs.Int.{w16, to_be_bytes}
use Rattle.lsm_edit.specs.File.{file}
use Rattle.lsm_edit.proofs.JoinedBytes.{one_more}
use Rattle.lsm_msg.proofs.writing.job.write_inputs.Goals as goal

pub loop-file-preserved : goal.loop-file-preserved
loop-file-preserved c = one_more file (c.args.out.now.items ++ to_be_bytes w16 (length c.args.files.now)) c.loop-file.out.items c.write_file.new.out.items c.args.files.now c.loop-file.file-index c.file-item.result c.loop-file-test.true c.file-item.is c.loop-file.invariant c.in_ok-write_file.ensures
