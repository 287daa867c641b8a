use Rattle.std.proofs.Common.{arith}
use Rattle.lsm_edit.specs.File.{file}
use Rattle.lsm_edit.proofs.JoinedBytes.{one_more_long}
use Rattle.lsm_edit.proofs.file.files_bytes.Goals as goal

pub loop-file-preserved : goal.loop-file-preserved
loop-file-preserved c =
    let more = one_more_long file c.args.files.now c.loop-file.file-index c.file-item.result c.loop-file-test.true c.file-item.is in
    omega (arith, more, c.loop-file.invariant, c.file_bytes.ensures, c.saturating_add-total.ensures)
