use Rattle.std.proofs.Common.{rules}
use Rattle.std.specs.Int.{w64, to_be_bytes}
use Rattle.lsm_edit.proofs.JoinedBytes.{two}
use Rattle.lsm_msg.proofs.writing.result.write_job_id.Goals as goal

pub returns : goal.returns
returns c =
    two c.args.out.now.items (to_be_bytes w64 c.args.id.epoch) (to_be_bytes w64 c.args.id.number) c.put_u64.new.self.items c.put_u64-2.new.self.items
    (search rules) (search rules)
