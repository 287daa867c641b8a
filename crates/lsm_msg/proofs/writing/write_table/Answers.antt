use Rattle.std.proofs.Common.{rules}
use Rattle.std.specs.Int.{w64, to_be_bytes}
use Rattle.lsm_edit.proofs.JoinedBytes.{two}
use Rattle.lsm_msg.specs.Messages.{sized}
use Rattle.lsm_msg.proofs.writing.write_table.Goals as goal

pub returns : goal.returns
returns c =
    two c.args.out.now.items (to_be_bytes w64 c.args.number) (sized c.args.table.now) c.put_u64.new.self.items c.write_sized.new.out.items
    (search rules) (search rules)
