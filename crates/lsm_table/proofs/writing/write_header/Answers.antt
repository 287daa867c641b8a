use Rattle.std.proofs.Common.{rules}
use Rattle.lsm_table.proofs.TableFields.{header_written}
use Rattle.lsm_table.proofs.writing.write_header.Goals as goal

pub returns : goal.returns
returns c =
    header_written c.args.out.now.items c.args.version c.args.target c.args.count c.args.blocks
    c.put_u32.new.self.items c.put_u8.new.self.items c.put_u32-2.new.self.items c.put_u32-3.new.self.items c.put_u32-4.new.self.items
    (search rules) (search rules) (search rules) (search rules) (search rules)
