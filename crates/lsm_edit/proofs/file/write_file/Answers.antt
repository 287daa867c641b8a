use Rattle.std.proofs.Common.{rules}
use Rattle.std.specs.Int.{w8, w32, w64, to_be_bytes}
use Rattle.lsm_key.specs.Spelling.{key}
use Rattle.lsm_edit.proofs.JoinedBytes.{six}
use Rattle.lsm_edit.proofs.file.write_file.Goals as goal

pub returns : goal.returns
returns c =
    let f = c.args.meta.now in
    six c.args.out.now.items (to_be_bytes w64 f.number) (to_be_bytes w8 f.level) (key f.smallest) (key f.largest) (to_be_bytes w32 f.bytes) (to_be_bytes w32 f.entries)
    c.put_u64.new.self.items c.put_u8.new.self.items c.write_key.new.out.items c.write_key-2.new.out.items c.put_u32.new.self.items c.put_u32-2.new.self.items
    (search rules) (search rules) (search rules) (search rules) (search rules) (search rules)
