use Rattle.std.proofs.Common.{rules, ◌++◌, ◌^◌, ◌<◌, length, ap, List, ℕ, sym, subst, ◌∙◌}
use Rattle.std.specs.Int.{w8, w64, to_be_bytes}
use Rattle.lsm_edit.specs.Edit.{edit_kind_code, removed_bytes}
use Rattle.lsm_edit.proofs.EditLaws.{removed_small}
use Rattle.lsm_edit.proofs.JoinedBytes.{six}
use Rattle.lsm_edit.proofs.edit.write_head.Goals as goal

pub write_numbers-requires : goal.write_numbers-requires
write_numbers-requires c = subst (λ (ns : List ℕ). length ns < 2 ^ 32) (sym c.as_slice.ensures) (removed_small c.args.e.now.kind c.args.e.now.removed c.requires.removed)

pub returns : goal.returns
returns c =
    let e = c.args.e.now in
    six c.args.out.now.items (to_be_bytes w64 e.number) (to_be_bytes w8 (edit_kind_code e.kind)) (to_be_bytes w64 e.flushed) (to_be_bytes w64 e.epoch) (to_be_bytes w64 e.next_file) (removed_bytes e.removed)
    c.put_u64.new.self.items c.put_u8.new.self.items c.put_u64-2.new.self.items c.put_u64-3.new.self.items c.put_u64-4.new.self.items c.write_numbers.new.out.items
    (search rules) (search rules) (search rules) (search rules) (search rules)
    (c.in_ok-write_numbers.ensures ∙ ap (λ (ns : List ℕ). c.put_u64-4.new.self.items ++ removed_bytes ns) c.as_slice.ensures)
