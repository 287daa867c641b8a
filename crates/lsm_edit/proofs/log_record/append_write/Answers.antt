use Rattle.std.proofs.Common.{◌≡◌, ℕ, List, ◌++◌, length, sym, subst, ◌∙◌}
use Rattle.std.specs.Int.{w8, w32, w64, to_be_bytes}
use Rattle.std.specs.List.{All, flat_map}
use Rattle.std.proofs.lemmas.List.{append_assoc}
use Rattle.lsm_key.specs.declared.op.Op.{Op}
use Rattle.lsm_edit.specs.LogRecord.{IsOp, op_bytes}
use Rattle.lsm_edit.proofs.LogRecordLaws.{all_ops}
use Rattle.lsm_edit.proofs.log_record.append_write.Goals as goal

pub write_ops-requires : goal.write_ops-requires
write_ops-requires c = subst (λ (ops : List Op). All IsOp ops) (sym c.ops-2.ensures.all) (all_ops c.args.batch.now c.ops-2.ensures.within)

regrouped : (a b c d e : List ℕ) → (((a ++ b) ++ c) ++ d) ++ e ≡ a ++ (b ++ (c ++ (d ++ e)))
regrouped a b c d e = append_assoc ((a ++ b) ++ c) d e ∙ append_assoc (a ++ b) c (d ++ e) ∙ append_assoc a b (c ++ (d ++ e))

pub returns : goal.returns
returns c =
    rw (c.in_ok-write_ops.ensures, c.in_ok-put_u32.ensures.ok, c.in_ok-put_u64.ensures.ok, c.in_ok-put_u8.ensures.ok, c.number.ensures.value, c.ops-2.ensures.all, c.ops.ensures.all)
    (regrouped c.args.out.now.items (to_be_bytes w8 1) (to_be_bytes w64 c.args.first) (to_be_bytes w32 (length c.args.batch.now)) (flat_map op_bytes c.args.batch.now))
