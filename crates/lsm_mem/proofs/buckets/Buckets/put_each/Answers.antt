use Rattle.std.proofs.Common.{◌≡◌, ◌++◌, ◌∷◌, [], ◌+◌, ◌-◌, ◌<◌, List, ℕ, length, take, drop, get_or, refl, sym, ap, ◌∙◌, arith}
use Rattle.std.specs.List.{flat_map}
use Rattle.std.proofs.lemmas.List.{take_more, take_at, drop_at, drop_more, drop-drop, length-take-le}
use Rattle.lsm_key.specs.declared.op.Op.{Op}
use Rattle.lsm_key.specs.Places.{entry_of, entries_after}
use Rattle.lsm_edit.specs.declared.log_record.TheConstants.{WRITE_HEAD_BYTES}
use Rattle.lsm_edit.specs.LogRecord.{op_bytes}
use Rattle.lsm_edit.proofs.LoggedOps.{after_head}
use Rattle.lsm_mem.specs.Chains.{with_entry, with_entries}
use Rattle.lsm_mem.proofs.ChainsGrow.{with_entries-push}
use Rattle.lsm_mem.proofs.buckets.Buckets.put_each.Goals as goal

next_op : (ops : List Op) (done : ℕ) (op : Op) → op ≡ get_or ops done op → done < length ops → drop done ops ≡ op ∷ drop (done + 1) ops
next_op ops done op is within = drop_more ops done op within ∙ ap (λ (o : Op). o ∷ drop (done + 1) ops) (sym is)

pub loop-done-init : goal.loop-done-init
loop-done-init c = (refl, ap (drop WRITE_HEAD_BYTES) c.requires.logged ∙ after_head c.args.first c.args.ops.now)

pub loop-done-preserved : goal.loop-done-preserved
loop-done-preserved c =
    let ops = c.args.ops.now in
    let logged = c.args.logged.now in
    let done : ℕ = c.loop-done.done in
    let op = c.index-ops-done.result in
    let after : ℕ = c.args.first - 1 in
    let within : done < length ops = c.loop-done-test.true in
    let more : take (done + 1) ops ≡ take done ops ++ op ∷ [] = take_more ops done op within ∙ ap (λ (o : Op). take done ops ++ o ∷ []) (sym c.index-ops-done.is) in
    let so_far : length (take done ops) ≡ done = length-take-le done ops (omega (arith, within)) in
    let first_some = c.requires.some in
    let number = c.number.ensures.value in
    let made = c.new-seq.ensures in
    let seq : c.new-seq.result ≡ after + length (take done ops) + 1 = omega (arith, so_far, first_some, number, made) in
    let rest : List Op = drop (done + 1) ops in
    let left : drop c.loop-done.at logged ≡ op_bytes op ++ flat_map op_bytes rest = c.loop-done.invariant.1 ∙ ap (flat_map op_bytes) (next_op ops done op c.index-ops-done.is within) in (
      c.in-Ok.ensures.ok
          ∙ ap (λ (n : ℕ). with_entry (entry_of n op) c.loop-done.self) seq
          ∙ ap (with_entry (entry_of (after + length (take done ops) + 1) op)) c.loop-done.invariant.0
          ∙ sym (with_entries-push after (take done ops) op c.args.self.now)
          ∙ ap (λ (os : List Op). with_entries (entries_after after os) c.args.self.now) (sym more),
      ap (λ (n : ℕ). drop n logged) c.in-Ok.ensures.end ∙ sym (drop-drop (length (op_bytes op)) c.loop-done.at logged) ∙ ap (drop (length (op_bytes op))) left ∙ drop_at (op_bytes op) (flat_map op_bytes rest) (length (op_bytes op)) refl,
    )

pub put_next-requires : goal.put_next-requires
put_next-requires c =
    let ops = c.args.ops.now in
    let done : ℕ = c.loop-done.done in
    let op = c.index-ops-done.result in
    let rest : List Op = drop (done + 1) ops in
    let left : drop c.loop-done.at c.args.logged.now ≡ op_bytes op ++ flat_map op_bytes rest = c.loop-done.invariant.1 ∙ ap (flat_map op_bytes) (next_op ops done op c.index-ops-done.is c.loop-done-test.true) in
    ap (take (length (op_bytes op))) left ∙ take_at (op_bytes op) (flat_map op_bytes rest) (length (op_bytes op)) refl
