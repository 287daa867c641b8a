use Rattle.std.proofs.Common.{◌≡◌, ◌∙◌, ◌-◌, Option, None, Some, Result, subst, arith}
use Rattle.std.specs.Prelude.{◌^◌}
use Rattle.lsm_coord.proofs.ScansAgree.{Pair}
use Rattle.lsm_store.specs.Ranges.{NextPair}
use Rattle.lsm_store.specs.declared.error.StoreError.{StoreError}
use Rattle.lsm_commands.proofs.RangeLines.{all_asked, none_ahead, so_far_more, so_far_none, so_far_written}
use Rattle.lsm_commands.proofs.once.pairs.write_pairs.Goals as goal
use Rattle.lsm_commands.proofs.once.pairs.write_pairs.Goals.{else-len-ge-BUFFER_BYTES, else-loop-left-test, then-len-ge-BUFFER_BYTES+in_ok-write_out, then-loop-left-test+in_default}

pub loop-left-init : goal.loop-left-init
loop-left-init g c =
    let is : c.in_ok-pairs.pairs ≡ record { store = c.args.store.now; from = c.args.range.now.lo; hi = c.args.range.now.hi; at = None; left = 2 ^ 64 - 1 } =
    c.in_ok-pairs.ensures.ok ∙ (λ i. record { store = c.args.store.now; from = c.deref.ensures i; hi = c.deref-2.ensures i; at = None; left = 2 ^ 64 - 1 })
    in
    so_far_none c.args.store.now c.args.range.now (g.W.Write.contents c.args.writer.now) c.in_ok-pairs.pairs c.new-out.result.items is (omega arith) c.new-out.ensures.items

pub loop-left-preserved-after-len-ge-BUFFER_BYTES :
    goal.loop-left-preserved-after-len-ge-BUFFER_BYTES
loop-left-preserved-after-len-ge-BUFFER_BYTES g c =
    let held = g.W.Write.contents c.args.writer.now in
    let pair : Pair = (c.in_ok-key.key, c.in_ok-key.value) in
    let given = subst (λ (p : Result Pair StoreError). NextPair c.loop-left.pairs (Some p) c.next.new.self) c.in_ok-key.was c.in-Some.ensures.steps in
    let more = so_far_more c.args.store.now c.args.range.now held (g.W.Write.contents c.loop-left.writer) c.loop-left.pairs c.loop-left.left c.loop-left.out.items c.loop-left.invariant c.next.new.self pair (c.loop-left.left - 1) c.write_pair.new.out.items given (omega arith) c.in_ok-write_pair.ensures in
    elim c.if-len-ge-BUFFER_BYTES.branch [
      | then-len-ge-BUFFER_BYTES+in_ok-write_out w ↦ rw (w.writer-is, w.out-is) (so_far_written c.args.store.now c.args.range.now held (g.W.Write.contents c.loop-left.writer) c.next.new.self (c.loop-left.left - 1) c.write_pair.new.out.items more _ _ w.in_ok-write_out.ensures.ok w.in_ok-write_out.ensures.empty)
      | else-len-ge-BUFFER_BYTES w ↦ rw (w.writer-is, w.out-is) more
    ]

pub loop-left-preserved : goal.loop-left-preserved
loop-left-preserved g c =
    let held = g.W.Write.contents c.args.writer.now in
    let pair : Pair = (c.in_ok-key.key, c.in_ok-key.value) in
    let given = subst (λ (p : Result Pair StoreError). NextPair c.loop-left.pairs (Some p) c.next.new.self) c.in_ok-key.was c.in-Some.ensures.steps in
    let more = so_far_more c.args.store.now c.args.range.now held (g.W.Write.contents c.loop-left.writer) c.loop-left.pairs c.loop-left.left c.loop-left.out.items c.loop-left.invariant c.next.new.self pair (c.loop-left.left - 1) c.write_pair.new.out.items given (omega arith) c.in_ok-write_pair.ensures in
    elim c.if-len-ge-BUFFER_BYTES.branch [
      | then-len-ge-BUFFER_BYTES+in_ok-write_out w ↦ rw (w.writer-is, w.out-is) (so_far_written c.args.store.now c.args.range.now held (g.W.Write.contents c.loop-left.writer) c.next.new.self (c.loop-left.left - 1) c.write_pair.new.out.items more _ _ w.in_ok-write_out.ensures.ok w.in_ok-write_out.ensures.empty)
      | else-len-ge-BUFFER_BYTES w ↦ rw (w.writer-is, w.out-is) more
    ]

pub returns : goal.returns
returns g c =
    let held = g.W.Write.contents c.args.writer.now in
    let holds = g.W.Write.contents c.loop-left.writer in
    let after = g.W.Write.contents c.write_out-2.new.writer in
    elim c.loop-left-test.branch [
      | else-loop-left-test w ↦ all_asked c.args.store.now c.args.range.now held holds c.loop-left.pairs c.loop-left.left c.loop-left.out.items c.loop-left.invariant after (omega arith) c.in_ok-write_out-2.ensures.ok
      | then-loop-left-test+in_default w ↦ none_ahead c.args.store.now c.args.range.now held holds c.loop-left.pairs c.loop-left.left c.loop-left.out.items c.loop-left.invariant after w.next.new.self (omega arith)
          (subst (λ (o : Option (Result Pair StoreError)). NextPair c.loop-left.pairs o w.next.new.self) w.in_default.is w.next.ensures.steps) c.in_ok-write_out-2.ensures.ok
    ]
