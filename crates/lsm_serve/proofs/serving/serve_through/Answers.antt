use Rattle.std.proofs.Common.{◌∙◌, Bool, ◌<◌, ◌++◌, ℕ, List, [], drop, length, ap, subst, sym, rules, refl, arith}
use Rattle.std.proofs.lemmas.Result.{err_from_is_err_and}
use Rattle.lsm_coord.specs.Contract.Calls.{MayHaveFailed}
use Rattle.lsm_io.specs.Streams.{Gains}
use Rattle.lsm_serve.specs.declared.serving.Reached.{Reached}
use Rattle.lsm_serve.specs.ServingSteps.{IsReachable, RanTo, ServedSoFar, ServedTo}
use Rattle.lsm_serve.proofs.RequestsSoFar.{before_written}
use Rattle.lsm_serve.proofs.ServedCounts.{answer_reads_no_fault, answer_reason, calls_of_reads, calls_of_writes, ends_calls, ends_flushed, ends_last, ends_read_faults, ends_write_faults, no_last, read_faults_then, read_is_no_last, read_writes_no_fault, same_last, unsent_reason, write_faults_then}
use Rattle.lsm_serve.proofs.RunsSoFar.{ran_none, ran_synced, ran_written}
use Rattle.lsm_serve.proofs.ServedReads.{ahead_after, all_written, all_written_at_end, input_is, next_input, none_after, part_to}
use Rattle.lsm_serve.proofs.ServedStreams.{served_none, served_some, served_written, serves_some}
use Rattle.lsm_serve.proofs.Syncs.{all_synced, before_synced, part_sent, sends_some, so_far_synced, some_synced}
use Rattle.lsm_serve.proofs.serving.serve_through.Goals as goal

pub returns-in_err-reached-clause-replies : goal.returns-in_err-reached-clause-replies
returns-in_err-reached-clause-replies g c requests ahead =
    let so = c.loop-turn.invariant.so requests ahead in
    let s = input_is c.args.store.now c.loop-turn.store requests (g.W.Sink.contents c.args.writer.now) (g.W.Sink.contents c.loop-turn.writer) c.loop-turn.input.items c.deref.result.now so.0 c.loop-turn.out.items c.deref.ensures.value c.loop-turn.invariant.empty so.2 in
    let p = err_from_is_err_and c.from_residual.result c.from_residual.ensures.1 in
    rw (p.1, p.2) (c.in_err-reached.ensures.served c.args.store.now requests (g.W.Sink.contents c.args.writer.now) so.0 s)

pub returns-in_err-send-clause-replies : goal.returns-in_err-send-clause-replies
returns-in_err-send-clause-replies g c requests ahead =
    let so = c.loop-turn.invariant.so requests ahead in
    let s = input_is c.args.store.now c.loop-turn.store requests (g.W.Sink.contents c.args.writer.now) (g.W.Sink.contents c.loop-turn.writer) c.loop-turn.input.items c.deref.result.now so.0 c.loop-turn.out.items c.deref.ensures.value c.loop-turn.invariant.empty so.2 in
    let failed : MayHaveFailed c.answer_all.new.store c.send.new.store = record { rest = c.in_err-send.ensures.same; counted = c.in_err-send.ensures.counted } in
    let part = part_sent c.in_err-send.field-0.0 (g.W.Sink.contents c.answer_all.new.writer) (g.W.Sink.contents c.send.new.writer) c.answer_all.new.out.items c.in_err-send.ensures.refused in
    let some = part_to c.args.store.now c.answer_all.new.store requests (g.W.Sink.contents c.args.writer.now) (g.W.Sink.contents c.answer_all.new.writer) (g.W.Sink.contents c.send.new.writer) c.deref.result.now so.0 c.answer_all.new.out.items c.in_ok-reached.reached
    (c.in_ok-reached.ensures.served c.args.store.now requests (g.W.Sink.contents c.args.writer.now) so.0 s) part in
    let after = some_synced c.args.store.now c.answer_all.new.store c.send.new.store requests (g.W.Sink.contents c.args.writer.now) (g.W.Sink.contents c.send.new.writer) failed some in
    let p = err_from_is_err_and c.from_residual-in_err-send.result c.from_residual-in_err-send.ensures.1 in
    rw (p.1, p.2) (sends_some c.in_err-send.field-0.0 c.args.store.now c.send.new.store requests (g.W.Sink.contents c.args.writer.now) (g.W.Sink.contents c.answer_all.new.writer) (g.W.Sink.contents c.send.new.writer) c.answer_all.new.out.items c.in_err-send.ensures.refused after)

pub returns-in-Quit-clause-replies : goal.returns-in-Quit-clause-replies
returns-in-Quit-clause-replies g c requests ahead =
    let so = c.loop-turn.invariant.so requests ahead in
    let s = input_is c.args.store.now c.loop-turn.store requests (g.W.Sink.contents c.args.writer.now) (g.W.Sink.contents c.loop-turn.writer) c.loop-turn.input.items c.deref.result.now so.0 c.loop-turn.out.items c.deref.ensures.value c.loop-turn.invariant.empty so.2 in
    let all = subst (ServedTo c.args.store.now requests (g.W.Sink.contents c.args.writer.now) c.answer_all.new.store c.deref.result.now so.0 c.answer_all.new.out.items (g.W.Sink.contents c.answer_all.new.writer)) c.in-Quit.is
    (c.in_ok-reached.ensures.served c.args.store.now requests (g.W.Sink.contents c.args.writer.now) so.0 s) in
    let failed : MayHaveFailed c.answer_all.new.store c.send.new.store = record { rest = c.in_ok-send.ensures.same; counted = c.in_ok-send.ensures.counted } in
    all_synced c.args.store.now c.answer_all.new.store c.send.new.store requests (g.W.Sink.contents c.args.writer.now) (g.W.Sink.contents c.send.new.writer) failed
    (all_written c.args.store.now c.answer_all.new.store requests (g.W.Sink.contents c.args.writer.now) (g.W.Sink.contents c.answer_all.new.writer) (g.W.Sink.contents c.send.new.writer) c.answer_all.new.out.items all c.in_ok-send.ensures.ok)

pub returns-in_err-wait_for_more-clause-replies : goal.returns-in_err-wait_for_more-clause-replies
returns-in_err-wait_for_more-clause-replies g c requests ahead =
    let so = c.loop-turn.invariant.so requests ahead in
    let s = input_is c.args.store.now c.loop-turn.store requests (g.W.Sink.contents c.args.writer.now) (g.W.Sink.contents c.loop-turn.writer) c.loop-turn.input.items c.deref.result.now so.0 c.loop-turn.out.items c.deref.ensures.value c.loop-turn.invariant.empty so.2 in
    let waits = subst (ServedTo c.args.store.now requests (g.W.Sink.contents c.args.writer.now) c.answer_all.new.store c.deref.result.now so.0 c.answer_all.new.out.items (g.W.Sink.contents c.answer_all.new.writer)) c.in-Waits.is
    (c.in_ok-reached.ensures.served c.args.store.now requests (g.W.Sink.contents c.args.writer.now) so.0 s) in
    let rest = drop c.in-Waits.at c.deref.result.now ++ so.0 in
    let wrote = served_written c.args.store.now c.answer_all.new.store requests (g.W.Sink.contents c.args.writer.now) (g.W.Sink.contents c.answer_all.new.writer) rest c.answer_all.new.out.items waits.0 (g.W.Sink.contents c.send.new.writer) [] c.in_ok-send.ensures.ok refl in
    let failed : MayHaveFailed c.answer_all.new.store c.send.new.store = record { rest = c.in_ok-send.ensures.same; counted = c.in_ok-send.ensures.counted } in
    let some = some_synced c.args.store.now c.answer_all.new.store c.send.new.store requests (g.W.Sink.contents c.args.writer.now) (g.W.Sink.contents c.send.new.writer) failed
    (served_some c.args.store.now c.answer_all.new.store requests (g.W.Sink.contents c.args.writer.now) (g.W.Sink.contents c.send.new.writer) rest [] wrote) in
    let p = err_from_is_err_and c.from_residual-in_err-wait_for_more.result c.from_residual-in_err-wait_for_more.ensures.1 in
    rw (p.1, p.2) (serves_some c.in_err-wait_for_more.field-0.0 c.args.store.now c.send.new.store requests (g.W.Sink.contents c.args.writer.now) (g.W.Sink.contents c.send.new.writer) c.in_err-wait_for_more.ensures.why some)

pub returns-then-not-branch-clause-replies : goal.returns-then-not-branch-clause-replies
returns-then-not-branch-clause-replies g c requests ahead =
    let so = c.loop-turn.invariant.so requests ahead in
    let s = input_is c.args.store.now c.loop-turn.store requests (g.W.Sink.contents c.args.writer.now) (g.W.Sink.contents c.loop-turn.writer) c.loop-turn.input.items c.deref.result.now so.0 c.loop-turn.out.items c.deref.ensures.value c.loop-turn.invariant.empty so.2 in
    let waits = subst (ServedTo c.args.store.now requests (g.W.Sink.contents c.args.writer.now) c.answer_all.new.store c.deref.result.now so.0 c.answer_all.new.out.items (g.W.Sink.contents c.answer_all.new.writer)) c.in-Waits.is
    (c.in_ok-reached.ensures.served c.args.store.now requests (g.W.Sink.contents c.args.writer.now) so.0 s) in
    let gains = subst (Gains (length c.loop-turn.chunk) (g.R.Source.remaining c.loop-turn.reader) (g.R.Source.remaining c.wait_for_more.new.reader) c.drop_front.new.input.items c.wait_for_more.new.input.items) c.if-not-branch.true c.in_ok-wait_for_more.ensures.ok in
    let nothing = none_after (length c.loop-turn.chunk) (g.R.Source.remaining c.loop-turn.reader) (g.R.Source.remaining c.wait_for_more.new.reader) c.drop_front.new.input.items c.wait_for_more.new.input.items so.0 so.1 gains in
    let none = waits.1 nothing.0 in
    let empty = c.deref-then-not-branch.ensures.value ∙ nothing.1 ∙ c.drop_front.ensures ∙ ap (drop c.in-Waits.at) (sym c.deref.ensures.value) ∙ none in
    let failed : MayHaveFailed c.answer_all.new.store c.send.new.store = record { rest = c.in_ok-send.ensures.same; counted = c.in_ok-send.ensures.counted } in
    let all = all_synced c.args.store.now c.answer_all.new.store c.send.new.store requests (g.W.Sink.contents c.args.writer.now) (g.W.Sink.contents c.send.new.writer) failed
    (all_written_at_end c.args.store.now c.answer_all.new.store requests (g.W.Sink.contents c.args.writer.now) (g.W.Sink.contents c.answer_all.new.writer) (g.W.Sink.contents c.send.new.writer) (drop c.in-Waits.at c.deref.result.now) so.0 c.answer_all.new.out.items none nothing.0 waits.0 c.in_ok-send.ensures.ok) in
    rw (c.end_of.ensures.whole empty) all

pub loop-turn-preserved : goal.loop-turn-preserved
loop-turn-preserved g c =
    let room : 0 < length c.wait_for_more.new.chunk = search rules in
    record {
      room = room;
      empty = c.in_ok-send.ensures.empty;
      so = λ requests ahead.
          (let so = c.loop-turn.invariant.so requests ahead in
          let s = input_is c.args.store.now c.loop-turn.store requests (g.W.Sink.contents c.args.writer.now) (g.W.Sink.contents c.loop-turn.writer) c.loop-turn.input.items c.deref.result.now so.0 c.loop-turn.out.items c.deref.ensures.value c.loop-turn.invariant.empty so.2 in
          let waits = subst (ServedTo c.args.store.now requests (g.W.Sink.contents c.args.writer.now) c.answer_all.new.store c.deref.result.now so.0 c.answer_all.new.out.items (g.W.Sink.contents c.answer_all.new.writer)) c.in-Waits.is
          (c.in_ok-reached.ensures.served c.args.store.now requests (g.W.Sink.contents c.args.writer.now) so.0 s) in
          let failed : MayHaveFailed c.answer_all.new.store c.send.new.store = record { rest = c.in_ok-send.ensures.same; counted = c.in_ok-send.ensures.counted } in
          let gains = subst (Gains (length c.loop-turn.chunk) (g.R.Source.remaining c.loop-turn.reader) (g.R.Source.remaining c.wait_for_more.new.reader) c.drop_front.new.input.items c.wait_for_more.new.input.items) c.if-not-branch.false c.in_ok-wait_for_more.ensures.ok in
          let more = ahead_after (length c.loop-turn.chunk) (g.R.Source.remaining c.loop-turn.reader) (g.R.Source.remaining c.wait_for_more.new.reader) c.drop_front.new.input.items c.wait_for_more.new.input.items so.0 so.1 gains in
          let is = more.2 ∙ ap (λ (b : List ℕ). b ++ so.0) (c.drop_front.ensures ∙ ap (drop c.in-Waits.at) (sym c.deref.ensures.value)) in (
            more.0,
            more.1,
            so_far_synced c.args.store.now c.answer_all.new.store c.send.new.store requests (g.W.Sink.contents c.args.writer.now) (g.W.Sink.contents c.send.new.writer) failed (c.wait_for_more.new.input.items ++ more.0) []
                (next_input c.args.store.now c.answer_all.new.store requests (g.W.Sink.contents c.args.writer.now) (g.W.Sink.contents c.answer_all.new.writer) (g.W.Sink.contents c.send.new.writer) (drop c.in-Waits.at c.deref.result.now) so.0 c.wait_for_more.new.input.items more.0 c.answer_all.new.out.items [] is waits.0 c.in_ok-send.ensures.ok refl),
          ));
      ran =
          (let held = g.W.Sink.contents c.args.writer.now in
          let all = subst (RanTo c.args.store.now held c.answer_all.new.store c.answer_all.new.out.items (g.W.Sink.contents c.answer_all.new.writer)) c.in-Waits.is (c.in_ok-reached.ensures.ran c.args.store.now held c.loop-turn.invariant.ran) in
          let failed : MayHaveFailed c.answer_all.new.store c.send.new.store = record { rest = c.in_ok-send.ensures.same; counted = c.in_ok-send.ensures.counted } in
          let wrote = ran_written c.args.store.now c.answer_all.new.store held (g.W.Sink.contents c.answer_all.new.writer) c.answer_all.new.out.items all (g.W.Sink.contents c.send.new.writer) c.send.new.out.items c.in_ok-send.ensures.ok c.in_ok-send.ensures.empty in
          ran_synced c.args.store.now c.answer_all.new.store held (g.W.Sink.contents c.send.new.writer) c.send.new.out.items wrote c.send.new.store failed);
      reads = omega (arith, c.loop-turn.invariant.reads, c.in_ok-wait_for_more.ensures.counted);
      writes = omega (arith, c.loop-turn.invariant.writes, c.in_ok-reached.ensures.writes, c.in_ok-send.ensures.writes);
      read_faults = omega (arith, c.loop-turn.invariant.read_faults, c.in_ok-wait_for_more.ensures.faults);
      write_faults = omega (arith, c.loop-turn.invariant.write_faults, c.in_ok-reached.ensures.faults, c.in_ok-send.ensures.faults);
    }

pub returns-clause-replies : goal.returns-clause-replies
returns-clause-replies g c requests ahead =
    let so = c.loop-turn.invariant.so requests ahead in
    (served_some c.args.store.now c.loop-turn.store requests (g.W.Sink.contents c.args.writer.now) (g.W.Sink.contents c.loop-turn.writer) (c.loop-turn.input.items ++ so.0) [] so.2, tt)

pub returns-in-Http-clause-replies : goal.returns-in-Http-clause-replies
returns-in-Http-clause-replies g c requests ahead =
    let so = c.loop-turn.invariant.so requests ahead in
    let s = input_is c.args.store.now c.loop-turn.store requests (g.W.Sink.contents c.args.writer.now) (g.W.Sink.contents c.loop-turn.writer) c.loop-turn.input.items c.deref.result.now so.0 c.loop-turn.out.items c.deref.ensures.value c.loop-turn.invariant.empty so.2 in
    let before = subst (ServedTo c.args.store.now requests (g.W.Sink.contents c.args.writer.now) c.answer_all.new.store c.deref.result.now so.0 c.answer_all.new.out.items (g.W.Sink.contents c.answer_all.new.writer)) c.in-Http.is
    (c.in_ok-reached.ensures.served c.args.store.now requests (g.W.Sink.contents c.args.writer.now) so.0 s) in
    let failed : MayHaveFailed c.answer_all.new.store c.send.new.store = record { rest = c.in_ok-send.ensures.same; counted = c.in_ok-send.ensures.counted } in
    before_synced c.args.store.now c.answer_all.new.store c.send.new.store requests (g.W.Sink.contents c.args.writer.now) (g.W.Sink.contents c.send.new.writer) failed c.in-Http.word
    (before_written c.in-Http.word c.args.store.now c.answer_all.new.store requests (g.W.Sink.contents c.args.writer.now) (g.W.Sink.contents c.answer_all.new.writer) (g.W.Sink.contents c.send.new.writer) c.answer_all.new.out.items before c.in_ok-send.ensures.ok)

pub returns-in_err-reached-clause-answered : goal.returns-in_err-reached-clause-answered
returns-in_err-reached-clause-answered g c =
    let p = err_from_is_err_and c.from_residual.result c.from_residual.ensures.1 in
    rw (p.1, p.2) (same_last Reached (Unit {0}) c.args.store.now c.answer_all.new.store _ _ c.in_err-reached.field-0.0 (c.in_err-reached.ensures.answered c.args.store.now (g.W.Sink.contents c.args.writer.now) c.loop-turn.invariant.ran))

pub returns-in_err-reached-clause-counted : goal.returns-in_err-reached-clause-counted
returns-in_err-reached-clause-counted g c =
    let p = err_from_is_err_and c.from_residual.result c.from_residual.ensures.1 in
    rw (p.1, p.2) (calls_of_writes Reached (Unit {0}) c.in_err-reached.field-0.0 _ _ _ _ _ (omega (arith, c.loop-turn.invariant.reads)) c.loop-turn.invariant.writes c.in_err-reached.ensures.writes)

pub returns-in_err-reached-clause-read_faults : goal.returns-in_err-reached-clause-read_faults
returns-in_err-reached-clause-read_faults g c =
    let p = err_from_is_err_and c.from_residual.result c.from_residual.ensures.1 in
    rw (p.1, p.2) (answer_reads_no_fault (Unit {0}) c.in_err-reached.field-0.0 _ _ c.in_err-reached.ensures.why c.loop-turn.invariant.read_faults)

pub returns-in_err-reached-clause-write_faults : goal.returns-in_err-reached-clause-write_faults
returns-in_err-reached-clause-write_faults g c =
    let p = err_from_is_err_and c.from_residual.result c.from_residual.ensures.1 in
    rw (p.1, p.2) (write_faults_then Reached (Unit {0}) c.in_err-reached.field-0.0 _ _ _ c.loop-turn.invariant.write_faults c.in_err-reached.ensures.faults)

pub returns-in_err-send-clause-answered : goal.returns-in_err-send-clause-answered
returns-in_err-send-clause-answered g c =
    let p = err_from_is_err_and c.from_residual-in_err-send.result c.from_residual-in_err-send.ensures.1 in
    rw (p.1, p.2) (no_last (Unit {0}) c.args.store.now c.send.new.store _ _ c.in_err-send.field-0.0 (unsent_reason _ _ _ c.in_err-send.field-0.0 c.in_err-send.ensures.refused))

pub returns-in_err-send-clause-counted : goal.returns-in_err-send-clause-counted
returns-in_err-send-clause-counted g c =
    let p = err_from_is_err_and c.from_residual-in_err-send.result c.from_residual-in_err-send.ensures.1 in
    rw (p.1, p.2) (calls_of_writes (Unit {0}) (Unit {0}) c.in_err-send.field-0.0 _ _ _ _ _ (omega (arith, c.loop-turn.invariant.reads)) (omega (arith, c.loop-turn.invariant.writes, c.in_ok-reached.ensures.writes)) c.in_err-send.ensures.writes)

pub returns-in_err-send-clause-read_faults : goal.returns-in_err-send-clause-read_faults
returns-in_err-send-clause-read_faults g c =
    let p = err_from_is_err_and c.from_residual-in_err-send.result c.from_residual-in_err-send.ensures.1 in
    rw (p.1, p.2) (answer_reads_no_fault (Unit {0}) c.in_err-send.field-0.0 _ _ (answer_reason c.in_err-send.field-0.0 (unsent_reason _ _ _ c.in_err-send.field-0.0 c.in_err-send.ensures.refused)) c.loop-turn.invariant.read_faults)

pub returns-in_err-send-clause-write_faults : goal.returns-in_err-send-clause-write_faults
returns-in_err-send-clause-write_faults g c =
    let p = err_from_is_err_and c.from_residual-in_err-send.result c.from_residual-in_err-send.ensures.1 in
    rw (p.1, p.2) (write_faults_then (Unit {0}) (Unit {0}) c.in_err-send.field-0.0 _ _ _ (omega (arith, c.loop-turn.invariant.write_faults, c.in_ok-reached.ensures.faults)) c.in_err-send.ensures.faults)

pub returns-in_err-wait_for_more-clause-answered : goal.returns-in_err-wait_for_more-clause-answered
returns-in_err-wait_for_more-clause-answered g c =
    let p = err_from_is_err_and c.from_residual-in_err-wait_for_more.result c.from_residual-in_err-wait_for_more.ensures.1 in
    rw (p.1, p.2) (read_is_no_last (Unit {0}) c.args.store.now c.send.new.store _ _ c.in_err-wait_for_more.field-0.0 c.in_err-wait_for_more.ensures.why)

pub returns-in_err-wait_for_more-clause-counted : goal.returns-in_err-wait_for_more-clause-counted
returns-in_err-wait_for_more-clause-counted g c =
    let p = err_from_is_err_and c.from_residual-in_err-wait_for_more.result c.from_residual-in_err-wait_for_more.ensures.1 in
    rw (p.1, p.2) (calls_of_reads Bool (Unit {0}) c.in_err-wait_for_more.field-0.0 _ _ _ _ _ (omega (arith, c.loop-turn.invariant.reads)) (omega (arith, c.loop-turn.invariant.writes, c.in_ok-reached.ensures.writes, c.in_ok-send.ensures.writes)) c.in_err-wait_for_more.ensures.counted)

pub returns-in_err-wait_for_more-clause-read_faults : goal.returns-in_err-wait_for_more-clause-read_faults
returns-in_err-wait_for_more-clause-read_faults g c =
    let p = err_from_is_err_and c.from_residual-in_err-wait_for_more.result c.from_residual-in_err-wait_for_more.ensures.1 in
    rw (p.1, p.2) (read_faults_then Bool (Unit {0}) c.in_err-wait_for_more.field-0.0 _ _ _ c.loop-turn.invariant.read_faults c.in_err-wait_for_more.ensures.faults)

pub returns-in_err-wait_for_more-clause-write_faults : goal.returns-in_err-wait_for_more-clause-write_faults
returns-in_err-wait_for_more-clause-write_faults g c =
    let p = err_from_is_err_and c.from_residual-in_err-wait_for_more.result c.from_residual-in_err-wait_for_more.ensures.1 in
    rw (p.1, p.2) (read_writes_no_fault (Unit {0}) c.in_err-wait_for_more.field-0.0 _ _ c.in_err-wait_for_more.ensures.why (omega (arith, c.loop-turn.invariant.write_faults, c.in_ok-reached.ensures.faults, c.in_ok-send.ensures.faults)))

pub returns-then-not-branch-clause-answered : goal.returns-then-not-branch-clause-answered
returns-then-not-branch-clause-answered g c = ends_last c.args.store.now c.send.new.store _ _ c.end_of.result c.end_of.ensures.why

pub returns-then-not-branch-clause-flushed : goal.returns-then-not-branch-clause-flushed
returns-then-not-branch-clause-flushed g c = ends_flushed c.end_of.result _ c.in_ok-send.ensures.flushed

pub returns-then-not-branch-clause-counted : goal.returns-then-not-branch-clause-counted
returns-then-not-branch-clause-counted g c = ends_calls c.end_of.result _ _ _ _ c.end_of.ensures.why (omega (arith, c.loop-turn.invariant.reads, c.in_ok-wait_for_more.ensures.counted)) (omega (arith, c.loop-turn.invariant.writes, c.in_ok-reached.ensures.writes, c.in_ok-send.ensures.writes))

pub returns-then-not-branch-clause-read_faults : goal.returns-then-not-branch-clause-read_faults
returns-then-not-branch-clause-read_faults g c = ends_read_faults c.end_of.result _ _ c.end_of.ensures.why (omega (arith, c.loop-turn.invariant.read_faults, c.in_ok-wait_for_more.ensures.faults))

pub returns-then-not-branch-clause-write_faults : goal.returns-then-not-branch-clause-write_faults
returns-then-not-branch-clause-write_faults g c = ends_write_faults c.end_of.result _ _ c.end_of.ensures.why (omega (arith, c.loop-turn.invariant.write_faults, c.in_ok-reached.ensures.faults, c.in_ok-send.ensures.faults))

pub loop-turn-init : goal.loop-turn-init
loop-turn-init g c =
    let held = g.W.Sink.contents c.args.writer.now in
    record {
      room = c.requires;
      empty = c.new-out.ensures.items;
      so = λ requests ahead. (
        ahead.bytes,
        ahead.bytes_are,
        subst (λ (i : List ℕ). ServedSoFar c.args.store.now requests held c.args.store.now (i ++ ahead.bytes) [] held) (sym c.new-input.ensures.items) (served_none c.args.store.now requests held ahead.bytes [] ahead.are refl),
      );
      ran = ran_none c.args.store.now held c.new-out.result.items c.new-out.ensures.items;
      reads = omega arith;
      writes = omega arith;
      read_faults = refl;
      write_faults = refl;
    }

pub drop_front-requires : goal.drop_front-requires
drop_front-requires g c =
    let reach = subst (IsReachable c.deref.result.now) c.in-Waits.is c.in_ok-reached.ensures.reach in
    let size = ap (λ (xs : List ℕ). length xs) c.deref.ensures.value in
    omega (arith, reach.0, size)
