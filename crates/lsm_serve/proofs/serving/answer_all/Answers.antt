use Rattle.std.proofs.Common.{◌∙◌, ◌+◌, ◌<◌, ℕ, List, ◌++◌, Bool, Ok, Err, ap, drop, length, subst, sym, arith}
use Rattle.std.specs.Borrow.{Bor}
use Rattle.std.proofs.lemmas.List.{drop_all}
use Rattle.std.proofs.lemmas.Result.{err_from_is_err_and}
use Rattle.lsm_resp.specs.Enough.{IsEnough, enough_for_request}
use Rattle.lsm_resp.specs.declared.fault.ParseError.{ParseError}
use Rattle.lsm_resp.specs.declared.request.Parsed.{Parsed}
use Rattle.lsm_resp.specs.Requests.{words_of}
use Rattle.lsm_coord.specs.Contract.Calls.{MayHaveFailed}
use Rattle.lsm_serve.specs.declared.serving.Reached.{Reached}
use Rattle.lsm_serve.specs.HttpWords.{IsNoHttp}
use Rattle.lsm_serve.specs.ServingSteps.{AnswersOne, ServedSoFar}
use Rattle.lsm_serve.proofs.RunsSoFar.{ran_fault, ran_next, ran_synced, ran_written}
use Rattle.lsm_serve.proofs.ServedCounts.{answer_reason, fault_reason, no_last, unsent_reason, write_faults_then, writes_then}
use Rattle.lsm_serve.proofs.ServedStreams.{FindsSent, Leaves, WhenRequest, fault_at, finds_sent, http_at, leaves_at, request_is, served_part, served_some, served_written, waits_at}
use Rattle.lsm_serve.proofs.Syncs.{part_sent, sends_some, so_far_synced, some_synced}
use Rattle.lsm_serve.proofs.serving.answer_all.Goals as goal

pub returns-in-Ok-Partial-clause-served : goal.returns-in-Ok-Partial-clause-served
returns-in-Ok-Partial-clause-served g c old requests held later first =
    let s = c.loop-at.invariant.so old requests held later first in
    let finds = subst (λ (p : Parsed). FindsSent c.split_at.result.1.now (Ok p)) c.in-Ok-Partial.field-0-is (finds_sent c.split_at.result.1.now (Ok c.in-Ok-Partial.field-0) c.in-Ok-Partial.ensures.found c.in-Ok-Partial.ensures.line) in
    (s, waits_at old c.loop-at.store requests held (g.W.Sink.contents c.loop-at.writer) c.args.input.now c.split_at.result.1.now later c.loop-at.out.items c.loop-at.at c.split_at.ensures.back s finds)

pub returns-in-Some-clause-served : goal.returns-in-Some-clause-served
returns-in-Some-clause-served g c old requests held later first =
    let s = c.loop-at.invariant.so old requests held later first in
    let found = subst (WhenRequest c.split_at.result.1.now) c.in-Ok-Request.field-0-is (request_is c.split_at.result.1.now c.in-Ok-Request.field-0 (finds_sent c.split_at.result.1.now (Ok c.in-Ok-Request.field-0) c.in-Ok-Request.ensures.found c.in-Ok-Request.ensures.line) (λ e. (let is = c.in-Ok-Request.ensures.nothing e in cc)) c.in-Ok-Request.ensures.within) in
    http_at old c.loop-at.store requests held (g.W.Sink.contents c.loop-at.writer) c.args.input.now c.split_at.result.1.now later c.loop-at.out.items c.loop-at.at c.split_at.ensures.back s
    c.in-Some.word c.in-Ok-Request.words.items c.deref.result.now c.in-Ok-Request.len found c.deref.ensures.value c.in-Some.ensures.some

pub returns-in_err-answer_to-in-Ok-Request-clause-served :
    goal.returns-in_err-answer_to-in-Ok-Request-clause-served
returns-in_err-answer_to-in-Ok-Request-clause-served g c old requests held later first =
    let s = c.loop-at.invariant.so old requests held later first in
    let found = subst (WhenRequest c.split_at.result.1.now) c.in-Ok-Request.field-0-is (request_is c.split_at.result.1.now c.in-Ok-Request.field-0 (finds_sent c.split_at.result.1.now (Ok c.in-Ok-Request.field-0) c.in-Ok-Request.ensures.found c.in-Ok-Request.ensures.line) (λ e. (let is = c.in-Ok-Request.ensures.nothing e in cc)) c.in-Ok-Request.ensures.within) in
    let some = leaves_at old c.loop-at.store requests held (g.W.Sink.contents c.loop-at.writer) c.args.input.now c.split_at.result.1.now later c.loop-at.out.items c.loop-at.at c.split_at.ensures.back s
    c.in-Ok-Request.words.items c.deref-in-Ok-Request.result.now c.in-Ok-Request.len c.answer_to.new.out.items c.answer_to.new.store (Err c.in_err-answer_to-in-Ok-Request.field-0.0) found c.deref-in-Ok-Request.ensures.value c.in_err-answer_to-in-Ok-Request.ensures in
    let p = err_from_is_err_and c.from_residual.result c.from_residual.ensures.1 in
    rw (p.1, p.2) (some, tt)

pub returns-then-branch-clause-served : goal.returns-then-branch-clause-served
returns-then-branch-clause-served g c old requests held later first =
    let s = c.loop-at.invariant.so old requests held later first in
    let found = subst (WhenRequest c.split_at.result.1.now) c.in-Ok-Request.field-0-is (request_is c.split_at.result.1.now c.in-Ok-Request.field-0 (finds_sent c.split_at.result.1.now (Ok c.in-Ok-Request.field-0) c.in-Ok-Request.ensures.found c.in-Ok-Request.ensures.line) (λ e. (let is = c.in-Ok-Request.ensures.nothing e in cc)) c.in-Ok-Request.ensures.within) in
    subst (λ (b : Bool). Leaves {E = Unit {0}} old requests held (g.W.Sink.contents c.loop-at.writer) (drop (c.loop-at.at + c.in-Ok-Request.len) c.args.input.now ++ later) c.answer_to.new.out.items (Ok b) c.answer_to.new.store) c.if-branch.true
    (leaves_at old c.loop-at.store requests held (g.W.Sink.contents c.loop-at.writer) c.args.input.now c.split_at.result.1.now later c.loop-at.out.items c.loop-at.at c.split_at.ensures.back s {E = Unit {0}}
    c.in-Ok-Request.words.items c.deref-in-Ok-Request.result.now c.in-Ok-Request.len c.answer_to.new.out.items c.answer_to.new.store (Ok c.in_ok-answer_to-in-Ok-Request.field-0) found c.deref-in-Ok-Request.ensures.value c.in_ok-answer_to-in-Ok-Request.ensures)

pub returns-in-Err-OutOfMemory-clause-served : goal.returns-in-Err-OutOfMemory-clause-served
returns-in-Err-OutOfMemory-clause-served g c old requests held later first =
    (served_some old c.loop-at.store requests held (g.W.Sink.contents c.loop-at.writer) (drop c.loop-at.at c.args.input.now ++ later) c.loop-at.out.items (c.loop-at.invariant.so old requests held later first), tt)

pub returns-in-Err-Protocol-clause-served : goal.returns-in-Err-Protocol-clause-served
returns-in-Err-Protocol-clause-served g c old requests held later first =
    let s = c.loop-at.invariant.so old requests held later first in
    let finds = subst (λ (e : ParseError). FindsSent c.split_at.result.1.now (Err e)) c.in-Err-Protocol.field-0-is (finds_sent c.split_at.result.1.now (Err c.in-Err-Protocol.field-0) c.in-Err-Protocol.ensures.found c.in-Err-Protocol.ensures.line) in
    absurd (fault_at old c.loop-at.store requests held (g.W.Sink.contents c.loop-at.writer) c.args.input.now c.split_at.result.1.now later c.loop-at.out.items c.loop-at.at c.split_at.ensures.back s finds
    (λ e. (let wrong = c.in-Err-Protocol.ensures.nothing e in cc)))

pub returns-in_err-send-clause-served : goal.returns-in_err-send-clause-served
returns-in_err-send-clause-served g c old requests held later first =
    let s = c.loop-at.invariant.so old requests held later first in
    let found = subst (WhenRequest c.split_at.result.1.now) c.in-Ok-Request.field-0-is (request_is c.split_at.result.1.now c.in-Ok-Request.field-0 (finds_sent c.split_at.result.1.now (Ok c.in-Ok-Request.field-0) c.in-Ok-Request.ensures.found c.in-Ok-Request.ensures.line) (λ e. (let is = c.in-Ok-Request.ensures.nothing e in cc)) c.in-Ok-Request.ensures.within) in
    let ahead = drop (c.loop-at.at + c.in-Ok-Request.len) c.args.input.now ++ later in
    let next : ServedSoFar old requests held c.answer_to.new.store ahead c.answer_to.new.out.items (g.W.Sink.contents c.loop-at.writer) =
    subst (λ (b : Bool). Leaves {E = Unit {0}} old requests held (g.W.Sink.contents c.loop-at.writer) ahead c.answer_to.new.out.items (Ok b) c.answer_to.new.store) c.if-branch.false
    (leaves_at old c.loop-at.store requests held (g.W.Sink.contents c.loop-at.writer) c.args.input.now c.split_at.result.1.now later c.loop-at.out.items c.loop-at.at c.split_at.ensures.back s {E = Unit {0}}
    c.in-Ok-Request.words.items c.deref-in-Ok-Request.result.now c.in-Ok-Request.len c.answer_to.new.out.items c.answer_to.new.store (Ok c.in_ok-answer_to-in-Ok-Request.field-0) found c.deref-in-Ok-Request.ensures.value c.in_ok-answer_to-in-Ok-Request.ensures)
    in
    let failed : MayHaveFailed c.answer_to.new.store c.send.new.store = record { rest = c.in_err-send.ensures.same; counted = c.in_err-send.ensures.counted } in
    let part = part_sent c.in_err-send.field-0.0 (g.W.Sink.contents c.loop-at.writer) (g.W.Sink.contents c.send.new.writer) c.answer_to.new.out.items c.in_err-send.ensures.refused in
    let some = served_part old c.answer_to.new.store requests held (g.W.Sink.contents c.loop-at.writer) ahead c.answer_to.new.out.items next (g.W.Sink.contents c.send.new.writer) part in
    let after = some_synced old c.answer_to.new.store c.send.new.store requests held (g.W.Sink.contents c.send.new.writer) failed some in
    let p = err_from_is_err_and c.from_residual-in_err-send.result c.from_residual-in_err-send.ensures.1 in
    rw (p.1, p.2) (sends_some c.in_err-send.field-0.0 old c.send.new.store requests held (g.W.Sink.contents c.loop-at.writer) (g.W.Sink.contents c.send.new.writer) c.answer_to.new.out.items c.in_err-send.ensures.refused after)

pub loop-at-preserved-in-Continue-branch-2 : goal.loop-at-preserved-in-Continue-branch-2
loop-at-preserved-in-Continue-branch-2 g c =
    let found = subst (WhenRequest c.split_at.result.1.now) c.in-Ok-Request.field-0-is (request_is c.split_at.result.1.now c.in-Ok-Request.field-0 (finds_sent c.split_at.result.1.now (Ok c.in-Ok-Request.field-0) c.in-Ok-Request.ensures.found c.in-Ok-Request.ensures.line) (λ e. (let is = c.in-Ok-Request.ensures.nothing e in cc)) c.in-Ok-Request.ensures.within) in
    record {
      within = omega (arith, found.within, c.split_at.ensures.back_len, c.loop-at.invariant.within);
      few = (let none = ap (λ (xs : List ℕ). length xs) c.in_ok-send.ensures.empty in omega (arith, none));
      so = λ old requests held later first.
          (let s = c.loop-at.invariant.so old requests held later first in
          let ahead = drop (c.loop-at.at + c.in-Ok-Request.len) c.args.input.now ++ later in
          let next : ServedSoFar old requests held c.answer_to.new.store ahead c.answer_to.new.out.items (g.W.Sink.contents c.loop-at.writer) =
          subst (λ (b : Bool). Leaves {E = Unit {0}} old requests held (g.W.Sink.contents c.loop-at.writer) ahead c.answer_to.new.out.items (Ok b) c.answer_to.new.store) c.if-branch.false
          (leaves_at old c.loop-at.store requests held (g.W.Sink.contents c.loop-at.writer) c.args.input.now c.split_at.result.1.now later c.loop-at.out.items c.loop-at.at c.split_at.ensures.back s {E = Unit {0}}
          c.in-Ok-Request.words.items c.deref-in-Ok-Request.result.now c.in-Ok-Request.len c.answer_to.new.out.items c.answer_to.new.store (Ok c.in_ok-answer_to-in-Ok-Request.field-0) found c.deref-in-Ok-Request.ensures.value c.in_ok-answer_to-in-Ok-Request.ensures)
          in
          let failed : MayHaveFailed c.answer_to.new.store c.send.new.store = record { rest = c.in_ok-send.ensures.same; counted = c.in_ok-send.ensures.counted } in
          let wrote = served_written old c.answer_to.new.store requests held (g.W.Sink.contents c.loop-at.writer) ahead c.answer_to.new.out.items next (g.W.Sink.contents c.send.new.writer) c.send.new.out.items c.in_ok-send.ensures.ok c.in_ok-send.ensures.empty in
          so_far_synced old c.answer_to.new.store c.send.new.store requests held (g.W.Sink.contents c.send.new.writer) failed ahead c.send.new.out.items wrote);
      ran = λ old held first.
          (let next = ran_next old c.loop-at.store held (g.W.Sink.contents c.loop-at.writer) c.loop-at.out.items (c.loop-at.invariant.ran old held first) c.answer_to.new.store (words_of c.deref-in-Ok-Request.result.now) c.answer_to.new.out.items
          (subst (λ (b : Bool). AnswersOne {E = Unit {0}} c.loop-at.store (words_of c.deref-in-Ok-Request.result.now) c.loop-at.out.items c.answer_to.new.out.items (Ok b) c.answer_to.new.store) c.if-branch.false c.in_ok-answer_to-in-Ok-Request.ensures) in
          let failed : MayHaveFailed c.answer_to.new.store c.send.new.store = record { rest = c.in_ok-send.ensures.same; counted = c.in_ok-send.ensures.counted } in
          let wrote = ran_written old c.answer_to.new.store held (g.W.Sink.contents c.loop-at.writer) c.answer_to.new.out.items next (g.W.Sink.contents c.send.new.writer) c.send.new.out.items c.in_ok-send.ensures.ok c.in_ok-send.ensures.empty in
          ran_synced old c.answer_to.new.store held (g.W.Sink.contents c.send.new.writer) c.send.new.out.items wrote c.send.new.store failed);
      writes = omega (arith, c.loop-at.invariant.writes, c.in_ok-send.ensures.writes);
      faults = omega (arith, c.loop-at.invariant.faults, c.in_ok-send.ensures.faults);
    }

pub loop-at-preserved : goal.loop-at-preserved
loop-at-preserved g c =
    let found = subst (WhenRequest c.split_at.result.1.now) c.in-Ok-Request.field-0-is (request_is c.split_at.result.1.now c.in-Ok-Request.field-0 (finds_sent c.split_at.result.1.now (Ok c.in-Ok-Request.field-0) c.in-Ok-Request.ensures.found c.in-Ok-Request.ensures.line) (λ e. (let is = c.in-Ok-Request.ensures.nothing e in cc)) c.in-Ok-Request.ensures.within) in
    record {
      within = omega (arith, found.within, c.split_at.ensures.back_len, c.loop-at.invariant.within);
      few = omega arith;
      so = λ old requests held later first.
          (let s = c.loop-at.invariant.so old requests held later first in
          let ahead = drop (c.loop-at.at + c.in-Ok-Request.len) c.args.input.now ++ later in
          let next : ServedSoFar old requests held c.answer_to.new.store ahead c.answer_to.new.out.items (g.W.Sink.contents c.loop-at.writer) =
          subst (λ (b : Bool). Leaves {E = Unit {0}} old requests held (g.W.Sink.contents c.loop-at.writer) ahead c.answer_to.new.out.items (Ok b) c.answer_to.new.store) c.if-branch.false
          (leaves_at old c.loop-at.store requests held (g.W.Sink.contents c.loop-at.writer) c.args.input.now c.split_at.result.1.now later c.loop-at.out.items c.loop-at.at c.split_at.ensures.back s {E = Unit {0}}
          c.in-Ok-Request.words.items c.deref-in-Ok-Request.result.now c.in-Ok-Request.len c.answer_to.new.out.items c.answer_to.new.store (Ok c.in_ok-answer_to-in-Ok-Request.field-0) found c.deref-in-Ok-Request.ensures.value c.in_ok-answer_to-in-Ok-Request.ensures)
          in
          next);
      ran = λ old held first. ran_next old c.loop-at.store held (g.W.Sink.contents c.loop-at.writer) c.loop-at.out.items (c.loop-at.invariant.ran old held first) c.answer_to.new.store (words_of c.deref-in-Ok-Request.result.now) c.answer_to.new.out.items
          (subst (λ (b : Bool). AnswersOne {E = Unit {0}} c.loop-at.store (words_of c.deref-in-Ok-Request.result.now) c.loop-at.out.items c.answer_to.new.out.items (Ok b) c.answer_to.new.store) c.if-branch.false c.in_ok-answer_to-in-Ok-Request.ensures);
      writes = c.loop-at.invariant.writes;
      faults = c.loop-at.invariant.faults;
    }

pub answer_to-requires : goal.answer_to-requires
answer_to-requires g c = subst (λ (words : List (Bor (List ℕ))). IsNoHttp (words_of words)) (c.deref.ensures.value ∙ sym c.deref-in-Ok-Request.ensures.value) c.in_default.ensures.none

pub returns-in-Ok-Partial-clause-reach : goal.returns-in-Ok-Partial-clause-reach
returns-in-Ok-Partial-clause-reach g c =
    let few : length c.split_at.result.1.now < enough_for_request = subst (IsEnough c.split_at.result.1.now) c.in-Ok-Partial.field-0-is c.in-Ok-Partial.ensures.enough in
    (c.loop-at.invariant.within, omega (arith, few, c.split_at.ensures.back_len, c.loop-at.invariant.within))

pub returns-clause-served : goal.returns-clause-served
returns-clause-served g c old requests held later first =
    (c.loop-at.invariant.so old requests held later first, λ none. drop_all c.loop-at.at c.args.input.now (omega (arith, c.loop-at-test.false)))

pub returns-in-Err-Protocol-clause-answered : goal.returns-in-Err-Protocol-clause-answered
returns-in-Err-Protocol-clause-answered g c old held first =
    let failed : MayHaveFailed c.loop-at.store c.fail.new.store = record { rest = c.fail.ensures.same; counted = c.fail.ensures.counted } in
    ran_fault old c.loop-at.store held (g.W.Sink.contents c.loop-at.writer) c.loop-at.out.items (c.loop-at.invariant.ran old held first) Reached c.fail.new.store (g.W.Sink.contents c.fail.new.writer) c.in-Err-Protocol.fault c.fail.result failed c.fail.ensures.answered

pub returns-in-Err-Protocol-clause-why : goal.returns-in-Err-Protocol-clause-why
returns-in-Err-Protocol-clause-why g c = fault_reason _ _ _ _ c.fail.result c.fail.ensures.answered

pub returns-in-Err-Protocol-clause-writes : goal.returns-in-Err-Protocol-clause-writes
returns-in-Err-Protocol-clause-writes g c = writes_then (Unit {0}) Reached c.fail.result _ _ _ c.loop-at.invariant.writes c.fail.ensures.writes

pub returns-in-Err-Protocol-clause-faults : goal.returns-in-Err-Protocol-clause-faults
returns-in-Err-Protocol-clause-faults g c = write_faults_then (Unit {0}) Reached c.fail.result _ _ _ c.loop-at.invariant.faults c.fail.ensures.faults

pub returns-in_err-send-clause-answered : goal.returns-in_err-send-clause-answered
returns-in_err-send-clause-answered g c old held first =
    let p = err_from_is_err_and c.from_residual-in_err-send.result c.from_residual-in_err-send.ensures.1 in
    rw (p.1, p.2) (no_last Reached old c.send.new.store held _ c.in_err-send.field-0.0 (unsent_reason _ _ _ c.in_err-send.field-0.0 c.in_err-send.ensures.refused))

pub returns-in_err-send-clause-why : goal.returns-in_err-send-clause-why
returns-in_err-send-clause-why g c =
    let p = err_from_is_err_and c.from_residual-in_err-send.result c.from_residual-in_err-send.ensures.1 in
    rw (p.1, p.2) (answer_reason c.in_err-send.field-0.0 (unsent_reason _ _ _ c.in_err-send.field-0.0 c.in_err-send.ensures.refused))

pub returns-in_err-send-clause-writes : goal.returns-in_err-send-clause-writes
returns-in_err-send-clause-writes g c =
    let p = err_from_is_err_and c.from_residual-in_err-send.result c.from_residual-in_err-send.ensures.1 in
    rw (p.1, p.2) (writes_then (Unit {0}) Reached c.in_err-send.field-0.0 _ _ _ c.loop-at.invariant.writes c.in_err-send.ensures.writes)

pub returns-in_err-send-clause-faults : goal.returns-in_err-send-clause-faults
returns-in_err-send-clause-faults g c =
    let p = err_from_is_err_and c.from_residual-in_err-send.result c.from_residual-in_err-send.ensures.1 in
    rw (p.1, p.2) (write_faults_then (Unit {0}) Reached c.in_err-send.field-0.0 _ _ _ c.loop-at.invariant.faults c.in_err-send.ensures.faults)

pub loop-at-smaller : goal.loop-at-smaller
loop-at-smaller g c =
    let found = subst (WhenRequest c.split_at.result.1.now) c.in-Ok-Request.field-0-is (request_is c.split_at.result.1.now c.in-Ok-Request.field-0 (finds_sent c.split_at.result.1.now (Ok c.in-Ok-Request.field-0) c.in-Ok-Request.ensures.found c.in-Ok-Request.ensures.line) (λ e. (let is = c.in-Ok-Request.ensures.nothing e in cc)) c.in-Ok-Request.ensures.within) in
    omega (arith, found.taken, found.within, c.split_at.ensures.back_len, c.loop-at-test.true)

pub returns-clause-reach : goal.returns-clause-reach
returns-clause-reach g c = (c.loop-at.invariant.within, omega (arith, c.loop-at-test.false))
