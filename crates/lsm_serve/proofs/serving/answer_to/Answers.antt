use Rattle.std.proofs.Common.{◌<◌, length, inr, rules}
use Rattle.std.proofs.lemmas.Result.{err_from_is_err_and}
use Rattle.lsm_resp.specs.Requests.{words_of}
use Rattle.lsm_serve.proofs.ServedStreams.{answered_only, last_is, replies_to}
use Rattle.lsm_serve.proofs.serving.answer_to.Goals as goal

pub returns : goal.returns
returns g c =
    let some : 0 < length c.args.words.now = search rules in
    let reply = c.in_ok-write_answer.ensures in (
      reply.0,
      replies_to c.args.synced c.args.store.now c.answer_request.new.store c.args.words.now c.in_ok-answer.answer reply.0 some c.in_ok-answer.ensures.ok reply.1 c.requires,
      reply.2,
      last_is c.ends_stream-is_last.result (words_of c.args.words.now) c.ends_stream-is_last.ensures,
    )

pub returns-in_err-write_answer : goal.returns-in_err-write_answer
returns-in_err-write_answer g c =
    let some : 0 < length c.args.words.now = search rules in
    let last = last_is c.ends_stream-is_last.result (words_of c.args.words.now) c.ends_stream-is_last.ensures in
    let p = err_from_is_err_and c.from_residual-in_err-write_answer.result c.from_residual-in_err-write_answer.ensures.1 in
    rw p.1 (inr (answered_only c.args.synced c.args.store.now c.answer_request.new.store c.args.words.now c.in_ok-answer.answer c.ends_stream-is_last.result some c.in_ok-answer.ensures.ok c.requires last))
