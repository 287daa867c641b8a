use Rattle.std.proofs.Common.{◌∙◌, ℕ, List, [], ◌∷◌, ◌++◌, ap, subst}
use Rattle.std.specs.Io.KnownBytes.{Appends}
use Rattle.lsm_commands.specs.AnswerLines.{answer_text}
use Rattle.lsm_commands.proofs.SessionSteps.{wrote_op}
use Rattle.lsm_commands.proofs.once.write.Goals as goal

pub returns : goal.returns
returns g c =
    let held = g.W.Write.contents c.args.writer.now in
    let holds = g.W.Write.contents c.write_out.new.writer in
    let line = c.in_ok-write_answer.ensures ∙ ap (λ (o : List ℕ). (o ++ answer_text c.answer_call-answer.result) ++ 10 ∷ []) c.new-out.ensures.items in
    wrote_op c.args.store.now c.answer_call-answer.new.store c.sync.new.self c.args.op c.from_vec-ops.result c.answer_call-answer.result held holds
    (c.from_vec-ops.ensures ∙ c.in_ok-vec.ensures.items) c.answer_call-answer.ensures c.in_default.not-Refused c.sync.ensures.keeps
    (subst (λ (text : List ℕ). Appends held holds text) line c.in_ok-write_out.ensures.ok)
