use Rattle.std.proofs.Common.{◌≡◌, ◌∙◌, ◌<◌, ◌≤◌, ℕ, Option, Ok, IfSome, length, take, ap, arith, subst, length-append, [], ◌∷◌, rules}
use Rattle.lsm_resp.specs.Lines.{FindsEnd, line_words}
use Rattle.lsm_resp.specs.Outcomes.{IsRequest, bytes_before}
use Rattle.lsm_resp.specs.declared.limits.TheConstants.{MAX_LINE_BYTES}
use Rattle.lsm_resp.proofs.Lines.{line_come, line_is, line_taken}
use Rattle.lsm_resp.proofs.inline.read_inline.Goals as goal

pub returns-clause-line : goal.returns-clause-line
returns-clause-line c line is ahead =
    let finds = subst (λ (o : Option ℕ). FindsEnd c.args.input.now (Ok o)) c.in-Some.is c.in_ok-end.ensures.line in
    let ends = finds line is ahead in
    let come : c.in-Some.end < length c.args.input.now = search rules in
    let front = c.split_at.ensures.front ∙ line_is line c.args.input.now c.in-Some.end ahead ends come in
    (c.in_ok-words.ensures ∙ ap line_words front, omega (arith, ends, length-append line (10 ∷ [])))

pub returns-clause-words : goal.returns-clause-words
returns-clause-words c =
    let input = c.args.input.now in
    let end = c.in-Some.end in
    let come : end < length input = search rules in
    let short : end ≤ MAX_LINE_BYTES = search rules in
    let value = subst (λ (o : Option ℕ). IfSome o (λ e. e ≡ bytes_before 10 input)) c.in-Some.is c.in_ok-end.ensures.value in
    IsRequest.line (take end input) (line_come input end c.requires value come short) (line_taken input end value come) (c.in_ok-words.ensures ∙ ap line_words c.split_at.ensures.front)
