use Rattle.std.proofs.Common.{◌∙◌, ap, Option, ℕ}
use Rattle.lsm_line.specs.Tokens.{onto, read_bytes}
use Rattle.lsm_line.proofs.SpelledWords.{spelled-more}
use Rattle.lsm_line.proofs.token.read_token.Goals as goal

pub loop-rest-preserved : goal.loop-rest-preserved
loop-rest-preserved c =
    let one = c.read_first.ensures.value ∙ ap (λ (b : Option ℕ). onto b (read_bytes c.read_first.result.1.now)) c.in-Some-default.is-0 in
    spelled-more c.args.word.now c.loop-rest.bytes.items c.loop-rest.rest.now c.read_first.result.1.now c.push.new.self.items c.in-Some-default.byte c.loop-rest.invariant one c.in_ok-push.ensures.items
