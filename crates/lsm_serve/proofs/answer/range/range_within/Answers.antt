use Rattle.std.proofs.Common.{◌∙◌, ap, refl}
use Rattle.lsm_serve.specs.Answers.{in_turn}
use Rattle.lsm_serve.proofs.answer.range.range_within.Goals as goal

pub returns-in_ok-values-in-Ok : goal.returns-in_ok-values-in-Ok
returns-in_ok-values-in-Ok g c = ((c.in-Ok.pairs.items, c.from_vec.ensures ∙ c.in_ok-values-in-Ok.ensures ∙ ap in_turn c.deref.ensures.value, c.in-Ok.ensures.ok), refl)
