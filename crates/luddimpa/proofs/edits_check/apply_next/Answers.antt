use Rattle.std.proofs.Common.{◌≡◌, ◌<◌, ◌^◌, ◌++◌, ℕ, List, Option, length, subst}
use Rattle.std.specs.Option.{IfSome}
use Rattle.lsm_msg.specs.Messages.{sized}
use Rattle.luddimpa.proofs.EditsInTurn.{refusal_stops}
use Rattle.luddimpa.proofs.edits_check.apply_next.Goals as goal

pub returns-clause-refused : goal.returns-clause-refused
returns-clause-refused c =
    let here = subst (λ (o : Option (List ℕ)). IfSome o (λ text. (c.args.rest.now ≡ sized text ++ c.take_element.new.rest) × (length text < 2 ^ 32))) c.in-Some.is c.in-Ok.ensures.some in
    refusal_stops c.args.version.now c.args.rest.now c.in-Some.text c.take_element.new.rest c.in_ok-edit.edit here.0 here.1 c.in_ok-edit.ensures.ok c.apply.result c.apply.ensures.refused
