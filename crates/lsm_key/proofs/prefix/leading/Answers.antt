use Rattle.std.proofs.Common.{ap, ◌∙◌}
use Rattle.std.specs.Int.{w64, from_be_bytes}
use Rattle.lsm_key.proofs.PrefixOrder.{leading_loaded}
use Rattle.lsm_key.proofs.prefix.leading.Goals as goal

pub returns-in-Some : goal.returns-in-Some
returns-in-Some c =
    let first = c.in-Some.ensures.cases in
    c.from_be_bytes.ensures ∙ ap (from_be_bytes w64) first.same ∙ leading_loaded c.args.key.now first.enough
