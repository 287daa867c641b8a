use Rattle.std.proofs.Common.{ℕ, not, rules}
use Rattle.std.specs.List.{list_any}
use Rattle.std.proofs.lemmas.Fn.{filter_same}
use Rattle.lsm_edit.specs.Version.{has_number}
use Rattle.lsm_inspect.proofs.checking.unneeded_of.Goals as goal

pub returns : goal.returns
returns c = filter_same _ (λ (n : ℕ). not (list_any (has_number n) c.args.version.now.files)) _ (λ x b f k. search rules) _ _ c.retain.ensures.filtered
