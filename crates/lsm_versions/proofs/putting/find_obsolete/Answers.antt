use Rattle.std.proofs.Common.{◌∙◌, ℕ, not, filter, ap, rules}
use Rattle.std.proofs.lemmas.Fn.{filter_same}
use Rattle.lsm_versions.specs.Opening.{is_live_file}
use Rattle.lsm_versions.proofs.putting.find_obsolete.Goals as goal

pub returns-clause-ok : goal.returns-clause-ok
returns-clause-ok g c =
    let needed = is_live_file c.args.version.now.files c.args.retired.now in
    filter_same _ (λ (n : ℕ). not (needed n)) _ (λ x b f k. search rules) _ _ c.retain.ensures.filtered ∙ ap (filter (λ (n : ℕ). not (needed n))) c.in_ok-numbers.ensures.ok
