use Rattle.std.proofs.Common.{rules}
use Rattle.std.proofs.lemmas.Fn.{filter_same}
use Rattle.lsm_mem.specs.Chains.{is_older}
use Rattle.lsm_mem.proofs.versions.keep_older.Goals as goal

pub returns-clause-kept : goal.returns-clause-kept
returns-clause-kept c = filter_same _ (is_older c.args.first) _ (λ x b f k. search rules) _ _ c.retain.ensures.filtered
