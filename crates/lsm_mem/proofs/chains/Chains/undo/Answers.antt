use Rattle.std.proofs.Common.{rules, ap, ◌∙◌}
use Rattle.lsm_mem.specs.Chains.{chains_before}
use Rattle.lsm_mem.proofs.OlderChains.{chains_kept}
use Rattle.lsm_mem.proofs.chains.Chains.undo.Goals as goal

pub returns-clause-undone : goal.returns-clause-undone
returns-clause-undone c =
    chains_kept c.args.first _ _ (λ k v b w f t. search rules) _ _ c.retain.ensures.filtered ∙ ap (chains_before c.args.first) c.self.view_is
