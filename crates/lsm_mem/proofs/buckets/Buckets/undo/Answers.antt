use Rattle.std.proofs.Common.{rules, ap, sym, subst, ◌∙◌}
use Rattle.lsm_mem.specs.Buckets.{bytes_of_front}
use Rattle.lsm_mem.specs.Chains.{AreChains, chains_before}
use Rattle.lsm_mem.proofs.OlderChains.{buckets_kept, placed_kept}
use Rattle.lsm_mem.proofs.buckets.Buckets.undo.Goals as goal

pub invariant_of-self : goal.invariant_of-self
invariant_of-self c =
    placed_kept c.args.first _ _ (λ k v b w f t. search rules) (bytes_of_front c.self.inside.front) _ _ (subst AreChains (sym c.self.view_is) c.requires) c.self.invariant c.retain.ensures.filtered

pub returns : goal.returns
returns c =
    buckets_kept c.args.first _ _ (λ k v b w f t. search rules) _ _ (subst AreChains (sym c.self.view_is) c.requires) c.retain.ensures.filtered ∙ ap (chains_before c.args.first) c.self.view_is
