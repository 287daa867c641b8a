use Rattle.std.proofs.Common.{◌≡◌, ap, ◌∙◌, rules}
use Rattle.std.specs.Cmp.Lexicographic.{slice_cmp}
use Rattle.std.specs.Ordering.{nat_cmp, is_lt}
use Rattle.std.proofs.lemmas.List.Sorted.{answers_always}
use Rattle.lsm_merge.proofs.DeeperKeys.{begins_lower, weak, compares, sorted_least}
use Rattle.lsm_merge.proofs.deeper.by_least.Goals as goal

pub returns-clause-order : goal.returns-clause-order
returns-clause-order c =
    sorted_least c.sort_by.new.self.items (c.in_ok-sort_by.ensures.sorted begins_lower weak (answers_always _ _ _ (λ f a r g h.
    let e : r ≡ slice_cmp nat_cmp (a.0).now.lo ((a.1).0).now.lo = search rules in
    ap is_lt e ∙ compares (a.0).now.lo ((a.1).0).now.lo)))
