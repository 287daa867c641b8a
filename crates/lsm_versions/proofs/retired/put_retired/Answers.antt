use Rattle.std.proofs.Common.{◌≡◌, ◌++◌, List, rules, subst}
use Rattle.std.specs.List.Sorted.{IsNonDecreasingBy, IsPermutation}
use Rattle.std.proofs.lemmas.List.Sorted.{IsNonDecreasingBy-from_sort_by_key}
use Rattle.lsm_versions.specs.declared.retired.Retired.{Retired}
use Rattle.lsm_versions.proofs.RetiredByNumber.{sorted_is}
use Rattle.lsm_versions.proofs.retired.put_retired.Goals as goal

pub returns : goal.returns
returns c =
    let old = c.args.retired.now.items in
    let more = c.args.more.items in
    let all : c.append.new.self.items ≡ old ++ more = search rules in
    let moved : IsPermutation (old ++ more) c.sort_unstable_by_key.new.self.items = subst (λ (xs : List Retired). IsPermutation xs c.sort_unstable_by_key.new.self.items) all c.sort_unstable_by_key.ensures.permutation in
    let up : IsNonDecreasingBy (λ (r : Retired). r.number) c.sort_unstable_by_key.new.self.items = IsNonDecreasingBy-from_sort_by_key (λ (r : Retired). r.number) _ c.sort_unstable_by_key.ensures.sorted (λ a r q k. search rules) in
    sorted_is more old c.sort_unstable_by_key.new.self.items moved up c.requires.rising
