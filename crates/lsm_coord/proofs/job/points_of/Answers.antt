use Rattle.std.proofs.Common.{List, ℕ, eqb, subst}
use Rattle.std.specs.List.{Contains, dedup}
use Rattle.std.proofs.lemmas.List.Filters.{dedup_is}
use Rattle.std.proofs.lemmas.List.Kept.{AllPairs-from_increasing, Contains-dedup_nat, Contains-from_dedup}
use Rattle.std.proofs.lemmas.List.Sorted.{Contains-permutation, IsPermutation-sym}
use Rattle.std.proofs.lemmas.Map.Keys.{IsStrictlyIncreasing-dedup}
use Rattle.lsm_key.specs.Sets.{SameMembers}
use Rattle.lsm_key.proofs.Membership.{IsIn-place, IsIn-contained}
use Rattle.lsm_coord.proofs.job.points_of.Goals as goal

pub returns-clause-all : goal.returns-clause-all
returns-clause-all c =
    let all = c.in_ok-points.points.items in
    let sorted = c.sort_unstable.new.self.items in
    let points = c.dedup.new.self.items in
    let is = dedup_is eqb sorted points c.dedup.ensures.filtered in
    let moved = c.sort_unstable.ensures.permutation in
    let same : SameMembers points all = λ x. (
      λ m.
          let kept : Contains (dedup eqb sorted) x = subst (λ (xs : List ℕ). Contains xs x) is (IsIn-place x points m) in
          IsIn-contained x all (Contains-permutation sorted all x (IsPermutation-sym all sorted moved) (Contains-from_dedup eqb sorted x kept)),
      λ m. IsIn-contained x points (rw is (Contains-dedup_nat sorted x (Contains-permutation all sorted x moved (IsIn-place x all m)))),
    ) in
    record {
      rising = rw is (AllPairs-from_increasing _ (IsStrictlyIncreasing-dedup _ c.sort_unstable.ensures.sorted));
      all = subst (λ (xs : List ℕ). SameMembers points xs) c.in_ok-points.ensures same;
    }
