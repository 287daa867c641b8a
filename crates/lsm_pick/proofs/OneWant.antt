-- A candidate proposes at most one compaction: its closure is least, and a hull has its ends among the closure's keys.
use Rattle.std.proofs.Common.{◌≡◌, ℕ, true, List, sym, ap, subst, ◌∙◌, map, eqb}
use Rattle.std.proofs.Math.Bool.{Bool-set}
use Rattle.std.proofs.Math.Path.{PathP, to_path_p}
use Rattle.std.specs.Cmp.{both_ways}
use Rattle.std.specs.List.{list_any}
use Rattle.lsm_key.specs.Sets.{IsIn}
use Rattle.lsm_key.specs.Order.{key_le}
use Rattle.lsm_key.proofs.AscendingEntries.{IsIn-filter}
use Rattle.lsm_key.proofs.KeyRanges.{key_le_antisymm}
use Rattle.lsm_key.proofs.Lists.{IsIn-kept}
use Rattle.lsm_claim.specs.declared.hull.Hull.{Hull}
use Rattle.lsm_claim.specs.declared.job.Want.{Want}
use Rattle.lsm_edit.specs.declared.file.FileMeta.{FileMeta}
use Rattle.lsm_pick.specs.Closure.{Candidate}
use Rattle.lsm_pick.specs.Rule.{Proposes, inputs_of}
use Rattle.lsm_pick.specs.Laws.{ACandidateProposesOneWant}
use Rattle.lsm_pick.proofs.ProposedWant.{filter_same}
use Rattle.lsm_pick.proofs.ReachGrows.{inside_parts}

-- ---- hulls

-- that its keys are in order is no further part of a hull
same_hull : (one other : Hull) → one.lo ≡ other.lo → one.hi ≡ other.hi → one ≡ other
same_hull one other low high =
    let proper : PathP (λ j. key_le (low j) (high j) ≡ true) one.proper other.proper = to_path_p (λ j. key_le (low j) (high j) ≡ true) (Bool-set (key_le other.lo other.hi) true _ other.proper) in
    λ i. record { lo = low i; hi = high i; proper = proper i }

-- ---- the want

module _ (files : List FileMeta) (t : Candidate) (one other : Want) (asks : Proposes files t one) (also : Proposes files t other) where
  -- a least set is within each other one
  inputs_within : (f : FileMeta) → IsIn f (inputs_of files one) → IsIn f (inputs_of files other)
  inputs_within = (asks.closure).least (inputs_of files other) (also.closure).has (also.closure).closed

  -- a file that the one want takes is taken by the other
  taken_too : (f : FileMeta) → IsIn f files → list_any (eqb f.number) one.files ≡ true → list_any (eqb f.number) other.files ≡ true
  taken_too f m h =
      let test = λ (want : Want) (g : FileMeta). list_any (eqb g.number) want.files in
      (IsIn-filter (test other) f files (inputs_within f (IsIn-kept (test one) f files m h))).1

  -- the other hull reaches as low, and as high
  low_enough : key_le other.hull.lo one.hull.lo ≡ true
  low_enough =
      let f = asks.least in
      subst (λ (k : List ℕ). key_le other.hull.lo k ≡ true) f.2 (inside_parts other.hull.lo other.hull.hi f.0 (also.inside f.0 (inputs_within f.0 f.1))).0

  high_enough : key_le one.hull.hi other.hull.hi ≡ true
  high_enough =
      let f = asks.greatest in
      subst (λ (k : List ℕ). key_le k other.hull.hi ≡ true) f.2 (inside_parts other.hull.lo other.hull.hi f.0 (also.inside f.0 (inputs_within f.0 f.1))).1

pub one_want : ACandidateProposesOneWant
one_want files t one other asks also =
    let inputs : inputs_of files one ≡ inputs_of files other = filter_same _ _ files (λ f m. both_ways (list_any (eqb f.number) one.files) (list_any (eqb f.number) other.files) (taken_too files t one other asks also f m) (taken_too files t other one also asks f m)) in
    let level = asks.level ∙ sym also.level in
    let numbers = asks.files_are ∙ ap (map (λ (f : FileMeta). f.number)) inputs ∙ sym also.files_are in
    let low = key_le_antisymm one.hull.lo other.hull.lo (low_enough files t other one also asks) (low_enough files t one other asks also) in
    let high = key_le_antisymm one.hull.hi other.hull.hi (high_enough files t one other asks also) (high_enough files t other one also asks) in
    let hull = same_hull one.hull other.hull low high in
    λ i. record { level = level i; files = numbers i; hull = hull i }
