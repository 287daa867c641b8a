-- What the definition of a candidate implies (order theory: a least element is unique; set theory: a list and its members).
use Rattle.std.specs.Prelude.{◌≡◌, ◌↔◌, List}
use Rattle.lsm_key.specs.Sets.{SameMembers}
use Rattle.lsm_key.specs.declared.limits.Limits.{Limits}
use Rattle.lsm_claim.specs.declared.job.LiveJob.{LiveJob}
use Rattle.lsm_claim.specs.declared.job.Want.{Want}
use Rattle.lsm_edit.specs.declared.file.FileMeta.{FileMeta}
use Rattle.lsm_edit.specs.Served.{IsServed, ServedValue}
use Rattle.lsm_edit.specs.Version.{IsVersion}
use Rattle.lsm_pick.specs.After.{CompactPointersValue, candidates_after}
use Rattle.lsm_pick.specs.Closure.{Candidate}
use Rattle.lsm_pick.specs.Outcome.{CanPick}
use Rattle.lsm_pick.specs.Rule.{AreBlocked, AreTooLarge, Proposes, candidates}

-- a candidate proposes at most one compaction of the files: its level, files and hull are determined
abbrev pub ACandidateProposesOneWant : Type 0
ACandidateProposesOneWant = (files : List FileMeta) (t : Candidate) (one other : Want) → Proposes files t one → Proposes files t other → one ≡ other

-- both orders have the same candidates, so that the one gives something, nothing, or only what is too large where the other does
pub record AreAlike (files : List FileMeta) (live : List LiveJob) (ts us : List Candidate) : Type 0 where
  pub members : SameMembers ts us
  pub some : CanPick files live ts ↔ CanPick files live us
  pub none : AreBlocked files live ts ↔ AreBlocked files live us
  pub too_large : AreTooLarge files live ts ↔ AreTooLarge files live us

abbrev pub BothOrdersAreAlike : Type 0
BothOrdersAreAlike = (pointers : CompactPointersValue) (limits : Limits) (s : ServedValue) (live : List LiveJob) → IsServed s → IsVersion s.version → AreAlike s.version.files live (candidates_after pointers limits s) (candidates limits s.version.files)
