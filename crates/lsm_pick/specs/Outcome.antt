-- The outcome of a prefix of the candidates.
use Rattle.std.specs.Prelude.{Bool, true, false, List}
use Rattle.lsm_claim.specs.declared.job.LiveJob.{LiveJob}
use Rattle.lsm_edit.specs.declared.file.FileMeta.{FileMeta}
use Rattle.lsm_claim.specs.declared.job.Want.{Want}
use Rattle.lsm_pick.specs.declared.outcome.Outcome.{Outcome}
use Rattle.lsm_pick.specs.declared.outcome.Outcome.TheVariants as outcome
use Rattle.lsm_pick.specs.Closure.{Candidate}
use Rattle.lsm_pick.specs.Rule.{IsFirst, AreTooLarge, AreBlocked}

-- the candidates, in their order, have this outcome
abbrev pub HasOutcome : List FileMeta → List LiveJob → List Candidate → Outcome → Type 0
HasOutcome files live ts (outcome.Picked want) = IsFirst files live ts want
HasOutcome files live ts outcome.TooLarge = AreTooLarge files live ts
HasOutcome files live ts outcome.Blocked = AreBlocked files live ts

-- there is something to pick, and so to allocate
abbrev pub CanPick : List FileMeta → List LiveJob → List Candidate → Type 0
CanPick files live ts = (want : Want) × IsFirst files live ts want

-- the outcome of candidates and of those after them
abbrev pub or_later : Outcome → Outcome → Outcome
or_later (outcome.Picked want) later = outcome.Picked want
or_later outcome.TooLarge (outcome.Picked want) = outcome.Picked want
or_later outcome.TooLarge outcome.TooLarge = outcome.TooLarge
or_later outcome.TooLarge outcome.Blocked = outcome.TooLarge
or_later outcome.Blocked later = later

-- a candidate was eligible, and its compaction is picked
abbrev pub is_some_picked : Outcome → Bool
is_some_picked (outcome.Picked want) = true
is_some_picked outcome.TooLarge = false
is_some_picked outcome.Blocked = false
