-- What a pick returns, and the job that it hands out (LevelDB, version_set.cc: PickCompaction, SetupOtherInputs; RocksDB wiki, Remote Compaction: the input of a compaction service).
use Rattle.std.specs.Prelude.{◌≡◌, ℕ, ◌+◌, ◌-◌, ◌<◌, ◌≤◌, Bool, ◌&&◌, List, Option, None, Some, AllPairs, filter, flat_map, length, map, nat_eq}
use Rattle.std.specs.List.{range_with_len}
use Rattle.lsm_key.specs.declared.limits.TheConstants.{MAX_NUMBER, MAX_LIVE_CLAIMS, MAX_JOB_LEVEL}
use Rattle.lsm_key.specs.Sets.{SameMembers}
use Rattle.lsm_claim.specs.declared.hull.Hull.{Hull}
use Rattle.lsm_claim.specs.declared.job.LiveJob.{LiveJob}
use Rattle.lsm_claim.specs.declared.job.Want.{Want}
use Rattle.lsm_claim.specs.Book.{after_claim, next_job}
use Rattle.lsm_edit.specs.declared.file.FileMeta.{FileMeta}
use Rattle.lsm_msg.specs.declared.job.JobParts.{JobParts}
use Rattle.lsm_key.specs.declared.range.KeyRange.{KeyRange}
use Rattle.lsm_msg.specs.Legal.{IsLegal, touches}
use Rattle.lsm_pick.specs.Closure.{Candidate}
use Rattle.lsm_pick.specs.Outcome.{CanPick}
use Rattle.lsm_pick.specs.Rule.{IsFirst, AreBlocked, AreTooLarge, inputs_of, candidates}
use Rattle.lsm_pick.specs.After.{CompactPointersValue, candidates_in}
use Rattle.lsm_coord.specs.declared.error.CoordError.{CoordError}
use Rattle.lsm_coord.specs.declared.error.CoordError.TheVariants.{BookFull, TooWide, NumbersExhausted, OutOfMemory}
use Rattle.lsm_coord.specs.declared.snapshot.Snapshot.{Snapshot}
use Rattle.lsm_coord.specs.Contract.Memory.{IsJobWant}
use Rattle.lsm_coord.specs.Contract.Value.{CoordValue}

-- ---- the job of a compaction

-- the sequences of the snapshots, each once, ascending
pub record ArePointsOf (snapshots : List Snapshot) (points : List ℕ) : Type 0 where
  pub rising : AllPairs (λ p q. p < q) points
  pub all : SameMembers points (map (λ x. x.at) snapshots)

-- a file of the level that may have keys of the hull
abbrev pub touches_at : Hull → ℕ → FileMeta → Bool
touches_at hull level f = nat_eq f.level level && touches hull f

-- the levels more than one below the compaction's, down to the deepest
abbrev pub deeper_levels : Want → List ℕ
deeper_levels want = range_with_len (want.level + 2) (MAX_JOB_LEVEL - want.level)

-- the files there that may have keys of the compaction, by level and number
abbrev pub deeper_files : List FileMeta → Want → List FileMeta
deeper_files files want = flat_map (λ level. filter (touches_at want.hull level) files) (deeper_levels want)

abbrev pub range_of : FileMeta → KeyRange
range_of f = record { lo = f.smallest; hi = f.largest }

pub record IsJobFor (c : CoordValue) (want : Want) (job : JobParts) : Type 0 where
  pub id : job.id ≡ (next_job c.book want).id
  pub level : job.level ≡ want.level
  pub block : job.block ≡ c.limits.block
  pub points : ArePointsOf c.snapshots job.points
  pub inputs : job.inputs ≡ inputs_of c.served.version.files want
  pub deeper : job.deeper ≡ map range_of (deeper_files c.served.version.files want)

-- ---- the answers

-- one more claim may be live
abbrev pub HasFreeClaim : CoordValue → Type 0
HasFreeClaim c = length c.book.live < MAX_LIVE_CLAIMS

-- what a pick tries, in this order; none if no level needs compaction
abbrev pub candidates_of : CoordValue → List Candidate
candidates_of c = candidates c.limits c.served.version.files

-- the same in the order of compact pointers, if there are any
abbrev pub candidates_in_order : Option CompactPointersValue → CoordValue → List Candidate
candidates_in_order pointers c = candidates_in pointers c.limits c.served

-- the compaction of the first eligible candidate in that order
abbrev pub NextCompactionAfter : Option CompactPointersValue → CoordValue → Want → Type 0
NextCompactionAfter pointers c want = IsFirst c.served.version.files c.book.live (candidates_in_order pointers c) want

-- a candidate is eligible; and so in every order, as they all have the same candidates
abbrev pub SomethingToCompact : CoordValue → Type 0
SomethingToCompact c = CanPick c.served.version.files c.book.live (candidates_of c)

-- every candidate conflicts with a running job, or there is none
abbrev pub NothingToCompact : CoordValue → Type 0
NothingToCompact c = AreBlocked c.served.version.files c.book.live (candidates_of c)

-- no candidate is eligible, and at least one fails by its size alone
abbrev pub OnlyTooLarge : CoordValue → Type 0
OnlyTooLarge c = AreTooLarge c.served.version.files c.book.live (candidates_of c)

-- the compaction is the next one, is one that a job may have, may be merged and can be claimed
pub record MayClaim (pointers : Option CompactPointersValue) (c : CoordValue) (want : Want) : Type 0 where
  pub free : HasFreeClaim c
  pub fits : c.book.made < MAX_NUMBER
  pub next : NextCompactionAfter pointers c want
  pub orderly : IsJobWant want
  pub legal : IsLegal c.served.version.files want

-- its claim with its job, and the job in the book
pub record IsPickedAfter (pointers : Option CompactPointersValue) (old : CoordValue) (claim : LiveJob) (job : JobParts) (new : CoordValue) : Type 0 where
  pub want : Want
  pub may : MayClaim pointers old want
  pub claim_is : claim ≡ next_job old.book want
  pub job_is : IsJobFor old want job
  pub new_is : new ≡ record old { book = after_claim old.book want }

-- what is picked in the order of the pointers, or that there is nothing to compact
abbrev pub PicksAfter : Option CompactPointersValue → CoordValue → CoordValue → Option (LiveJob × JobParts) → Type 0
PicksAfter pointers old new None = HasFreeClaim old × NothingToCompact old × (new ≡ old)
PicksAfter pointers old new (Some picked) = IsPickedAfter pointers old picked.0 picked.1 new

-- what is picked without pointers
abbrev pub IsPicked : CoordValue → LiveJob → JobParts → CoordValue → Type 0
IsPicked old claim job new = IsPickedAfter None old claim job new

abbrev pub Picks : CoordValue → CoordValue → Option (LiveJob × JobParts) → Type 0
Picks old new picked = PicksAfter None old new picked

-- why nothing is picked, in whatever order: the first reason that holds
abbrev pub PickRefuses : CoordValue → CoordError → Type 0
PickRefuses c BookFull = MAX_LIVE_CLAIMS ≤ length c.book.live
PickRefuses c TooWide = HasFreeClaim c × OnlyTooLarge c
PickRefuses c NumbersExhausted = HasFreeClaim c × SomethingToCompact c × (MAX_NUMBER ≤ c.book.made)
PickRefuses c OutOfMemory = HasFreeClaim c × SomethingToCompact c × (c.book.made < MAX_NUMBER)
PickRefuses c e = ⊥
