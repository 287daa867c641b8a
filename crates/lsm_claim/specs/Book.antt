-- The book of claims: what it keeps, when it refuses, and what each call makes of it (RocksDB wiki, Remote Compaction: the primary hands out a job and alone installs its result).
use Rattle.std.specs.Prelude.{◌≡◌, ℕ, ◌+◌, ◌≤◌, Bool, List, [], ◌∷◌, ◌++◌, Option, None, Some, length, nat_le, if◌then◌else◌}
use Rattle.std.specs.List.{list_any}
use Rattle.lsm_key.specs.declared.limits.TheConstants.{MAX_NUMBER, MAX_LIVE_CLAIMS}
use Rattle.lsm_key.specs.Sets.{IsIn}
use Rattle.lsm_claim.specs.declared.ending.Ending.{Ending}
use Rattle.lsm_claim.specs.declared.ending.Ending.TheVariants.{Installed, Returned}
use Rattle.lsm_claim.specs.declared.ending.Settled.{Settled}
use Rattle.lsm_claim.specs.declared.ending.Settled.TheVariants.{Live, Stale}
use Rattle.lsm_claim.specs.declared.error.ClaimError.{ClaimError}
use Rattle.lsm_claim.specs.declared.error.ClaimError.TheVariants.{Overlaps, BookFull, NumbersExhausted}
use Rattle.lsm_claim.specs.declared.job.JobId.{JobId}
use Rattle.lsm_claim.specs.declared.job.LiveJob.{LiveJob}
use Rattle.lsm_claim.specs.declared.job.Want.{Want}
use Rattle.lsm_claim.specs.Jobs.{JobNumbersRise, AreApart, IsLeastConflict, first_conflict, same_job_id, without_job}

-- what contracts see of a book of claims
pub record BookValue : Type 0 where
  pub epoch : ℕ
  pub made : ℕ  -- how many claims were issued
  pub installed : ℕ
  pub returned : ℕ
  pub live : List LiveJob  -- by number

-- no claim was issued yet
abbrev pub new_book : ℕ → BookValue
new_book epoch = record { epoch = epoch; made = 0; installed = 0; returned = 0; live = [] }

-- ---- what it keeps

-- a name that the book issued
pub record IsGiven (b : BookValue) (id : JobId) : Type 0 where
  pub epoch : id.epoch ≡ b.epoch
  pub first : 1 ≤ id.number
  pub last : id.number ≤ b.made

-- what every book keeps
pub record IsBook (b : BookValue) : Type 0 where
  pub counted : b.made ≡ b.installed + b.returned + length b.live
  pub numbered : b.made ≤ MAX_NUMBER
  pub few : length b.live ≤ MAX_LIVE_CLAIMS
  pub given : (j : LiveJob) → IsIn j b.live → IsGiven b j.id
  pub rising : JobNumbersRise b.live
  pub apart : AreApart b.live

-- ---- claims

-- why no job is claimed, whatever its keys
abbrev pub fault_without_conflict : BookValue → Option ClaimError
fault_without_conflict b =
    if nat_le MAX_LIVE_CLAIMS (length b.live) then Some BookFull
    else if nat_le MAX_NUMBER b.made then Some NumbersExhausted
    else None

-- a conflict is reported first
abbrev pub fault_by : Option JobId → BookValue → Option ClaimError
fault_by None b = fault_without_conflict b
fault_by (Some id) b = Some (Overlaps id)

-- why a job is not claimed: the first reason that holds
abbrev pub claim_fault : BookValue → Want → Option ClaimError
claim_fault b want = fault_by (first_conflict b.live want) b

-- a refusal for a conflict names the live job of the least number that conflicts
abbrev pub NamesLeast : BookValue → Want → ClaimError → Type 0
NamesLeast b want e = (id : JobId) → e ≡ Overlaps id → IsLeastConflict b.live want id

-- the job under the next number
abbrev pub next_job : BookValue → Want → LiveJob
next_job b want = record { id = record { epoch = b.epoch; number = b.made + 1 }; want = want }

-- it is live, under the next number
abbrev pub after_claim : BookValue → Want → BookValue
after_claim b want = record b { made = b.made + 1; live = b.live ++ next_job b want ∷ [] }

-- ---- ends

-- the job is live
abbrev pub holds : BookValue → JobId → Bool
holds b id = list_any (λ j. same_job_id j.id id) b.live

-- the answer to a claim that is settled: whether its job was still live
abbrev pub settle_answer : BookValue → JobId → Settled
settle_answer b id = if holds b id then Live else Stale

-- one more of this ending
abbrev pub with_ending : Ending → BookValue → BookValue
with_ending Installed b = record b { installed = b.installed + 1 }
with_ending Returned b = record b { returned = b.returned + 1 }

-- a live job is removed and its ending is counted; otherwise the book stays as it was
abbrev pub after_settling : BookValue → JobId → Ending → BookValue
after_settling b id ending =
    if holds b id then with_ending ending (record b { live = without_job id b.live })
    else b
