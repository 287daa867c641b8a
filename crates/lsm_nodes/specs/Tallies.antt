-- What a caller of a shared coordinator counts and records (per-thread counters: McKenney, Is Parallel Programming Hard, chapter 5).
use Rattle.std.specs.Prelude.{◌≡◌, ◌⊎◌, ℕ, ◌+◌, ◌≤◌, Bool, true, false, List, [], ◌∷◌, ◌++◌, length, count_by, if◌then◌else◌}
use Rattle.std.specs.List.{AllByRecursion, flat_map}
use Rattle.lsm_claim.specs.declared.ending.Settled.{Settled}
use Rattle.lsm_claim.specs.declared.ending.Settled.TheVariants.{Live, Stale}
use Rattle.lsm_coord.specs.declared.answer.Answer.{Answer}
use Rattle.lsm_coord.specs.declared.answer.Answer.TheVariants as answer
use Rattle.lsm_coord.specs.declared.call.Call.{Call}
use Rattle.lsm_coord.specs.declared.call.Call.TheVariants as call
use Rattle.lsm_coord.specs.declared.error.CoordError.TheVariants.{OutOfMemory}
use Rattle.lsm_nodes.specs.declared.exchange.Exchange.{Exchange}
use Rattle.lsm_nodes.specs.declared.rounds.RoundEnd.{RoundEnd}
use Rattle.lsm_nodes.specs.declared.rounds.RoundEnd.TheVariants as end
use Rattle.lsm_nodes.specs.declared.shared.tally.Record.{Record}

-- what contracts see of a tally
pub record TallyValue : Type 0 where
  pub parts : ℕ  -- how many parts of its ledger it has
  pub picked : ℕ  -- how many claims were settled
  pub installed : ℕ  -- as installed
  pub returned : ℕ  -- as returned
  pub stale : ℕ  -- as neither
  pub mine : List Record  -- the caller's own records
  pub others : List (List Record)  -- those of each caller whose tally was merged into it

-- a tally of zero
abbrev pub new_tally : ℕ → TallyValue
new_tally parts = record { parts = parts; picked = 0; installed = 0; returned = 0; stale = 0; mine = []; others = [] }

-- ---- records

-- a call with its answer
abbrev pub exchange_of : Call → Answer → Exchange
exchange_of asked answered = record { call = asked; answer = answered }

-- an exchange with its position in the history
abbrev pub record_at : ℕ → Exchange → Record
record_at position exchange = record { position = position; exchange = exchange }

-- the records of several callers
abbrev pub all_records : List (List Record) → List Record
all_records lists = flat_map (λ records. records) lists

-- all records of a tally
abbrev pub records_of : TallyValue → List Record
records_of t = all_records (t.mine ∷ t.others)

-- an install that was done
abbrev pub is_installed : Answer → Bool
is_installed (answer.Installed number files) = true
is_installed answered = false

-- the record is of an install that was done
abbrev pub is_done : Record → Bool
is_done r = is_installed r.exchange.answer

-- 1 for an install that was done, else 0
abbrev pub installs_by : Answer → ℕ
installs_by answered = if is_installed answered then 1 else 0

-- ---- what a tally keeps

-- it settled as many claims as it counts, counts the installs that its records tell, and has recorded its share of the history
pub record IsTally (t : TallyValue) (parts amount : ℕ) : Type 0 where
  pub whole : parts ≡ t.parts
  pub settled : t.picked ≡ t.installed + t.returned + t.stale
  pub done : t.installed ≡ count_by is_done (records_of t)
  pub counted : amount ≡ length (records_of t)

-- ---- what changes it

-- one record more; an install that is done counts
abbrev pub after_record : TallyValue → Record → TallyValue
after_record t r =
    record t {
      picked = t.picked + installs_by r.exchange.answer;
      installed = t.installed + installs_by r.exchange.answer;
      mine = t.mine ++ r ∷ [];
    }

-- a claim was given back
abbrev pub with_return : TallyValue → Settled → TallyValue
with_return t Live = record t { picked = t.picked + 1; returned = t.returned + 1 }
with_return t Stale = record t { picked = t.picked + 1; stale = t.stale + 1 }

-- counts and parts are added, lists of records stay apart
abbrev pub after_merge : TallyValue → TallyValue → TallyValue
after_merge t u =
    record {
      parts = t.parts + u.parts;
      picked = t.picked + u.picked;
      installed = t.installed + u.installed;
      returned = t.returned + u.returned;
      stale = t.stale + u.stale;
      mine = t.mine;
      others = t.others ++ u.mine ∷ [] ++ u.others;
    }

-- nothing was recorded; or the exchange is the last of the caller's own records
abbrev pub MayRecord : Type 0 → TallyValue → TallyValue → Exchange → Type 0
MayRecord missed t u exchange = (missed × (u ≡ t)) ⊎ ((position : ℕ) × (u ≡ after_record t (record_at position exchange)))

-- ---- dispatchers

-- a pick that gave a job
abbrev pub gives_job : Answer → Bool
gives_job (answer.Picked job) = true
gives_job answered = false

-- the record is of a pick that gave a job
abbrev pub is_pick : Record → Bool
is_pick r = gives_job r.exchange.answer

-- an install whose claim was stale
abbrev pub finds_stale : Answer → Bool
finds_stale (answer.Stale id epoch) = true
finds_stale answered = false

-- the record is of an install whose claim was stale
abbrev pub is_stale : Record → Bool
is_stale r = finds_stale r.exchange.answer

-- what a dispatcher asks of a coordinator
abbrev pub IsOfDispatcher : Call → Type 0
IsOfDispatcher call.Pick = Unit {0}
IsOfDispatcher (call.Install id made) = Unit {0}
IsOfDispatcher asked = ⊥

-- The caller recorded picks and installs, and no other call. It has settled as many claims more as it was given jobs. Each that was
-- stale when it was to be installed counts as stale.
pub record SettlesPicks (t u : TallyValue) : Type 0 where
  pub more : List Record
  pub mine : u.mine ≡ t.mine ++ more
  pub asked : AllByRecursion (λ r. IsOfDispatcher r.exchange.call) more
  pub picked : u.picked ≡ t.picked + count_by is_pick more
  pub returned : t.returned ≤ u.returned
  pub stale : t.stale + count_by is_stale more ≤ u.stale

-- how a round ended, by what the caller counted and recorded in it: one claim was settled, as installed or not; or none was, and the
-- pick that gave no job is recorded, unless there was no memory for it
abbrev pub EndsRound : TallyValue → TallyValue → RoundEnd → Type 0
EndsRound t u end.Installed = (u.picked ≡ t.picked + 1) × (u.installed ≡ t.installed + 1)
EndsRound t u end.NotInstalled = (u.picked ≡ t.picked + 1) × (u.installed ≡ t.installed)
EndsRound t u end.Idle = (position : ℕ) × (u ≡ after_record t (record_at position (exchange_of call.Pick answer.Idle)))
EndsRound t u (end.Refused why) = MayRecord (why ≡ OutOfMemory) t u (exchange_of call.Pick (answer.Refused why))

-- at most this many rounds of a dispatcher: the parts stay, each round settles one claim at most, and each job that it was given is settled
pub record IsDispatched (t : TallyValue) (rounds : ℕ) (u : TallyValue) : Type 0 where
  pub parts : u.parts ≡ t.parts
  pub picked : u.picked ≤ t.picked + rounds
  pub others : u.others ≡ t.others
  pub settled : SettlesPicks t u
