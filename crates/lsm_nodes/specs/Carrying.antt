-- What a dispatcher has carried: the jobs that it picked, each once, in their order.
use Rattle.std.specs.Prelude.{◌≡◌, List, [], ◌∷◌, ◌++◌, Option, None, Some}
use Rattle.std.specs.List.{flat_map}
use Rattle.lsm_msg.specs.declared.job.JobParts.{JobParts}
use Rattle.lsm_coord.specs.declared.answer.Answer.{Answer}
use Rattle.lsm_coord.specs.declared.answer.Answer.TheVariants as answer
use Rattle.lsm_nodes.specs.declared.shared.tally.Record.{Record}
use Rattle.lsm_nodes.specs.Tallies.{TallyValue}

-- a list that is known has gained these at its end
abbrev pub GainsKnown : {A : Type 0} → Option (List A) → Option (List A) → List A → Type 0
GainsKnown None new more = Unit {0}
GainsKnown (Some xs) None more = ⊥
GainsKnown (Some xs) (Some ys) more = ys ≡ xs ++ more

-- the job that an answer gave
abbrev pub job_given : Answer → List JobParts
job_given (answer.Picked job) = job ∷ []
job_given answered = []

-- the jobs that were picked, by the records of the picks
abbrev pub picked_jobs : List Record → List JobParts
picked_jobs records = flat_map (λ r. job_given r.exchange.answer) records

-- the link has carried the jobs that the caller picked meanwhile
pub record CarriesPicks (was has : Option (List JobParts)) (t u : TallyValue) : Type 0 where
  pub more : List Record
  pub mine : u.mine ≡ t.mine ++ more
  pub carried : GainsKnown was has (picked_jobs more)
