-- The jobs of each epoch are numbered from 1 to their count, so each job's name was given before the next one.
use Rattle.std.proofs.Common.{◌≡◌, ◌⊎◌, ℕ, ◌+◌, ◌<◌, ◌≤◌, Bool, true, false, cond, List, [], ◌∷◌, length, refl, sym, ap, subst, ◌∙◌, arith, inl, inr}
use Rattle.std.specs.Prelude.{nat_eq}
use Rattle.std.proofs.lemmas.Bool.{cases_eq, eq-eqb, ne_eqb}
use Rattle.lsm_key.specs.Sets.{IsIn}
use Rattle.lsm_claim.specs.declared.job.JobId.{JobId}
use Rattle.lsm_claim.specs.Book.{BookValue, IsGiven}
use Rattle.lsm_msg.specs.declared.job.JobParts.{JobParts}
use Rattle.lsm_coord.specs.Contract.Value.{CoordValue}
use Rattle.lsm_world.specs.History.{AreJobs, AreNumberedInOrder, History, of_epoch}

-- ---- the jobs of an epoch

-- a job of the epoch is one more
pub one_more : (job : JobParts) (jobs : List JobParts) (epoch : ℕ) → job.id.epoch ≡ epoch → length (of_epoch epoch (job ∷ jobs)) ≡ length (of_epoch epoch jobs) + 1
one_more job jobs epoch same = by (nat_eq job.id.epoch epoch) (eq-eqb job.id.epoch epoch same)
  where
    by : (b : Bool) → b ≡ true → length (cond b (job ∷ of_epoch epoch jobs) (of_epoch epoch jobs)) ≡ length (of_epoch epoch jobs) + 1
    by true is = omega arith
    by false is = absurd cc

-- with another job there are no fewer
no_fewer : (job : JobParts) (jobs : List JobParts) (epoch : ℕ) → length (of_epoch epoch jobs) ≤ length (of_epoch epoch (job ∷ jobs))
no_fewer job jobs epoch = by (nat_eq job.id.epoch epoch)
  where
    by : (b : Bool) → length (of_epoch epoch jobs) ≤ length (cond b (job ∷ of_epoch epoch jobs) (of_epoch epoch jobs))
    by true = omega arith
    by false = omega arith

-- an epoch that comes after all jobs has none
pub none_of : (jobs : List JobParts) (epoch : ℕ) → ((j : JobParts) → IsIn j jobs → j.id.epoch < epoch) → of_epoch epoch jobs ≡ []
none_of [] epoch before = refl
none_of (job ∷ jobs) epoch before =
    ap (λ (b : Bool). cond b (job ∷ of_epoch epoch jobs) (of_epoch epoch jobs)) (ne_eqb job.id.epoch epoch (λ same. let low = before job (inl refl) in omega (arith, low, same)))
    ∙ none_of jobs epoch (λ j m. before j (inr m))

-- ---- numbers

pub from_one : (jobs : List JobParts) → AreNumberedInOrder jobs → (j : JobParts) → IsIn j jobs → 1 ≤ j.id.number
from_one [] are j m = absurd m
from_one (job ∷ jobs) are j m = elim m [
  | inl same ↦ let its = ap (λ (x : JobParts). x.id.number) same in let own = are.0 in omega (arith, its, own)
  | inr earlier ↦ from_one jobs are.1 j earlier
]

pub to_count : (jobs : List JobParts) → AreNumberedInOrder jobs → (j : JobParts) → IsIn j jobs → j.id.number ≤ length (of_epoch j.id.epoch jobs)
to_count [] are j m = absurd m
to_count (job ∷ jobs) are j m = elim m [
  | inl same ↦
      let own = are.0 in
      let one = one_more job jobs job.id.epoch refl in
      let last : job.id.number ≤ length (of_epoch job.id.epoch (job ∷ jobs)) = omega (arith, own, one) in
      subst (λ (x : JobParts). x.id.number ≤ length (of_epoch x.id.epoch (job ∷ jobs))) (sym same) last
  | inr earlier ↦ let low = to_count jobs are.1 j earlier in let more = no_fewer job jobs j.id.epoch in omega (arith, low, more)
]

-- ---- names

-- the name was given in an earlier epoch, or by this book
abbrev pub WasGiven : BookValue → JobId → Type 0
WasGiven book id = (id.epoch < book.epoch) ⊎ IsGiven book id

-- EACH JOB'S NAME WAS GIVEN.
pub was_given : (h : History) (c : CoordValue) → AreJobs h c → (j : JobParts) → IsIn j h.jobs → WasGiven c.book j.id
was_given h c is j m = elim (cases_eq j.id.epoch c.book.epoch) [
  | inl same ↦
      let most : j.id.number ≤ length (of_epoch j.id.epoch h.jobs) = to_count h.jobs is.all.numbered j m in
      let count : c.book.made ≡ length (of_epoch j.id.epoch h.jobs) = is.made ∙ ap (λ (epoch : ℕ). length (of_epoch epoch h.jobs)) (sym same) in
      inr (record { epoch = same; first = from_one h.jobs is.all.numbered j m; last = omega (arith, most, count) })
  | inr other ↦ let begun = is.begun j m in inl (omega (arith, begun, other))
]
