-- The headline's clauses, of every run of a new store.
use Rattle.std.proofs.Common.{◌≡◌, ℕ, zero, suc, List, [], ◌∷◌, Some, take, refl, sym}
use Rattle.std.specs.Prelude.{slice_get}
use Rattle.std.proofs.lemmas.Option.{same_Some}
use Rattle.lsm_coord.specs.Model.Event.{Event, Reply}
use Rattle.lsm_coord.specs.Model.Event as say
use Rattle.lsm_coord.specs.Model.Run.{Run}
use Rattle.lsm_coord.specs.Model.State.{State, first_state}
use Rattle.lsm_coord.specs.Model.Step.{Step}
use Rattle.lsm_coord.proofs.RunInvariants.{followers_agree, listings_agree, same_step}
use Rattle.lsm_world.specs.Headline.{FollowerReadsAreNewest, GiveOneAnswer, ReadsAreNewest, ScansAreNewest, ShowOneListing}

-- ---- one event of a run

-- the state before it, and one after it
step_at : (s : State) (steps : List (Event × Reply)) (t : State) (i : ℕ) (e : Event) (r : Reply) → Run s steps t → slice_get steps i ≡ Some (e, r) → (a : State) × Run s (take i steps) a × ((b : State) × Step a e r b)
step_at s [] t i e r run at = absurd cc
step_at s ((x, q) ∷ steps) t zero e r run at = (s, refl, (run.0, same_step s run.0 (e, r) (x, q) (same_Some (e, r) (x, q) (sym at)) run.1))
step_at s ((x, q) ∷ steps) t (suc i) e r run at = let rest = step_at run.0 steps t i e r run.2 at in (rest.0, (run.0, run.1, rest.1), rest.2)

module _ (steps : List (Event × Reply)) (t : State) (run : Run first_state steps t) where
  pub reads_newest : ReadsAreNewest steps
  reads_newest place key at value is =
      let step = step_at first_state steps t place (say.Get key at) (say.Got value) run is in
      (step.0, (step.1, step.2), step.2.1.1.0)

  pub scans_newest : ScansAreNewest steps
  scans_newest place lo hi at limit pairs is =
      let step = step_at first_state steps t place (say.Scan lo hi at limit) (say.Scanned pairs) run is in
      (step.0, (step.1, step.2), step.2.1.1.0)

  pub follower_reads_newest : FollowerReadsAreNewest steps
  follower_reads_newest place follower key number value is =
      let step = step_at first_state steps t place (say.Read follower key) (say.ReadAt number value) run is in
      let reads = step.2.1.1.1 in
      (step.0, (step.1, step.2), reads.0, reads.1, reads.2)

  pub one_listing : ShowOneListing steps
  one_listing = listings_agree first_state t steps run

  pub one_answer : GiveOneAnswer steps
  one_answer = followers_agree steps (t, run)
