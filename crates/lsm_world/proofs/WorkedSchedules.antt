-- The schedules that are written out.
use Rattle.std.proofs.Common.{◌≡◌, ℕ, [], ◌∷◌, refl, arith}
use Rattle.lsm_key.specs.Writes.{answer}
use Rattle.lsm_coord.specs.Model.Changes.{IsIndex}
use Rattle.lsm_coord.specs.Model.Examples.{none, z}
use Rattle.lsm_coord.specs.Model.Range.{IsRange}
use Rattle.lsm_world.specs.WorkedSchedules.{EachCallAnswers, JobIsMergedAndInstalled, ClaimsAreGivenBack, FollowersGoOn}

first : IsIndex 1
first = (omega arith, omega arith)

second : IsIndex 2
second = (omega arith, omega arith)

-- what a new store has
nothing : IsRange (answer [] 0) none z 2 []
nothing = record { few = omega arith; ascending = λ i j d x y. absurd (omega arith); right = λ p m. absurd m; whole = λ key value w h. absurd cc }

pub each_call_answers : EachCallAnswers
each_call_answers = (_, (_, (refl, (nothing, refl)), (_, (refl, (refl, refl, refl)), (_, (refl, (refl, refl)), (_, (refl, (refl, refl, refl, refl)), (_, (refl, (refl, refl, refl)), (_, (refl, (refl, refl, refl)), (_, (refl, (refl, refl)), (_, (refl, (refl, refl)), (_, (refl, (refl, refl, refl)), (_, (refl, (refl, refl)), (_, (refl, (refl, refl)), (_, (refl, (refl, refl, refl, refl)), (_, (refl, (first, refl)), (_, (refl, (first, refl)), refl)))))))))))))))

pub job_is_merged_and_installed : JobIsMergedAndInstalled
job_is_merged_and_installed = (_, (_, (refl, (refl, refl, refl)), (_, (refl, (refl, refl, refl, refl)), (_, (refl, (refl, refl, refl)), (_, (refl, (refl, refl, refl, refl)), (_, (refl, (first, refl)), (_, (refl, (second, refl)), (_, (refl, refl), (_, (refl, refl), (_, (refl, refl), (_, (refl, refl), (_, (refl, refl), (_, (refl, refl), (_, (refl, record { inputs = record { level = 0; file = 1 } ∷ record { level = 0; file = 2 } ∷ []; level = 1; up = refl; some_input = omega arith; of_current = λ p m. m; low = omega arith; high = omega arith; number_is = refl; files_are = refl; number_fits = omega arith; files_fit = omega arith; new_is = refl }), (_, (refl, (refl, refl)), refl)))))))))))))))

pub claims_are_given_back : ClaimsAreGivenBack
claims_are_given_back = (_, (_, (refl, (refl, refl, refl)), (_, (refl, (refl, refl, refl, refl)), (_, (refl, (refl, refl, refl)), (_, (refl, (refl, refl, refl, refl)), (_, (refl, (first, refl)), (_, (refl, (first, refl)), (_, (refl, (second, refl)), (_, (refl, refl), (_, (refl, refl), (_, (refl, refl), (_, (refl, refl), (_, (refl, refl), (_, (refl, record { inputs = record { level = 0; file = 1 } ∷ record { level = 0; file = 2 } ∷ []; level = 1; up = refl; some_input = omega arith; of_current = λ p m. m; low = omega arith; high = omega arith; number_is = refl; files_are = refl; number_fits = omega arith; files_fit = omega arith; new_is = refl }), (_, (refl, (refl, refl)), (_, (refl, refl), (_, (refl, refl), (_, (refl, refl), (_, (refl, (refl, refl, refl)), (_, (refl, (refl, refl, refl, refl)), (_, (refl, (refl, refl, refl)), (_, (refl, (refl, refl, refl, refl)), (_, (refl, (first, refl)), (_, (refl, (refl, refl, refl, refl)), (_, (refl, (first, refl)), refl)))))))))))))))))))))))))

pub followers_go_on : FollowersGoOn
followers_go_on = (_, (_, (refl, (refl, refl, refl)), (_, (refl, (refl, refl, refl, refl)), (_, (refl, (refl, refl, refl)), (_, (refl, (refl, refl, refl, refl)), (_, (refl, (second, refl)), (_, (refl, refl), (_, (refl, (2, 0, (second, refl), omega arith, omega arith, refl)), (_, (refl, (second, refl)), (_, (refl, refl), (_, (refl, refl), (_, (refl, (first, refl)), (_, (refl, refl), (_, (refl, refl), (_, (refl, refl), (_, (refl, refl), (_, (refl, refl), (_, (refl, record { inputs = record { level = 0; file = 1 } ∷ record { level = 0; file = 2 } ∷ []; level = 1; up = refl; some_input = omega arith; of_current = λ p m. m; low = omega arith; high = omega arith; number_is = refl; files_are = refl; number_fits = omega arith; files_fit = omega arith; new_is = refl }), (_, (refl, (refl, refl)), (_, (refl, refl), (_, (refl, refl), (_, (refl, (second, refl)), (_, (refl, refl), (_, (refl, refl), (_, (refl, refl), (_, (refl, (2, 1, (second, refl), omega arith, omega arith, refl)), (_, (refl, ((second, refl), (_, refl, refl), refl)), (_, (refl, ((second, refl), refl, refl)), (_, (refl, (second, refl)), (_, (refl, refl), (_, (refl, refl), (_, (refl, refl), (_, (refl, (second, refl)), (_, (refl, ((second, refl), (_, refl, refl), refl)), refl))))))))))))))))))))))))))))))))))
