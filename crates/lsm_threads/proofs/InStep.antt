-- What was taken last is the follower's version, or of an earlier one, as the follower goes on and publishes.
use Rattle.std.proofs.Common.{◌≡◌, ◌<◌, ◌≤◌, List, [], ◌∷◌, ◌++◌, refl, sym, ap, subst, ◌∙◌, inl, inr, arith}
use mathlib.Core.List.{IsPrefix}
use Rattle.std.specs.Prelude.{◌⊎◌}
use Rattle.lsm_edit.specs.Served.{ServedValue, first_served}
use Rattle.lsm_follow.specs.Onward.{IsOnward}
use Rattle.lsm_readers.specs.Publications.{IsLater, last_published}
use Rattle.lsm_readers.proofs.Adding.{last_push}
use Rattle.lsm_readers.proofs.Beginnings.{prefix_self}
use Rattle.lsm_threads.specs.Following.{IsInStep}

-- a new follower, of which nothing was published
pub in_step_new : (served : ServedValue) (taken : List ServedValue) → served ≡ first_served → taken ≡ [] → IsInStep served taken
in_step_new served taken first none = inl (ap last_published none ∙ sym first)

-- a version of a greater number than one in step is later than what was taken
pub later_on : (old new : ServedValue) (taken : List ServedValue) → IsInStep old taken → old.version.number < new.version.number → IsLater taken new
later_on old new taken (inl same) less = let number = ap (λ (s : ServedValue). s.version.number) same in omega (arith, number, less)
later_on old new taken (inr later) less = omega (arith, later, less)

pub in_step_onward : (old new : ServedValue) (taken : List ServedValue) → IsInStep old taken → IsOnward old new → IsInStep new taken
in_step_onward old new taken step (inl same) = subst (λ (s : ServedValue). IsInStep s taken) (sym same) step
in_step_onward old new taken step (inr less) = inr (later_on old new taken step less)

-- a version in step, whether it was taken or not
pub in_step_caught_up : (old new : List ServedValue) (served : ServedValue) → IsInStep served old → (new ≡ old) ⊎ (IsLater old served × (new ≡ old ++ served ∷ [])) → IsInStep served new × IsPrefix old new
in_step_caught_up old new served step (inl same) = rw same (step, prefix_self old)
in_step_caught_up old new served step (inr more) = rw more.1 (inl (last_push old served), (served ∷ [], refl))

-- no later version was taken than the follower's
pub in_step_behind : (served : ServedValue) (taken : List ServedValue) → IsInStep served taken → (last_published taken).version.number ≤ served.version.number
in_step_behind served taken (inl same) = let number = ap (λ (s : ServedValue). s.version.number) same in omega (arith, number)
in_step_behind served taken (inr later) = omega (arith, later)
