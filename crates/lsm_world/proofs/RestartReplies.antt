-- The refusals of a restart that a schedule can meet.
use Rattle.std.proofs.Common.{◌≡◌, ◌+◌, Bool, true, false, cond, None, Some, ◌||◌, inl, inr}
use Rattle.std.specs.Prelude.{length, nat_lt}
use Rattle.lsm_key.specs.declared.limits.TheConstants.{MAX_NUMBER}
use Rattle.lsm_versions.specs.declared.error.OpenError.{OpenError}
use Rattle.lsm_versions.specs.declared.error.OpenError.TheVariants as opening
use Rattle.lsm_coord.specs.Contract.Seats.{open_refusal}
use Rattle.lsm_coord.specs.Model.Event as say
use Rattle.lsm_coord.specs.Model.State.{State}
use Rattle.lsm_coord.specs.Model.Step.{Step}
use Rattle.lsm_world.specs.declared.refusal.Refusal.TheVariants as why
use Rattle.lsm_world.specs.declared.reply.Reply.TheVariants as reply
use Rattle.lsm_world.specs.Schedules.{IsPlain}

-- numbers alone are forced
forced_numbers : (t : Bool) (other : say.Refusal) → cond t (Some say.NumbersExhausted) None ≡ Some other → other ≡ say.NumbersExhausted
forced_numbers true other e = cc
forced_numbers false other e = absurd cc

-- A RESTART FINDS NO BAD MANIFEST AND NO BAD LOG, AND MISSES NO TABLE.
pub restart_plain : (s t : State) (e : OpenError) → Step s (say.Restart say.Coordinator) (say.Refused (open_refusal e)) t → IsPlain (reply.Refused (why.Open e))
restart_plain s t opening.OutOfMemory is = tt
restart_plain s t opening.Device is = tt
restart_plain s t opening.NumbersExhausted is = tt
restart_plain s t opening.BadManifest is = elim is.0 [
  | inl forced ↦ let e : say.BadManifest ≡ say.NumbersExhausted = forced_numbers (nat_lt MAX_NUMBER (s.epoch + 1) || nat_lt MAX_NUMBER (length s.versions)) say.BadManifest forced in absurd cc
  | inr other ↦ absurd other.1
]
restart_plain s t opening.MissingTable is = elim is.0 [
  | inl forced ↦ let e : say.MissingTable ≡ say.NumbersExhausted = forced_numbers (nat_lt MAX_NUMBER (s.epoch + 1) || nat_lt MAX_NUMBER (length s.versions)) say.MissingTable forced in absurd cc
  | inr other ↦ absurd other.1
]
restart_plain s t opening.BadLog is = elim is.0 [
  | inl forced ↦ let e : say.BadLog ≡ say.NumbersExhausted = forced_numbers (nat_lt MAX_NUMBER (s.epoch + 1) || nat_lt MAX_NUMBER (length s.versions)) say.BadLog forced in absurd cc
  | inr other ↦ absurd other.1
]
