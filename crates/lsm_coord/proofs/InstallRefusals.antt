-- A claim that is stale, and a result that is kept back, are refusals that the state allows.
use Rattle.std.proofs.Common.{◌≡◌, ℕ, ◌+◌, ◌<◌, ◌≤◌, ◌⊎◌, Bool, cond, ◌&&◌, leb, List, None, Option, Some, unwrap_or, inl, inr, length, refl, sym, ap, subst, ◌∙◌, arith}
use Rattle.std.proofs.lemmas.Bool.Decides.{leb_tells}
use Rattle.lsm_key.specs.declared.limits.TheConstants.{MAX_NUMBER}
use Rattle.lsm_claim.specs.declared.job.LiveJob.{LiveJob}
use Rattle.lsm_table.specs.Tables.{Opened}
use Rattle.lsm_edit.specs.Version.{VersionValue}
use Rattle.lsm_msg.specs.declared.job.JobResult.{JobResult}
use Rattle.lsm_versions.specs.Manifest.{MayHavePut, VersionSetValue}
use Rattle.lsm_coord.specs.declared.coord.install.InstallError.{InstallError}
use Rattle.lsm_coord.specs.declared.coord.install.InstallError.TheVariants.{WrongJob, BadResult, NumbersExhausted, OutOfMemory, Device}
use Rattle.lsm_coord.specs.Model.Event as say
use Rattle.lsm_coord.specs.Contract.Installing.{AreOutputTables, HasNumbers, IsOutput, LeavesRejected, Rejects, number_fault}
use Rattle.lsm_coord.specs.Contract.Replies.{error_of, refusal_of}
use Rattle.lsm_coord.specs.Model.Rules.{CannotNumber, IsAllowed}
use Rattle.lsm_coord.specs.Contract.Shows.{Follows, Shows}
use Rattle.lsm_coord.specs.Model.State.{State}
use Rattle.lsm_coord.specs.Model.Step.{Leaves}
use Rattle.lsm_coord.specs.Contract.Calls.{MayHaveStored}
use Rattle.lsm_coord.specs.Contract.Value.{CoordValue, version_set}
use Rattle.lsm_coord.specs.Inner.Putting.{PutLeaves}
use Rattle.lsm_coord.proofs.ShownVersions.{version_count}
use Rattle.lsm_coord.specs.Contract.Sound.{KeepsSound}
use Rattle.lsm_coord.proofs.OpenedOutputs.{tables_length}
use Rattle.lsm_coord.proofs.VaultRefusals.{same_stored, stored_keeps, stored_shows, with_versions}

one_is_over : (a b most : ℕ) → ((a ≤ most) × (b ≤ most) → ⊥) → (most < a) ⊎ (most < b)
one_is_over a b most none = elim (leb_tells a most) [
  | inl fits ↦ elim (leb_tells b most) [
    | inl also ↦ absurd (none (fits.1, also.1))
    | inr over ↦ inr over.1
  ]
  | inr over ↦ inl over.1
]

fault_is : (v : VersionValue) (n : ℕ) → ((number_fault v n ≡ None) × ((v.number + 1 ≤ MAX_NUMBER) × (v.next_file + n ≤ MAX_NUMBER))) ⊎ ((number_fault v n ≡ Some NumbersExhausted) × ((v.number + 1 ≤ MAX_NUMBER) × (v.next_file + n ≤ MAX_NUMBER) → ⊥))
fault_is v n = elim (leb_tells (v.number + 1) MAX_NUMBER) [
  | inl fits ↦ elim (leb_tells (v.next_file + n) MAX_NUMBER) [
    | inl also ↦ inl ((λ i. cond (fits.0 i && also.0 i) None (Some NumbersExhausted)), (fits.1, also.1))
    | inr over ↦ inr ((λ i. cond (fits.0 i && over.0 i) None (Some NumbersExhausted)), (λ h. let a = h.1 in let b = over.1 in absurd (omega arith)))
  ]
  | inr over ↦ inr (ap (λ (b : Bool). cond (b && leb (v.next_file + n) MAX_NUMBER) None (Some NumbersExhausted)) over.0, (λ h. let a = h.0 in let b = over.1 in absurd (omega arith)))
]

-- no fault: there are numbers
pub has_numbers : (v : VersionValue) (ts : List Opened) → number_fault v (length ts) ≡ None → HasNumbers v ts
has_numbers v ts none = elim (fault_is v (length ts)) [ inl fits ↦ record { number = fits.1.0; next_file = fits.1.1 } | inr lacks ↦ let no = sym none ∙ lacks.0 in absurd cc ]

-- a fault: there are none
pub lacks_numbers : (block : ℕ) (v : VersionValue) (live : LiveJob) (made : JobResult) (ts : List Opened) (why : InstallError) → made.job ≡ live.id → AreOutputTables block live.want.hull made.tables ts → number_fault v (length ts) ≡ Some why → Rejects block v live made why
lacks_numbers block v live made ts why named outputs some = elim (fault_is v (length ts)) [
  | inl fits ↦ let no = sym some ∙ fits.0 in absurd cc
  | inr lacks ↦ subst (Rejects block v live made) (ap (λ (o : Option InstallError). unwrap_or o NumbersExhausted) (sym lacks.0 ∙ some)) (named, ts, outputs, λ has. lacks.1 (has.number, has.next_file))
]

leaves : (why : InstallError) (s : State) (message : ℕ) → Leaves s (say.Deliver message) (refusal_of (error_of why)) s
leaves WrongJob s message = refl
leaves BadResult s message = refl
leaves NumbersExhausted s message = refl
leaves OutOfMemory s message = refl
leaves Device s message = refl

module _ (old : CoordValue) (s : State) (h : Shows old s) (live : LiveJob) (made : JobResult) where
  cannot_number : Rejects old.limits.block old.served.version live made NumbersExhausted → CannotNumber s
  cannot_number x =
      let few = tables_length made.tables x.1 x.2.tables in
      elim (one_is_over (old.served.version.number + 1) (old.served.version.next_file + length x.1) MAX_NUMBER (λ fits. x.3 (record { number = fits.0; next_file = fits.1 }))) [
        | inl over ↦ inl (subst (λ (n : ℕ). MAX_NUMBER < n) (sym (version_count old.stored.edits old.served s h.tables)) over)
        | inr over ↦ inr (length x.1, rw few x.2.few, subst (λ (n : ℕ). MAX_NUMBER < n + length x.1) (sym h.tables.next_file) over)
      ]

  is_allowed : (message : ℕ) (why : InstallError) → Rejects old.limits.block old.served.version live made why → IsAllowed s (say.Deliver message) (refusal_of (error_of why))
  is_allowed message WrongJob x = inr (refl, h.up)
  is_allowed message BadResult x = inr (refl, h.up)
  is_allowed message NumbersExhausted x = inr (refl, (h.up, cannot_number x))
  is_allowed message OutOfMemory x = tt
  is_allowed message Device x = inr (refl, h.up)

pub stale_steps : (old new : CoordValue) → new ≡ old → (message : ℕ) → Follows old (say.Deliver message) (say.Refused say.OldEpoch) new
stale_steps old new same message s h = (s, (inr (refl, h.up), refl), subst (λ (c : CoordValue). Shows c s) (sym same) h)

-- what a rejected result leaves is what a refusal of the vault may leave
pub rejected_stored : (made : JobResult) (why : InstallError) (old new : CoordValue) → LeavesRejected made why old new → MayHaveStored (IsOutput old.served.version made) old new
rejected_stored made WrongJob old new left = same_stored old new left
rejected_stored made BadResult old new left = same_stored old new left
rejected_stored made NumbersExhausted old new left = same_stored old new left
rejected_stored made OutOfMemory old new left = left
rejected_stored made Device old new left = left.0

-- the jobs that are sound stay so
pub rejected_keeps : (made : JobResult) (why : InstallError) (old new : CoordValue) → LeavesRejected made why old new → KeepsSound old new
rejected_keeps made why old new left = stored_keeps old new (rejected_stored made why old new left)

-- ---- what the version set leaves

pub stored_left : {MayPut : ℕ → List ℕ → Type 0} (c : CoordValue) (v : VersionSetValue) → MayHavePut MayPut (version_set c) v → c.failures ≤ v.failures → MayHaveStored MayPut c (with_versions c v)
stored_left c v put counted = record { rest = ap (with_versions c) put.rest; below = put.below; put = put.put; counted = counted }

-- whatever is put, the version and the log stay
pub left_same : (made : JobResult) (why : InstallError) (old new : VersionSetValue) → PutLeaves made why old new → (new.served ≡ old.served) × (new.stored.log ≡ old.stored.log)
left_same made WrongJob old new left = (ap (λ (v : VersionSetValue). v.served) left, ap (λ (v : VersionSetValue). v.stored.log) left)
left_same made BadResult old new left = (ap (λ (v : VersionSetValue). v.served) left, ap (λ (v : VersionSetValue). v.stored.log) left)
left_same made NumbersExhausted old new left = (ap (λ (v : VersionSetValue). v.served) left, ap (λ (v : VersionSetValue). v.stored.log) left)
left_same made OutOfMemory old new left = (ap (λ (v : VersionSetValue). v.served) left.0.rest, ap (λ (v : VersionSetValue). v.stored.log) left.0.rest)
left_same made Device old new left = (ap (λ (v : VersionSetValue). v.served) left.0.rest, ap (λ (v : VersionSetValue). v.stored.log) left.0.rest)

pub put_left : (made : JobResult) (why : InstallError) (c : CoordValue) (v : VersionSetValue) → PutLeaves made why (version_set c) v → LeavesRejected made why c (with_versions c v)
put_left made WrongJob c v left = ap (with_versions c) left
put_left made BadResult c v left = ap (with_versions c) left
put_left made NumbersExhausted c v left = ap (with_versions c) left
put_left made OutOfMemory c v left = stored_left c v left.0 left.1
put_left made Device c v left = let more = left.1 in (stored_left c v left.0 (omega (arith, more)), left.1)

pub kept_steps : (old new : CoordValue) (live : LiveJob) (made : JobResult) (why : InstallError) → Rejects old.limits.block old.served.version live made why → LeavesRejected made why old new
    → (message : ℕ) → Follows old (say.Deliver message) (say.Refused (refusal_of (error_of why))) new
kept_steps old new live made why x left message s h = (s, (is_allowed old s h live made message why x, leaves why s message), stored_shows old new (rejected_stored made why old new left) s h)
