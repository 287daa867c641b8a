-- What a call leaves that the vault may have refused: the same states are shown, and the same jobs are sound.
use Rattle.std.proofs.Common.{◌≡◌, ℕ, Err, IfErr, List, None, Ok, Option, Result, ap, arith, inl, inr, refl, subst, sym}
use Rattle.std.specs.Result.{IsErrAnd}
use Rattle.lsm_key.specs.declared.op.Op.{Op}
use Rattle.lsm_vault.specs.Failures.{CountsFailures}
use Rattle.lsm_vault.specs.declared.error.VaultError.{VaultError}
use Rattle.lsm_vault.specs.declared.error.VaultError.TheVariants.{OutOfMemory, Device}
use Rattle.lsm_versions.specs.Manifest.{VersionSetValue}
use Rattle.lsm_coord.specs.declared.coord.flush.Flushed.{Flushed}
use Rattle.lsm_coord.specs.declared.error.CoordError.{CoordError}
use Rattle.lsm_coord.specs.Model.Changes.{after_trim}
use Rattle.lsm_coord.specs.Model.Event as say
use Rattle.lsm_coord.specs.Model.Rules.{refusal}
use Rattle.lsm_coord.specs.Model.State.{State}
use Rattle.lsm_coord.specs.Model.Step.{Step}
use Rattle.lsm_coord.specs.Contract.Replies.{call_error, flush_reply, freeze_reply, refusal_of, trim_reply}
use Rattle.lsm_coord.specs.Contract.Calls.{AppendRefuses, MayHaveStored}
use Rattle.lsm_coord.specs.Contract.Shows.{Shows}
use Rattle.lsm_coord.specs.Contract.Sound.{KeepsSound}
use Rattle.lsm_coord.specs.Contract.Value.{CoordValue, version_set}
use Rattle.lsm_coord.proofs.GiveBackSteps.{Shows-beside}
use Rattle.lsm_coord.proofs.JobsStaySound.{same_keeps}

pub stored_shows : {MayPut : ℕ → List ℕ → Type 0} (old new : CoordValue) → MayHaveStored MayPut old new → (s : State) → Shows old s → Shows new s
stored_shows old new may s h = subst (λ (c : CoordValue). Shows c s) (sym may.rest) (Shows-beside old old.book new.stored.tables new.failures s h)

pub stored_keeps : {MayPut : ℕ → List ℕ → Type 0} (old new : CoordValue) → MayHaveStored MayPut old new → KeepsSound old new
stored_keeps old new may =
    let is = may.rest in
    same_keeps old new (ap (λ (c : CoordValue). c.limits) is) (ap (λ (c : CoordValue). c.served) is) (ap (λ (c : CoordValue). c.book) is) (ap (λ (c : CoordValue). c.snapshots) is)

-- nothing was stored
pub nothing_stored : {MayPut : ℕ → List ℕ → Type 0} (c : CoordValue) → MayHaveStored MayPut c c
nothing_stored c = record { rest = refl; below = λ n lt. refl; put = λ n. inl refl; counted = omega arith }

pub same_stored : {MayPut : ℕ → List ℕ → Type 0} (old new : CoordValue) → new ≡ old → MayHaveStored MayPut old new
same_stored {MayPut} old new same = subst (MayHaveStored MayPut old) (sym same) (nothing_stored old)

-- ---- the refusals

-- a coordinator with another version set
abbrev pub with_versions : CoordValue → VersionSetValue → CoordValue
with_versions c v = record c { served = v.served; stored = v.stored; floor = v.floor; retired = v.retired; failures = v.failures }

-- what is left where the vault refuses a record
module _ (c : CoordValue) (v : VersionSetValue) (same : v ≡ record (version_set c) { failures = v.failures }) where
  pub failed_shows : (s : State) → Shows c s → Shows (with_versions c v) s
  failed_shows s h = subst (λ (x : VersionSetValue). Shows (with_versions c x) s) (sym same) (Shows-beside c c.book c.stored.tables v.failures s h)

  pub failed_keeps : KeepsSound c (with_versions c v)
  failed_keeps = same_keeps c (with_versions c v) refl (ap (λ (x : VersionSetValue). x.served) same) refl refl

  pub append_refused : (fault : Option CoordError) (why : VaultError) (e : CoordError) → e ≡ call_error why → fault ≡ None → CountsFailures {T = Unit {0}} (Err why) c.failures v.failures → AppendRefuses fault c e (with_versions c v)
  append_refused fault OutOfMemory e is none counted = subst (λ (x : CoordError). AppendRefuses fault c x (with_versions c v)) (sym is) (none, record { rest = ap (with_versions c) same; counted = counted })
  append_refused fault Device e is none counted = subst (λ (x : CoordError). AppendRefuses fault c x (with_versions c v)) (sym is) (none, record { rest = ap (with_versions c) same; counted = omega (arith, counted) }, counted)

-- what holds of the reason that is given
pub append_refused_by : {T : Type 0} {why : CoordError} (r : Result T CoordError) (P : CoordError → Type 0) → ((e : CoordError) → e ≡ why → P e) → IsErrAnd r (λ e. e ≡ why) → IfErr r P
append_refused_by (Ok x) P told is = tt
append_refused_by (Err e) P told is = told e is

-- a write whose record the vault refuses
pub write_failed : (s : State) (ops : List Op) (e : CoordError) (why : VaultError) → e ≡ call_error why → refusal s (say.Write ops) ≡ None → Step s (say.Write ops) (say.Refused (refusal_of e)) s
write_failed s ops e OutOfMemory is may = subst (λ (x : CoordError). Step s (say.Write ops) (say.Refused (refusal_of x)) s) (sym is) (tt, refl)
write_failed s ops e Device is may = subst (λ (x : CoordError). Step s (say.Write ops) (say.Refused (refusal_of x)) s) (sym is) (inr (may, tt), refl)

-- and a freeze
pub freeze_failed : (s : State) (r : Result ℕ CoordError) (why : VaultError) → IsErrAnd r (λ e. e ≡ call_error why) → refusal s say.Freeze ≡ None → Step s say.Freeze (freeze_reply r) s
freeze_failed s (Ok f) why is may = absurd is
freeze_failed s (Err e) OutOfMemory is may = subst (λ (x : CoordError). Step s say.Freeze (say.Refused (refusal_of x)) s) (sym is) (tt, refl)
freeze_failed s (Err e) Device is may = subst (λ (x : CoordError). Step s say.Freeze (say.Refused (refusal_of x)) s) (sym is) (inr (may, tt), refl)

-- a flush that the vault refuses
pub flush_failed : (s : State) (r : Result Flushed CoordError) (why : VaultError) → IsErrAnd r (λ e. e ≡ call_error why) → refusal s say.Flush ≡ None → Step s say.Flush (flush_reply r) s
flush_failed s (Ok f) why is may = absurd is
flush_failed s (Err e) OutOfMemory is may = subst (λ (x : CoordError). Step s say.Flush (say.Refused (refusal_of x)) s) (sym is) (tt, refl)
flush_failed s (Err e) Device is may = subst (λ (x : CoordError). Step s say.Flush (say.Refused (refusal_of x)) s) (sym is) (inr (may, tt), refl)

-- a trim whose removals the vault refuses
pub trim_failed : (s : State) (n : ℕ) (r : Result (ℕ × List ℕ) CoordError) (why : VaultError) → IsErrAnd r (λ e. e ≡ call_error why) → refusal s (say.Trim n) ≡ None → Step s (say.Trim n) (trim_reply r) (after_trim s n)
trim_failed s n (Ok f) why is may = absurd is
trim_failed s n (Err e) OutOfMemory is may = subst (λ (x : CoordError). Step s (say.Trim n) (say.Refused (refusal_of x)) (after_trim s n)) (sym is) (tt, inl (may, refl))
trim_failed s n (Err e) Device is may = subst (λ (x : CoordError). Step s (say.Trim n) (say.Refused (refusal_of x)) (after_trim s n)) (sym is) (inr (may, tt), refl)
