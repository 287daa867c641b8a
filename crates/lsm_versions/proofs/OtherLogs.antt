-- A version set whose vault has another log.
use Rattle.std.specs.Prelude.{◌≡◌, ℕ, List, Result, Ok, Err, OnOk, OnErr}
use Rattle.std.proofs.Common.{sym, ap, subst, ◌∙◌}
use Rattle.lsm_vault.specs.Stored.{VaultValue}
use Rattle.lsm_versions.specs.Manifest.{IsVersionSet, VersionSetValue}

-- a change of the log alone, or none
pub log_alone : {T E : Type 0} (r : Result T E) (old new : VaultValue) (log : List (List ℕ)) → OnOk r (new ≡ record old { log = log }) → OnErr r (new ≡ old) → new ≡ record old { log = new.log }
log_alone (Ok x) old new log ok err = ok ∙ ap (λ (l : List (List ℕ)). record old { log = l }) (sym (ap (λ (v : VaultValue). v.log) ok))
log_alone (Err e) old new log ok err = err ∙ ap (λ (l : List (List ℕ)). record old { log = l }) (sym (ap (λ (v : VaultValue). v.log) err))

-- the log is no part of what a version set keeps
pub set_stays : (v : VersionSetValue) (stored : VaultValue) (failures : ℕ) → stored ≡ record v.stored { log = stored.log } → IsVersionSet v → IsVersionSet (record v { stored = stored; failures = failures })
set_stays v stored failures rest is =
    subst (λ (s : VaultValue). IsVersionSet (record v { stored = s; failures = failures })) (sym rest) (record {
      folds = is.folds;
      retired = is.retired;
      kept = is.kept;
    })
