-- An opening over a vault without edits and log makes a new store.
use Rattle.std.proofs.Common.{◌≡◌, ℕ, List, [], ◌∷◌, None, refl, sym, subst, arith, false}
use Rattle.lsm_key.specs.declared.limits.Limits.{Limits}
use Rattle.lsm_edit.specs.Log.{LogHolds}
use Rattle.lsm_edit.specs.Served.{IsServed, first_served}
use Rattle.lsm_edit.proofs.WorkedLogs.{empty_holds}
use Rattle.lsm_vault.specs.Stored.{VaultValue}
use Rattle.lsm_versions.proofs.ManifestReplay.{Folds-none}
use Rattle.lsm_coord.specs.Model.State.{State, empty_version, first_state}
use Rattle.lsm_coord.specs.Contract.Seats.{OpensCoord, ShowsDown}
use Rattle.lsm_coord.specs.Contract.Shows.{Shows, ShowsStored}
use Rattle.lsm_coord.specs.Contract.Value.{CoordValue}
use Rattle.lsm_coord.proofs.RestartSteps.{Shows-opened}

-- before the first epoch, with the followers as a new store has them
abbrev unopened : State
unopened = record first_state { versions = empty_version ∷ []; epoch = 0; floor = 0; up = false }

-- version 0 has no files
first_is_served : IsServed first_served
first_is_served = record { ordered = tt; listed = λ f. (λ m. absurd m, λ m. absurd m); recorded = λ p m. absurd m }

-- any vault without edits and log shows it
shows_unopened : (vault : VaultValue) → vault.edits ≡ [] → vault.log ≡ [] → ShowsDown vault unopened
shows_unopened vault none no_log = record {
  down = refl;
  snapshots = refl;
  made = refl;
  flushed = omega arith;
  served = first_served;
  sound = first_is_served;
  tables = λ p m. absurd m;
  stored = subst (λ (texts : List (List ℕ)). ShowsStored texts first_served unopened) (sym none) (record {
    manifest = Folds-none;
    versions = refl;
    next_file = refl;
    epoch = refl;
    ordered = tt;
    old = λ e m. absurd m;
    answers = λ key. refl;
  });
  logged = subst (λ (texts : List (List ℕ)). LogHolds 0 texts [] None) (sym no_log) (empty_holds 0);
}

-- A NEW STORE shows the first state.
pub opened_over_nothing : (vault : VaultValue) (limits : Limits) (c : CoordValue) → OpensCoord vault limits c → vault.edits ≡ [] → vault.log ≡ [] → Shows c first_state
opened_over_nothing vault limits c is none no_log = Shows-opened vault limits c is unopened (shows_unopened vault none no_log)
