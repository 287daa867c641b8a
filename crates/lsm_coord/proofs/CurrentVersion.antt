-- The current version of a state, and what follows it.
use Rattle.std.proofs.Common.{◌≡◌, ℕ, ◌+◌, ◌≤◌, [], ◌∷◌, ◌++◌, ap, ◌∙◌, arith, length, get_or, length-append}
use Rattle.std.proofs.Math.Seq.{get_or-append_seam}
use Rattle.std.proofs.lemmas.Option.{slice_get-get_or}
use Rattle.lsm_coord.specs.Model.State.{State, Version, empty_version, current, current_version, current_files, last_flushed}
use Rattle.lsm_coord.specs.Model.Changes.{with_version, flush_end, flushed_version, after_flush, after_restart}
use Rattle.lsm_coord.specs.Model.Step.{Lists}

-- the version that was added is the current one
pub current-with_version : (s : State) (v : Version) (next_file : ℕ) → current (with_version s v next_file) ≡ length s.versions
current-with_version s v next_file = omega (arith, length-append s.versions (v ∷ []))

pub current_version-with_version : (s : State) (v : Version) (next_file : ℕ) → current_version (with_version s v next_file) ≡ v
current_version-with_version s v next_file =
    ap (λ i. get_or (s.versions ++ v ∷ []) i empty_version) (current-with_version s v next_file) ∙ get_or-append_seam s.versions v [] empty_version

pub last_flushed-after_flush : (s : State) → last_flushed (after_flush s) ≡ flush_end s
last_flushed-after_flush s = ap (λ (v : Version). v.flushed) (current_version-with_version s (flushed_version s) (s.next_file + 1))

pub current_version-risen : (s : State) → current_version (after_restart s) ≡ current_version s
current_version-risen s = current_version-with_version s (current_version s) s.next_file

-- what the coordinator lists
pub lists_current : (s : State) → 1 ≤ length s.versions → Lists s (current s) (last_flushed s) (current_files s)
lists_current s some = slice_get-get_or s.versions (current s) empty_version (omega arith)
