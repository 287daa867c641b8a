-- What leaves the files as they were.
use Rattle.std.proofs.Common.{◌≡◌, ◌⊎◌, ℕ, List, Option, inl, inr, ap, max, subst}
use Rattle.std.specs.Prelude.{nat_le}
use Rattle.lsm_key.specs.Sets.{IsIn}
use Rattle.lsm_key.proofs.AscendingEntries.{IsIn-filter}
use Rattle.lsm_versions.specs.declared.retired.Retired.{Retired}
use Rattle.lsm_versions.specs.Retention.{kept_from}
use Rattle.lsm_msg.specs.declared.job.JobResult.{JobResult}
use Rattle.lsm_coord.specs.Model.State.{State}
use Rattle.lsm_coord.specs.declared.coord.install.InstallError.{InstallError}
use Rattle.lsm_coord.specs.declared.coord.install.InstallError.TheVariants as rejected
use Rattle.lsm_coord.specs.declared.error.CoordError.{CoordError}
use Rattle.lsm_coord.specs.declared.error.CoordError.TheVariants as error
use Rattle.lsm_coord.specs.Contract.Calls.{AppendRefuses, FlushRefuses, IsFlushTable, MayHaveFailed, MayHaveStored, MayHaveTrimmed, TrimRefuses, after_snapshot, with_live_tables}
use Rattle.lsm_coord.specs.Contract.Installing.{IsOutput, LeavesRejected}
use Rattle.lsm_coord.specs.Contract.Shows.{Shows}
use Rattle.lsm_coord.specs.Contract.Sound.{KeepsSound}
use Rattle.lsm_coord.specs.Contract.Value.{CoordValue}
use Rattle.lsm_coord.proofs.VaultRefusals.{same_stored}
use Rattle.lsm_world.specs.History.{History, IsHistory}
use Rattle.lsm_world.specs.Inner.Upkeep.{HasFewer, HasOneMore, HasSameFiles, KeepsFiles}
use Rattle.lsm_world.specs.Nodes.{NodesValue}
use Rattle.lsm_world.proofs.FlushedFiles.{after_flush}
use Rattle.lsm_world.proofs.GrowingHistory.{Keeps, keeps_same}
use Rattle.lsm_world.proofs.QuietCalls.{upkeep, upkeep_within}

pub snapshot_keeps : (old new : CoordValue) → (s : State) × Shows old s → ((s : State) → Shows old s → KeepsSound old new) → new ≡ after_snapshot old → KeepsFiles old new
snapshot_keeps old new shown sound is = record {
  sound = sound shown.0 shown.1;
  files = inl (record { served = ap (λ (c : CoordValue). c.served) is; edits = ap (λ (c : CoordValue). c.stored.edits) is; retired = ap (λ (c : CoordValue). c.retired) is; book = ap (λ (c : CoordValue). c.book) is });
}

unchanged_files : (old new : CoordValue) → new ≡ old → HasSameFiles old new
unchanged_files old new is = record { served = ap (λ (c : CoordValue). c.served) is; edits = ap (λ (c : CoordValue). c.stored.edits) is; retired = ap (λ (c : CoordValue). c.retired) is; book = ap (λ (c : CoordValue). c.book) is }

-- a write or a freeze that is refused
failed_files : (old new : CoordValue) → MayHaveFailed old new → HasSameFiles old new
failed_files old new may =
    let is = may.rest in
    record { served = ap (λ (c : CoordValue). c.served) is; edits = ap (λ (c : CoordValue). c.stored.edits) is; retired = ap (λ (c : CoordValue). c.retired) is; book = ap (λ (c : CoordValue). c.book) is }

append_files : (fault : Option CoordError) (old new : CoordValue) (e : CoordError) → AppendRefuses fault old e new → HasSameFiles old new
append_files fault old new error.OutOfMemory is = failed_files old new is.1
append_files fault old new error.Device is = failed_files old new is.1
append_files fault old new e is = unchanged_files old new is.1

pub append_keeps : (fault : Option CoordError) (old new : CoordValue) (e : CoordError) → AppendRefuses fault old e new → KeepsSound old new → KeepsFiles old new
append_keeps fault old new e is sound = record { sound = sound; files = inl (append_files fault old new e is) }

-- ---- what the vault may have refused

-- only the vault's tables and failures may differ
pub stored_files : {MayPut : ℕ → List ℕ → Type 0} (old new : CoordValue) → MayHaveStored MayPut old new → HasSameFiles old new
stored_files old new may =
    let is = may.rest in
    record { served = ap (λ (c : CoordValue). c.served) is; edits = ap (λ (c : CoordValue). c.stored.edits) is; retired = ap (λ (c : CoordValue). c.retired) is; book = ap (λ (c : CoordValue). c.book) is }

pub flush_stored : (old new : CoordValue) (e : CoordError) → FlushRefuses old e new → MayHaveStored (IsFlushTable old) old new
flush_stored old new error.OutOfMemory is = is.1
flush_stored old new error.Device is = is.1.0
flush_stored old new e is = same_stored old new is.1

pub rejected_stored : (made : JobResult) (old new : CoordValue) (e : InstallError) → LeavesRejected made e old new → MayHaveStored (IsOutput old.served.version made) old new
rejected_stored made old new rejected.WrongJob is = same_stored old new is
rejected_stored made old new rejected.BadResult is = same_stored old new is
rejected_stored made old new rejected.NumbersExhausted is = same_stored old new is
rejected_stored made old new rejected.OutOfMemory is = is
rejected_stored made old new rejected.Device is = is.0

-- a flush that is refused
pub flush_keeps : (old new : CoordValue) (e : CoordError) → FlushRefuses old e new → KeepsSound old new → KeepsFiles old new
flush_keeps old new e is sound = record { sound = sound; files = inl (stored_files old new (flush_stored old new e is)) }

-- ---- trims

-- a trim lets retired files go
fewer_files : (old new : CoordValue) (n : ℕ) → new.served ≡ old.served → new.stored.edits ≡ old.stored.edits → new.retired ≡ kept_from (max old.floor n) old.retired → new.book ≡ old.book → HasFewer old new
fewer_files old new n served edits retired book = record {
  served = served;
  edits = edits;
  retired = λ r m. (IsIn-filter (λ (x : Retired). nat_le (max old.floor n) x.until) r old.retired (subst (λ (rs : List Retired). IsIn r rs) retired m)).0;
  book = book;
}

pub trimmed_files : (old new : CoordValue) (n failures : ℕ) → new ≡ record (with_live_tables old n) { failures = failures } → KeepsSound old new → KeepsFiles old new
trimmed_files old new n failures is sound = record {
  sound = sound;
  files = inr (inr (fewer_files old new n (ap (λ (c : CoordValue). c.served) is) (ap (λ (c : CoordValue). c.stored.edits) is) (ap (λ (c : CoordValue). c.retired) is) (ap (λ (c : CoordValue). c.book) is)));
}

pub trim_keeps : (old new : CoordValue) (n : ℕ) (e : CoordError) → TrimRefuses old n e new → KeepsSound old new → KeepsFiles old new
trim_keeps old new n e refuses sound = record { sound = sound; files = by e refuses }
  where
    part : MayHaveTrimmed old n new → HasSameFiles old new ⊎ (HasOneMore old new ⊎ HasFewer old new)
    part may =
        let is = may.rest in
        inr (inr (fewer_files old new n (ap (λ (c : CoordValue). c.served) is) (ap (λ (c : CoordValue). c.stored.edits) is) (ap (λ (c : CoordValue). c.retired) is) (ap (λ (c : CoordValue). c.book) is)))

    by : (x : CoordError) → TrimRefuses old n x new → HasSameFiles old new ⊎ (HasOneMore old new ⊎ HasFewer old new)
    by error.OutOfMemory is = part is.1
    by error.Device is = part is.1
    by x is = inl (unchanged_files old new is.1)

-- ---- the nodes

-- A CALL OF THE COORDINATOR KEEPS THE HISTORY.
pub call_keeps : (h : History) (old : NodesValue) (new : CoordValue) → KeepsFiles old.core new → IsHistory h old → Keeps h (record old { core = new })
call_keeps h old new keeps is = by keeps.files
  where
    by : HasSameFiles old.core new ⊎ (HasOneMore old.core new ⊎ HasFewer old.core new) → Keeps h (record old { core = new })
    by (inl same) = keeps_same h (record old { core = new }) (upkeep h old new same.served same.edits same.retired same.book keeps.sound is)
    by (inr (inl more)) = after_flush h old new more.before more.after more.adds keeps.sound is
    by (inr (inr fewer)) = keeps_same h (record old { core = new }) (upkeep_within h old new fewer.served fewer.edits fewer.retired fewer.book keeps.sound is)
