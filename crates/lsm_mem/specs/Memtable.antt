-- What every memtable keeps (LevelDB, implementation notes: the memtable; the limit is the store's own).
use Rattle.std.specs.Prelude.{◌≡◌, ℕ, ◌≤◌, List, [], ◌∷◌, sum_by, max}
use Rattle.lsm_key.specs.declared.entry.Entry.{Entry}
use Rattle.lsm_key.specs.declared.limits.TheConstants.{MAX_MEMTABLE_WEIGHT}
use Rattle.lsm_key.specs.Sets.{IsIn}
use Rattle.lsm_key.specs.Limits.{entry_weight}
use Rattle.lsm_key.specs.Entries.{AreSound}
use Rattle.lsm_key.specs.Order.{IsAscending}

-- the greatest sequence, 0 if there is no entry
abbrev pub last_sequence : List Entry → ℕ
last_sequence [] = 0
last_sequence (e ∷ es) = max e.ikey.seq (last_sequence es)

-- no two entries of one sequence
abbrev pub SequencesDiffer : List Entry → Type 0
SequencesDiffer entries = (e f : Entry) → IsIn e entries → IsIn f entries → e.ikey.seq ≡ f.ikey.seq → e ≡ f

-- what the entries of a memtable are
pub record IsMemtable (entries : List Entry) : Type 0 where
  pub ascending : IsAscending entries
  pub sound : AreSound entries
  pub apart : SequencesDiffer entries
  pub light : sum_by entry_weight entries ≤ MAX_MEMTABLE_WEIGHT
