-- Which files may be merged, and what a job of them has to know (LevelDB, version_set.cc: GetOverlappingInputs, SetupOtherInputs; Compaction::IsBaseLevelForKey).
use Rattle.std.specs.Prelude.{◌≡◌, ℕ, ◌+◌, ◌<◌, ◌≤◌, Bool, true, false, List}
use Rattle.lsm_key.specs.declared.entry.Entry.{Entry}
use Rattle.lsm_key.specs.Sets.{IsIn}
use Rattle.lsm_claim.specs.declared.hull.Hull.{Hull}
use Rattle.lsm_claim.specs.declared.job.Want.{Want}
use Rattle.lsm_claim.specs.Levels.{uses_level}
use Rattle.lsm_key.specs.KeyRanges.{range_encloses, ranges_meet}
use Rattle.lsm_edit.specs.declared.file.FileMeta.{FileMeta}
use Rattle.lsm_edit.specs.declared.served.Placed.{Placed}
use Rattle.lsm_msg.specs.declared.job.JobParts.{JobParts}
use Rattle.lsm_msg.specs.Merge.{is_in_ranges}

-- the file has a key in common with the hull, by its range
abbrev pub touches : Hull → FileMeta → Bool
touches hull f = ranges_meet hull.lo hull.hi f.smallest f.largest

-- all keys of the file are in the hull
abbrev pub encloses : Hull → FileMeta → Bool
encloses hull f = range_encloses hull.lo hull.hi f.smallest f.largest

-- the file is one of the version's, and an input
abbrev pub Takes : List FileMeta → Want → FileMeta → Type 0
Takes files want f = IsIn f files × IsIn f.number want.files

-- Inputs that may be merged. The hull runs from their least key to their greatest; every file of the next level that touches it is
-- an input, and so is every file of level 0 that touches it and is older than an input there.
pub record IsLegal (files : List FileMeta) (want : Want) : Type 0 where
  pub known : (n : ℕ) → IsIn n want.files → (f : FileMeta) × IsIn f files × (f.number ≡ n)
  pub own : (f : FileMeta) × Takes files want f × (f.level ≡ want.level)
  pub levels : (f : FileMeta) → Takes files want f → uses_level want.level f.level ≡ true
  pub inside : (f : FileMeta) → Takes files want f → encloses want.hull f ≡ true
  pub least : (f : FileMeta) × Takes files want f × (f.smallest ≡ want.hull.lo)
  pub greatest : (f : FileMeta) × Takes files want f × (f.largest ≡ want.hull.hi)
  pub next : (f : FileMeta) → IsIn f files → f.level ≡ want.level + 1 → touches want.hull f ≡ true → IsIn f.number want.files
  pub older : (f g : FileMeta) → IsIn f files → Takes files want g → want.level ≡ 0 → f.level ≡ 0 → g.level ≡ 0 → touches want.hull f ≡ true → f.number < g.number → IsIn f.number want.files

-- a key of the inputs that no deeper range covers has no entry more than one level below the job's
abbrev pub KnowsDeeper : List Placed → JobParts → Type 0
KnowsDeeper places job =
    (p q : Placed) → IsIn p places → IsIn q places → IsIn p.meta job.inputs → (e d : Entry) → IsIn e p.table.entries → IsIn d q.table.entries
    → is_in_ranges job.deeper e.ikey.key ≡ false → d.ikey.key ≡ e.ikey.key → q.meta.level ≤ job.level + 1
