-- When two jobs get in each other's way (LevelDB, implementation notes: compactions; RocksDB wiki, Leveled Compaction: compactions in parallel).
use Rattle.std.specs.Prelude.{ℕ, Bool, ◌&&◌, List}
use Rattle.lsm_key.specs.KeyRanges.{in_closed_range, ranges_meet}
use Rattle.lsm_claim.specs.declared.hull.Hull.{Hull}
use Rattle.lsm_claim.specs.declared.job.Want.{Want}
use Rattle.lsm_claim.specs.Levels.{shares_level}

-- the key is in the hull
abbrev pub covers : Hull → List ℕ → Bool
covers h key = in_closed_range h.lo h.hi key

-- two hulls, each of which has a key, have one in common
abbrev pub hulls_meet : Hull → Hull → Bool
hulls_meet h g = ranges_meet h.lo h.hi g.lo g.hi

-- two jobs share a level, and have a key in common
abbrev pub conflicts : Want → Want → Bool
conflicts w v = shares_level w.level v.level && hulls_meet w.hull v.hull
