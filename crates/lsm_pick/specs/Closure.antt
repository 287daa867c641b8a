-- The files that have to be merged together (LevelDB, version_set.cc: GetOverlappingInputs, SetupOtherInputs).
use Rattle.std.specs.Prelude.{◌≡◌, ◌⊎◌, ◌+◌, ◌<◌, Bool, true, false, List}
use Rattle.lsm_key.specs.Sets.{IsIn}
use Rattle.lsm_key.specs.Order.{key_le}
use Rattle.lsm_edit.specs.declared.file.FileMeta.{FileMeta}

-- A file to begin with. With older files only, a candidate of level 0 leaves out the newer files there, so that a
-- backlog can be merged in parts.
pub record Candidate : Type 0 where
  pub first : FileMeta
  pub older_only : Bool

-- the file overlaps the key range of the set
abbrev pub MeetsHull : List FileMeta → FileMeta → Type 0
MeetsHull set g =
    ((a : FileMeta) × IsIn a set × (key_le a.smallest g.largest ≡ true))
    × ((b : FileMeta) × IsIn b set × (key_le g.smallest b.largest ≡ true))

-- the set has a file of level 0 that is newer
abbrev pub HasNewer : List FileMeta → FileMeta → Type 0
HasNewer set g = (h : FileMeta) × IsIn h set × (h.level ≡ 0) × (g.number < h.number)

-- a file that the set must have: of the next level, or of level 0 too, and with older files only an older one there
abbrev pub Joins : Candidate → List FileMeta → FileMeta → Type 0
Joins t set g = MeetsHull set g × ((g.level ≡ t.first.level + 1) ⊎ ((t.first.level ≡ 0) × (g.level ≡ 0) × ((t.older_only ≡ false) ⊎ HasNewer set g)))

-- each file that must be in the set is in it
abbrev pub IsClosed : List FileMeta → Candidate → List FileMeta → Type 0
IsClosed files t set = (g : FileMeta) → IsIn g files → Joins t set g → IsIn g set

-- the least closed set of files that has the first one
pub record IsClosure (files : List FileMeta) (t : Candidate) (set : List FileMeta) : Type 0 where
  pub has : IsIn t.first set
  pub among : (g : FileMeta) → IsIn g set → IsIn g files
  pub closed : IsClosed files t set
  pub least : (other : List FileMeta) → IsIn t.first other → IsClosed files t other → (g : FileMeta) → IsIn g set → IsIn g other
