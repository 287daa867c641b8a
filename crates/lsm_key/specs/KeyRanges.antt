-- Ranges of keys, both ends in them (LevelDB, version_set.cc: BeforeFile, AfterFile, SomeFileOverlapsRange).
use Rattle.std.specs.Prelude.{ℕ, Bool, ◌&&◌, List, if◌then◌else◌}
use Rattle.lsm_key.specs.Order.{key_le}

-- the key is one of those from lo to hi
abbrev pub in_closed_range : List ℕ → List ℕ → List ℕ → Bool
in_closed_range lo hi key = key_le lo key && key_le key hi

-- the keys from lo to hi and those from other_lo to other_hi have one in common, if neither range is empty
abbrev pub ranges_meet : List ℕ → List ℕ → List ℕ → List ℕ → Bool
ranges_meet lo hi other_lo other_hi = key_le lo other_hi && key_le other_lo hi

-- the keys from other_lo to other_hi, if there are any, are all among those from lo to hi
abbrev pub range_encloses : List ℕ → List ℕ → List ℕ → List ℕ → Bool
range_encloses lo hi other_lo other_hi = key_le lo other_lo && key_le other_hi hi

-- the lesser of two least keys
abbrev pub lower : List ℕ → List ℕ → List ℕ
lower lo key = if key_le lo key then lo else key

-- the greater of two greatest keys
abbrev pub higher : List ℕ → List ℕ → List ℕ
higher hi key = if key_le key hi then hi else key
