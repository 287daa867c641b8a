-- Which levels are due to be merged (LevelDB, version_set.cc, VersionSet::Finalize: level 0 by the number of its files, a deeper level by their bytes).
use Rattle.std.specs.Prelude.{ℕ, ◌*◌, ◌^◌, ◌-◌, Bool, List, [], ◌∷◌, filter, length, sum_by, nat_eq, nat_le, nat_lt, if◌then◌else◌}
use Rattle.lsm_key.specs.declared.limits.Limits.{Limits}
use Rattle.lsm_edit.specs.declared.file.FileMeta.{FileMeta}

-- the files of a level
abbrev pub of_level : ℕ → List FileMeta → List FileMeta
of_level level files = filter (λ f. nat_eq f.level level) files

-- level 0 needs compaction by the number of its files
abbrev pub is_full : Limits → List FileMeta → Bool
is_full limits files = nat_le limits.l0 (length (of_level 0 files))

-- the bytes that a deeper level may have: the base, and ten times as many in each deeper one
abbrev pub most_level_bytes : Limits → ℕ → ℕ
most_level_bytes limits level = limits.base * 10 ^ (level - 1)

-- a level has more bytes than these
abbrev pub is_heavy : List FileMeta → ℕ → ℕ → Bool
is_heavy files level most = nat_lt most (sum_by (λ f. f.bytes) (of_level level files))

-- the level needs compaction: level 0 by the number of its files, a deeper one by their bytes
abbrev pub is_due : Limits → List FileMeta → ℕ → Bool
is_due limits files level = if nat_eq level 0 then is_full limits files else is_heavy files level (most_level_bytes limits level)

-- the levels that may be due: the deepest one never is
abbrev pub levels : List ℕ
levels = 0 ∷ 1 ∷ 2 ∷ 3 ∷ 4 ∷ 5 ∷ []

-- the levels that need compaction, the lowest number first
abbrev pub due_levels : Limits → List FileMeta → List ℕ
due_levels limits files = filter (is_due limits files) levels
