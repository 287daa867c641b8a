-- A second order of the candidates: a level below level 0 goes on after its compact pointer (LevelDB, version_set.cc, VersionSet::PickCompaction: compact_pointer_).
use Rattle.std.specs.Prelude.{ℕ, ◌-◌, Bool, true, false, ◌&&◌, List, [], ◌++◌, Option, None, Some, filter, flat_map, get_or, nat_eq, if◌then◌else◌}
use Rattle.std.specs.Bool.{beq}
use Rattle.lsm_key.specs.Order.{key_lt}
use Rattle.lsm_key.specs.declared.limits.Limits.{Limits}
use Rattle.lsm_edit.specs.declared.served.Placed.{Placed}
use Rattle.lsm_edit.specs.Served.{ServedValue}
use Rattle.lsm_pick.specs.Closure.{Candidate}
use Rattle.lsm_pick.specs.Due.{due_levels}
use Rattle.lsm_pick.specs.Rule.{candidates, file_candidates, level_candidates}

pub record CompactPointersValue : Type 0 where
  pub keys : List (List ℕ)  -- by level, from level 1

-- the key after which a level below level 0 goes on
abbrev pub pointer_at : CompactPointersValue → ℕ → List ℕ
pointer_at pointers level = get_or pointers.keys (level - 1) []

-- the files of a level that begin above the pointer, or those that don't, each by key
abbrev pub part_of_level : ℕ → List ℕ → Bool → List Placed → List Placed
part_of_level level pointer above places = filter (λ p. nat_eq p.meta.level level && beq (key_lt pointer p.meta.smallest) above) places

-- first the files that begin above the pointer, and then the others
abbrev pub level_after : ℕ → List ℕ → List Placed → List Placed
level_after level pointer places = part_of_level level pointer true places ++ part_of_level level pointer false places

-- level 0 by number, a deeper level from its pointer on
abbrev pub level_candidates_after : CompactPointersValue → ServedValue → ℕ → List Candidate
level_candidates_after pointers s level =
    if nat_eq level 0 then level_candidates s.version.files level
    else flat_map (λ p. file_candidates p.meta) (level_after level (pointer_at pointers level) s.places)

-- due levels from the lowest number up, in each the files from its pointer on
abbrev pub candidates_after : CompactPointersValue → Limits → ServedValue → List Candidate
candidates_after pointers limits s = flat_map (level_candidates_after pointers s) (due_levels limits s.version.files)

-- the candidates in the order of the pointers, if there are any, else in the rule's own
abbrev pub candidates_in : Option CompactPointersValue → Limits → ServedValue → List Candidate
candidates_in None limits s = candidates limits s.version.files
candidates_in (Some pointers) limits s = candidates_after pointers limits s

-- those of one level
abbrev pub level_candidates_in : Option CompactPointersValue → ServedValue → ℕ → List Candidate
level_candidates_in None s level = level_candidates s.version.files level
level_candidates_in (Some pointers) s level = level_candidates_after pointers s level
