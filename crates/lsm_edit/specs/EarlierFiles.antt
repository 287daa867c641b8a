-- The files of a version that were read so far, with an index of their ranges: by where a range begins, where it ends (LevelDB, implementation notes: the files of a level do not overlap).
use Rattle.std.specs.Prelude.{◌≡◌, ℕ, ◌<◌, true, List, Some}
use Rattle.std.specs.declared.cmp.Ordering.{Ordering}
use Rattle.std.specs.BTreeMap.{BTreeMap, get}
use Rattle.std.specs.Cmp.Lexicographic.{slice_cmp}
use Rattle.std.specs.Ordering.{nat_cmp, ordering_then}
use Rattle.lsm_key.specs.Order.{key_le}
use Rattle.lsm_key.specs.Sets.{IsIn}
use Rattle.lsm_edit.specs.declared.file.FileMeta.{FileMeta}
use Rattle.lsm_edit.specs.Version.{clashes}

-- a level and a key: by level, and of one level by key
abbrev pub begin_cmp : ℕ × List ℕ → ℕ × List ℕ → Ordering
begin_cmp a b = ordering_then (nat_cmp a.0 b.0) (slice_cmp nat_cmp a.1 b.1)

-- each file of a level from 1 up is under its level and smallest key, with its largest key; no two of one level overlap
pub record AreIndexedFiles (ends : BTreeMap (ℕ × List ℕ) (List ℕ)) (files : List FileMeta) : Type 0 where
  pub there : (f : FileMeta) → IsIn f files → 0 < f.level → get begin_cmp ends (f.level, f.smallest) ≡ Some f.largest
  pub only : (begin : ℕ × List ℕ) (end : List ℕ) → get begin_cmp ends begin ≡ Some end
      → (f : FileMeta) × IsIn f files × (0 < f.level) × (f.level ≡ begin.0) × (f.smallest ≡ begin.1) × (f.largest ≡ end)
  pub ordered : (f : FileMeta) → IsIn f files → key_le f.smallest f.largest ≡ true
  pub apart : (f g : FileMeta) → IsIn f files → IsIn g files → clashes f g ≡ true → f.smallest ≡ g.smallest
