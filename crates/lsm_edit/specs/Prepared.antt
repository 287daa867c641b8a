-- The next version, made ready while the old one stands (LevelDB, version_set.cc, LogAndApply: the version is built, then logged, then installed).
use Rattle.std.specs.Prelude.{◌≡◌, ℕ, ◌+◌, ◌≤◌, List, length}
use Rattle.lsm_table.specs.Tables.{Opened}
use Rattle.lsm_edit.specs.declared.file.FileMeta.{FileMeta}
use Rattle.lsm_edit.specs.declared.edit.Edit.{Edit}
use Rattle.lsm_edit.specs.Version.{VersionValue, after_apply}
use Rattle.lsm_edit.specs.Served.{AreAsRecorded, IsServed, ServedValue, placed_of, places_without, put_all}

-- the next version, the numbers of the files that go, the files that come with their tables, and for how many files there is room
pub record PreparedValue : Type 0 where
  pub version : VersionValue
  pub removed : List ℕ
  pub files : List FileMeta
  pub tables : List Opened
  pub room : ℕ

-- the version that stands, once the next one is taken up
abbrev pub after_taking_up : ServedValue → PreparedValue → ServedValue
after_taking_up s p = record { version = p.version; places = put_all (placed_of p.files p.tables) (places_without p.removed s.places) }

-- it may be taken up
pub record IsReadyFor (s : ServedValue) (p : PreparedValue) : Type 0 where
  pub room : length s.places + length p.tables ≤ p.room
  pub recorded : AreAsRecorded p.files p.tables
  pub served : IsServed (after_taking_up s p)

-- what an edit makes of the version, with the tables of the files that it adds
abbrev pub prepared_by : ServedValue → Edit → List Opened → ℕ → PreparedValue
prepared_by s e tables room = record { version = after_apply s.version e; removed = e.removed; files = e.added; tables = tables; room = room }

-- it is what the edit makes of the version with these tables, and it may be taken up
pub record IsPreparedBy (s : ServedValue) (e : Edit) (tables : List Opened) (p : PreparedValue) : Type 0 where
  pub ready : IsReadyFor s p
  pub made : p ≡ prepared_by s e tables p.room
