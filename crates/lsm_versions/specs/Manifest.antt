-- The list of edits, and the versions that it replays to (LevelDB, implementation notes: manifest).
use Rattle.std.specs.Prelude.{◌≡◌, ℕ, List, [], ◌∷◌, ◌++◌, ◌-◌, Result, Ok, Err, drop, max}
use Rattle.std.specs.List.{flat_map}
use Rattle.lsm_key.specs.Sets.{IsIn}
use Rattle.lsm_table.specs.Tables.{Opened}
use Rattle.lsm_edit.specs.declared.edit.Edit.{Edit}
use Rattle.lsm_edit.specs.Edit.{IsSpelledEdit, edit, read_edit}
use Rattle.lsm_edit.specs.Edits.{Apply, after_edits, versions_from}
use Rattle.lsm_edit.specs.Version.{VersionValue, first_version}
use Rattle.lsm_edit.specs.Served.{ServedValue, after_advance, placed_of}
use Rattle.lsm_vault.specs.Stored.{VaultValue}
use Rattle.lsm_versions.specs.declared.retired.Retired.{Retired}
use Rattle.lsm_versions.specs.Retention.{AreRetired, kept_from, retired_after}
use Rattle.lsm_versions.specs.Kept.{AreKept, MayHavePutSome, StaysBelow, put_tables}

-- the edit that bytes spell, or none
abbrev pub ok_items : {X F : Type 0} → Result X F → List X
ok_items (Ok x) = x ∷ []
ok_items (Err fault) = []

-- the edits that the bytes of a manifest spell, in order
abbrev pub read_edits : List (List ℕ) → List Edit
read_edits texts = flat_map (λ text. ok_items (read_edit text)) texts

-- the edit that makes the version at the floor, and those after it
abbrev pub edits_from : ℕ → List (List ℕ) → List (List ℕ)
edits_from floor texts = drop (floor - 1) texts

-- version 0, and the one after each edit of a manifest
abbrev pub versions_of : List (List ℕ) → List VersionValue
versions_of texts = versions_from first_version (read_edits texts)

-- each text spells an edit, and the edits apply in turn, from version 0 to this one
pub record Folds (texts : List (List ℕ)) (v : VersionValue) : Type 0 where
  pub spelled : (text : List ℕ) → IsIn text texts → (e : Edit) × IsSpelledEdit text e
  pub apply : Apply first_version (read_edits texts)
  pub makes : after_edits first_version (read_edits texts) ≡ v

-- a version with its tables, the removed files that are kept from the floor on, and what the vault has
pub record VersionSetValue : Type 0 where
  pub served : ServedValue
  pub stored : VaultValue  -- what the vault has
  pub retired : List Retired
  pub floor : ℕ
  pub failures : ℕ  -- how often the vault's device failed

-- the manifest replays to the version, the retired files are those of its versions, and the vault has the tables of both
pub record IsVersionSet (v : VersionSetValue) : Type 0 where
  pub folds : Folds v.stored.edits v.served.version
  pub retired : AreRetired (versions_of v.stored.edits) v.served.version v.retired v.floor
  pub kept : AreKept v.stored.tables v.served.places v.retired

-- The edit is the last of the manifest, the version after it stands with the tables of the files that it adds, which the vault has
-- too, and those that it removes are retired.
abbrev pub after_logging : VersionSetValue → Edit → List Opened → VersionSetValue
after_logging v e tables = record v {
  served = after_advance v.served e tables;
  stored = record v.stored { edits = v.stored.edits ++ edit e ∷ []; tables = put_tables v.stored.tables (placed_of e.added tables) };
  retired = retired_after v.retired v.served e.removed;
}

-- the same, but that the vault may have some of the tables that may be put, under numbers that no file has been given yet, and may have failed
pub record MayHavePut (MayPut : ℕ → List ℕ → Type 0) (old new : VersionSetValue) : Type 0 where
  pub rest : new ≡ record old { stored = record old.stored { tables = new.stored.tables }; failures = new.failures }
  pub below : StaysBelow old.served.version.next_file old.stored.tables new.stored.tables
  pub put : MayHavePutSome MayPut old.stored.tables new.stored.tables

-- the floor is this number, unless it is higher, and the retired files below it are let go
abbrev pub after_trimming : VersionSetValue → ℕ → VersionSetValue
after_trimming v n = record v { floor = max v.floor n; retired = kept_from (max v.floor n) v.retired }
