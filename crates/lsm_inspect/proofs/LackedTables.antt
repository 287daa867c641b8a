-- A file whose table is damaged lacks it.
use Rattle.std.proofs.Common.{◌≡◌, ◌∙◌, ℕ, List, false, inl, inr, sym, subst}
use Rattle.std.proofs.lemmas.Bool.{true≢false}
use Rattle.std.proofs.lemmas.Option.{none-some, same_Some}
use Rattle.lsm_key.specs.Sets.{is_among}
use Rattle.lsm_key.proofs.Results.{ok_not_err}
use Rattle.lsm_table.specs.Tables.{IsTable, Opened}
use Rattle.lsm_table.proofs.TableContents.{table_one}
use Rattle.lsm_table.proofs.TableLaws.{table_again}
use Rattle.lsm_edit.specs.declared.file.FileMeta.{FileMeta}
use Rattle.lsm_edit.specs.Served.{IsAsRecorded}
use Rattle.lsm_vault.specs.Stored.{TableMap}
use Rattle.lsm_versions.specs.Opening.{LacksTable}
use Rattle.lsm_inspect.specs.declared.damage.Damage.{Damage}
use Rattle.lsm_inspect.specs.declared.damage.Damage.TheVariants.{NotWhole, Missing, WrongLength, NotATable, WrongCount, WrongKeys}
use Rattle.lsm_inspect.specs.Check.{HasMismatch, IsDamage, IsMismatch, IsTableDamage}

-- in what a table is not as the file's record says is a damage of it
pub mismatch_damage : (kept : TableMap) (f : FileMeta) (d : Damage) → HasMismatch kept f d → IsTableDamage kept f d
mismatch_damage kept f NotWhole m = absurd m.mismatch
mismatch_damage kept f Missing m = absurd m.mismatch
mismatch_damage kept f (NotATable fault) m = absurd m.mismatch
mismatch_damage kept f (WrongLength recorded found) m = m
mismatch_damage kept f (WrongCount recorded found) m = m
mismatch_damage kept f WrongKeys m = m

module _ (f : FileMeta) where
  not_recorded : (t : Opened) (d : Damage) → IsAsRecorded f t → IsMismatch f t d → ⊥
  not_recorded t (WrongLength recorded found) is m = m.2 (m.0 ∙ is.bytes ∙ sym m.1)
  not_recorded t (WrongCount recorded found) is m = m.3 (m.1 ∙ is.entries ∙ sym m.2)
  not_recorded t WrongKeys is m = m.2 is.smallest is.largest
  not_recorded t NotWhole is m = m
  not_recorded t Missing is m = m
  not_recorded t (NotATable fault) is m = m

  mismatch_lacks : (kept : TableMap) (d : Damage) → HasMismatch kept f d → LacksTable kept f
  mismatch_lacks kept d m t there recorded =
      let bytes : t.bytes ≡ m.opened.bytes = same_Some t.bytes m.opened.bytes (sym there ∙ m.there) in
      let table : IsTable m.opened.bytes t.entries = subst (λ (b : List ℕ). IsTable b t.entries) bytes recorded.table in
      let entries : t.entries ≡ m.opened.entries = table_one m.opened.bytes t.entries m.opened.entries table m.table in
      let one : t ≡ m.opened = λ i. record { bytes = bytes i; entries = entries i } in
      not_recorded m.opened d (subst (λ (o : Opened). IsAsRecorded f o) one recorded) m.mismatch

  table_lacks : (kept : TableMap) (d : Damage) → IsTableDamage kept f d → LacksTable kept f
  table_lacks kept NotWhole is = absurd is
  table_lacks kept Missing is = λ t there recorded. none-some t.bytes (sym is ∙ there)
  table_lacks kept (NotATable fault) is = λ t there recorded.
      let bytes : t.bytes ≡ is.0 = same_Some t.bytes is.0 (sym there ∙ is.1) in
      let table : IsTable is.0 t.entries = subst (λ (b : List ℕ). IsTable b t.entries) bytes recorded.table in
      ok_not_err t.entries fault (sym (table_again is.0 t.entries table) ∙ is.2)
  table_lacks kept (WrongLength recorded found) is = mismatch_lacks kept (WrongLength recorded found) is
  table_lacks kept (WrongCount recorded found) is = mismatch_lacks kept (WrongCount recorded found) is
  table_lacks kept WrongKeys is = mismatch_lacks kept WrongKeys is

  pub damage_lacks : (kept : TableMap) (damaged : List ℕ) (d : Damage) → is_among damaged f.number ≡ false → IsDamage kept damaged f d → LacksTable kept f
  damage_lacks kept damaged d not (inl whole) = absurd (true≢false (sym whole.0 ∙ not))
  damage_lacks kept damaged d not (inr is) = table_lacks kept d is.1
