-- The vault has the tables of a version and of the retired files: after tables are put, after an edit, after a trim.
use Rattle.std.proofs.Common.{◌≡◌, ℕ, ◌<◌, List, None, Some, sym, subst, ◌∙◌, inl, inr, arith, leb}
use Rattle.std.specs.List.{list_any}
use Rattle.std.specs.FinMap.{get}
use Rattle.lsm_key.specs.Sets.{IsIn}
use Rattle.lsm_key.proofs.AscendingEntries.{IsIn-filter}
use Rattle.lsm_key.proofs.Membership.{IsIn-mapped}
use Rattle.lsm_table.specs.Tables.{Opened}
use Rattle.lsm_edit.specs.declared.edit.Edit.{Edit}
use Rattle.lsm_edit.specs.declared.served.Placed.{Placed}
use Rattle.lsm_edit.specs.Edit.{IsEdit, IsSpelledEdit}
use Rattle.lsm_edit.specs.Served.{IsServed, ServedValue, after_advance, placed_of, places_without}
use Rattle.lsm_edit.specs.Version.{IsVersion, VersionValue, apply_fault, has_number}
use Rattle.lsm_edit.proofs.AdvancedPlaces.{listed_below}
use Rattle.lsm_edit.proofs.PlacesInOrder.{placed_meta}
use Rattle.lsm_edit.proofs.ServedAfterEdit.{put_all-members}
use Rattle.lsm_edit.proofs.VersionLaws.{added_rises, fresh_added, stays}
use Rattle.lsm_vault.specs.Stored.{TableMap}
use Rattle.lsm_versions.specs.declared.retired.Retired.{Retired}
use Rattle.lsm_versions.specs.Kept.{AreKept, StaysApart, StaysBelow, put_tables}
use Rattle.lsm_versions.specs.Manifest.{Folds, versions_of}
use Rattle.lsm_versions.specs.Retention.{AreRetired, kept_from, retire, retired_after, retired_by}
use Rattle.lsm_versions.proofs.PutTables.{put_each_table, put_none}
use Rattle.lsm_versions.proofs.RetiredByNumber.{put_cases}
use Rattle.lsm_versions.proofs.RetiredFiles.{given}

-- the files that an edit adds have new numbers
pub apart_below : (v : VersionValue) (e : Edit) (old new : TableMap) → apply_fault v e ≡ None → StaysApart e.added old new → StaysBelow v.next_file old new
apart_below v e old new applies stays n lt = stays n (λ f m (same : f.number ≡ n). let fresh = fresh_added v e applies f m in absurd (omega (arith, fresh, same, lt)))

module _ (texts : List (List ℕ)) (s : ServedValue) (retired : List Retired) (floor : ℕ) (text : List ℕ) (e : Edit) (folds : Folds texts s.version) (are : AreRetired (versions_of texts) s.version retired floor)
    (served_is : IsServed s) (version_is : IsVersion s.version) (one : IsSpelledEdit text e) (fits : apply_fault s.version e ≡ None) where
  below_next : (r : Retired) → IsIn r retired → r.number < s.version.next_file
  below_next r m =
      let is = are.each r m in
      let lt = given texts s retired floor text e folds are served_is version_is one fits r is in
      let named = is.named in
      omega (arith, lt, named)

  -- tables under new numbers may be put
  pub kept_still : (old new : TableMap) → AreKept old s.places retired → StaysBelow s.version.next_file old new → AreKept new s.places retired
  kept_still old new kept below = record {
    listed = λ p m. below p.meta.number (listed_below s version_is served_is p m) ∙ kept.listed p m;
    removed = λ r m. below r.number (below_next r m) ∙ kept.removed r m;
  }

  -- the tables of the edit's files are put
  pub kept_after : (old : TableMap) (tables : List Opened) → IsEdit e → AreKept old s.places retired → AreKept (put_tables old (placed_of e.added tables)) (after_advance s e tables).places (retired_after retired s e.removed)
  kept_after old tables is kept =
      let added = placed_of e.added tables in
      let still : (n : ℕ) → n < s.version.next_file → get (put_tables old added) n ≡ get old n =
      λ n lt. put_none added old n (λ p m (same : p.meta.number ≡ n). let fresh = fresh_added s.version e fits p.meta (placed_meta e.added tables p m) in absurd (omega (arith, fresh, same, lt))) in
      let all = kept_still old (put_tables old added) kept still in
      record {
        listed = λ p m. elim ((put_all-members added (places_without e.removed s.places) p).0 m) [
          | inl new ↦ put_each_table e.added tables old (added_rises e is) p new
          | inr before ↦ all.listed p (IsIn-filter (λ (x : Placed). stays e.removed x.meta) p s.places before).0
        ];
        removed = λ r m. elim (put_cases (retired_by s e.removed) retired r m) [
          | inl before ↦ all.removed r before
          | inr new ↦
              let p = IsIn-mapped (retire s.version.number) r _ new in
              let there = IsIn-filter (λ (q : Placed). list_any (λ n. has_number n q.meta) e.removed) p.0 s.places p.1 in
              subst (λ (x : Retired). get (put_tables old added) x.number ≡ Some x.bytes) (sym p.2) (all.listed p.0 there.0)
        ];
      }

-- the tables of the retired files that stay are kept
pub kept_trimmed : (s : ServedValue) (retired : List Retired) (n : ℕ) (kept : TableMap) → AreKept kept s.places retired → AreKept kept s.places (kept_from n retired)
kept_trimmed s retired n kept are = record {
  listed = are.listed;
  removed = λ r m. are.removed r (IsIn-filter (λ (y : Retired). leb n y.until) r retired m).0;
}
