-- The tables of files, read one after the other.
use Rattle.std.proofs.Common.{◌≡◌, List, [], ◌∷◌, ◌++◌, Some, sym, subst, inl, inr}
use Rattle.std.specs.FinMap.{get}
use Rattle.lsm_key.proofs.Membership.{IsIn-mapped}
use Rattle.lsm_table.specs.Tables.{Opened}
use Rattle.lsm_edit.specs.declared.file.FileMeta.{FileMeta}
use Rattle.lsm_edit.specs.declared.served.Placed.{Placed}
use Rattle.lsm_edit.specs.Served.{AreAsRecorded, IsAsRecorded, IsServed, ServedValue, placed_of}
use Rattle.lsm_vault.specs.Stored.{TableMap}
use Rattle.lsm_versions.specs.Opening.{ArePlacesKept, HaveTables}

-- one table more
pub kept_push : (kept : TableMap) (fs : List FileMeta) (ts : List Opened) (f : FileMeta) (t : Opened) → AreAsRecorded fs ts → ArePlacesKept kept (placed_of fs ts) → get kept f.number ≡ Some t.bytes → ArePlacesKept kept (placed_of (fs ++ f ∷ []) (ts ++ t ∷ []))
kept_push kept [] [] f t are before one p (inl same) = subst (λ (q : Placed). get kept q.meta.number ≡ Some q.table.bytes) (sym same) one
kept_push kept [] [] f t are before one p (inr none) = absurd none
kept_push kept [] (u ∷ ts) f t are before one p m = absurd are
kept_push kept (g ∷ fs) [] f t are before one p m = absurd are
kept_push kept (g ∷ fs) (u ∷ ts) f t are before one p (inl same) = before p (inl same)
kept_push kept (g ∷ fs) (u ∷ ts) f t are before one p (inr later) = kept_push kept fs ts f t are.1 (λ q m. before q (inr m)) one p later

-- a version with its tables has the table of each file
pub have_tables : (kept : TableMap) (s : ServedValue) → IsServed s → ArePlacesKept kept s.places → HaveTables kept s.version.files
have_tables kept s is are f m =
    let p = IsIn-mapped (λ (q : Placed). q.meta) f s.places ((is.listed f).1 m) in (
      p.0.table,
      subst (λ (g : FileMeta). get kept g.number ≡ Some p.0.table.bytes) (sym p.2) (are p.0 p.1),
      subst (λ (g : FileMeta). IsAsRecorded g p.0.table) (sym p.2) (is.recorded p.0 p.1),
    )
