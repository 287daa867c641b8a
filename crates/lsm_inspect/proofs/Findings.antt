-- What is found in files, one after another.
use Rattle.std.proofs.Common.{ℕ, List, [], ◌∷◌, ◌++◌, Option, Some, None, inl, inr, subst, sym}
use Rattle.std.specs.Option.{IfNone, IfSome}
use Rattle.lsm_edit.specs.declared.file.FileMeta.{FileMeta}
use Rattle.lsm_vault.specs.Stored.{TableMap}
use Rattle.lsm_versions.specs.Opening.{HaveTables}
use Rattle.lsm_inspect.specs.declared.damage.Finding.{Finding}
use Rattle.lsm_inspect.specs.Check.{Finds, HasRecordedTable, IsFinding, IsWhole, items_of}

module _ (kept : TableMap) (damaged : List ℕ) where
  -- one more file
  pub finds_more : (files : List FileMeta) (found : List Finding) (f : FileMeta) (o : Option Finding) → Finds kept damaged files found → IfSome o (IsFinding kept damaged f) → IfNone o (IsWhole kept damaged f) → Finds kept damaged (files ++ f ∷ []) (found ++ items_of o)
  finds_more [] [] f (Some x) so some none = inr (some, so)
  finds_more [] [] f None so some none = (none, so)
  finds_more [] (y ∷ found) f o so some none = absurd so
  finds_more (g ∷ files) [] f (Some x) so some none = inl (so.0, finds_more files [] f (Some x) so.1 some none)
  finds_more (g ∷ files) [] f None so some none = (so.0, finds_more files [] f None so.1 some none)
  finds_more (g ∷ files) (y ∷ found) f o so some none = elim so [
    | inl whole ↦ inl (whole.0, finds_more files (y ∷ found) f o whole.1 some none)
    | inr one ↦ inr (one.0, finds_more files found f o one.1 some none)
  ]

  -- without a finding each file has its table
  pub finds_whole : (files : List FileMeta) → Finds kept damaged files [] → HaveTables kept files
  finds_whole [] so f m = absurd m
  finds_whole (g ∷ files) so f (inl same) = subst (λ (h : FileMeta). HasRecordedTable kept h) (sym same) so.0.table
  finds_whole (g ∷ files) so f (inr m) = finds_whole files so.1 f m
