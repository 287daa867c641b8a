-- A history whose manifest has one edit more.
use Rattle.std.proofs.Common.{◌≡◌, ℕ, List, [], ◌∷◌, ◌++◌, refl, sym, ap, subst, ◌∙◌, inl, inr}
use Rattle.lsm_key.specs.Sets.{IsIn}
use Rattle.lsm_key.proofs.Membership.{IsIn-append_cases, IsIn-one}
use Rattle.lsm_edit.specs.declared.edit.Edit.{Edit}
use Rattle.lsm_edit.specs.declared.file.FileMeta.{FileMeta}
use Rattle.lsm_edit.specs.declared.served.Placed.{Placed}
use Rattle.lsm_edit.specs.Edit.{IsSpelledEdit}
use Rattle.lsm_edit.specs.Edits.{versions_from}
use Rattle.lsm_edit.specs.Version.{VersionValue, first_version}
use Rattle.lsm_versions.specs.Manifest.{Folds, read_edits, versions_of}
use Rattle.lsm_versions.proofs.ManifestReplay.{read_edits-push, versions_of-push}
use Rattle.lsm_edit.specs.Version.{after_apply}
use Rattle.lsm_world.specs.History.{AreFilesOf, History, IsFileOf, versions_in}
use Rattle.lsm_world.proofs.GrowingHistory.{Grows, GrowsEdits, file_stays, one_edit}

-- the history's versions are those of the manifest
pub versions_are : (h : History) (texts : List (List ℕ)) → h.edits ≡ read_edits texts → versions_in h ≡ versions_of texts
versions_are h texts same = ap (versions_from first_version) same

module _ (h more : History) (before after : List (List ℕ)) (text : List ℕ) (e : Edit) (old new : VersionValue) (folds : Folds before old) (spelled : IsSpelledEdit text e) (pushed : after ≡ before ++ text ∷ []) (new_is : new ≡ after_apply old e) (had : h.edits ≡ read_edits before) (has : more.edits ≡ read_edits after) where
  edits_are : more.edits ≡ h.edits ++ e ∷ []
  edits_are = has ∙ ap read_edits pushed ∙ read_edits-push before text e spelled ∙ ap (λ (es : List Edit). es ++ e ∷ []) (sym had)

  pub grown_versions : versions_in more ≡ versions_in h ++ new ∷ []
  grown_versions =
      versions_are more after has ∙ ap versions_of pushed ∙ versions_of-push before old text e folds spelled
      ∙ (λ i. sym (versions_are h before had) i ++ sym new_is i ∷ [])

  pub logs_one : GrowsEdits h more
  logs_one = one_edit h more e new edits_are grown_versions

  -- EACH FILE THAT A VERSION LISTS IS STILL ONE OF THE HISTORY.
  pub listed_on : Grows h more → AreFilesOf h → ((f : FileMeta) → IsIn f new.files → IsFileOf more f) → (v : VersionValue) (f : FileMeta) → IsIn v (versions_in more) → IsIn f v.files → IsFileOf more f
  listed_on grows files current v f mv mf = elim (IsIn-append_cases v (versions_in h) (new ∷ []) (subst (λ (vs : List VersionValue). IsIn v vs) grown_versions mv)) [
    | inl earlier ↦ file_stays h more grows f (files.listed v f earlier mf)
    | inr last ↦ current f (subst (λ (x : VersionValue). IsIn f x.files) (IsIn-one v new last) mf)
  ]
