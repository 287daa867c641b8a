-- The versions of a shown state, and one edit more.
use Rattle.std.proofs.Common.{◌≡◌, ℕ, ◌+◌, List, [], ◌∷◌, ◌++◌, length, map, get_or, ap, ◌∙◌, arith}
use Rattle.std.proofs.lemmas.List.{map-append, length-map}
use Rattle.std.proofs.Math.ListN.{get_or-map}
use Rattle.lsm_edit.specs.declared.edit.Edit.{Edit}
use Rattle.lsm_edit.specs.Edit.{IsSpelledEdit}
use Rattle.lsm_edit.specs.Edits.{versions_from}
use Rattle.lsm_edit.specs.Served.{ServedValue}
use Rattle.lsm_edit.specs.Version.{VersionValue, first_version, after_apply}
use Rattle.lsm_versions.specs.Manifest.{Folds, read_edits, versions_of}
use Rattle.lsm_versions.proofs.ManifestReplay.{last_version, length-versions_of, length-versions_from, versions_of-push}
use Rattle.lsm_coord.specs.Model.State.{State, Version, current, current_version, current_files, last_flushed, empty_version}
use Rattle.lsm_coord.specs.Contract.Shows.{ShowsStored, listing_of, place_of}

pub listed-push : (texts : List (List ℕ)) (v : VersionValue) (text : List ℕ) (e : Edit) → Folds texts v → IsSpelledEdit text e → map listing_of (versions_of (texts ++ text ∷ [])) ≡ map listing_of (versions_of texts) ++ listing_of (after_apply v e) ∷ []
listed-push texts v text e h one =
    ap (map listing_of) (versions_of-push texts v text e h one) ∙ map-append listing_of (versions_of texts) (after_apply v e ∷ [])

module _ (texts : List (List ℕ)) (served : ServedValue) (s : State) (h : ShowsStored texts served s) where
  count : length s.versions ≡ length (read_edits texts) + 1
  count = ap length h.versions ∙ length-map (versions_of texts) listing_of ∙ length-versions_from first_version (read_edits texts)

  pub version_count : length s.versions ≡ served.version.number + 1
  version_count = ap length h.versions ∙ length-map (versions_of texts) listing_of ∙ length-versions_of texts served.version h.manifest

  pub current_is : current_version s ≡ listing_of served.version
  current_is =
      let at : current s ≡ length (read_edits texts) = omega (arith, count) in
      ap (λ (i : ℕ). get_or s.versions i empty_version) at
      ∙ ap (λ (vs : List Version). get_or vs (length (read_edits texts)) empty_version) h.versions
      ∙ get_or-map listing_of (versions_from first_version (read_edits texts)) (length (read_edits texts)) first_version
      ∙ ap listing_of (last_version first_version first_version (read_edits texts))
      ∙ ap listing_of h.manifest.makes

  pub flushed_is : last_flushed s ≡ served.version.flushed
  flushed_is = ap (λ (v : Version). v.flushed) current_is

  pub files_are : current_files s ≡ map place_of served.version.files
  files_are = ap (λ (v : Version). v.files) current_is
