-- Files that are read in turn are those of a version: each is within bounds, their numbers rise, and none overlaps another.
use Rattle.std.proofs.Common.{◌≡◌, Bool, false, List, [], ◌∷◌, get_or, refl, sym, subst, arith, inl, inr}
use Rattle.std.specs.List.{list_any, All}
use Rattle.std.proofs.lemmas.Bool.{or_parts, or_from}
use Rattle.lsm_key.specs.Sets.{IsIn}
use Rattle.lsm_key.proofs.Membership.{IsIn-at, IsIn-append_left, IsIn-append_right, IsIn-append_cases, IsIn-one}
use Rattle.lsm_edit.specs.declared.file.FileBounds.{FileBounds}
use Rattle.lsm_edit.specs.declared.file.FileMeta.{FileMeta}
use Rattle.lsm_edit.specs.File.{IsFile}
use Rattle.lsm_edit.specs.Base.{after_version_file}
use Rattle.lsm_edit.specs.Version.{FileNumbersRise, clashes, has_overlap}
use Rattle.lsm_edit.proofs.Ascending.{IsFileFrom}
use Rattle.lsm_edit.proofs.FileLaws.{IsNextFile}
use Rattle.lsm_edit.proofs.ItemsInTurn.{AreInTurn}

module _ {X : Type 0} (test : X → Bool) where
  pub any_of_none : (xs : List X) → ((x : X) → IsIn x xs → test x ≡ false) → list_any test xs ≡ false
  any_of_none [] none = refl
  any_of_none (x ∷ xs) none = or_from (test x) (list_any test xs) (none x (inl refl)) (any_of_none xs (λ y m. none y (inr m)))

  pub none_of_any : (xs : List X) → list_any test xs ≡ false → (x : X) → IsIn x xs → test x ≡ false
  none_of_any [] h x m = absurd m
  none_of_any (y ∷ xs) h x m =
      let parts = or_parts (test y) (list_any test xs) h in
      elim m [ inl e ↦ subst (λ (z : X). test z ≡ false) (sym e) parts.0 | inr n ↦ none_of_any xs parts.1 x n ]

pub all_files : (files : List FileMeta) → ((f : FileMeta) → IsIn f files → IsFile f) → All IsFile files
all_files files each k d lt = each (get_or files k d) (IsIn-at files k d lt)

-- each file is one that may follow those before it
abbrev pub AreVersionFiles : FileBounds × List FileMeta → List FileMeta → Type 0
AreVersionFiles from files = AreInTurn (λ s. IsNextFile s.0 s.1) after_version_file from files

pub version_each : (from : FileBounds × List FileMeta) (files : List FileMeta) → AreVersionFiles from files → (f : FileMeta) → IsIn f files → IsFileFrom from.0 f
version_each from [] is f m = absurd m
version_each from (g ∷ files) is f m = elim m [
  | inl e ↦ subst (λ (x : FileMeta). IsFileFrom from.0 x) (sym e) is.0.0
  | inr n ↦
      let later = version_each (after_version_file from g) files is.1 f n in
      let own = is.0.0 in
      (later.0, (let a = later.1 in let b = own.1 in omega (arith, a, b)), later.2, later.3, later.4)
]

pub version_rises : (from : FileBounds × List FileMeta) (files : List FileMeta) → AreVersionFiles from files → FileNumbersRise files
version_rises from [] is = tt
version_rises from (f ∷ files) is = (
  λ g m. (let later = (version_each (after_version_file from f) files is.1 g m).1 in omega (arith, later)),
  version_rises (after_version_file from f) files is.1,
)

version_clear : (from : FileBounds × List FileMeta) (files : List FileMeta) → AreVersionFiles from files → (g : FileMeta) → IsIn g from.1 → (f : FileMeta) → IsIn f files → clashes g f ≡ false
version_clear from [] is g m f n = absurd n
version_clear from (x ∷ files) is g m f n = elim n [
  | inl e ↦ subst (λ (y : FileMeta). clashes g y ≡ false) (sym e) (none_of_any (λ e. clashes e x) from.1 is.0.1 g m)
  | inr later ↦ version_clear (after_version_file from x) files is.1 g (IsIn-append_left g from.1 (x ∷ []) m) f later
]

pub version_apart : (from : FileBounds × List FileMeta) (files : List FileMeta) → AreVersionFiles from files → has_overlap files ≡ false
version_apart from [] is = refl
version_apart from (f ∷ files) is =
    or_from (list_any (clashes f) files) (has_overlap files)
    (any_of_none (clashes f) files (λ g m. version_clear (after_version_file from f) files is.1 f (IsIn-append_right f from.1 (f ∷ []) (inl refl)) g m))
    (version_apart (after_version_file from f) files is.1)

pub version_in_turn : (from : FileBounds × List FileMeta) (files : List FileMeta) → ((f : FileMeta) → IsIn f files → IsFileFrom from.0 f) → FileNumbersRise files → has_overlap files ≡ false
    → ((g : FileMeta) → IsIn g from.1 → (f : FileMeta) → IsIn f files → clashes g f ≡ false) → AreVersionFiles from files
version_in_turn from [] each rise apart clear = tt
version_in_turn from (f ∷ files) each rise apart clear =
    let parts = or_parts (list_any (clashes f) files) (has_overlap files) apart in (
      (each f (inl refl), any_of_none (λ e. clashes e f) from.1 (λ g m. clear g m f (inl refl))),
      version_in_turn (after_version_file from f) files
          (λ g m. let own = each g (inr m) in (own.0, (let up = rise.0 g m in omega (arith, up)), own.2, own.3, own.4))
          rise.1 parts.1
          (λ g m h n. elim (IsIn-append_cases g from.1 (f ∷ []) m) [
            | inl before ↦ clear g before h (inr n)
            | inr last ↦ subst (λ (x : FileMeta). clashes x h ≡ false) (sym (IsIn-one g f last)) (none_of_any (clashes f) files parts.0 h n)
          ]),
    )
