-- Which files a version lists, by their whole records.
use Rattle.std.proofs.Common.{◌≡◌, ℕ, ◌<◌, true, false, List, [], ◌∷◌, get_or, length, sym, ap, ◌∙◌, inl, inr}
use Rattle.std.specs.List.{list_any}
use Rattle.std.proofs.lemmas.Bool.{cases_Bool, eq-eqb, false_from_ne_true, or_cases, true≢false}
use Rattle.std.proofs.lemmas.List.Folds.{list_any_at, list_any_none}
use Rattle.lsm_key.specs.Sets.{IsIn}
use Rattle.lsm_key.proofs.Membership.{IsIn-at}
use Rattle.lsm_edit.specs.declared.file.FileMeta.{FileMeta}
use Rattle.lsm_edit.specs.File.{same_file}
use Rattle.lsm_edit.specs.Version.{FileNumbersRise, has_number, is_listed}
use Rattle.lsm_edit.proofs.AdvancedPlaces.{or-left, or-right}
use Rattle.lsm_edit.proofs.SameFiles.{file_Decides}
use Rattle.lsm_edit.proofs.ServedPlaces.{one_number}

pub listed_in : (fs : List FileMeta) (f : FileMeta) → is_listed fs f ≡ true → IsIn f fs
listed_in [] f h = absurd cc
listed_in (g ∷ fs) f h = elim (or_cases (same_file f g) (is_listed fs f) h) [
  | inl one ↦ inl ((file_Decides f g).0 one)
  | inr later ↦ inr (listed_in fs f later)
]

pub in_listed : (fs : List FileMeta) (f : FileMeta) → IsIn f fs → is_listed fs f ≡ true
in_listed [] f m = absurd m
in_listed (g ∷ fs) f m = elim m [
  | inl one ↦ or-left (same_file f g) (is_listed fs f) ((file_Decides f g).1 one)
  | inr later ↦ or-right (same_file f g) (is_listed fs f) (in_listed fs f later)
]

-- among files whose numbers rise, only the one of the file's number may be the file
pub listed_at : (fs : List FileMeta) (f : FileMeta) (i : ℕ) (d : FileMeta) → FileNumbersRise fs → i < length fs → (get_or fs i d).number ≡ f.number → is_listed fs f ≡ same_file f (get_or fs i d)
listed_at fs f i d up lt same = elim (cases_Bool (same_file f (get_or fs i d))) [
  | inl one ↦ list_any_at (same_file f) fs i d lt one ∙ sym one
  | inr other ↦ list_any_none (same_file f) fs (λ k e within. false_from_ne_true (same_file f (get_or fs k e)) (λ h.
      let is : f ≡ get_or fs k e = (file_Decides f (get_or fs k e)).0 h in
      let there : get_or fs i d ≡ get_or fs k e = one_number fs up (get_or fs i d) (get_or fs k e) (IsIn-at fs i d lt) (IsIn-at fs k e within) (same ∙ ap (λ (g : FileMeta). g.number) is) in
      true≢false (sym ((file_Decides f (get_or fs i d)).1 (is ∙ sym there)) ∙ other))) ∙ sym other
]

has_there : (fs : List FileMeta) (f : FileMeta) → IsIn f fs → list_any (has_number f.number) fs ≡ true
has_there [] f m = absurd m
has_there (g ∷ fs) f m = elim m [
  | inl one ↦ or-left (has_number f.number g) (list_any (has_number f.number) fs) (eq-eqb g.number f.number (ap (λ (x : FileMeta). x.number) (sym one)))
  | inr later ↦ or-right (has_number f.number g) (list_any (has_number f.number) fs) (has_there fs f later)
]

-- a file is none of those that have another number
pub unlisted : (fs : List FileMeta) (f : FileMeta) → list_any (has_number f.number) fs ≡ false → is_listed fs f ≡ false
unlisted fs f none = false_from_ne_true (is_listed fs f) (λ h. true≢false (sym (has_there fs f (listed_in fs f h)) ∙ none))
