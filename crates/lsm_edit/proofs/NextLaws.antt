-- The edits that follow a version apply to it.
use Rattle.std.proofs.Common.{◌≡◌, ℕ, suc, ◌+◌, ◌-◌, ◌<◌, ◌≤◌, ◌^◌, true, false, not, List, [], ◌∷◌, ◌++◌, length, Option, None, Some, refl, sym, ap, ◌∙◌, arith, inl, inr, ltb, leb}
use Rattle.std.specs.Prelude.{slice_get}
use Rattle.std.specs.List.{list_any}
use Rattle.lsm_key.specs.Sets.{IsIn}
use Rattle.lsm_key.proofs.Lists.{none_from}
use Rattle.lsm_edit.specs.declared.edit.EditKind.TheVariants.{Flush, Install, Epoch}
use Rattle.std.proofs.lemmas.Bool.{eq-eqb, le-ltb, lt-leb}
use Rattle.lsm_key.specs.declared.limits.TheConstants.{MAX_NUMBER}
use Rattle.lsm_edit.specs.declared.file.FileMeta.{FileMeta}
use Rattle.lsm_edit.specs.File.{IsFile}
use Rattle.lsm_edit.specs.Edit.{IsEdit, AreRemoved, AreAdded}
use Rattle.lsm_edit.specs.Version.{VersionValue, IsVersion, FileNumbersRise, apply_fault, files_after, has_number, has_overlap, files_without}
use Rattle.lsm_edit.specs.Next.{flush_edit, epoch_edit, install_edit, number_after}
use Rattle.std.proofs.lemmas.List.{append-nil}
use Rattle.lsm_edit.proofs.Ascending.{added_bounds, added_of_turn, removed_of_turn, turn_of_added}
use Rattle.lsm_edit.proofs.VersionLaws.{files_after-is, overlap-push, added_rise}

pub flush_sound : (v : VersionValue) (flushed : ℕ) (f : FileMeta) → IsVersion v → v.number + 1 ≤ MAX_NUMBER → v.next_file + 1 ≤ MAX_NUMBER → v.flushed < flushed → flushed < 2 ^ 56 → IsFile f → f.level ≡ 0 → 1 ≤ v.epoch → IsEdit (flush_edit v flushed f)
flush_sound v flushed f is number next newer fits file level epoch = record {
  first = omega arith;
  last = number;
  flushed = fits;
  some_epoch = epoch;
  epoch = is.epoch;
  some_file = omega arith;
  next_file = next;
  removed = removed_of_turn Flush [] (omega arith) (omega arith) tt;
  added = added_of_turn Flush (f ∷ []) (omega arith) (omega arith) ((file, omega arith, file.last, omega arith, omega arith), tt);
}

pub flush_applies : (v : VersionValue) (flushed : ℕ) (f : FileMeta) → IsVersion v → v.flushed < flushed → f.number ≡ v.next_file → f.level ≡ 0 → apply_fault v (flush_edit v flushed f) ≡ None
flush_applies v flushed f is newer number level =
    let disjoint : has_overlap (files_after v.files (flush_edit v flushed f)) ≡ false = ap has_overlap (files_after-is v.files (flush_edit v flushed f) refl) ∙ overlap-push v.files f level is.disjoint in
    rw (disjoint, eq-eqb (v.number + 1) (v.number + 1) refl, le-ltb f.number v.next_file (omega arith), lt-leb flushed v.flushed newer, le-ltb (v.next_file + 1) v.next_file (omega arith), lt-leb (v.next_file + 1) f.number (omega arith), eq-eqb v.epoch v.epoch refl) refl

pub epoch_sound : (v : VersionValue) → IsVersion v → v.number + 1 ≤ MAX_NUMBER → v.epoch + 1 ≤ MAX_NUMBER → IsEdit (epoch_edit v)
epoch_sound v is number epoch = record {
  first = omega arith;
  last = number;
  flushed = is.flushed;
  some_epoch = omega arith;
  epoch = epoch;
  some_file = is.some_file;
  next_file = is.next_file;
  removed = removed_of_turn Epoch [] (omega arith) (omega arith) tt;
  added = added_of_turn Epoch [] (omega arith) (omega arith) tt;
}

pub epoch_applies : (v : VersionValue) → IsVersion v → apply_fault v (epoch_edit v) ≡ None
epoch_applies v is =
    let disjoint : has_overlap (files_after v.files (epoch_edit v)) ≡ false = ap has_overlap (files_after-is v.files (epoch_edit v) refl ∙ append-nil v.files) ∙ is.disjoint in
    rw (disjoint, eq-eqb (v.number + 1) (v.number + 1) refl, eq-eqb v.flushed v.flushed refl, le-ltb v.next_file v.next_file (omega arith), eq-eqb (v.epoch + 1) (v.epoch + 1) refl) refl

-- ---- an install

-- the next file number stands above files whose numbers rise
after_least : (n : ℕ) (files : List FileMeta) → FileNumbersRise files → ((f : FileMeta) → IsIn f files → n ≤ f.number) → n ≤ number_after n files
after_least n [] up fresh = omega arith
after_least n (f ∷ files) up fresh =
    let first = fresh f (inl refl) in
    let rest = after_least (f.number + 1) files up.1 (λ g m. let more = up.0 g m in omega arith) in
    omega arith

after_each : (n : ℕ) (files : List FileMeta) → FileNumbersRise files → (f : FileMeta) → IsIn f files → f.number < number_after n files
after_each n [] up f m = absurd m
after_each n (x ∷ files) up f m = elim m [
  | inl e ↦ let rest = after_least (x.number + 1) files up.1 (λ g k. let more = up.0 g k in omega arith) in let same = ap (λ (g : FileMeta). g.number) e in omega arith
  | inr k ↦ after_each (x.number + 1) files up.1 f k
]

-- the number after the last file's
pub after_last : (n : ℕ) (files : List FileMeta) (f : FileMeta) → slice_get files (length files - 1) ≡ Some f → number_after n files ≡ f.number + 1
after_last n [] f h = absurd cc
after_last n (x ∷ []) f h = ap (λ (o : Option FileMeta). number_of o) h
  where
    number_of : Option FileMeta → ℕ
    number_of None = 0
    number_of (Some g) = g.number + 1
after_last n (x ∷ y ∷ files) f h =
    let shorter : suc (suc (length files)) - 1 ≡ suc (length files) = omega arith in
    let less : suc (length files) - 1 ≡ length files = omega arith in
    after_last (x.number + 1) (y ∷ files) f (ap (λ (i : ℕ). slice_get (y ∷ files) i) less ∙ sym (ap (λ (i : ℕ). slice_get (x ∷ y ∷ files) i) shorter) ∙ h)

pub after_none : (n : ℕ) (files : List FileMeta) → slice_get files (length files - 1) ≡ None → number_after n files ≡ n
after_none n [] h = refl
after_none n (x ∷ files) h =
    let less : suc (length files) - 1 ≡ length files = omega arith in
    absurd (some_last x files (sym (ap (λ (i : ℕ). slice_get (x ∷ files) i) less) ∙ h))
  where
    some_last : (y : FileMeta) (fs : List FileMeta) → slice_get (y ∷ fs) (length fs) ≡ None → ⊥
    some_last y [] e = absurd cc
    some_last y (z ∷ fs) e = some_last z fs e

module _ (v : VersionValue) (removed : List ℕ) (added : List FileMeta) (is : IsVersion v) (old : AreRemoved Install removed) (new : AreAdded Install added) (fresh : (f : FileMeta) → IsIn f added → v.next_file ≤ f.number) where
  rise : FileNumbersRise added
  rise = added_rise (added_bounds Install) added (turn_of_added Install added new)

  pub install_sound : v.number + 1 ≤ MAX_NUMBER → 1 ≤ v.epoch → number_after v.next_file added ≤ MAX_NUMBER → IsEdit (install_edit v removed added)
  install_sound number epoch room = record {
    first = omega arith;
    last = number;
    flushed = is.flushed;
    some_epoch = epoch;
    epoch = is.epoch;
    some_file = (let least = after_least v.next_file added rise fresh in let some = is.some_file in omega arith);
    next_file = room;
    removed = old;
    added = new;
  }

  pub install_applies : ((n : ℕ) → IsIn n removed → list_any (has_number n) v.files ≡ true) → has_overlap (files_without removed v.files ++ added) ≡ false → apply_fault v (install_edit v removed added) ≡ None
  install_applies present disjoint =
      let all_there : list_any (λ n. not (list_any (has_number n) v.files)) removed ≡ false = none_from (λ n. not (list_any (has_number n) v.files)) removed (λ n m. ap not (present n m)) in
      let all_new : list_any (λ f. ltb f.number v.next_file) added ≡ false = none_from (λ f. ltb f.number v.next_file) added (λ f m. le-ltb f.number v.next_file (fresh f m)) in
      let all_below : list_any (λ f. leb (number_after v.next_file added) f.number) added ≡ false = none_from (λ f. leb (number_after v.next_file added) f.number) added (λ f m. lt-leb (number_after v.next_file added) f.number (after_each v.next_file added rise f m)) in
      rw (all_there, all_new, disjoint, all_below, eq-eqb (v.number + 1) (v.number + 1) refl, eq-eqb v.flushed v.flushed refl, le-ltb (number_after v.next_file added) v.next_file (after_least v.next_file added rise fresh), eq-eqb v.epoch v.epoch refl) refl
