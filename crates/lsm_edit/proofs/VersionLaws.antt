-- What an edit that applies makes of a version.
use Rattle.std.proofs.Common.{◌≡◌, ℕ, ◌+◌, ◌<◌, ◌≤◌, Bool, true, false, not, cond, ◌&&◌, ◌||◌, List, [], ◌∷◌, ◌++◌, Option, None, Some, refl, sym, ap, subst, ◌∙◌, arith, inl, inr, eqb, ltb, leb}
use Rattle.std.specs.List.{filter, list_any}
use Rattle.std.proofs.lemmas.Bool.{and_right, or_from, or_parts, ltb-false, leb-false, not-false, eqb-true, cases_Bool}
use Rattle.lsm_key.specs.Sets.{IsIn}
use Rattle.lsm_key.proofs.AscendingEntries.{IsIn-filter}
use Rattle.lsm_key.proofs.Membership.{IsIn-append_cases}
use Rattle.std.proofs.lemmas.List.Folds.{list_any-append}
use Rattle.lsm_edit.specs.declared.file.FileBounds.{FileBounds}
use Rattle.lsm_edit.specs.declared.file.FileMeta.{FileMeta}
use Rattle.lsm_edit.specs.declared.edit.Edit.{Edit}
use Rattle.lsm_edit.specs.declared.version.ApplyError.{ApplyError}
use Rattle.lsm_edit.specs.File.{IsFile}
use Rattle.lsm_edit.specs.Edit.{IsEdit, after_file}
use Rattle.lsm_edit.specs.Version.{VersionValue, IsVersion, FileNumbersRise, files_without, has_number, files_after, clashes, files_meet, has_overlap, apply_fault, after_apply, goes_back, miscounts, is_low}
use Rattle.lsm_edit.proofs.Ascending.{added_bounds, IsFileFrom, turn_of_added}
use Rattle.lsm_edit.proofs.ItemsInTurn.{AreInTurn}

-- ---- the files after an edit that removes none

pub without-none : (files : List FileMeta) → files_without [] files ≡ files
without-none [] = refl
without-none (f ∷ files) = ap (λ (fs : List FileMeta). f ∷ fs) (without-none files)

pub files_after-is : (files : List FileMeta) (edit : Edit) → edit.removed ≡ [] → files_after files edit ≡ files ++ edit.added
files_after-is files edit none = ap (λ (numbers : List ℕ). files_without numbers files ++ edit.added) none ∙ ap (λ (fs : List FileMeta). fs ++ edit.added) (without-none files)

-- ---- overlaps

pub young : (f g : FileMeta) → g.level ≡ 0 → clashes f g ≡ false
young f g zero_level = elim (cases_Bool (eqb f.level g.level)) [
  | inl same ↦
      let level : f.level ≡ 0 = eqb-true f.level g.level same ∙ zero_level in
      and_right (eqb f.level g.level) (ltb 0 f.level && files_meet f g) (ap (λ (n : ℕ). ltb 0 n && files_meet f g) level)
  | inr other ↦ ap (λ (b : Bool). b && (ltb 0 f.level && files_meet f g)) other
]

any-push : (test : FileMeta → Bool) (files : List FileMeta) (g : FileMeta) → list_any test files ≡ false → test g ≡ false → list_any test (files ++ g ∷ []) ≡ false
any-push test [] g none own = or_from (test g) false own refl
any-push test (f ∷ files) g none own = let parts = or_parts (test f) (list_any test files) none in or_from (test f) (list_any test (files ++ g ∷ [])) parts.0 (any-push test files g parts.1 own)

pub overlap-push : (files : List FileMeta) (g : FileMeta) → g.level ≡ 0 → has_overlap files ≡ false → has_overlap (files ++ g ∷ []) ≡ false
overlap-push [] g level h = refl
overlap-push (f ∷ files) g level h =
    let parts = or_parts (list_any (clashes f) files) (has_overlap files) h in
    or_from (list_any (clashes f) (files ++ g ∷ [])) (has_overlap (files ++ g ∷ [])) (any-push (clashes f) files g parts.0 (young f g level)) (overlap-push files g level parts.1)

-- ---- overlaps of the files after an edit

-- a file stays
abbrev pub stays : List ℕ → FileMeta → Bool
stays numbers f = not (list_any (λ n. has_number n f) numbers)

any-if : (b : Bool) (test : FileMeta → Bool) (f : FileMeta) (kept : List FileMeta) → test f ≡ false → list_any test kept ≡ false → list_any test (cond b (f ∷ kept) kept) ≡ false
any-if true test f kept own rest = or_from (test f) (list_any test kept) own rest
any-if false test f kept own rest = rest

any-without : (test : FileMeta → Bool) (numbers : List ℕ) (files : List FileMeta) → list_any test files ≡ false → list_any test (files_without numbers files) ≡ false
any-without test numbers [] h = refl
any-without test numbers (f ∷ files) h =
    let parts = or_parts (test f) (list_any test files) h in
    any-if (stays numbers f) test f (files_without numbers files) parts.0 (any-without test numbers files parts.1)

or-assoc : (a b c : Bool) → (a || (b || c)) ≡ ((a || b) || c)
or-assoc true b c = refl
or-assoc false b c = refl

overlap-if : (b : Bool) (f : FileMeta) (kept added : List FileMeta) (meet : Bool) → list_any (clashes f) kept ≡ false → has_overlap (kept ++ added) ≡ (meet || has_overlap added)
    → has_overlap (cond b (f ∷ kept) kept ++ added) ≡ (((b && list_any (clashes f) added) || meet) || has_overlap added)
overlap-if true f kept added meet own rest =
    ap (λ (x : Bool). x || has_overlap (kept ++ added)) (list_any-append (clashes f) kept added ∙ ap (λ (x : Bool). x || list_any (clashes f) added) own)
    ∙ ap (λ (x : Bool). list_any (clashes f) added || x) rest
    ∙ or-assoc (list_any (clashes f) added) meet (has_overlap added)
overlap-if false f kept added meet own rest = rest

-- among files that are disjoint, an overlap is one of a file that comes
pub overlap-after : (numbers : List ℕ) (files added : List FileMeta) → has_overlap files ≡ false
    → has_overlap (files_without numbers files ++ added) ≡ (list_any (λ f. stays numbers f && list_any (clashes f) added) files || has_overlap added)
overlap-after numbers [] added h = refl
overlap-after numbers (f ∷ files) added h =
    let parts = or_parts (list_any (clashes f) files) (has_overlap files) h in
    overlap-if (stays numbers f) f (files_without numbers files) added (list_any (λ f. stays numbers f && list_any (clashes f) added) files) (any-without (clashes f) numbers files parts.0) (overlap-after numbers files added parts.1)

-- ---- the files that are added

pub added_each : (from : FileBounds) (files : List FileMeta) → AreInTurn IsFileFrom after_file from files → (f : FileMeta) → IsIn f files → IsFileFrom from f
added_each from [] is f m = absurd m
added_each from (x ∷ files) is f m = elim m [
  | inl e ↦ subst (λ (y : FileMeta). IsFileFrom from y) (sym e) is.0
  | inr n ↦ let later = added_each (after_file from x) files is.1 f n in (later.0, (let a = later.1 in let b = is.0.1 in omega arith), later.2, (let a = later.3 in let b = is.0.3 in omega arith), (let a = later.4 in let b = is.0.4 in omega arith))
]

pub added_rise : (from : FileBounds) (files : List FileMeta) → AreInTurn IsFileFrom after_file from files → FileNumbersRise files
added_rise from [] is = tt
added_rise from (f ∷ files) is = (λ g m. let later = added_each (after_file from f) files is.1 g m in (let a = later.1 in omega arith), added_rise (after_file from f) files is.1)

pub added_is : (edit : Edit) → IsEdit edit → (f : FileMeta) → IsIn f edit.added → IsFile f
added_is edit ok f m = (added_each (added_bounds edit.kind) edit.added (turn_of_added edit.kind edit.added ok.added) f m).0

pub added_rises : (edit : Edit) → IsEdit edit → FileNumbersRise edit.added
added_rises edit ok = added_rise (added_bounds edit.kind) edit.added (turn_of_added edit.kind edit.added ok.added)

-- some of the files stand by number, as all do
rise-if : (b : Bool) (f : FileMeta) (kept : List FileMeta) → ((g : FileMeta) → IsIn g kept → f.number < g.number) → FileNumbersRise kept → FileNumbersRise (cond b (f ∷ kept) kept)
rise-if true f kept first up = (first, up)
rise-if false f kept first up = up

pub rise-filter : (test : FileMeta → Bool) (files : List FileMeta) → FileNumbersRise files → FileNumbersRise (filter test files)
rise-filter test [] up = tt
rise-filter test (f ∷ files) up = rise-if (test f) f (filter test files) (λ g m. up.0 g (IsIn-filter test g files m).0) (rise-filter test files up.1)

rise-append : (files added : List FileMeta) (limit : ℕ) → FileNumbersRise files → FileNumbersRise added → ((f : FileMeta) → IsIn f files → f.number < limit) → ((f : FileMeta) → IsIn f added → limit ≤ f.number) → FileNumbersRise (files ++ added)
rise-append [] added limit up more below above = more
rise-append (f ∷ files) added limit up more below above = (
  λ g m. elim (IsIn-append_cases g files added m) [ inl a ↦ up.0 g a | inr b ↦ let low = below f (inl refl) in let high = above g b in omega arith ],
  rise-append files added limit up.1 more (λ g m. below g (inr m)) above,
)

-- ---- the faults

pub none_below : (limit : ℕ) (files : List FileMeta) → list_any (λ f. ltb f.number limit) files ≡ false → (f : FileMeta) → IsIn f files → limit ≤ f.number
none_below limit [] h f m = absurd m
none_below limit (x ∷ files) h f m =
    let parts = or_parts (ltb x.number limit) (list_any (λ f. ltb f.number limit) files) h in
    elim m [ inl e ↦ subst (λ (y : FileMeta). limit ≤ y.number) (sym e) (ltb-false x.number limit parts.0) | inr n ↦ none_below limit files parts.1 f n ]

none_from : (limit : ℕ) (files : List FileMeta) → list_any (λ f. leb limit f.number) files ≡ false → (f : FileMeta) → IsIn f files → f.number < limit
none_from limit [] h f m = absurd m
none_from limit (x ∷ files) h f m =
    let parts = or_parts (leb limit x.number) (list_any (λ f. leb limit f.number) files) h in
    elim m [ inl e ↦ subst (λ (y : FileMeta). y.number < limit) (sym e) (leb-false limit x.number parts.0) | inr n ↦ none_from limit files parts.1 f n ]

-- what an edit that applies has passed
pub record Passes (v : VersionValue) (edit : Edit) : Type 0 where
  pub number : edit.number ≡ v.number + 1
  pub present : list_any (λ n. not (list_any (has_number n) v.files)) edit.removed ≡ false
  pub fresh : list_any (λ f. ltb f.number v.next_file) edit.added ≡ false
  pub disjoint : has_overlap (files_after v.files edit) ≡ false
  pub flushed : goes_back edit.kind v.flushed edit.flushed ≡ false
  pub counted : is_low v edit ≡ false
  pub epoch : miscounts edit.kind v.epoch edit.epoch ≡ false

pub none_passed : (a : Bool) (x : ApplyError) (r : Option ApplyError) → cond a (Some x) r ≡ None → (a ≡ false) × (r ≡ None)
none_passed true x r h = absurd cc
none_passed false x r h = (refl, h)

pub passes : (v : VersionValue) (edit : Edit) → apply_fault v edit ≡ None → Passes v edit
passes v edit h =
    let a = none_passed _ _ _ h in
    let b = none_passed _ _ _ a.1 in
    let c = none_passed _ _ _ b.1 in
    let d = none_passed _ _ _ c.1 in
    let e = none_passed _ _ _ d.1 in
    let f = none_passed _ _ _ e.1 in
    let counts = or_parts (is_low v edit) (miscounts edit.kind v.epoch edit.epoch) f.0 in
    record { number = eqb-true edit.number (v.number + 1) (not-false (eqb edit.number (v.number + 1)) a.0); present = b.0; fresh = c.0; disjoint = d.0; flushed = e.0; counted = counts.0; epoch = counts.1 }

-- the files that an edit adds are new
pub fresh_added : (v : VersionValue) (edit : Edit) → apply_fault v edit ≡ None → (f : FileMeta) → IsIn f edit.added → v.next_file ≤ f.number
fresh_added v edit none = none_below v.next_file edit.added (passes v edit none).fresh

-- the version after an edit that applies
pub applied_is : (v : VersionValue) (edit : Edit) → IsVersion v → IsEdit edit → apply_fault v edit ≡ None → IsVersion (after_apply v edit)
applied_is v edit is ok h =
    let p = passes v edit h in
    let counts = or_parts (ltb edit.next_file v.next_file) (list_any (λ f. leb edit.next_file f.number) edit.added) p.counted in
    let rises : v.next_file ≤ edit.next_file = ltb-false edit.next_file v.next_file counts.0 in
    let kept = files_without edit.removed v.files in
    record {
      number = ok.last;
      flushed = ok.flushed;
      epoch = ok.epoch;
      some_file = ok.some_file;
      next_file = ok.next_file;
      files = λ f m. elim (IsIn-append_cases f kept edit.added m) [ inl a ↦ is.files f (IsIn-filter (stays edit.removed) f v.files a).0 | inr b ↦ added_is edit ok f b ];
      below = λ f m. elim (IsIn-append_cases f kept edit.added m) [
        | inl a ↦ let lt = is.below f (IsIn-filter (stays edit.removed) f v.files a).0 in omega arith
        | inr b ↦ none_from edit.next_file edit.added counts.1 f b
      ];
      rising = rise-append kept edit.added v.next_file (rise-filter (stays edit.removed) v.files is.rising) (added_rises edit ok)
          (λ f m. is.below f (IsIn-filter (stays edit.removed) f v.files m).0) (none_below v.next_file edit.added p.fresh);
      disjoint = p.disjoint;
    }
