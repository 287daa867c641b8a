-- The retired files after one edit more, after a trim, and in a new store.
use Rattle.std.proofs.Common.{◌≡◌, ℕ, ◌+◌, ◌<◌, ◌≤◌, zero, suc, true, false, not, Bool, List, [], ◌∷◌, ◌++◌, ◌⊎◌, inl, inr, None, Some, refl, sym, ap, subst, ◌∙◌, arith, length, map, filter, max, leb, eqb, cond}
use Rattle.std.specs.List.{list_any, slice_get}
use Rattle.std.proofs.lemmas.Bool.{true≢false, leb-false, leb-true, le-leb, ltb-false, or_parts, not-true, cases_lt}
use Rattle.std.proofs.lemmas.List.{length-append}
use Rattle.std.proofs.lemmas.Option.{same_Some, slice_get_within}
use Rattle.lsm_key.specs.Sets.{IsIn}
use Rattle.lsm_key.proofs.AscendingEntries.{IsIn-filter}
use Rattle.lsm_key.proofs.Lists.{IsIn-kept, none_is, slice_get-front}
use Rattle.lsm_key.proofs.Membership.{IsIn-append_cases, IsIn-append_left, IsIn-map, IsIn-mapped}
use Rattle.lsm_edit.specs.declared.edit.Edit.{Edit}
use Rattle.lsm_edit.specs.declared.file.FileMeta.{FileMeta}
use Rattle.lsm_edit.specs.declared.served.Placed.{Placed}
use Rattle.lsm_edit.specs.Edit.{IsSpelledEdit}
use Rattle.lsm_edit.specs.Edits.{Apply, after_edits, versions_from}
use Rattle.lsm_edit.specs.Served.{AreInSearchOrder, IsServed, ServedValue}
use Rattle.lsm_edit.specs.Version.{IsVersion, VersionValue, after_apply, apply_fault, files_without, first_version, has_number}
use Rattle.lsm_edit.proofs.SearchOrder.{Before, before_of}
use Rattle.lsm_edit.proofs.ServedPlaces.{file_of, not_itself, one_place, place_of, whole_place}
use Rattle.lsm_edit.proofs.VersionLaws.{fresh_added, passes, stays}
use Rattle.lsm_versions.specs.declared.retired.Retired.{Retired}
use Rattle.lsm_versions.specs.Manifest.{Folds, read_edits, versions_of}
use Rattle.lsm_versions.specs.Retention.{AreRetired, IsListed, IsRetired, ListsFile, NumbersRise, kept_from, put_each, retire, retired_after, retired_by}
use Rattle.lsm_versions.proofs.ManifestReplay.{current_at, length-versions_of, next_number, versions_of-push, first_is}
use Rattle.lsm_versions.proofs.RetiredByNumber.{AreApart, IsApart, put_cases, put_new, put_old, rise_each, rising-filter}
use Rattle.lsm_versions.proofs.GrownLists.{at_grown}

-- ---- numbers of files

abbrev AreBelow : VersionValue → Type 0
AreBelow v = (f : FileMeta) → IsIn f v.files → f.number < v.next_file

rises : (v : VersionValue) (e : Edit) → apply_fault v e ≡ None → v.next_file ≤ e.next_file
rises v e ok = ltb-false e.next_file v.next_file (or_parts _ _ (passes v e ok).counted).0

below_after : (v : VersionValue) (e : Edit) → apply_fault v e ≡ None → AreBelow v → AreBelow (after_apply v e)
below_after v e ok below f m = elim (IsIn-append_cases f (files_without e.removed v.files) e.added m) [
  | inl a ↦ let lt = below f (IsIn-filter (stays e.removed) f v.files a).0 in let up = rises v e ok in omega (arith, lt, up)
  | inr b ↦ leb-false e.next_file f.number (none_is (λ (g : FileMeta). leb e.next_file g.number) e.added (or_parts _ _ (passes v e ok).counted).1 f b)
]

next_up : (v : VersionValue) (es : List Edit) → Apply v es → v.next_file ≤ (after_edits v es).next_file
next_up v [] ok = omega arith
next_up v (e ∷ es) ok = let up = rises v e ok.0 in let rest = next_up (after_apply v e) es ok.1 in omega (arith, up, rest)

-- the numbers that a version lists were given by the end
below_end : (v : VersionValue) (es : List Edit) → AreBelow v → Apply v es → (k : ℕ) (w : VersionValue) → slice_get (versions_from v es) k ≡ Some w → (f : FileMeta) → IsIn f w.files → f.number < (after_edits v es).next_file
below_end v [] below ok zero w at f m = subst (λ (x : VersionValue). IsIn f x.files → f.number < v.next_file) (same_Some v w at) (below f) m
below_end v [] below ok (suc k) w at f m = absurd cc
below_end v (e ∷ es) below ok zero w at f m =
    let lt = subst (λ (x : VersionValue). IsIn f x.files → f.number < v.next_file) (same_Some v w at) (below f) m in
    let up = rises v e ok.0 in
    let rest = next_up (after_apply v e) es ok.1 in
    omega (arith, lt, up, rest)
below_end v (e ∷ es) below ok (suc k) w at f m = below_end (after_apply v e) es (below_after v e ok.0 below) ok.1 k w at f m

-- ---- one edit more

marked : (removed : List ℕ) (f g : FileMeta) → f.number ≡ g.number → list_any (λ n. has_number n f) removed ≡ list_any (λ n. has_number n g) removed
marked removed f g same = ap (λ (k : ℕ). list_any (λ n. eqb k n) removed) same

module _ (texts : List (List ℕ)) (s : ServedValue) (retired : List Retired) (floor : ℕ) (text : List ℕ) (e : Edit) (folds : Folds texts s.version) (are : AreRetired (versions_of texts) s.version retired floor)
    (served_is : IsServed s) (version_is : IsVersion s.version) (one : IsSpelledEdit text e) (fits : apply_fault s.version e ≡ None) where
  abbrev v : VersionValue
  v = s.version

  abbrev w : VersionValue
  w = after_apply v e

  abbrev vs : List VersionValue
  vs = versions_of texts

  long : length (vs ++ w ∷ []) ≡ v.number + 2
  long = let before = length-versions_of texts v folds in omega (arith, before, length-append vs (w ∷ []))

  came : (f : FileMeta) → IsIn f w.files → (IsIn f v.files × (list_any (λ n. has_number n f) e.removed ≡ false)) ⊎ (v.next_file ≤ f.number)
  came f m = elim (IsIn-append_cases f (files_without e.removed v.files) e.added m) [
    | inl a ↦ let kept = IsIn-filter (stays e.removed) f v.files a in inl (kept.0, not-true (list_any (λ n. has_number n f) e.removed) kept.1)
    | inr b ↦ inr (fresh_added v e fits f b)
  ]

  pub given : (r : Retired) (is : IsRetired vs r) → is.file.number < v.next_file
  given r is = subst (λ (x : VersionValue). is.file.number < x.next_file) folds.makes (below_end first_version (read_edits texts) first_is.below folds.apply r.until is.version is.at is.file is.listed)

  stays_retired : (r : Retired) → IsRetired vs r → IsRetired (vs ++ w ∷ []) r
  stays_retired r is =
      let past = is.past in
      let before = length-versions_of texts v folds in
      record {
        version = is.version;
        at = slice_get-front vs (w ∷ []) r.until is.version is.at;
        file = is.file;
        listed = is.listed;
        named = is.named;
        table = is.table;
        bytes = is.bytes;
        recorded = is.recorded;
        past = omega (arith, past, before, long);
        last = λ k lt l. elim (at_grown vs w k l.0 l.1) [
          | inl there ↦ is.last k lt (l.0, there, l.2)
          | inr new ↦
              let f = l.2.0 in
              let same : f.number ≡ r.number = l.2.2 in
              elim (came f (subst (λ (x : VersionValue). IsIn f x.files) new.1 l.2.1)) [
                | inl was ↦ is.last v.number (omega (arith, past, before)) (v, current_at texts v folds, (f, was.0, same))
                | inr fresh ↦ let lt = given r is in let named = is.named in absurd (omega (arith, lt, named, same, fresh))
              ]
        ];
      }

  retires : (p : Placed) → IsIn p s.places → list_any (λ n. has_number n p.meta) e.removed ≡ true → IsRetired (vs ++ w ∷ []) (retire v.number p)
  retires p m goes =
      let before = length-versions_of texts v folds in
      let listed = file_of s version_is served_is p m in
      record {
        version = v;
        at = slice_get-front vs (w ∷ []) v.number v (current_at texts v folds);
        file = p.meta;
        listed = listed;
        named = refl;
        table = p.table;
        bytes = refl;
        recorded = served_is.recorded p m;
        past = omega (arith, long);
        last = λ k lt l. elim (at_grown vs w k l.0 l.1) [
          | inl there ↦ let within = slice_get_within vs k l.0 there in absurd (omega (arith, within, before, lt))
          | inr new ↦
              let f = l.2.0 in
              let same : f.number ≡ p.meta.number = l.2.2 in
              elim (came f (subst (λ (x : VersionValue). IsIn f x.files) new.1 l.2.1)) [
                | inl was ↦ absurd (true≢false (sym goes ∙ sym (marked e.removed f p.meta same) ∙ was.1))
                | inr fresh ↦ let lt = version_is.below p.meta listed in absurd (omega (arith, lt, same, fresh))
              ]
        ];
      }

  -- a file of the version is of the next one, or it retires
  goes_or_stays : (f : FileMeta) → IsIn f v.files → (b : Bool) → list_any (λ n. has_number n f) e.removed ≡ b → IsListed w f.number ⊎ ((r : Retired) × IsIn r (retired_after retired s e.removed) × (r.number ≡ f.number))
  goes_or_stays f m true goes =
      let p = place_of s version_is served_is f m in
      let test = λ (q : Placed). list_any (λ n. has_number n q.meta) e.removed in
      let kept = IsIn-kept test p.0 s.places p.1 (subst (λ (g : FileMeta). list_any (λ n. has_number n g) e.removed ≡ true) p.2 goes) in
      inr (retire v.number p.0, put_new (retired_by s e.removed) retired _ (IsIn-map (retire v.number) p.0 (filter test s.places) kept), ap (λ (g : FileMeta). g.number) (sym p.2))
  goes_or_stays f m false keeps = inl (f, IsIn-append_left f (files_without e.removed v.files) e.added (IsIn-kept (stays e.removed) f v.files m (ap not keeps)), refl)

  -- what retires has numbers of its own
  apart_from : (r : Retired) → IsIn r (retired_by s e.removed) → IsApart r retired
  apart_from r m x old same =
      let p = IsIn-mapped (retire v.number) r _ m in
      let there = IsIn-filter (λ (q : Placed). list_any (λ n. has_number n q.meta) e.removed) p.0 s.places p.1 in
      let is = are.each x old in
      let past = is.past in
      let before = length-versions_of texts v folds in
      let number : p.0.meta.number ≡ x.number = ap (λ (y : Retired). y.number) (sym p.2) ∙ sym same in
      is.last v.number (omega (arith, past, before)) (v, current_at texts v folds, (p.0.meta, file_of s version_is served_is p.0 there.0, number))

  abbrev goes : Placed → Bool
  goes p = list_any (λ n. has_number n p.meta) e.removed

  first_apart : (p : Placed) (ps : List Placed) → AreInSearchOrder (p ∷ ps) → ((q : Placed) → IsIn q (p ∷ ps) → IsIn q s.places) → IsApart (retire v.number p) (map (retire v.number) (filter goes ps))
  first_apart p ps up within x m same =
      let q = IsIn-mapped (retire v.number) x (filter goes ps) m in
      let there = (IsIn-filter goes q.0 ps q.1).0 in
      let number : q.0.meta.number ≡ p.meta.number = ap (λ (y : Retired). y.number) (sym q.2) ∙ same in
      let one : q.0 ≡ p = one_place s version_is served_is q.0 p (within q.0 (inr there)) (within p (inl refl)) number in
      not_itself p.meta (whole_place s version_is served_is p (within p (inl refl))) (subst (λ (y : Placed). Before p.meta y.meta) one (before_of p.meta q.0.meta (up.0 q.0 there)))

  apart_by : (b : Bool) (p : Placed) (ps : List Placed) → IsApart (retire v.number p) (map (retire v.number) (filter goes ps)) → AreApart (map (retire v.number) (filter goes ps)) → AreApart (map (retire v.number) (cond b (p ∷ filter goes ps) (filter goes ps)))
  apart_by true p ps first rest = (first, rest)
  apart_by false p ps first rest = rest

  all_apart : (ps : List Placed) → AreInSearchOrder ps → ((p : Placed) → IsIn p ps → IsIn p s.places) → AreApart (map (retire v.number) (filter goes ps))
  all_apart [] up within = tt
  all_apart (p ∷ ps) up within = apart_by (goes p) p ps (first_apart p ps up within) (all_apart ps up.1 (λ q m. within q (inr m)))

  pub rising_after : NumbersRise (retired_after retired s e.removed)
  rising_after = rise_each (retired_by s e.removed) retired are.rising (all_apart s.places served_is.ordered (λ p m. m)) apart_from

  pub retired-push : AreRetired (versions_of (texts ++ text ∷ [])) w (retired_after retired s e.removed) floor
  retired-push =
      rw (versions_of-push texts v text e folds one) (record {
        rising = rising_after;
        low = let low = are.low in let next = next_number v e fits in omega (arith, low, next);
        each = λ r m. elim (put_cases (retired_by s e.removed) retired r m) [
          | inl old ↦ stays_retired r (are.each r old)
          | inr new ↦
              let test = λ (q : Placed). list_any (λ n. has_number n q.meta) e.removed in
              let p = IsIn-mapped (retire v.number) r (filter test s.places) new in
              let there = IsIn-filter test p.0 s.places p.1 in
              subst (IsRetired (vs ++ w ∷ [])) (sym p.2) (retires p.0 there.0 there.1)
        ];
        served = λ r m. elim (put_cases (retired_by s e.removed) retired r m) [
          | inl old ↦ are.served r old
          | inr new ↦
              let p = IsIn-mapped (retire v.number) r _ new in
              subst (λ (x : Retired). floor ≤ x.until) (sym p.2) are.low
        ];
        whole = λ k n le l. elim (at_grown vs w k l.0 l.1) [
          | inl there ↦ elim (are.whole k n le (l.0, there, l.2)) [
            | inl now ↦ subst (λ (i : ℕ). IsListed w i ⊎ ((r : Retired) × IsIn r (retired_after retired s e.removed) × (r.number ≡ i))) now.2 (goes_or_stays now.0 now.1 _ refl)
            | inr before ↦ inr (before.0, put_old (retired_by s e.removed) retired before.0 before.1, before.2)
          ]
          | inr new ↦ inl (subst (λ (x : VersionValue). IsListed x n) new.1 l.2)
        ];
      })

-- an edit that removes nothing retires nothing
none_goes : (ps : List Placed) → filter (λ (p : Placed). list_any (λ n. has_number n p.meta) []) ps ≡ []
none_goes [] = refl
none_goes (p ∷ ps) = none_goes ps

pub retired-none : (retired : List Retired) (s : ServedValue) (removed : List ℕ) → removed ≡ [] → retired_after retired s removed ≡ retired
retired-none retired s removed none = ap (retired_after retired s) none ∙ ap (λ (ps : List Placed). put_each (map (retire s.version.number) ps) retired) (none_goes s.places)

-- ---- a trim

pub retired-trimmed : (vs : List VersionValue) (v : VersionValue) (retired : List Retired) (floor n : ℕ) → AreRetired vs v retired floor → n ≤ v.number → AreRetired vs v (kept_from (max floor n) retired) (max floor n)
retired-trimmed vs v retired floor n are le =
    let low = are.low in
    record {
      rising = rising-filter (λ (x : Retired). leb (max floor n) x.until) retired are.rising;
      low = omega arith;
      each = λ r m. are.each r (IsIn-filter (λ (x : Retired). leb (max floor n) x.until) r retired m).0;
      served = λ r m. leb-true (max floor n) r.until (IsIn-filter (λ (x : Retired). leb (max floor n) x.until) r retired m).1;
      whole = λ k i from l. elim (are.whole k i (omega arith) l) [
        | inl now ↦ inl now
        | inr before ↦
            let r = before.0 in
            let until : k ≤ r.until = elim (cases_lt r.until k) [
              | inl past ↦ absurd ((are.each r before.1).last k past (subst (ListsFile vs k) (sym before.2) l))
              | inr still ↦ omega (arith, still)
            ] in
            inr (r, IsIn-kept (λ (x : Retired). leb (max floor n) x.until) r retired before.1 (le-leb (max floor n) r.until (omega (arith, until))), before.2)
      ];
    }

-- ---- a new store

one_at : {X : Type 0} (x y : X) (k : ℕ) → slice_get (x ∷ []) k ≡ Some y → x ≡ y
one_at x y zero h = same_Some x y h
one_at x y (suc k) h = absurd cc

pub retired-new : AreRetired (versions_of []) first_version [] 0
retired-new = record {
  rising = tt;
  low = omega arith;
  each = λ r m. absurd m;
  served = λ r m. absurd m;
  whole = λ k n le l. inl (subst (λ (x : VersionValue). IsListed x n) (sym (one_at first_version l.0 k l.1)) l.2);
}
