-- Of files that do not overlap, the last one that begins by the end of a range tells whether any overlaps it.
use Rattle.std.proofs.Common.{◌≡◌, ℕ, ◌<◌, ◌&&◌, true, false, not, ltb, eqb, List, [], ◌∷◌, ◌++◌, Option, Some, None, refl, sym, ap, subst, ◌∙◌, inl, inr, arith}
use Rattle.std.specs.declared.cmp.Ordering.{Ordering}
use Rattle.std.specs.declared.cmp.Ordering.TheVariants.{Less, Equal, Greater}
use Rattle.std.specs.declared.ops.Bound.TheVariants.{Included, Unbounded}
use Rattle.std.specs.BTreeMap.{BTreeMap, Updates, get, is_at}
use Rattle.std.specs.BTreeMap.Range.{IsInRange, IsRangeOf}
use Rattle.std.specs.Cmp.{both_ways}
use Rattle.std.specs.Cmp.Lexicographic.{slice_cmp}
use Rattle.std.specs.List.{list_any}
use Rattle.std.specs.Option.{IsSome, unwrap_or}
use Rattle.std.specs.Ordering.{nat_cmp, ordering_then, is_eq, is_gt, is_lt}
use Rattle.std.proofs.lemmas.Bool.{true≢false, false≢true, and_parts, and_from, cases_Bool, eq-eqb, eqb-true, eqb-false, lt-ltb, ltb-true, not-true}
use Rattle.std.proofs.lemmas.Cmp.{nat_cmp_total, tied_itself}
use Rattle.std.proofs.lemmas.Map.Lookups.{exact_unsigned, exact_bytes, exact_pairs}
use Rattle.lsm_key.specs.Order.{key_le}
use Rattle.lsm_key.specs.KeyRanges.{ranges_meet}
use Rattle.lsm_key.specs.Sets.{IsIn}
use Rattle.lsm_key.proofs.KeyRanges.{key_le_or, key_le_trans}
use Rattle.lsm_key.proofs.Lists.{any_from, any_is, none_is}
use Rattle.lsm_key.proofs.Membership.{IsIn-append_left, IsIn-append_right, IsIn-append_cases, IsIn-one}
use Rattle.lsm_key.proofs.RangeSlices.{not_before}
use Rattle.lsm_edit.specs.declared.file.FileMeta.{FileMeta}
use Rattle.lsm_edit.specs.EarlierFiles.{AreIndexedFiles, begin_cmp}
use Rattle.lsm_edit.specs.File.{meets_file}
use Rattle.lsm_edit.specs.Version.{clashes}

no_value : (end : List ℕ) → None ≡ Some end → ⊥
no_value end e = cc

-- ---- what it is to meet a range

-- of one level, keys decide
same_level : (level : ℕ) (a b : List ℕ) → begin_cmp (level, a) (level, b) ≡ slice_cmp nat_cmp a b
same_level level a b = ap (λ (o : Ordering). ordering_then o (slice_cmp nat_cmp a b)) (tied_itself nat_cmp_total level)

same_begin : (a b : ℕ × List ℕ) → is_at (begin_cmp a) b ≡ true → a ≡ b
same_begin a b at = by (begin_cmp a b) refl at
  where
    by : (o : Ordering) → begin_cmp a b ≡ o → is_eq o ≡ true → a ≡ b
    by Less e h = absurd cc
    by Equal e h = exact_pairs nat_cmp (slice_cmp nat_cmp) exact_unsigned exact_bytes a b e
    by Greater e h = absurd cc

as_parts : (a b : ℕ × List ℕ) → a.0 ≡ b.0 → a.1 ≡ b.1 → a ≡ b
as_parts a b e d i = (e i, d i)

-- the value that is there, if one is
abbrev value_of : Option (List ℕ) → List ℕ
value_of o = unwrap_or o []

module _ (level : ℕ) (lo hi : List ℕ) (f : FileMeta) where
  meets_parts : meets_file level lo hi f ≡ true → (f.level ≡ level) × (0 < f.level) × (key_le f.smallest hi ≡ true) × (key_le lo f.largest ≡ true)
  meets_parts h =
      let here = and_parts (eqb f.level level) (ltb 0 f.level && ranges_meet f.smallest f.largest lo hi) h in
      let deep = and_parts (ltb 0 f.level) (ranges_meet f.smallest f.largest lo hi) here.1 in
      let ends = and_parts (key_le f.smallest hi) (key_le lo f.largest) deep.1 in
      (eqb-true f.level level here.0, ltb-true 0 f.level deep.0, ends.0, ends.1)

  meets_from : f.level ≡ level → 0 < f.level → key_le f.smallest hi ≡ true → key_le lo f.largest ≡ true → meets_file level lo hi f ≡ true
  meets_from same deep before after =
      and_from (eqb f.level level) (ltb 0 f.level && ranges_meet f.smallest f.largest lo hi) (eq-eqb f.level level same)
      (and_from (ltb 0 f.level) (ranges_meet f.smallest f.largest lo hi) (lt-ltb 0 f.level deep) (and_from (key_le f.smallest hi) (key_le lo f.largest) before after))

clash_parts : (f g : FileMeta) → clashes f g ≡ true → (f.level ≡ g.level) × (0 < f.level) × (key_le f.smallest g.largest ≡ true) × (key_le g.smallest f.largest ≡ true)
clash_parts f g h = meets_parts g.level g.smallest g.largest f h

clash_from : (f g : FileMeta) → f.level ≡ g.level → 0 < f.level → key_le f.smallest g.largest ≡ true → key_le g.smallest f.largest ≡ true → clashes f g ≡ true
clash_from f g = meets_from g.level g.smallest g.largest f

clash_turned : (f g : FileMeta) → clashes f g ≡ true → clashes g f ≡ true
clash_turned f g h = let p = clash_parts f g h in clash_from g f (sym p.0) (let same = p.0 in let deep = p.1 in omega (arith, same, deep)) p.3 p.2

-- no file of level 0 is met
pub none_at_zero : (lo hi : List ℕ) (files : List FileMeta) → list_any (meets_file 0 lo hi) files ≡ false
none_at_zero lo hi files = elim (cases_Bool (list_any (meets_file 0 lo hi) files)) [
  | inl some ↦
      let a = any_is (meets_file 0 lo hi) files some in
      let p = meets_parts 0 lo hi a.0 a.2 in
      absurd (let same = p.0 in let deep = p.1 in omega (arith, same, deep))
  | inr none ↦ none
]

-- ---- one look

module _ (ends : BTreeMap (ℕ × List ℕ) (List ℕ)) (files : List FileMeta) (are : AreIndexedFiles ends files) (level : ℕ) (lo hi : List ℕ) (r : List ((ℕ × List ℕ) × List ℕ))
    (range : IsRangeOf begin_cmp Unbounded (Included (level, hi)) ends r) where
  -- a file that meets the range
  abbrev IsMet : FileMeta → Type 0
  IsMet f = IsIn f files × (f.level ≡ level) × (0 < f.level) × (key_le f.smallest hi ≡ true) × (key_le lo f.largest ≡ true)

  met : list_any (meets_file level lo hi) files ≡ true → (f : FileMeta) × IsMet f
  met h =
      let a = any_is (meets_file level lo hi) files h in
      let p = meets_parts level lo hi a.0 a.2 in
      (a.0, (a.1, p.0, p.1, p.2, p.3))

  -- it begins by the end of the range, and is found there
  begins : (f : FileMeta) → IsMet f → IsInRange begin_cmp Unbounded (Included (level, hi)) (level, f.smallest)
  begins f is = (tt, ap is_gt (same_level level f.smallest hi) ∙ not-true (is_gt (slice_cmp nat_cmp f.smallest hi)) is.3)

  found : (f : FileMeta) → IsMet f → get begin_cmp ends (level, f.smallest) ≡ Some f.largest
  found f is = subst (λ (n : ℕ). get begin_cmp ends (n, f.smallest) ≡ Some f.largest) is.1 (are.there f is.0 is.2)

  pub none_begins : r ≡ [] → false ≡ list_any (meets_file level lo hi) files
  none_begins none = both_ways false (list_any (meets_file level lo hi) files) (λ h. absurd (false≢true h)) (λ h.
      let f = met h in
      let absent = range.5 none (level, (f.0).smallest) (begins f.0 f.1) in
      absurd (no_value (f.0).largest (sym absent ∙ found f.0 f.1)))

  module _ (last : (ℕ × List ℕ) × List ℕ) (before : List ((ℕ × List ℕ) × List ℕ)) (is : r ≡ before ++ last ∷ []) where
    inside : IsInRange begin_cmp Unbounded (Included (level, hi)) last.0
    inside = (range.3 last before is).0

    -- no file that meets the range begins after the last one
    later : (f : FileMeta) → IsMet f → is_lt (begin_cmp last.0 (level, f.smallest)) ≡ false
    later f m = range.4 last before is (level, f.smallest) (begins f m) (subst IsSome (sym (found f m)) refl)

    -- the last one is of another level
    pub of_another : eqb (last.0).0 level ≡ false → false ≡ list_any (meets_file level lo hi) files
    of_another other = both_ways false (list_any (meets_file level lo hi) files) (λ h. absurd (false≢true h)) (λ h.
        let f = met h in
        absurd (by (nat_cmp (last.0).0 level) refl (f.0).smallest (later f.0 f.1)))
      where
        by : (o : Ordering) → nat_cmp (last.0).0 level ≡ o → (key : List ℕ) → is_lt (ordering_then (nat_cmp (last.0).0 level) (slice_cmp nat_cmp (last.0).1 key)) ≡ false → ⊥
        by Less e key h = true≢false (sym (ap (λ (o : Ordering). is_lt (ordering_then o (slice_cmp nat_cmp (last.0).1 key))) e) ∙ h)
        by Equal e key h = eqb-false (last.0).0 level other (exact_unsigned (last.0).0 level e)
        by Greater e key h = true≢false (sym (ap (λ (o : Ordering). is_gt (ordering_then o (slice_cmp nat_cmp (last.0).1 hi))) e) ∙ inside.1)

    -- the last one is of this level
    pub of_this : (last.0).0 ≡ level → key_le lo last.1 ≡ list_any (meets_file level lo hi) files
    of_this same =
        both_ways (key_le lo last.1) (list_any (meets_file level lo hi) files)
        (λ h.
        any_from (meets_file level lo hi) files file own.1
        (meets_from level lo hi file (own.3 ∙ same) own.2 (subst (λ (key : List ℕ). key_le key hi ≡ true) (sym own.4) begins_by) (subst (λ (key : List ℕ). key_le lo key ≡ true) (sym own.5) h)))
        (λ h. let f = met h in reached f.0 f.1)
      where
        own : (f : FileMeta) × IsIn f files × (0 < f.level) × (f.level ≡ (last.0).0) × (f.smallest ≡ (last.0).1) × (f.largest ≡ last.1)
        own = are.only last.0 last.1 (range.3 last before is).1

        file : FileMeta
        file = own.0

        at_level : (key : List ℕ) → begin_cmp last.0 (level, key) ≡ slice_cmp nat_cmp (last.0).1 key
        at_level key = ap (λ (n : ℕ). begin_cmp (n, (last.0).1) (level, key)) same ∙ same_level level (last.0).1 key

        begins_by : key_le (last.0).1 hi ≡ true
        begins_by = ap not (sym (ap is_gt (at_level hi)) ∙ inside.1)

        reached : (f : FileMeta) → IsMet f → key_le lo last.1 ≡ true
        reached f m =
            let up : key_le f.smallest file.smallest ≡ true = subst (λ (key : List ℕ). key_le f.smallest key ≡ true) (sym own.4) (not_before f.smallest (last.0).1 ∙ ap not (sym (ap is_lt (at_level f.smallest)) ∙ later f m)) in
            let whole = are.ordered file own.1 in
            let across : key_le f.smallest file.largest ≡ true = key_le_trans f.smallest file.smallest file.largest up whole in
            elim (cases_Bool (key_le file.smallest f.largest)) [
              | inl meets ↦
                  let one = are.apart f file m.0 own.1 (clash_from f file (m.1 ∙ sym (own.3 ∙ same)) m.2 across meets) in
                  let ends_alike : Some f.largest ≡ Some last.1 =
                  sym (are.there f m.0 m.2) ∙ ap (get begin_cmp ends) (as_parts (f.level, f.smallest) last.0 (m.1 ∙ sym same) (one ∙ own.4)) ∙ (range.3 last before is).1 in
                  subst (λ (key : List ℕ). key_le lo key ≡ true) (ap value_of ends_alike) m.4
              | inr apart ↦
                  let past = key_le_trans lo f.largest file.smallest m.4 (key_le_or file.smallest f.largest apart) in
                  subst (λ (key : List ℕ). key_le lo key ≡ true) own.5 (key_le_trans lo file.smallest file.largest past whole)
            ]

-- ---- one file more

module _ (files : List FileMeta) (f : FileMeta) (ordered : key_le f.smallest f.largest ≡ true) (apart : list_any (meets_file f.level f.smallest f.largest) files ≡ false) where
  no_clash : (g : FileMeta) → IsIn g files → clashes g f ≡ true → ⊥
  no_clash g m h = true≢false (sym h ∙ none_is (meets_file f.level f.smallest f.largest) files apart g m)

  module _ (old : BTreeMap (ℕ × List ℕ) (List ℕ)) (are : AreIndexedFiles old files) where
    ordered_with : (g : FileMeta) → IsIn g (files ++ f ∷ []) → key_le g.smallest g.largest ≡ true
    ordered_with g m = elim (IsIn-append_cases g files (f ∷ []) m) [
      | inl n ↦ are.ordered g n
      | inr one ↦ subst (λ (x : FileMeta). key_le x.smallest x.largest ≡ true) (sym (IsIn-one g f one)) ordered
    ]

    apart_with : (g h : FileMeta) → IsIn g (files ++ f ∷ []) → IsIn h (files ++ f ∷ []) → clashes g h ≡ true → g.smallest ≡ h.smallest
    apart_with g h m n e = elim (IsIn-append_cases g files (f ∷ []) m) [
      | inl here ↦ elim (IsIn-append_cases h files (f ∷ []) n) [
        | inl there ↦ are.apart g h here there e
        | inr one ↦ absurd (no_clash g here (subst (λ (x : FileMeta). clashes g x ≡ true) (IsIn-one h f one) e))
      ]
      | inr one ↦ elim (IsIn-append_cases h files (f ∷ []) n) [
        | inl there ↦ absurd (no_clash h there (subst (λ (x : FileMeta). clashes h x ≡ true) (IsIn-one g f one) (clash_turned g h e)))
        | inr other ↦ ap (λ (x : FileMeta). x.smallest) (IsIn-one g f one ∙ sym (IsIn-one h f other))
      ]
    ]

    -- a file of level 0 is not indexed
    pub indexed_zero : f.level ≡ 0 → AreIndexedFiles old (files ++ f ∷ [])
    indexed_zero zero = record {
      there = λ g m deep. elim (IsIn-append_cases g files (f ∷ []) m) [
        | inl n ↦ are.there g n deep
        | inr one ↦ let same = ap (λ (x : FileMeta). x.level) (IsIn-one g f one) in absurd (omega (arith, same, zero, deep))
      ];
      only = λ begin end e. let g = are.only begin end e in (g.0, IsIn-append_left g.0 files (f ∷ []) g.1, g.2, g.3, g.4, g.5);
      ordered = ordered_with;
      apart = apart_with;
    }

    module _ (new : BTreeMap (ℕ × List ℕ) (List ℕ)) (deep : 0 < f.level) (updates : Updates begin_cmp old new (f.level, f.smallest) (Some f.largest)) where
      there_with : (g : FileMeta) → IsIn g (files ++ f ∷ []) → 0 < g.level → get begin_cmp new (g.level, g.smallest) ≡ Some g.largest
      there_with g m low = elim (IsIn-append_cases g files (f ∷ []) m) [
        | inl n ↦ elim (cases_Bool (is_at (begin_cmp (f.level, f.smallest)) (g.level, g.smallest))) [
          | inl at ↦
              let same = same_begin (f.level, f.smallest) (g.level, g.smallest) at in
              let level : g.level ≡ f.level = sym (ap (λ (p : ℕ × List ℕ). p.0) same) in
              let key : g.smallest ≡ f.smallest = sym (ap (λ (p : ℕ × List ℕ). p.1) same) in
              absurd (no_clash g n (clash_from g f level low (subst (λ (x : List ℕ). key_le x f.largest ≡ true) (sym key) ordered) (subst (λ (x : List ℕ). key_le x g.largest ≡ true) key (are.ordered g n))))
          | inr off ↦ updates.2 (g.level, g.smallest) off ∙ are.there g n low
        ]
        | inr one ↦ subst (λ (x : FileMeta). get begin_cmp new (x.level, x.smallest) ≡ Some x.largest) (sym (IsIn-one g f one)) updates.1
      ]

      only_with : (begin : ℕ × List ℕ) (end : List ℕ) → get begin_cmp new begin ≡ Some end → (g : FileMeta) × IsIn g (files ++ f ∷ []) × (0 < g.level) × (g.level ≡ begin.0) × (g.smallest ≡ begin.1) × (g.largest ≡ end)
      only_with begin end e = elim (cases_Bool (is_at (begin_cmp (f.level, f.smallest)) begin)) [
        | inl at ↦
            let same = same_begin (f.level, f.smallest) begin at in
            let value : Some f.largest ≡ Some end = sym updates.1 ∙ ap (get begin_cmp new) same ∙ e in
            (f, IsIn-append_right f files (f ∷ []) (inl refl), deep, ap (λ (p : ℕ × List ℕ). p.0) same, ap (λ (p : ℕ × List ℕ). p.1) same, ap value_of value)
        | inr off ↦ let g = are.only begin end (sym (updates.2 begin off) ∙ e) in (g.0, IsIn-append_left g.0 files (f ∷ []) g.1, g.2, g.3, g.4, g.5)
      ]

      pub indexed_with : AreIndexedFiles new (files ++ f ∷ [])
      indexed_with = record { there = there_with; only = only_with; ordered = ordered_with; apart = apart_with }
