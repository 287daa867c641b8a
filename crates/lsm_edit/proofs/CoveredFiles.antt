-- Files whose ranges cover a key, from a place on, level by level: of a deeper level all but one miss it.
use Rattle.std.proofs.Common.{◌≡◌, ℕ, ◌+◌, ◌-◌, ◌<◌, ◌≤◌, Bool, true, false, ◌&&◌, List, length, get_or, Option, Some, None, refl, sym, ap, subst, ◌∙◌, arith, inl, inr}
use Rattle.std.specs.Prelude.{IfSome}
use Rattle.std.specs.List.{AllWithin}
use Rattle.std.proofs.lemmas.Bool.{and_parts, cases_order, cases_lt}
use Rattle.std.proofs.lemmas.List.{get_or_default}
use Rattle.std.proofs.lemmas.Option.{get_or_from_slice_get, slice_get_read, slice_get_within}
use Rattle.lsm_key.specs.Order.{key_le}
use Rattle.lsm_key.specs.Sets.{IsIn}
use Rattle.lsm_key.specs.declared.entry.Entry.{Entry}
use Rattle.lsm_key.specs.Places.{first_visible}
use Rattle.lsm_key.specs.Visible.{visible}
use Rattle.lsm_key.proofs.Membership.{IsIn-at, IsIn-place}
use Rattle.lsm_edit.specs.declared.file.FileMeta.{FileMeta}
use Rattle.lsm_edit.specs.declared.served.Placed.{Placed}
use Rattle.lsm_edit.specs.Search.{Covers, GoesOn, IsNext, IsUpper, Misses, UpperMiss}
use Rattle.lsm_edit.specs.Served.{AllRecorded, AreInSearchOrder, is_before, is_covered, comes_left, tables_of}
use Rattle.lsm_edit.proofs.KeysOutOfRange.{missed}
use Rattle.lsm_edit.proofs.LevelSearch.{Left, above, beside, ShowsNone, first_at, left_of, none_at_all, not_left, one_more, ordered_at}
use Rattle.lsm_edit.proofs.SearchOrder.{Before, upper, newer, lesser, before_of, above_le, level_rises}

-- ---- one file

past_largest : (f : FileMeta) (key : List ℕ) → key_le key f.largest ≡ false → is_covered f key ≡ false
past_largest f key h = by (key_le f.smallest key)
  where
    by : (b : Bool) → (b && key_le key f.largest) ≡ false
    by true = h
    by false = refl

-- a file right of one that reaches up to the key
right_misses : (p q : Placed) (key : List ℕ) → key_le key p.meta.largest ≡ true → Before p.meta q.meta → p.meta.level ≡ q.meta.level → 1 ≤ q.meta.level → Misses key q
right_misses p q key le (upper lt) e deep = absurd (omega (arith, lt, e))
right_misses p q key le (newer d z n) e deep = absurd (omega (arith, z, e, deep))
right_misses p q key le (lesser d n k) e deep = ap (λ (b : Bool). b && key_le key q.meta.largest) (above_le q.meta.smallest p.meta.largest key k le)

module _ (ps : List Placed) (up : AreInSearchOrder ps) where
  -- an earlier place, and a later one
  order : (i k : ℕ) (p d : Placed) → i < k → k < length ps → p ≡ get_or ps i p → Before p.meta (get_or ps k d).meta
  order i k p d lt within is =
      let there : get_or ps i d ≡ p = sym (is ∙ get_or_default ps i p d (omega (arith, lt, within))) in
      before_of p.meta (get_or ps k d).meta (ap (λ (x : Placed). is_before x.meta (get_or ps k d).meta) (sym there) ∙ ordered_at ps up i k d lt within)

  -- ---- one level

  module _ (level : ℕ) (key : List ℕ) (some : 1 ≤ level) (from : ℕ) (done : UpperMiss ps key from level) where
    left_misses : (k : ℕ) (d : Placed) → from ≤ k → k < length ps → Left level key (get_or ps k d).meta → Misses key (get_or ps k d)
    left_misses k d low lt (above a) = done k d low lt a
    left_misses k d low lt (beside e h) = past_largest (get_or ps k d).meta key h

    -- no file of the level is left
    pub past_end : AllWithin (λ y. comes_left level key y ≡ true) ps 0 (length ps) → UpperMiss ps key from (level + 1)
    past_end left k d low lt below = left_misses k d low lt (left_of level key (get_or ps k d) (left k d (omega arith) lt))

    module _ (i : ℕ) (p : Placed) (within : i < length ps) (is : p ≡ get_or ps i p) (left : AllWithin (λ y. comes_left level key y ≡ true) ps 0 i) where
      -- the file at the place misses the key, or is of another level
      pub past_place : comes_left level key p ≡ false → (p.meta.level ≡ level → Misses key p) → UpperMiss ps key from (level + 1)
      past_place out own k d low lt below = elim (cases_lt (get_or ps k d).meta.level level) [
        | inl less ↦ done k d low lt less
        | inr ge ↦
            let q = get_or ps k d in
            let e : q.meta.level ≡ level = omega (arith, below, ge) in
            elim (cases_order k i) [
              | inl same ↦
                  let one : p ≡ q = is ∙ get_or_default ps i p d within ∙ ap (λ (n : ℕ). get_or ps n d) (sym same) in
                  subst (Misses key) one (own (ap (λ (x : Placed). x.meta.level) one ∙ e))
              | inr o ↦ elim o [
                | inl before ↦ left_misses k d low lt (left_of level key q (left k d (omega arith) before))
                | inr after ↦
                    let first = order i k p d after lt is in
                    let not = not_left level key p out in
                    let same : p.meta.level ≡ level = omega (arith, not.0, level_rises p.meta q.meta first, e) in
                    right_misses p q key (not.1 same) first (same ∙ sym e) (omega (arith, some, e))
              ]
            ]
      ]

      pub next_there : p.meta.level ≡ level → is_covered p.meta key ≡ true → AllWithin (IsUpper level) ps 0 from → IsNext ps key from i
      next_there same covered before = record {
        after = elim (cases_lt i from) [
          | inl lt ↦ let bad : p.meta.level < level = subst (λ (x : Placed). x.meta.level < level) (sym is) (before i p (omega arith) lt) in absurd (omega (arith, bad, same))
          | inr ge ↦ ge
        ];
        covers = record { file = p; there = slice_get_read ps (length ps) i p refl within is; covered = covered };
        misses = λ k d low lt. left_misses k d low (omega (arith, lt, within)) (left_of level key (get_or ps k d) (left k d (omega arith) lt));
      }

  -- ---- level 0

  module _ (key : List ℕ) (from i : ℕ) (p : Placed) (within : i < length ps) (is : p ≡ get_or ps i p) (misses : AllWithin (Misses key) ps from i) where
    -- every file of level 0 stands before the first of a deeper level
    pub zero_done : 0 < p.meta.level → UpperMiss ps key from 1
    zero_done deep k d low lt below = elim (cases_lt k i) [
      | inl before ↦ misses k d low before
      | inr ge ↦ elim (cases_order k i) [
        | inl same ↦
            let one : p ≡ get_or ps k d = is ∙ get_or_default ps i p d within ∙ ap (λ (n : ℕ). get_or ps n d) (sym same) in
            let level = ap (λ (x : Placed). x.meta.level) one in
            absurd (omega (arith, level, deep, below))
        | inr o ↦ elim o [
          | inl before ↦ absurd (omega (arith, before, ge))
          | inr after ↦ let rises = level_rises p.meta (get_or ps k d).meta (order i k p d after lt is) in absurd (omega (arith, rises, deep, below))
        ]
      ]
    ]

    pub zero_next : from ≤ i → is_covered p.meta key ≡ true → IsNext ps key from i
    zero_next low covered = record { after = low; covers = record { file = p; there = slice_get_read ps (length ps) i p refl within is; covered = covered }; misses = misses }

    pub zero_more : is_covered p.meta key ≡ false → AllWithin (Misses key) ps from (i + 1)
    zero_more own k d low lt = elim (cases_lt k i) [
      | inl less ↦ misses k d low less
      | inr ge ↦
          let same : k ≡ i = omega (arith, lt, ge) in
          subst (Misses key) (is ∙ get_or_default ps i p d within ∙ ap (λ (n : ℕ). get_or ps n d) (sym same)) own
    ]

  -- ---- where a search goes on

  module _ (key : List ℕ) (from : ℕ) (some : 1 ≤ from) (last : Covers ps key (from - 1)) where
    pub within_last : from - 1 < length ps
    within_last = slice_get_within ps (from - 1) last.file last.there

    last_is : last.file ≡ get_or ps (from - 1) last.file
    last_is = sym (get_or_from_slice_get ps (from - 1) last.file last.file last.there)

    pub file_is : (p : Placed) → p ≡ get_or ps (from - 1) p → p ≡ last.file
    file_is p is = is ∙ get_or_from_slice_get ps (from - 1) last.file p last.there

    -- each file before is of no deeper level
    pub levels_before : (level : ℕ) → last.file.meta.level < level → AllWithin (IsUpper level) ps 0 from
    levels_before level lt k d low before = elim (cases_lt k (from - 1)) [
      | inl less ↦
          let rises = level_rises (get_or ps k d).meta last.file.meta (subst (λ (x : Placed). Before (get_or ps k d).meta x.meta) (get_or_from_slice_get ps (from - 1) last.file d last.there) (order k (from - 1) (get_or ps k d) d less within_last (get_or_default ps k d (get_or ps k d) (omega (arith, less, within_last))))) in
          omega (arith, rises, lt)
      | inr ge ↦
          let same : k ≡ from - 1 = omega (arith, ge, before) in
          let one : get_or ps k d ≡ last.file = ap (λ (n : ℕ). get_or ps n d) same ∙ get_or_from_slice_get ps (from - 1) last.file d last.there in
          let level_is = ap (λ (x : Placed). x.meta.level) one in
          omega (arith, level_is, lt)
    ]

    -- no other file of a deeper level covers the key
    pub level_done : 1 ≤ last.file.meta.level → UpperMiss ps key from (last.file.meta.level + 1)
    level_done deep k d low lt below =
        let q = get_or ps k d in
        let first = order (from - 1) k last.file d (omega (arith, some, low)) lt last_is in
        let rises = level_rises last.file.meta q.meta first in
        let same : last.file.meta.level ≡ q.meta.level = omega (arith, rises, below) in
        right_misses last.file q key (and_parts (key_le last.file.meta.smallest key) (key_le key last.file.meta.largest) last.covered).1 first same (omega (arith, deep, same))

pub last_covers : (ps : List Placed) (key : List ℕ) (from : ℕ) → GoesOn ps key from → 0 < from → (1 ≤ from) × Covers ps key (from - 1)
last_covers ps key from on some = elim on [ inl none ↦ absurd (omega (arith, none, some)) | inr last ↦ last ]

pub within_places : (ps : List Placed) (key : List ℕ) (from : ℕ) → AreInSearchOrder ps → GoesOn ps key from → from ≤ length ps
within_places ps key from up on = elim on [ inl none ↦ omega (arith, none) | inr last ↦ omega (arith, last.0, within_last ps up key from last.0 last.1) ]

-- ---- the deepest level

-- that of the last file
pub deepest_last : (ps : List Placed) → AreInSearchOrder ps → (last : Placed) → 0 < length ps → last ≡ get_or ps (length ps - 1) last → (p : Placed) → IsIn p ps → p.meta.level ≤ last.meta.level
deepest_last ps up last some is p m =
    let i = IsIn-place p ps m in
    elim (cases_lt i.0 (length ps - 1)) [
      | inl before ↦
          let here : p ≡ get_or ps i.0 p = sym i.2 in
          let rises = level_rises p.meta (get_or ps (length ps - 1) last).meta (order ps up i.0 (length ps - 1) p last before (omega (arith, some)) here) in
          omega (arith, rises, ap (λ (x : Placed). x.meta.level) is)
      | inr past ↦
          let same : i.0 ≡ length ps - 1 = omega (arith, past, i.1) in
          let one : p ≡ last = sym i.2 ∙ ap (λ (n : ℕ). get_or ps n p) same ∙ get_or_default ps (length ps - 1) p last (omega (arith, some)) ∙ sym is in
          omega (arith, ap (λ (x : Placed). x.meta.level) one)
    ]

-- ---- what the search shows

pub all_miss : (ps : List Placed) (key : List ℕ) (from level most : ℕ) → ((p : Placed) → IsIn p ps → p.meta.level ≤ most) → most < level → UpperMiss ps key from level → AllWithin (Misses key) ps from (length ps)
all_miss ps key from level most levels lt none k d low within = none k d low within (let l = levels (get_or ps k d) (IsIn-at ps k d within) in omega (arith, l, lt))

-- files that miss the key show nothing of it
pub misses_show_none : (ps : List Placed) (key : List ℕ) (at from to : ℕ) → AllRecorded ps → to ≤ length ps → AllWithin (ShowsNone key at) ps 0 from → AllWithin (Misses key) ps from to → AllWithin (ShowsNone key at) ps 0 to
misses_show_none ps key at from to rec within none misses k d low lt = elim (cases_lt k from) [
  | inl less ↦ none k d low less
  | inr ge ↦
      let p = get_or ps k d in
      missed p.meta p.table key at (rec p (IsIn-at ps k d (omega (arith, lt, within)))) (misses k d ge lt)
]

pub next_within : (ps : List Placed) (key : List ℕ) (from : ℕ) (r : Option ℕ) → IfSome r (IsNext ps key from) → IfSome r (λ place. place < length ps)
next_within ps key from None next = tt
next_within ps key from (Some place) next = slice_get_within ps place next.covers.file next.covers.there

module _ (ps : List Placed) (key : List ℕ) (at from : ℕ) (rec : AllRecorded ps) (none : AllWithin (ShowsNone key at) ps 0 from) where
  -- none covers the key from here on
  pub search_ends : AllWithin (Misses key) ps from (length ps) → first_visible (tables_of ps) key at ≡ None
  search_ends misses = none_at_all ps key at (λ p m.
      let i = IsIn-place p ps m in
      subst (ShowsNone key at) i.2 (misses_show_none ps key at from (length ps) rec (omega arith) none misses i.0 p (omega arith) i.1))

  module _ (place : ℕ) (p : Placed) (within : place < length ps) (is : p ≡ get_or ps place p) (next : IsNext ps key from place) where
    pub search_finds : (e : Entry) → visible (get_or ps place p).table.entries key at ≡ Some e → first_visible (tables_of ps) key at ≡ Some e
    search_finds e shown = first_at ps place p key at e within is (misses_show_none ps key at from place rec (omega (arith, within)) none next.misses) (ap (λ (x : Placed). visible x.table.entries key at) is ∙ shown)

    pub search_goes_on : visible (get_or ps place p).table.entries key at ≡ None → (place + 1 ≤ length ps) × GoesOn ps key (place + 1) × AllWithin (ShowsNone key at) ps 0 (place + 1)
    search_goes_on hidden =
        let back : place ≡ place + 1 - 1 = omega arith in (
          omega (arith, within),
          inr (omega arith, subst (Covers ps key) back next.covers),
          one_more ps key at place p within is (ap (λ (x : Placed). visible x.table.entries key at) is ∙ hidden) (misses_show_none ps key at from place rec (omega (arith, within)) none next.misses),
        )
