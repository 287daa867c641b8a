-- The places of files in search order, and which of them stand left of a key.
use Rattle.std.proofs.Common.{◌≡◌, ℕ, zero, suc, ◌+◌, ◌<◌, ◌≤◌, Bool, true, false, not, cond, ◌&&◌, List, [], ◌∷◌, length, get_or, Option, None, Some, is_some, refl, sym, ap, subst, ◌∙◌, arith, inl, inr, eqb, ltb}
use Rattle.std.specs.List.{AllWithin}
use Rattle.std.proofs.lemmas.Bool.{lt-ltb, ltb-true, ltb-false, eq-eqb, eqb-true, cases_order, cases_lt, or_cases, or_parts, and_parts, not-false, not-true}
use Rattle.std.proofs.lemmas.List.{get_or_default}
use Rattle.lsm_key.specs.declared.entry.Entry.{Entry}
use Rattle.lsm_key.specs.Sets.{IsIn}
use Rattle.lsm_key.specs.Order.{key_le}
use Rattle.lsm_key.specs.Visible.{visible}
use Rattle.lsm_key.specs.Places.{first_visible}
use Rattle.lsm_key.proofs.Membership.{IsIn-at}
use Rattle.lsm_table.specs.Tables.{Opened}
use Rattle.lsm_table.proofs.TableContents.{table_ends}
use Rattle.lsm_edit.specs.declared.file.FileMeta.{FileMeta}
use Rattle.lsm_edit.specs.declared.served.Placed.{Placed}
use Rattle.lsm_edit.specs.Served.{IsAsRecorded, AllRecorded, AreInSearchOrder, is_before, tables_of, comes_left}
use Rattle.lsm_edit.proofs.AdvancedPlaces.{or-left, or-right, and-both}
use Rattle.lsm_edit.proofs.SearchOrder.{Before, upper, newer, lesser, before_of, above_trans, above_le}

-- a table has no visible entry of the key
abbrev pub ShowsNone : List ℕ → ℕ → Placed → Type 0
ShowsNone key at p = visible p.table.entries key at ≡ None

-- ---- places by their positions

pub ordered_at : (ps : List Placed) → AreInSearchOrder ps → (i j : ℕ) (d : Placed) → i < j → j < length ps → is_before (get_or ps i d).meta (get_or ps j d).meta ≡ true
ordered_at [] up i j d lt within = absurd (omega (arith, within))
ordered_at (p ∷ ps) up i zero d lt within = absurd (omega (arith, lt))
ordered_at (p ∷ ps) up zero (suc j) d lt within = up.0 (get_or ps j d) (IsIn-at ps j d (omega (arith, within)))
ordered_at (p ∷ ps) up (suc i) (suc j) d lt within = ordered_at ps up.1 i j d (omega (arith, lt)) (omega (arith, within))

-- the first place that shows an entry
pub first_at : (ps : List Placed) (i : ℕ) (p : Placed) (key : List ℕ) (at : ℕ) (e : Entry) → i < length ps → p ≡ get_or ps i p → AllWithin (ShowsNone key at) ps 0 i → visible p.table.entries key at ≡ Some e → first_visible (tables_of ps) key at ≡ Some e
first_at [] i p key at e lt is none here = absurd (omega (arith, lt))
first_at (q ∷ ps) zero p key at e lt is none here =
    let same : visible q.table.entries key at ≡ Some e = ap (λ (x : Placed). visible x.table.entries key at) (sym is) ∙ here in
    ap (λ (r : Option Entry). cond (is_some r) r (first_visible (tables_of ps) key at)) same
first_at (q ∷ ps) (suc i) p key at e lt is none here =
    ap (λ (r : Option Entry). cond (is_some r) r (first_visible (tables_of ps) key at)) (none 0 p (omega arith) (omega arith))
    ∙ first_at ps i p key at e (omega (arith, lt)) is (λ k d low high. none (suc k) d (omega arith) (omega (arith, high))) here

-- no place shows an entry
pub none_at_all : (ps : List Placed) (key : List ℕ) (at : ℕ) → ((p : Placed) → IsIn p ps → ShowsNone key at p) → first_visible (tables_of ps) key at ≡ None
none_at_all [] key at none = refl
none_at_all (p ∷ ps) key at none =
    ap (λ (r : Option Entry). cond (is_some r) r (first_visible (tables_of ps) key at)) (none p (inl refl))
    ∙ none_at_all ps key at (λ q m. none q (inr m))

-- ---- the places left of a key

pub data Left (level : ℕ) (key : List ℕ) (f : FileMeta) : Type 0 where
  above : f.level < level → Left level key f
  beside : f.level ≡ level → key_le key f.largest ≡ false → Left level key f

pub left_of : (level : ℕ) (key : List ℕ) (p : Placed) → comes_left level key p ≡ true → Left level key p.meta
left_of level key p h = elim (or_cases (ltb p.meta.level level) _ h) [
  | inl a ↦ above (ltb-true p.meta.level level a)
  | inr b ↦ let q = and_parts (eqb p.meta.level level) _ b in beside (eqb-true p.meta.level level q.0) (not-true (key_le key p.meta.largest) q.1)
]

pub left_is : (level : ℕ) (key : List ℕ) (p : Placed) → Left level key p.meta → comes_left level key p ≡ true
left_is level key p (above lt) = or-left (ltb p.meta.level level) _ (lt-ltb p.meta.level level lt)
left_is level key p (beside e k) = or-right (ltb p.meta.level level) _ (and-both (eqb p.meta.level level) _ (eq-eqb p.meta.level level e) (ap not k))

and-second : (a b : Bool) → a ≡ true → (a && b) ≡ false → b ≡ false
and-second true b h k = k
and-second false b h k = absurd cc

-- a place that is not left of the key
pub not_left : (level : ℕ) (key : List ℕ) (p : Placed) → comes_left level key p ≡ false → (level ≤ p.meta.level) × (p.meta.level ≡ level → key_le key p.meta.largest ≡ true)
not_left level key p h =
    let parts = or_parts (ltb p.meta.level level) _ h in
    (ltb-false p.meta.level level parts.0, λ e. not-false (key_le key p.meta.largest) (and-second (eqb p.meta.level level) (not (key_le key p.meta.largest)) (eq-eqb p.meta.level level e) parts.1))

left_before : (level : ℕ) (key : List ℕ) (f g : FileMeta) → 1 ≤ level → key_le g.smallest g.largest ≡ true → Before f g → Left level key g → Left level key f
left_before level key f g some whole (upper a) (above b) = above (omega arith)
left_before level key f g some whole (upper a) (beside e k) = above (omega arith)
left_before level key f g some whole (newer e z n) l = above (omega arith)
left_before level key f g some whole (lesser e n a) (above b) = above (omega arith)
left_before level key f g some whole (lesser e n a) (beside d k) = beside (e ∙ d) (above_trans key g.smallest f.largest (above_le key g.largest g.smallest k whole) a)

pub whole_of : (f : FileMeta) (t : Opened) → IsAsRecorded f t → key_le f.smallest f.largest ≡ true
whole_of f t is = rw (is.smallest, is.largest) (ap not (table_ends t.bytes t.entries is.table))

module _ (ps : List Placed) (level : ℕ) (key : List ℕ) (some : 1 ≤ level) (rec : AllRecorded ps) (up : AreInSearchOrder ps) where
  pub partitioned : (i j : ℕ) (d : Placed) → i ≤ j → j < length ps → comes_left level key (get_or ps j d) ≡ true → comes_left level key (get_or ps i d) ≡ true
  partitioned i j d le lt h = elim (cases_order i j) [
    | inl same ↦ subst (λ (k : ℕ). comes_left level key (get_or ps k d) ≡ true) (sym same) h
    | inr o ↦ elim o [
      | inl less ↦
          let p = get_or ps i d in
          let q = get_or ps j d in
          left_is level key p (left_before level key p.meta q.meta some (whole_of q.meta q.table (rec q (IsIn-at ps j d lt))) (before_of p.meta q.meta (ordered_at ps up i j d less lt)) (left_of level key q h))
      | inr more ↦ absurd (omega (arith, more, le))
    ]
  ]

-- ---- level 0

pub level_up : (f g : FileMeta) → Before f g → 0 < f.level → 0 < g.level
level_up f g (upper lt) h = omega arith
level_up f g (newer e z n) h = omega arith
level_up f g (lesser e n k) h = omega arith

-- one more place, which shows nothing
pub one_more : (ps : List Placed) (key : List ℕ) (at i : ℕ) (p : Placed) → i < length ps → p ≡ get_or ps i p → ShowsNone key at p → AllWithin (ShowsNone key at) ps 0 i → AllWithin (ShowsNone key at) ps 0 (i + 1)
one_more ps key at i p within is own none k d low lt = elim (cases_lt k i) [
  | inl less ↦ none k d low less
  | inr ge ↦
      let same : k ≡ i = omega (arith, lt, ge) in
      subst (ShowsNone key at) (is ∙ get_or_default ps i p d within ∙ ap (λ (n : ℕ). get_or ps n d) (sym same)) own
]
