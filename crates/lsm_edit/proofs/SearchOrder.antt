-- The order of a search: it is strict, and of two files of a version one comes first.
use Rattle.std.proofs.Common.{◌≡◌, ℕ, ◌<◌, ◌≤◌, Bool, true, false, not, cond, ◌&&◌, List, refl, sym, ap, subst, ◌∙◌, arith, inl, inr, ◌⊎◌, eqb, ltb}
use Rattle.std.specs.declared.cmp.Ordering.{Ordering}
use Rattle.std.specs.declared.cmp.Ordering.TheVariants.{Less, Equal, Greater}
use Rattle.std.specs.Ordering.{nat_cmp, is_gt, ordering_reverse}
use Rattle.std.specs.Cmp.Lexicographic.{slice_cmp}
use Rattle.std.proofs.lemmas.Bool.{lt-ltb, ltb-true, ltb-false, eq-eqb, eqb-true, eqb-false, cases_order, cases_eq, or_cases, and_cases, and_parts, not-true}
use Rattle.std.proofs.lemmas.Cmp.{nat_list_cmp_total}
use Rattle.lsm_key.specs.Order.{key_le}
use Rattle.lsm_key.proofs.EntryOrder.{keys_equal}
use Rattle.lsm_edit.specs.declared.file.FileMeta.{FileMeta}
use Rattle.lsm_edit.specs.Version.{clashes, files_meet}
use Rattle.lsm_edit.specs.Served.{is_before}
use Rattle.lsm_edit.proofs.AdvancedPlaces.{or-left, or-right, and-both}

-- ---- keys

is_greater : (o : Ordering) → not (is_gt o) ≡ false → o ≡ Greater
is_greater Less e = absurd cc
is_greater Equal e = absurd cc
is_greater Greater e = refl

not_less : (o : Ordering) → not (is_gt (ordering_reverse o)) ≡ true → o ≡ Less → ⊥
not_less Less e l = absurd cc
not_less Equal e l = absurd cc
not_less Greater e l = absurd cc

pub turned : (x y : List ℕ) → key_le y x ≡ false → slice_cmp nat_cmp x y ≡ Less
turned x y e = nat_list_cmp_total.antisymm x y ∙ ap ordering_reverse (is_greater (slice_cmp nat_cmp y x) e)

-- a key above one that is above a third
pub above_trans : (a b c : List ℕ) → key_le a b ≡ false → key_le b c ≡ false → key_le a c ≡ false
above_trans a b c h k = ap (λ (o : Ordering). not (is_gt o)) (nat_list_cmp_total.antisymm a c ∙ ap ordering_reverse (nat_list_cmp_total.trans c b a (turned c b k) (turned b a h)))

-- a key above one that is no less than a third
pub above_le : (a b c : List ℕ) → key_le a b ≡ false → key_le c b ≡ true → key_le a c ≡ false
above_le a b c h k = by (slice_cmp nat_cmp b c) refl
  where
    by : (o : Ordering) → slice_cmp nat_cmp b c ≡ o → key_le a c ≡ false
    by Less e = absurd (not_less (slice_cmp nat_cmp b c) (ap (λ (o : Ordering). not (is_gt o)) (sym (nat_list_cmp_total.antisymm c b)) ∙ k) e)
    by Equal e = subst (λ (x : List ℕ). key_le a x ≡ false) (keys_equal b c e) h
    by Greater e = above_trans a b c h (ap (λ (o : Ordering). not (is_gt o)) e)

-- ---- files

-- why a file is searched before another
pub data Before (f g : FileMeta) : Type 0 where
  upper : f.level < g.level → Before f g
  newer : f.level ≡ g.level → f.level ≡ 0 → g.number < f.number → Before f g
  lesser : f.level ≡ g.level → (f.level ≡ 0 → ⊥) → key_le g.smallest f.largest ≡ false → Before f g

pub level_rises : (f g : FileMeta) → Before f g → f.level ≤ g.level
level_rises f g (upper lt) = omega (arith, lt)
level_rises f g (newer e z n) = omega (arith, e)
level_rises f g (lesser e n k) = omega (arith, e)

cond_true : (c a b : Bool) → cond c a b ≡ true → ((c ≡ true) × (a ≡ true)) ⊎ ((c ≡ false) × (b ≡ true))
cond_true true a b h = inl (refl, h)
cond_true false a b h = inr (refl, h)

pub before_of : (f g : FileMeta) → is_before f g ≡ true → Before f g
before_of f g h = elim (or_cases (ltb f.level g.level) _ h) [
  | inl a ↦ upper (ltb-true f.level g.level a)
  | inr b ↦
      let p = and_parts (eqb f.level g.level) _ b in
      elim (cond_true (eqb f.level 0) (ltb g.number f.number) (not (key_le g.smallest f.largest)) p.1) [
        | inl z ↦ newer (eqb-true f.level g.level p.0) (eqb-true f.level 0 z.0) (ltb-true g.number f.number z.1)
        | inr n ↦ lesser (eqb-true f.level g.level p.0) (eqb-false f.level 0 n.0) (not-true (key_le g.smallest f.largest) n.1)
      ]
]

not_zero : (n : ℕ) → (n ≡ 0 → ⊥) → eqb n 0 ≡ false
not_zero n h = by (eqb n 0) refl
  where
    by : (b : Bool) → eqb n 0 ≡ b → eqb n 0 ≡ false
    by true e = absurd (h (eqb-true n 0 e))
    by false e = e

same_level : (f g : FileMeta) → f.level ≡ g.level → cond (eqb f.level 0) (ltb g.number f.number) (not (key_le g.smallest f.largest)) ≡ true → is_before f g ≡ true
same_level f g e h = or-right (ltb f.level g.level) _ (and-both (eqb f.level g.level) _ (eq-eqb f.level g.level e) h)

pub before_is : (f g : FileMeta) → Before f g → is_before f g ≡ true
before_is f g (upper lt) = or-left (ltb f.level g.level) _ (lt-ltb f.level g.level lt)
before_is f g (newer e z lt) = same_level f g e (ap (λ (b : Bool). cond b (ltb g.number f.number) (not (key_le g.smallest f.largest))) (eq-eqb f.level 0 z) ∙ lt-ltb g.number f.number lt)
before_is f g (lesser e n k) = same_level f g e (ap (λ (b : Bool). cond b (ltb g.number f.number) (not (key_le g.smallest f.largest))) (not_zero f.level n) ∙ ap not k)

pub before_trans : (f g h : FileMeta) → key_le g.smallest g.largest ≡ true → Before f g → Before g h → Before f h
before_trans f g h whole (upper a) (upper b) = upper (omega arith)
before_trans f g h whole (upper a) (newer e z b) = upper (omega arith)
before_trans f g h whole (upper a) (lesser e n b) = upper (omega arith)
before_trans f g h whole (newer e z a) (upper b) = upper (omega arith)
before_trans f g h whole (newer e z a) (newer d y b) = newer (e ∙ d) z (omega arith)
before_trans f g h whole (newer e z a) (lesser d n b) = absurd (n (sym e ∙ z))
before_trans f g h whole (lesser e n a) (upper b) = upper (omega arith)
before_trans f g h whole (lesser e n a) (newer d y b) = absurd (n (e ∙ y))
before_trans f g h whole (lesser e n a) (lesser d m b) =
    lesser (e ∙ d) n (above_trans h.smallest g.smallest f.largest (above_le h.smallest g.largest g.smallest b whole) a)

-- one of the two is searched before the other
abbrev pub Apart : FileMeta → FileMeta → Type 0
Apart f g = (is_before f g ≡ true) ⊎ (is_before g f ≡ true)

pub apart : (f g : FileMeta) → f.number < g.number → clashes f g ≡ false → Apart f g
apart f g lt h = elim (cases_order f.level g.level) [
  | inl e ↦ level e
  | inr o ↦ elim o [ inl less ↦ inl (before_is f g (upper less)) | inr more ↦ inr (before_is g f (upper more)) ]
]
  where
    deeper : f.level ≡ g.level → (f.level ≡ 0 → ⊥) → files_meet f g ≡ false → Apart f g
    deeper e n m = elim (and_cases (key_le f.smallest g.largest) (key_le g.smallest f.largest) m) [
      | inl a ↦ inr (before_is g f (lesser (sym e) (λ z. n (e ∙ z)) a))
      | inr b ↦ inl (before_is f g (lesser e n b))
    ]

    level : f.level ≡ g.level → Apart f g
    level e = elim (cases_eq f.level 0) [
      | inl z ↦ inr (before_is g f (newer (sym e) (sym e ∙ z) lt))
      | inr n ↦ elim (and_cases (eqb f.level g.level) (ltb 0 f.level && files_meet f g) h) [
        | inl differ ↦ absurd (eqb-false f.level g.level differ e)
        | inr rest ↦ elim (and_cases (ltb 0 f.level) (files_meet f g) rest) [
          | inl low ↦ let le = ltb-false 0 f.level low in absurd (n (omega (arith, le)))
          | inr m ↦ deeper e n m
        ]
      ]
    ]
