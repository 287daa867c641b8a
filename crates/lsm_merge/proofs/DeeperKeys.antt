-- Ranges that are sorted, with raised ends, have the same keys, and a binary search decides whether they have one.
use Rattle.std.proofs.Common.{◌≡◌, ℕ, zero, suc, ◌-◌, ◌<◌, ◌≤◌, Bool, true, false, not, cond, ◌⊎◌, List, [], ◌∷◌, length, get_or, refl, sym, ap, ◌∙◌, subst, inl, inr, arith}
use Rattle.std.specs.declared.cmp.Ordering.{Ordering}
use Rattle.std.specs.declared.cmp.Ordering.TheVariants.{Less, Equal, Greater}
use Rattle.std.specs.Cmp.{IsStrictWeakOrder, both_ways}
use Rattle.std.specs.Cmp.Lexicographic.{slice_cmp}
use Rattle.std.specs.List.Sorted.{IsPermutation, IsPartitionedBy, IsPartitionPoint, IsSortedBy}
use Rattle.std.specs.Ordering.{nat_cmp, is_lt, is_le, is_gt, ordering_reverse}
use Rattle.std.proofs.lemmas.Bool.{false≢true, true≢false, cases_lt, and_parts, and_from, not-false}
use Rattle.std.proofs.lemmas.Cmp.{nat_list_cmp_total}
use Rattle.std.proofs.lemmas.List.{get_or_default}
use Rattle.std.proofs.lemmas.List.MinMax.{IsStrictWeakOrder-from_at_least}
use Rattle.std.proofs.lemmas.List.Sorted.{sorted_far}
use Rattle.lsm_key.specs.KeyRanges.{in_closed_range}
use Rattle.lsm_key.proofs.KeyRanges.{key_le_or, key_le_refl, key_le_trans, le_not_gt}
use Rattle.lsm_key.specs.Order.{key_le}
use Rattle.lsm_key.specs.Sets.{IsIn}
use Rattle.lsm_key.proofs.Lists.{any_from, any_is}
use Rattle.lsm_key.proofs.Membership.{IsIn-at, IsIn-place, SameMembers-permutation}
use Rattle.lsm_key.specs.declared.range.KeyRange.{KeyRange}
use Rattle.lsm_msg.specs.Merge.{is_in_ranges}
use Rattle.lsm_merge.specs.Reaching.{IsByLeast, AreReaching, greater, with_raised_ends}

-- ---- a key in one of the ranges

abbrev pub Has : List KeyRange → List ℕ → Type 0
Has ranges key = (r : KeyRange) × IsIn r ranges × (key_le r.lo key ≡ true) × (key_le key r.hi ≡ true)

pub has_is : (ranges : List KeyRange) (key : List ℕ) → is_in_ranges ranges key ≡ true → Has ranges key
has_is ranges key h =
    let r = any_is (λ (r : KeyRange). in_closed_range r.lo r.hi key) ranges h in
    let p = and_parts (key_le (r.0).lo key) (key_le key (r.0).hi) r.2 in
    (r.0, r.1, p.0, p.1)

pub has_from : (ranges : List KeyRange) (key : List ℕ) → Has ranges key → is_in_ranges ranges key ≡ true
has_from ranges key h = any_from (λ (r : KeyRange). in_closed_range r.lo r.hi key) ranges h.0 h.1 (and_from (key_le (h.0).lo key) (key_le key (h.0).hi) h.2 h.3)

pub same_keys : (one other : List KeyRange) → ((key : List ℕ) → Has one key → Has other key) → ((key : List ℕ) → Has other key → Has one key) → (key : List ℕ) → is_in_ranges one key ≡ is_in_ranges other key
same_keys one other to from key = both_ways (is_in_ranges one key) (is_in_ranges other key) (λ h. has_from other key (to key (has_is one key h))) (λ h. has_from one key (from key (has_is other key h)))

pub moved_keys : (one other : List KeyRange) → IsPermutation one other → (key : List ℕ) → is_in_ranges one key ≡ is_in_ranges other key
moved_keys one other perm =
    let same = SameMembers-permutation one other perm in
    same_keys one other (λ key h. (h.0, (same h.0).0 h.1, h.2, h.3)) (λ key h. (h.0, (same h.0).1 h.1, h.2, h.3))

-- ---- sorted by least keys

abbrev pub begins_lower : KeyRange → KeyRange → Bool
begins_lower r s = not (key_le s.lo r.lo)

pub weak : IsStrictWeakOrder begins_lower
weak = IsStrictWeakOrder-from_at_least (λ (r s : KeyRange). key_le r.lo s.lo) (λ r s f. key_le_or r.lo s.lo f) (λ r s t a b. key_le_trans r.lo s.lo t.lo a b)

less_is : (o r : Ordering) → o ≡ ordering_reverse r → is_lt o ≡ not (not (is_gt r))
less_is o Less e = ap is_lt e
less_is o Equal e = ap is_lt e
less_is o Greater e = ap is_lt e

pub compares : (a b : List ℕ) → is_lt (slice_cmp nat_cmp a b) ≡ not (key_le b a)
compares a b = less_is (slice_cmp nat_cmp a b) (slice_cmp nat_cmp b a) (nat_list_cmp_total.antisymm a b)

pub sorted_least : (ranges : List KeyRange) → IsSortedBy begins_lower ranges → IsByLeast ranges
sorted_least ranges sorted i j d le lt = not-false (key_le (get_or ranges i d).lo (get_or ranges j d).lo) (sorted_far begins_lower weak ranges sorted i j d le lt)

-- ---- widened

greater_left : (a b : List ℕ) → key_le a (greater a b) ≡ true
greater_left a b = by (key_le b a) refl
  where
    by : (c : Bool) → key_le b a ≡ c → key_le a (cond c a b) ≡ true
    by true e = key_le_refl a
    by false e = key_le_or b a e

greater_right : (a b : List ℕ) → key_le b (greater a b) ≡ true
greater_right a b = by (key_le b a) refl
  where
    by : (c : Bool) → key_le b a ≡ c → key_le b (cond c a b) ≡ true
    by true e = e
    by false e = key_le_refl b

-- a key within the greater one is within one of the two
greater_cases : (key a b : List ℕ) → key_le key (greater a b) ≡ true → (key_le key a ≡ true) ⊎ (key_le key b ≡ true)
greater_cases key a b h = by (key_le b a) h
  where
    by : (c : Bool) → key_le key (cond c a b) ≡ true → (key_le key a ≡ true) ⊎ (key_le key b ≡ true)
    by true h = inl h
    by false h = inr h

rest_least : (r : KeyRange) (rs : List KeyRange) → IsByLeast (r ∷ rs) → IsByLeast rs
rest_least r rs h i j d le lt = h (suc i) (suc j) d (omega (arith, le)) (omega (arith, lt))

first_least : (r : KeyRange) (rs : List KeyRange) → IsByLeast (r ∷ rs) → (s : KeyRange) → IsIn s rs → key_le r.lo s.lo ≡ true
first_least r rs h s m = let p = IsIn-place s rs m in subst (λ (x : KeyRange). key_le r.lo x.lo ≡ true) p.2 (h 0 (suc p.0) s (omega arith) (omega (arith, p.1)))

-- what a widened range has, a range has, or the key before reaches so far
widened_has : (reach : List ℕ) (rs : List KeyRange) (key : List ℕ) → IsByLeast rs → Has (with_raised_ends reach rs) key → Has rs key ⊎ ((key_le key reach ≡ true) × ((r : KeyRange) × IsIn r rs × (key_le r.lo key ≡ true)))
widened_has reach [] key up h = absurd h.1
widened_has reach (r ∷ rs) key up h = elim h.1 [
  | inl e ↦
      let lo : key_le r.lo key ≡ true = subst (λ (s : KeyRange). key_le s.lo key ≡ true) e h.2 in
      let hi : key_le key (greater reach r.hi) ≡ true = subst (λ (s : KeyRange). key_le key s.hi ≡ true) e h.3 in
      elim (greater_cases key reach r.hi hi) [ inl a ↦ inr (a, (r, inl refl, lo)) | inr b ↦ inl (r, inl refl, lo, b) ]
  | inr m ↦ elim (widened_has (greater reach r.hi) rs key (rest_least r rs up) (h.0, m, h.2, h.3)) [
    | inl later ↦ inl (later.0, inr later.1, later.2, later.3)
    | inr far ↦
        let s = far.1 in
        let lo : key_le r.lo key ≡ true = key_le_trans r.lo (s.0).lo key (first_least r rs up s.0 s.1) s.2 in
        elim (greater_cases key reach r.hi far.0) [ inl a ↦ inr (a, (r, inl refl, lo)) | inr b ↦ inl (r, inl refl, lo, b) ]
  ]
]

has_widened : (reach : List ℕ) (rs : List KeyRange) (key : List ℕ) → Has rs key → Has (with_raised_ends reach rs) key
has_widened reach [] key h = absurd h.1
has_widened reach (r ∷ rs) key h = elim h.1 [
  | inl e ↦
      let lo : key_le r.lo key ≡ true = subst (λ (s : KeyRange). key_le s.lo key ≡ true) e h.2 in
      let hi : key_le key r.hi ≡ true = subst (λ (s : KeyRange). key_le key s.hi ≡ true) e h.3 in
      (record { lo = r.lo; hi = greater reach r.hi }, inl refl, lo, key_le_trans key r.hi (greater reach r.hi) hi (greater_right reach r.hi))
  | inr m ↦ let later = has_widened (greater reach r.hi) rs key (h.0, m, h.2, h.3) in (later.0, inr later.1, later.2, later.3)
]

-- the empty key is the least: it reaches no further than itself
nothing_less : (key : List ℕ) → key_le key [] ≡ true → (a : List ℕ) → key_le key a ≡ true
nothing_less [] h [] = refl
nothing_less [] h (x ∷ a) = refl
nothing_less (x ∷ key) h a = absurd (false≢true h)

pub widened_keys : (rs : List KeyRange) → IsByLeast rs → (key : List ℕ) → is_in_ranges (with_raised_ends [] rs) key ≡ is_in_ranges rs key
widened_keys rs up =
    same_keys (with_raised_ends [] rs) rs
    (λ key h. elim (widened_has [] rs key up h) [
      | inl own ↦ own
      | inr far ↦ let s = far.1 in (s.0, s.1, s.2, nothing_less key far.0 (s.0).hi)
    ])
    (λ key h. has_widened [] rs key h)

widened_long : (reach : List ℕ) (rs : List KeyRange) → length (with_raised_ends reach rs) ≡ length rs
widened_long reach [] = refl
widened_long reach (r ∷ rs) = ap suc (widened_long (greater reach r.hi) rs)

widened_lo : (reach : List ℕ) (rs : List KeyRange) (i : ℕ) (d : KeyRange) → i < length rs → (get_or (with_raised_ends reach rs) i d).lo ≡ (get_or rs i d).lo
widened_lo reach [] i d lt = absurd (omega arith)
widened_lo reach (r ∷ rs) zero d lt = refl
widened_lo reach (r ∷ rs) (suc i) d lt = widened_lo (greater reach r.hi) rs i d (omega arith)

widened_from : (reach : List ℕ) (rs : List KeyRange) (i : ℕ) (d : KeyRange) → i < length rs → key_le reach (get_or (with_raised_ends reach rs) i d).hi ≡ true
widened_from reach [] i d lt = absurd (omega arith)
widened_from reach (r ∷ rs) zero d lt = greater_left reach r.hi
widened_from reach (r ∷ rs) (suc i) d lt = key_le_trans reach (greater reach r.hi) (get_or (with_raised_ends (greater reach r.hi) rs) i d).hi (greater_left reach r.hi) (widened_from (greater reach r.hi) rs i d (omega arith))

widened_hi : (reach : List ℕ) (rs : List KeyRange) (i j : ℕ) (d : KeyRange) → i ≤ j → j < length rs → key_le (get_or (with_raised_ends reach rs) i d).hi (get_or (with_raised_ends reach rs) j d).hi ≡ true
widened_hi reach [] i j d le lt = absurd (omega arith)
widened_hi reach (r ∷ rs) zero zero d le lt = key_le_refl (greater reach r.hi)
widened_hi reach (r ∷ rs) zero (suc j) d le lt = widened_from (greater reach r.hi) rs j d (omega arith)
widened_hi reach (r ∷ rs) (suc i) zero d le lt = absurd (omega arith)
widened_hi reach (r ∷ rs) (suc i) (suc j) d le lt = widened_hi (greater reach r.hi) rs i j d (omega arith) (omega arith)

pub reaching : (rs : List KeyRange) → IsByLeast rs → AreReaching (with_raised_ends [] rs)
reaching rs up =
    let long = widened_long [] rs in
    record {
      least = λ i j d le lt.
          let a = widened_lo [] rs i d (omega (arith, long, le, lt)) in
          let b = widened_lo [] rs j d (omega (arith, long, lt)) in
          rw (a, b) (up i j d le (omega (arith, long, lt)));
      greatest = λ i j d le lt. widened_hi [] rs i j d le (omega (arith, long, lt));
    }

-- ---- one look

pub le_is : (a b : List ℕ) → is_le (slice_cmp nat_cmp a b) ≡ key_le a b
le_is a b = le_not_gt (slice_cmp nat_cmp a b)

pub begun : (ranges : List KeyRange) (key : List ℕ) → IsByLeast ranges → IsPartitionedBy (λ r. key_le r.lo key) ranges
begun ranges key up i j d le lt h = key_le_trans (get_or ranges i d).lo (get_or ranges j d).lo key (up i j d le lt) h

module _ (ranges : List KeyRange) (key : List ℕ) (place : ℕ) (are : AreReaching ranges) (point : IsPartitionPoint (λ r. key_le r.lo key ≡ true) (λ r. key_le r.lo key ≡ false) ranges place) where
  pub none_begun : place ≡ 0 → false ≡ is_in_ranges ranges key
  none_begun e = both_ways false (is_in_ranges ranges key) (λ h. absurd (false≢true h)) (λ h.
      let r = has_is ranges key h in
      let p = IsIn-place r.0 ranges r.1 in
      let late : key_le (get_or ranges p.0 r.0).lo key ≡ false = point.1 p.0 r.0 (omega (arith, e)) p.1 in
      absurd (true≢false (sym r.2 ∙ ap (λ (s : KeyRange). key_le s.lo key) (sym p.2) ∙ late)))

  pub last_tells : (last : KeyRange) → 0 < place → place ≤ length ranges → last ≡ get_or ranges (place - 1) last → key_le key last.hi ≡ is_in_ranges ranges key
  last_tells last some within is = both_ways (key_le key last.hi) (is_in_ranges ranges key)
      (λ h.
      let begins : key_le last.lo key ≡ true = subst (λ (s : KeyRange). key_le s.lo key ≡ true) (sym is) (point.0 (place - 1) last (omega (arith, some, within)) (omega (arith, some))) in
      has_from ranges key (last, subst (λ (s : KeyRange). IsIn s ranges) (sym is) (IsIn-at ranges (place - 1) last (omega (arith, some, within))), begins, h))
      (λ h.
      let r = has_is ranges key h in
      let p = IsIn-place r.0 ranges r.1 in
      elim (cases_lt p.0 place) [
        | inl before ↦
            let far : key_le (get_or ranges p.0 r.0).hi (get_or ranges (place - 1) r.0).hi ≡ true = are.greatest p.0 (place - 1) r.0 (omega (arith, before)) (omega (arith, some, within)) in
            let here : get_or ranges (place - 1) r.0 ≡ last = get_or_default ranges (place - 1) r.0 last (omega (arith, some, within)) ∙ sym is in
            key_le_trans key (r.0).hi last.hi r.3 (subst (λ (s : KeyRange). key_le (r.0).hi s.hi ≡ true) here (subst (λ (s : KeyRange). key_le s.hi (get_or ranges (place - 1) r.0).hi ≡ true) p.2 far))
        | inr after ↦
            let late : key_le (get_or ranges p.0 r.0).lo key ≡ false = point.1 p.0 r.0 after p.1 in
            absurd (true≢false (sym r.2 ∙ ap (λ (s : KeyRange). key_le s.lo key) (sym p.2) ∙ late))
      ])
