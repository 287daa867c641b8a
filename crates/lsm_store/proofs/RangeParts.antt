-- The first pairs of a range, and those of the range after some of them.
use Rattle.std.proofs.Common.{◌≡◌, ℕ, zero, suc, ◌+◌, ◌-◌, ◌<◌, ◌≤◌, Bool, true, false, ltb, not, List, [], ◌∷◌, ◌++◌, Option, None, Some, length, drop, take, refl, sym, ap, subst, ◌∙◌, inl, inr, ◌⊎◌, arith}
use Rattle.std.specs.Prelude.{if◌then◌else◌, slice_get}
use Rattle.std.specs.Option.{unwrap_or}
use Rattle.std.specs.Ordering.{nat_cmp, ordering_then, is_gt, is_lt}
use Rattle.std.specs.Cmp.Lexicographic.{slice_cmp}
use Rattle.std.specs.declared.cmp.Ordering.{Ordering}
use Rattle.std.specs.declared.cmp.Ordering.TheVariants.{Less, Equal, Greater}
use Rattle.std.proofs.lemmas.Bool.{and_from, and_parts, lt-ltb, ltb-false, ltb-true}
use Rattle.std.proofs.lemmas.Cmp.{nat_cmp_total, tied_itself}
use Rattle.std.proofs.lemmas.List.{take_all}
use Rattle.lsm_key.specs.Order.{key_le, key_lt}
use Rattle.lsm_key.specs.Sets.{IsIn}
use Rattle.lsm_coord.specs.Model.Range.{InHalfOpenRange, IsBelow, IsRange}
use Rattle.lsm_coord.proofs.KeyIntervals.{below_irreflexive, below_trans, below_upto, not_below_upto, upto_from}
use Rattle.lsm_coord.proofs.ScanRanges.{ascending}
use Rattle.lsm_coord.proofs.ScansAgree.{Pair, ascends}
use Rattle.lsm_coord.specs.declared.snapshot.SnapId.{SnapId}
use Rattle.lsm_coord.specs.Contract.Value.{CoordValue}
use Rattle.lsm_key.specs.Writes.{answer}
use Rattle.lsm_store.specs.declared.store.range.Part.{Part}
use Rattle.lsm_store.specs.Ranges.{IsPart, IsReady, ReadsFirst, ReadsPart, after_pair, after_pairs, after_taking, next_key, part_place}
use Rattle.lsm_store.specs.Store.{ReadsRange, seen_count}

-- ---- the first key after a key

pub below_next : (key : List ℕ) → IsBelow key (next_key key)
below_next [] = refl
below_next (x ∷ xs) = rw (tied_itself nat_cmp_total x) (below_next xs)

pub next_upto : (a b : List ℕ) → IsBelow a b → key_le (next_key a) b ≡ true
next_upto [] [] h = absurd cc
next_upto [] (y ∷ ys) h = zero_first y ys
  where
    -- nothing comes before the empty key
    not_after : (ys : List ℕ) → not (is_gt (slice_cmp nat_cmp [] ys)) ≡ true
    not_after [] = refl
    not_after (y ∷ ys) = refl

    zero_first : (y : ℕ) (ys : List ℕ) → not (is_gt (slice_cmp nat_cmp (0 ∷ []) (y ∷ ys))) ≡ true
    zero_first zero ys = not_after ys
    zero_first (suc y) ys = rw (lt-ltb 0 (suc y) (omega arith)) refl
next_upto (x ∷ xs) [] h = absurd cc
next_upto (x ∷ xs) (y ∷ ys) h = by (next_upto xs ys) (nat_cmp x y) h
  where
    by : (IsBelow xs ys → key_le (next_key xs) ys ≡ true) → (o : Ordering) → is_lt (ordering_then o (slice_cmp nat_cmp xs ys)) ≡ true → not (is_gt (ordering_then o (slice_cmp nat_cmp (xs ++ 0 ∷ []) ys))) ≡ true
    by rest Less h = refl
    by rest Equal h = rest h
    by rest Greater h = absurd cc

-- ---- the first pair, and the others

module _ (value_of : List ℕ → Option (List ℕ)) (lo hi : List ℕ) where
  pub first_pair : (n : ℕ) (p : Pair) (ps : List Pair) → IsRange value_of lo hi n (p ∷ ps) → IsRange value_of lo hi 1 (p ∷ [])
  first_pair n p ps h = record {
    few = omega arith;
    ascending = ascending (p ∷ []) (λ q m. absurd m, tt);
    right = λ q m. elim m [ inl is ↦ h.right q (inl is) | inr none ↦ absurd none ];
    whole = λ key value within has. elim (h.whole key value within has) [
      | inl m ↦ elim m [
        | inl is ↦ inl (inl is)
        | inr after ↦ inr (
          refl,
          λ q k. elim k [
            | inl same ↦ subst (λ (r : Pair). IsBelow r.0 key) (sym same) ((ascends (p ∷ ps) h.ascending).0 (key, value) after)
            | inr none ↦ absurd none
          ],
        )
      ]
      | inr out ↦ inr (
        refl,
        λ q k. elim k [
          | inl same ↦ subst (λ (r : Pair). IsBelow r.0 key) (sym same) (out.1 p (inl refl))
          | inr none ↦ absurd none
        ],
      )
    ];
  }

  pub other_pairs : (n : ℕ) (p : Pair) (ps : List Pair) → IsRange value_of lo hi n (p ∷ ps) → IsRange value_of (next_key p.0) hi (n - 1) ps
  other_pairs n p ps h = record {
    few = (let few = h.few in omega arith);
    ascending = ascending ps (ascends (p ∷ ps) h.ascending).1;
    right = λ q m. (
      and_from (key_le (next_key p.0) q.0) (key_lt q.0 hi) (next_upto p.0 q.0 ((ascends (p ∷ ps) h.ascending).0 q m)) (and_parts (key_le lo q.0) (key_lt q.0 hi) (h.right q (inr m)).0).1,
      (h.right q (inr m)).1,
    );
    whole = λ key value within has. (
        let ends = and_parts (key_le (next_key p.0) key) (key_lt key hi) within in
        let above : IsBelow p.0 key = below_upto p.0 (next_key p.0) key (below_next p.0) ends.0 in
        let first = (and_parts (key_le lo p.0) (key_lt p.0 hi) (h.right p (inl refl)).0).0 in
        let from : key_le lo key ≡ true = upto_from lo key (λ c. not_below_upto lo p.0 first (below_trans p.0 key lo above c)) in
        elim (h.whole key value (and_from (key_le lo key) (key_lt key hi) from ends.1) has) [
          | inl m ↦ elim m [
            | inl is ↦ absurd (below_irreflexive p.0 key (ap (λ (q : Pair). q.0) (sym is)) above)
            | inr after ↦ inl after
          ]
          | inr out ↦ inr (let full = out.0 in omega arith, λ q k. out.1 q (inr k))
        ]
        );
  }

  -- all of them, if there are fewer than were asked for
  pub all_pairs : (n m : ℕ) (ps : List Pair) → length ps < n → length ps ≤ m → IsRange value_of lo hi n ps → IsRange value_of lo hi m ps
  all_pairs n m ps fewer room h = record {
    few = room;
    ascending = h.ascending;
    right = h.right;
    whole = λ key value within has. elim (h.whole key value within has) [ inl among ↦ inl among | inr out ↦ (let full = out.0 in absurd (omega (arith, full, fewer))) ];
  }

-- the range after its first pairs
pub after_some : (value_of : List ℕ → Option (List ℕ)) (hi lo : List ℕ) (n g : ℕ) (ps : List Pair) → g ≤ length ps → IsRange value_of lo hi n ps → IsRange value_of (after_pairs lo (take g ps)) hi (n - g) (drop g ps)
after_some value_of hi lo n zero ps within h = subst (λ (m : ℕ). IsRange value_of lo hi m ps) (omega arith) h
after_some value_of hi lo n (suc g) [] within h = absurd (omega (arith, within))
after_some value_of hi lo n (suc g) (p ∷ ps) within h =
    subst (λ (m : ℕ). IsRange value_of (after_pairs (next_key p.0) (take g ps)) hi m (drop g ps)) (omega arith)
    (after_some value_of hi (next_key p.0) (n - 1) g ps (omega (arith, within)) (other_pairs value_of lo hi n p ps h))

-- ---- the parts of a range in a store

-- a part is the last one if it has fewer pairs than were asked for
pub part_is : (c : CoordValue) (lo hi : List ℕ) (at : Option SnapId) (n : ℕ) (pairs : List Pair) (is_last : Bool) → is_last ≡ ltb (length pairs) n → ReadsRange c lo hi at n pairs → ReadsPart c lo hi at is_last pairs
part_is c lo hi at n pairs true is h writes snapshots held =
    let r = h writes snapshots held in
    (r.0, all_pairs (answer writes (seen_count writes snapshots at)) lo hi n (suc (length pairs)) pairs (ltb-true (length pairs) n (sym is)) (omega arith) r.1)
part_is c lo hi at n pairs false is h writes snapshots held =
    let r = h writes snapshots held in
    let few = r.1.few in
    (r.0, subst (λ (m : ℕ). IsRange (answer writes (seen_count writes snapshots at)) lo hi m pairs) (omega (arith, few, ltb-false (length pairs) n (sym is))) r.1)

-- the pairs behind all of them
drop_past : (ps : List Pair) (g : ℕ) → length ps ≤ g → drop g ps ≡ []
drop_past [] zero h = refl
drop_past [] (suc g) h = refl
drop_past (p ∷ ps) zero h = absurd (omega (arith, h))
drop_past (p ∷ ps) (suc g) h = drop_past ps g (omega (arith, h))

-- the pairs behind the first ones
others_at : (ps : List Pair) (g : ℕ) (p : Pair) → slice_get ps g ≡ Some p → drop g ps ≡ p ∷ drop (suc g) ps
others_at [] g p at = absurd cc
others_at (q ∷ ps) zero p at = ap (λ (r : Option Pair). unwrap_or r q ∷ ps) at
others_at (q ∷ ps) (suc g) p at = others_at ps g p at

-- where a range begins once one more was given
pub after_more : (lo : List ℕ) (ps : List Pair) (g : ℕ) (p : Pair) → slice_get ps g ≡ Some p → after_pairs lo (take (suc g) ps) ≡ next_key p.0
after_more lo [] g p at = absurd cc
after_more lo (q ∷ ps) zero p at = ap (λ (r : Option Pair). next_key (unwrap_or r q).0) at
after_more lo (q ∷ ps) (suc g) p at = after_more (next_key q.0) ps g p at

past_end : (ps : List Pair) (g : ℕ) → slice_get ps g ≡ None → length ps ≤ g
past_end [] g at = omega arith
past_end (p ∷ ps) zero at = absurd cc
past_end (p ∷ ps) (suc g) at = (let rest = past_end ps g at in omega (arith, rest))

at_within : (ps : List Pair) (g : ℕ) (p : Pair) → slice_get ps g ≡ Some p → g < length ps
at_within [] g p at = absurd cc
at_within (q ∷ ps) zero p at = omega arith
at_within (q ∷ ps) (suc g) p at = (let rest = at_within ps g p at in omega (arith, rest))

module _ (c : CoordValue) (hi : List ℕ) (at : Option SnapId) (part : Part) (h : IsPart c hi at part) where
  abbrev pairs : List Pair
  pairs = part.pairs.items

  pub none_left : length pairs ≤ part.given → part.is_last ≡ true → ReadsFirst c (part_place part) hi at None
  none_left used is writes snapshots held =
      let value_of = answer writes (seen_count writes snapshots at) in
      let r = h.reads writes snapshots held in
      let all : IsRange value_of part.from.items hi (suc (length pairs)) pairs = subst (λ (b : Bool). IsRange value_of part.from.items hi (if b then suc (length pairs) else length pairs) pairs) is r.1 in
      let rest = after_some value_of hi part.from.items (suc (length pairs)) part.given pairs h.given all in
      let given = h.given in (
        r.0,
        subst (λ (ps : List Pair). IsRange value_of (part_place part) hi 1 ps) (drop_past pairs part.given used)
            (subst (λ (m : ℕ). IsRange value_of (part_place part) hi m (drop part.given pairs)) (omega (arith, used, given)) rest),
      )

  pub next_left : (p : Pair) → slice_get pairs part.given ≡ Some p → ReadsFirst c (part_place part) hi at (Some p)
  next_left p is writes snapshots held =
      let value_of = answer writes (seen_count writes snapshots at) in
      let r = h.reads writes snapshots held in
      let n = if part.is_last then suc (length pairs) else length pairs in
      let rest = after_some value_of hi part.from.items n part.given pairs h.given r.1 in (
        r.0,
        first_pair value_of (part_place part) hi (n - part.given) p (drop (suc part.given) pairs)
            (subst (λ (ps : List Pair). IsRange value_of (part_place part) hi (n - part.given) ps) (others_at pairs part.given p is) rest),
      )

  -- it was asked for a pair
  pub asked : IsReady part → (o : Option Pair) → o ≡ slice_get pairs part.given → ReadsFirst c (part_place part) hi at o
  asked ready None is = by ready (past_end pairs part.given (sym is))
    where
      by : IsReady part → length pairs ≤ part.given → ReadsFirst c (part_place part) hi at None
      by (inl more) used = absurd (omega (arith, more, used))
      by (inr last) used = none_left used last
  asked ready (Some p) is = next_left p (sym is)

  pub stays : (o : Option Pair) → o ≡ slice_get pairs part.given → IsPart c hi at (after_taking part o)
  stays None is = h
  stays (Some p) is = record { given = (let within = at_within pairs part.given p (sym is) in omega (arith, within)); reads = h.reads }

pub place_after : (part : Part) (o : Option Pair) → o ≡ slice_get part.pairs.items part.given → part_place (after_taking part o) ≡ after_pair (part_place part) o
place_after part None is = refl
place_after part (Some p) is =
    let one_more : suc part.given ≡ part.given + 1 = omega arith in
    subst (λ (n : ℕ). after_pairs part.from.items (take n part.pairs.items) ≡ next_key p.0) one_more (after_more part.from.items part.pairs.items part.given p (sym is))

-- the end of a part
pub end_is : (lo : List ℕ) (ps : List Pair) (g : ℕ) → g ≤ length ps → length ps ≤ g → after_pairs lo (take g ps) ≡ after_pairs lo ps
end_is lo ps g within used = ap (after_pairs lo) (take_all g ps used)

pub end_of_last : (lo : List ℕ) (ps : List Pair) (p : Pair) (n : ℕ) → suc n ≡ length ps → slice_get ps n ≡ Some p → after_pairs lo ps ≡ next_key p.0
end_of_last lo ps p n is at = sym (end_is lo ps (suc n) (omega (arith, is)) (omega (arith, is))) ∙ after_more lo ps n p at

pub end_of_some : (lo : List ℕ) (ps : List Pair) (p : Pair) → Some p ≡ slice_get ps (length ps - 1) → after_pairs lo ps ≡ next_key p.0
end_of_some lo [] p at = absurd cc
end_of_some lo (q ∷ ps) p at =
    let last : length (q ∷ ps) - 1 ≡ length ps = omega arith in
    end_of_last lo (q ∷ ps) p (length ps) refl (subst (λ (n : ℕ). slice_get (q ∷ ps) n ≡ Some p) last (sym at))
