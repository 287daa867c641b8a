-- The pairs that a range gives one after another are the first of it.
use Rattle.std.proofs.Common.{◌≡◌, ℕ, zero, suc, Bool, false, ltb, ◌+◌, ◌-◌, ◌<◌, ◌≤◌, true, List, [], ◌∷◌, ◌++◌, Option, None, Some, Ok, length, length-append, append_assoc, append-nil, refl, sym, ap, subst, ◌∙◌, inl, inr, arith}
use Rattle.std.specs.Prelude.{◌^◌, replicate}
use Rattle.std.specs.Cmp.{nat_cmp_is}
use Rattle.std.specs.Cmp.Lexicographic.{slice_cmp}
use Rattle.std.specs.List.{AllByRecursion, flat_map}
use Rattle.std.specs.Ordering.{nat_cmp, ordering_then, is_lt}
use Rattle.std.specs.declared.cmp.Ordering.TheVariants.{Equal, Less}
use Rattle.std.specs.Io.KnownBytes.{Appends}
use Rattle.std.proofs.lemmas.Bool.{and_from, and_parts, ltb-false, ltb-true}
use Rattle.lsm_key.specs.Order.{key_le, key_lt}
use Rattle.lsm_key.specs.Sets.{IsIn}
use Rattle.lsm_key.specs.Writes.{answer}
use Rattle.lsm_key.specs.declared.op.Op.{Op}
use Rattle.lsm_coord.specs.Model.Range.{InHalfOpenRange, IsBelow, IsRange}
use Rattle.lsm_coord.specs.Contract.Value.{CoordValue}
use Rattle.lsm_coord.specs.declared.snapshot.Snapshot.{Snapshot}
use Rattle.lsm_coord.proofs.KeyIntervals.{below_trans, below_upto, not_below_upto, upto_from}
use Rattle.lsm_coord.proofs.ScanRanges.{ascending}
use Rattle.lsm_coord.proofs.ScansAgree.{Pair, ascends}
use Rattle.std.proofs.KnownBytes.{Appends-nil, Appends-trans}
use Rattle.std.proofs.lemmas.List.{flat_map_more}
use Rattle.lsm_store.specs.Ranges.{NextPair, RangeValue, ReadsFirst, next_key}
use Rattle.lsm_store.specs.Store.{Holds, ReadsRange}
use Rattle.lsm_store.proofs.RangeParts.{all_pairs, below_next, next_upto}
use Rattle.lsm_commands.specs.Once.{WritesPairs, pair_line}
use Rattle.lsm_commands.specs.declared.once.pairs.PairRange.{PairRange}

-- ---- one pair, and those behind it

-- a range of no pair, of which none was asked for
pub none_asked : (value_of : List ℕ → Option (List ℕ)) (lo hi : List ℕ) → IsRange value_of lo hi 0 []
none_asked value_of lo hi = record {
  few = omega arith;
  ascending = ascending [] tt;
  right = λ p m. absurd m;
  whole = λ key value within has. inr (refl, λ p m. absurd m);
}

-- the first pair of a range and the first ones of what is left behind it are the first ones
pub one_more : (value_of : List ℕ → Option (List ℕ)) (lo hi : List ℕ) (n : ℕ) (p : Pair) (ps : List Pair)
    → IsRange value_of lo hi 1 (p ∷ []) → IsRange value_of (next_key p.0) hi n ps → IsRange value_of lo hi (suc n) (p ∷ ps)
one_more value_of lo hi n p ps first rest =
    let at = first.right p (inl refl) in
    let ends = and_parts (key_le lo p.0) (key_lt p.0 hi) at.0 in
    let above : (q : Pair) → IsIn q ps → IsBelow p.0 q.0 =
    λ q m. below_upto p.0 (next_key p.0) q.0 (below_next p.0) (and_parts (key_le (next_key p.0) q.0) (key_lt q.0 hi) (rest.right q m).0).0 in
    record {
      few = (let few = rest.few in omega arith);
      ascending = ascending (p ∷ ps) (above, ascends ps rest.ascending);
      right = λ q m. elim m [
        | inl is ↦ first.right q (inl is)
        | inr behind ↦ (
          and_from (key_le lo q.0) (key_lt q.0 hi)
              (upto_from lo q.0 (λ c. not_below_upto lo p.0 ends.0 (below_trans p.0 q.0 lo (above q behind) c)))
              (and_parts (key_le (next_key p.0) q.0) (key_lt q.0 hi) (rest.right q behind).0).1,
          (rest.right q behind).1,
        )
      ];
      whole = λ key value within has. elim (first.whole key value within has) [
        | inl m ↦ elim m [ inl is ↦ inl (inl is) | inr none ↦ absurd none ]
        | inr out ↦ (
            let after : IsBelow p.0 key = out.1 p (inl refl) in
            let below = (and_parts (key_le lo key) (key_lt key hi) within).1 in
            elim (rest.whole key value (and_from (key_le (next_key p.0) key) (key_lt key hi) (next_upto p.0 key after) below) has) [
              | inl m ↦ inl (inr m)
              | inr beyond ↦ inr (
                ap suc beyond.0,
                λ q m. elim m [
                  | inl is ↦ subst (λ (r : Pair). IsBelow r.0 key) (sym is) after
                  | inr behind ↦ beyond.1 q behind
                ],
              )
            ]
            )
      ];
    }

-- ---- the pairs of a range, one after another

-- These pairs of a range were given, so many are left to ask for, and of the lines a first part is written and the rest is kept. Whatever
-- comes first in what is ahead comes behind these.
pub record PairsSoFar (c : CoordValue) (range : PairRange) (held : Option (List ℕ)) (ahead : RangeValue) (left : ℕ) (out : List ℕ) (holds : Option (List ℕ)) : Type 0 where
  pub done : List Pair
  pub ahead_is : ahead ≡ record { store = c; from = ahead.from; hi = range.hi; at = None; left = ahead.left }
  pub counted : left + length done ≡ range.limit
  pub room : left ≤ ahead.left
  pub joined : (writes : List Op) (snapshots : List Snapshot) → Holds c writes snapshots → (n : ℕ) (ps : List Pair)
      → IsRange (answer writes (length writes)) ahead.from range.hi n ps → IsRange (answer writes (length writes)) range.lo range.hi (n + length done) (done ++ ps)
  pub sent : List ℕ
  pub lines : sent ++ out ≡ flat_map (pair_line range.head.now) done
  pub written : Appends held holds sent

pub so_far_none : (c : CoordValue) (range : PairRange) (held : Option (List ℕ)) (ahead : RangeValue) (out : List ℕ)
    → ahead ≡ record { store = c; from = range.lo; hi = range.hi; at = None; left = 2 ^ 64 - 1 } → range.limit ≤ 2 ^ 64 - 1 → out ≡ [] → PairsSoFar c range held ahead range.limit out held
so_far_none c range held ahead out is few none = subst (λ (a : RangeValue). PairsSoFar c range held a range.limit out held) (sym is) (record {
  done = [];
  ahead_is = refl;
  counted = omega arith;
  room = few;
  joined = λ writes snapshots h n ps first. subst (λ (m : ℕ). IsRange (answer writes (length writes)) range.lo range.hi m ps) (omega arith) first;
  sent = [];
  lines = none;
  written = Appends-nil held;
})

module _ (c : CoordValue) (range : PairRange) (held holds : Option (List ℕ)) (ahead : RangeValue) (left : ℕ) (out : List ℕ) (s : PairsSoFar c range held ahead left out holds) where
  -- what a range gives next
  abbrev Gives : Option Pair → Type 0
  Gives pair = ReadsFirst c ahead.from range.hi None pair

  gives : (pair : Option Pair) → ReadsFirst ahead.store ahead.from ahead.hi ahead.at pair → Gives pair
  gives pair first = subst (λ (a : RangeValue). ReadsFirst a.store ahead.from a.hi a.at pair) s.ahead_is first

  pub so_far_more : (next : RangeValue) (pair : Pair) (fewer : ℕ) (more : List ℕ) → NextPair ahead (Some (Ok pair)) next → fewer + 1 ≡ left → more ≡ out ++ pair_line range.head.now pair → PairsSoFar c range held next fewer more holds
  so_far_more next pair fewer more given less is = subst (λ (a : RangeValue). PairsSoFar c range held a fewer more holds) (sym given.1) (record {
    done = s.done ++ pair ∷ [];
    ahead_is = ap (λ (a : RangeValue). record a { from = next_key pair.0; left = ahead.left - 1 }) s.ahead_is;
    counted = (let counted = s.counted in let more = length-append s.done (pair ∷ []) in omega (arith, counted, more, less));
    room = (let room = s.room in omega (arith, room, less));
    joined = λ writes snapshots h n ps rest. (
        let value_of = answer writes (length writes) in
        let one = (gives (Some pair) given.0 writes snapshots h).1 in
        let all = s.joined writes snapshots h (suc n) (pair ∷ ps) (one_more value_of ahead.from range.hi n pair ps one rest) in
        let more = length-append s.done (pair ∷ []) in
        let size : suc n + length s.done ≡ n + length (s.done ++ pair ∷ []) = omega (arith, more) in
        subst (λ (m : ℕ). IsRange value_of range.lo range.hi m ((s.done ++ pair ∷ []) ++ ps)) size
        (subst (λ (qs : List Pair). IsRange value_of range.lo range.hi (suc n + length s.done) qs) (sym (append_assoc s.done (pair ∷ []) ps)) all)
        );
    sent = s.sent;
    lines = ap (λ (o : List ℕ). s.sent ++ o) is ∙ sym (append_assoc s.sent out (pair_line range.head.now pair)) ∙ ap (λ (ls : List ℕ). ls ++ pair_line range.head.now pair) s.lines ∙ flat_map_more (pair_line range.head.now) [] s.done pair;
    written = s.written;
  })

  pub so_far_written : (after : Option (List ℕ)) (none : List ℕ) → Appends holds after out → none ≡ [] → PairsSoFar c range held ahead left none after
  so_far_written after none wrote is = record {
    done = s.done;
    ahead_is = s.ahead_is;
    counted = s.counted;
    room = s.room;
    joined = s.joined;
    sent = s.sent ++ out;
    lines = ap (λ (o : List ℕ). (s.sent ++ out) ++ o) is ∙ append-nil (s.sent ++ out) ∙ s.lines;
    written = Appends-trans held holds after s.sent out s.written wrote;
  }

  -- the lines of all pairs that were given
  all_lines : (after : Option (List ℕ)) → Appends holds after out → Appends held after (flat_map (pair_line range.head.now) s.done)
  all_lines after wrote = subst (λ (ls : List ℕ). Appends held after ls) s.lines (Appends-trans held holds after s.sent out s.written wrote)

  -- so many are the first ones if what is ahead has no pair among those that are left to ask for
  whole : ((writes : List Op) (snapshots : List Snapshot) → Holds c writes snapshots → IsRange (answer writes (length writes)) ahead.from range.hi left []) → ReadsRange c range.lo range.hi None range.limit s.done
  whole none writes snapshots h = (
    tt,
    let value_of = answer writes (length writes) in
        subst (λ (m : ℕ). IsRange value_of range.lo range.hi m s.done) s.counted
        (subst (λ (qs : List Pair). IsRange value_of range.lo range.hi (left + length s.done) qs) (append-nil s.done) (s.joined writes snapshots h left [] (none writes snapshots h))),
  )

  pub all_asked : (after : Option (List ℕ)) → left ≡ 0 → Appends holds after out → WritesPairs c range held after
  all_asked after none wrote = (s.done, whole (λ writes snapshots h. subst (λ (m : ℕ). IsRange (answer writes (length writes)) ahead.from range.hi m []) (sym none) (none_asked (answer writes (length writes)) ahead.from range.hi)), all_lines after wrote)

  pub none_ahead : (after : Option (List ℕ)) (next : RangeValue) → 0 < left → NextPair ahead None next → Appends holds after out → WritesPairs c range held after
  none_ahead after next some (inl none, same) wrote = absurd (let room = s.room in omega (arith, room, some, none))
  none_ahead after next some (inr first, same) wrote =
      (s.done, whole (λ writes snapshots h. all_pairs (answer writes (length writes)) ahead.from range.hi 1 left [] (omega arith) (omega arith) (gives None first writes snapshots h).1), all_lines after wrote)

-- ---- all keys

-- a key comes before bytes that are the greatest and more than it has
pub before_greatest : (key : List ℕ) (n : ℕ) → AllByRecursion (λ byte. byte < 256) key → length key < n → IsBelow key (replicate n 255)
before_greatest key zero bytes short = absurd (omega (arith, short))
before_greatest [] (suc n) bytes short = refl
before_greatest (byte ∷ key) (suc n) bytes short = by (before_greatest key n bytes.1 (omega (arith, short))) (ltb byte 255) refl
  where
    by : IsBelow key (replicate n 255) → (less : Bool) → less ≡ ltb byte 255 → is_lt (ordering_then (nat_cmp byte 255) (slice_cmp nat_cmp key (replicate n 255))) ≡ true
    by rest true e = rw (← nat_cmp_is byte 255 Less (ltb-true byte 255 (sym e))) refl
    by rest false e = (let least = ltb-false byte 255 (sym e) in rw (← nat_cmp_is byte 255 Equal (omega (arith, least, bytes.0))) rest)

pub within_all : (key : List ℕ) → AllByRecursion (λ byte. byte < 256) key → length key ≤ 4096 → InHalfOpenRange [] (replicate 4097 255) key
within_all key bytes short = and_from (key_le [] key) (key_lt key (replicate 4097 255)) (upto_from [] key (none_before key)) (before_greatest key 4097 bytes (omega (arith, short)))
  where
    none_before : (key : List ℕ) → IsBelow key [] → ⊥
    none_before [] h = absurd cc
    none_before (byte ∷ key) h = absurd cc
