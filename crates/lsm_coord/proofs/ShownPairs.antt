-- A pass over entries in order gives the pairs of the keys that have a value.
use Rattle.std.proofs.Common.{◌≡◌, ℕ, ◌<◌, ◌≤◌, Bool, true, false, not, cond, ◌||◌, ◌&&◌, List, [], ◌∷◌, ◌++◌, Option, None, Some, refl, sym, ap, subst, ◌∙◌, inl, inr, arith, ltb, leb}
use Rattle.std.specs.Option.{option_and_then, option_map, option_to_list}
use Rattle.std.specs.Ordering.{nat_cmp, is_lt, ordering_then, ordering_reverse}
use Rattle.std.specs.Cmp.Lexicographic.{slice_cmp}
use Rattle.std.specs.declared.cmp.Ordering.{Ordering}
use Rattle.std.specs.declared.cmp.Ordering.TheVariants.{Less, Equal, Greater}
use Rattle.std.proofs.lemmas.Bool.{ltb-false, ltb-true, false_from_ne_true, and_right}
use Rattle.std.proofs.lemmas.Cmp.{nat_list_cmp_total}
use Rattle.lsm_key.specs.declared.entry.Entry.{Entry}
use Rattle.lsm_key.specs.Sets.{IsIn}
use Rattle.lsm_key.specs.Order.{place_cmp, precedes, IsInOrder}
use Rattle.lsm_key.specs.Visible.{visible, newer, has_key, entry_value, value_at}
use Rattle.lsm_key.proofs.Membership.{IsIn-append_cases, IsIn-append_left, IsIn-append_right, IsIn-one}
use Rattle.lsm_key.proofs.EntryOrder.{keys_equal, of_one_key}
use Rattle.lsm_key.proofs.AscendingEntries.{first_in_order, rest_in_order}
use Rattle.lsm_key.proofs.LatestOfList.{at_visible, has_key-is, has_key-at, is_seen-key}
use Rattle.lsm_coord.specs.Model.Range.{IsBelow}
use Rattle.lsm_coord.specs.Inner.Scan.{is_again, pair_of, shown_pairs}
use Rattle.lsm_coord.proofs.KeyIntervals.{below_irreflexive, below_trans, key_cases}
use Rattle.lsm_coord.proofs.ScansAgree.{Pair, Ascends}

-- ---- an entry after another

-- of a greater key, or an older one of the same
pub data Later (e f : Entry) : Type 0 where
  beyond : IsBelow e.ikey.key f.ikey.key → Later e f
  older : f.ikey.key ≡ e.ikey.key → f.ikey.seq ≤ e.ikey.seq → Later e f

pub later : (e f : Entry) → precedes f e ≡ false → Later e f
later e f h = by (slice_cmp nat_cmp f.ikey.key e.ikey.key) refl h
  where
    by : (o : Ordering) → slice_cmp nat_cmp f.ikey.key e.ikey.key ≡ o → is_lt (ordering_then o (nat_cmp e.ikey.seq f.ikey.seq)) ≡ false → Later e f
    by Less x y = absurd cc
    by Equal x y =
        let k : f.ikey.key ≡ e.ikey.key = keys_equal f.ikey.key e.ikey.key x in
        let same : is_lt (place_cmp e.ikey.key f.ikey.seq e.ikey.key e.ikey.seq) ≡ false = subst (λ (l : List ℕ). is_lt (place_cmp l f.ikey.seq e.ikey.key e.ikey.seq) ≡ false) k h in
        older k (ltb-false e.ikey.seq f.ikey.seq (sym (of_one_key e.ikey.key f.ikey.seq e.ikey.seq) ∙ same))
    by Greater x y = beyond (ap is_lt (nat_list_cmp_total.antisymm e.ikey.key f.ikey.key ∙ ap ordering_reverse x))

abbrev AllLater : Entry → List Entry → Type 0
AllLater e es = (f : Entry) → IsIn f es → Later e f

abbrev Sorted : List Entry → Type 0
Sorted [] = Unit {0}
Sorted (e ∷ es) = AllLater e es × Sorted es

sorted : (es : List Entry) → IsInOrder es → Sorted es
sorted [] h = tt
sorted (e ∷ es) h = (λ f m. later e f (first_in_order e es h f m), sorted es (rest_in_order e es h))

-- ---- what is visible with one entry more

module _ (e : Entry) (es : List Entry) (p : ℕ) where
  -- of another key
  other_key : (key : List ℕ) → (e.ikey.key ≡ key → ⊥) → visible (e ∷ es) key p ≡ visible es key p
  other_key key h =
      let no : has_key key e ≡ false = false_from_ne_true (has_key key e) (λ t. h (has_key-is key e t)) in
      ap (λ (b : Bool). newer (cond (b && leb e.ikey.seq p) (Some e) None) (visible es key p)) no

  -- too late to be seen
  too_late : (key : List ℕ) → leb e.ikey.seq p ≡ false → visible (e ∷ es) key p ≡ visible es key p
  too_late key h = ap (λ (b : Bool). newer (cond b (Some e) None) (visible es key p)) (and_right (has_key key e) (leb e.ikey.seq p) h)

  stays_first : AllLater e es → (o : Option Entry) → visible es e.ikey.key p ≡ o → newer (Some e) o ≡ Some e
  stays_first all None found = refl
  stays_first all (Some x) found =
      let l = at_visible es e.ikey.key p x found in
      let k : x.ikey.key ≡ e.ikey.key = is_seen-key e.ikey.key p x l.satisfies in
      by (all x l.member) k
    where
      by : Later e x → x.ikey.key ≡ e.ikey.key → newer (Some e) (Some x) ≡ Some e
      by (beyond b) k = absurd (below_irreflexive e.ikey.key x.ikey.key (sym k) b)
      by (older k2 le) k = ap (λ (b : Bool). cond b (Some x) (Some e)) (false_from_ne_true (ltb e.ikey.seq x.ikey.seq) (λ t. let lt : e.ikey.seq < x.ikey.seq = ltb-true e.ikey.seq x.ikey.seq t in absurd (omega arith)))

  -- the first of its key
  the_first : AllLater e es → leb e.ikey.seq p ≡ true → visible (e ∷ es) e.ikey.key p ≡ Some e
  the_first all h =
      let yes : (has_key e.ikey.key e && leb e.ikey.seq p) ≡ true = λ i. has_key-at e.ikey.key e refl i && h i in
      ap (λ (b : Bool). newer (cond b (Some e) None) (visible es e.ikey.key p)) yes ∙ stays_first all (visible es e.ikey.key p) refl

-- of a key below all nothing shows
none_below : (es : List Entry) (key : List ℕ) (p : ℕ) → ((f : Entry) → IsIn f es → IsBelow key f.ikey.key) → (o : Option Entry) → visible es key p ≡ o → o ≡ None
none_below es key p all None found = refl
none_below es key p all (Some x) found =
    let l = at_visible es key p x found in
    absurd (below_irreflexive key x.ikey.key (sym (is_seen-key key p x l.satisfies)) (all x l.member))

-- ---- the pass

-- a key that is not yet passed
abbrev After : Option Entry → List ℕ → Type 0
After None key = Unit {0}
After (Some before) key = IsBelow before.ikey.key key

abbrev Follow : Option Entry → List Entry → Type 0
Follow None es = Unit {0}
Follow (Some before) es = AllLater before es

pub record Passes (p : ℕ) (before : Option Entry) (es : List Entry) (pairs : List Pair) : Type 0 where
  pub up : Ascends pairs
  pub right : (x : Pair) → IsIn x pairs → After before x.0 × (value_at es x.0 p ≡ Some x.1)
  pub whole : (key value : List ℕ) → After before key → value_at es key p ≡ Some value → IsIn (key, value) pairs

module _ (p : ℕ) (e : Entry) (es : List Entry) where
  same_value : (key : List ℕ) → visible (e ∷ es) key p ≡ visible es key p → value_at (e ∷ es) key p ≡ value_at es key p
  same_value key h = ap (option_and_then entry_value) h

  -- what is not seen adds nothing
  passed : (before : Option Entry) (pairs : List Pair) → ((key : List ℕ) → After before key → visible (e ∷ es) key p ≡ visible es key p) → Passes p before es pairs → Passes p before (e ∷ es) pairs
  passed before pairs same h = record {
    up = h.up;
    right = λ x m. let r = h.right x m in (r.0, same_value x.0 (same x.0 r.0) ∙ r.1);
    whole = λ key value a v. h.whole key value a (sym (same_value key (same key a)) ∙ v);
  }

  -- an older one of the key
  again : (before : Option Entry) → is_again before e ≡ true → (key : List ℕ) → After before key → visible (e ∷ es) key p ≡ visible es key p
  again None h key a = absurd cc
  again (Some l) h key a = other_key e es p key (λ k. below_irreflexive l.ikey.key key (sym (has_key-is l.ikey.key e h) ∙ k) a)

  pair_in : (o : Option (List ℕ)) (x : Pair) → IsIn x (option_to_list (option_map (λ (value : List ℕ). (e.ikey.key, value)) o)) → (x.0 ≡ e.ikey.key) × (o ≡ Some x.1)
  pair_in None x m = absurd m
  pair_in (Some v) x m = let s = IsIn-one x (e.ikey.key, v) m in (ap (λ (y : Pair). y.0) s, ap (λ (y : Pair). Some y.1) (sym s))

  pair_of_value : (o : Option (List ℕ)) (value : List ℕ) → o ≡ Some value → IsIn {X = Pair} (e.ikey.key, value) (option_to_list (option_map (λ (value : List ℕ). (e.ikey.key, value)) o))
  pair_of_value None value h = absurd cc
  pair_of_value (Some v) value h = inl (ap (λ (o : Option (List ℕ)). (e.ikey.key, from_some o)) (sym h))
    where
      from_some : Option (List ℕ) → List ℕ
      from_some None = []
      from_some (Some w) = w

  ascends_after : (o : Option (List ℕ)) (pairs : List Pair) → Ascends pairs → ((x : Pair) → IsIn x pairs → IsBelow e.ikey.key x.0) → Ascends (option_to_list (option_map (λ (value : List ℕ). (e.ikey.key, value)) o) ++ pairs)
  ascends_after None pairs up above = up
  ascends_after (Some v) pairs up above = (above, up)

  module _ (all : AllLater e es) (seen : leb e.ikey.seq p ≡ true) where
    here : (key value : List ℕ) → key ≡ e.ikey.key → value_at (e ∷ es) key p ≡ Some value → entry_value e ≡ Some value
    here key value k v = sym (ap (option_and_then entry_value) (the_first e es p all seen)) ∙ subst (λ (l : List ℕ). value_at (e ∷ es) l p ≡ Some value) k v

    beyond_it : (key : List ℕ) → IsBelow e.ikey.key key → visible (e ∷ es) key p ≡ visible es key p
    beyond_it key b = other_key e es p key (λ k. below_irreflexive e.ikey.key key k b)

    above_all : (key : List ℕ) → IsBelow key e.ikey.key → (f : Entry) → IsIn f (e ∷ es) → IsBelow key f.ikey.key
    above_all key b f m = elim m [
      | inl s ↦ subst (λ (x : Entry). IsBelow key x.ikey.key) (sym s) b
      | inr n ↦ by f (all f n)
    ]
      where
        by : (f : Entry) → Later e f → IsBelow key f.ikey.key
        by f (beyond c) = below_trans key e.ikey.key f.ikey.key b c
        by f (older k le) = subst (λ (l : List ℕ). IsBelow key l) (sym k) b

    -- a new key gives its pair, where it has one
    new_key : (before : Option Entry) (pairs : List Pair) → After before e.ikey.key → Passes p (Some e) es pairs → Passes p before (e ∷ es) (pair_of e ++ pairs)
    new_key before pairs fresh h = record {
      up = ascends_after (entry_value e) pairs h.up (λ x m. (h.right x m).0);
      right = λ x m. elim (IsIn-append_cases x (pair_of e) pairs m) [
        | inl i ↦ let q = pair_in (entry_value e) x i in (after_here before x q.0 fresh, ap (λ (key : List ℕ). value_at (e ∷ es) key p) q.0 ∙ ap (option_and_then entry_value) (the_first e es p all seen) ∙ q.1)
        | inr i ↦ let r = h.right x i in (after_there before x fresh r.0, same_value x.0 (beyond_it x.0 r.0) ∙ r.1)
      ];
      whole = λ key value a v. elim (key_cases e.ikey.key key) [
        | inl b ↦ IsIn-append_right (key, value) (pair_of e) pairs (h.whole key value b (sym (same_value key (beyond_it key b)) ∙ v))
        | inr o ↦ elim o [
          | inl k ↦ IsIn-append_left (key, value) (pair_of e) pairs (subst (λ (l : List ℕ). IsIn {X = Pair} (l, value) (pair_of e)) k (pair_of_value (entry_value e) value (here key value (sym k) v)))
          | inr b ↦
              let none : visible (e ∷ es) key p ≡ None = none_below (e ∷ es) key p (above_all key b) (visible (e ∷ es) key p) refl in
              let bad : None ≡ Some value = sym (ap (option_and_then entry_value) none) ∙ v in
              absurd cc
        ]
      ];
    }
      where
        after_here : (before : Option Entry) (x : Pair) → x.0 ≡ e.ikey.key → After before e.ikey.key → After before x.0
        after_here None x k a = tt
        after_here (Some l) x k a = subst (λ (key : List ℕ). IsBelow l.ikey.key key) (sym k) a

        after_there : (before : Option Entry) (x : Pair) → After before e.ikey.key → IsBelow e.ikey.key x.0 → After before x.0
        after_there None x a b = tt
        after_there (Some l) x a b = below_trans l.ikey.key e.ikey.key x.0 a b

-- a key that is not that of the entry before is a new one
fresh_key : (before : Option Entry) (e : Entry) (es : List Entry) → Follow before (e ∷ es) → is_again before e ≡ false → After before e.ikey.key
fresh_key None e es f h = tt
fresh_key (Some l) e es f h = by (f e (inl refl))
  where
    by : Later l e → IsBelow l.ikey.key e.ikey.key
    by (beyond b) = b
    by (older k le) = let yes : has_key l.ikey.key e ≡ true = has_key-at l.ikey.key e k in let bad : false ≡ true = sym h ∙ yes in absurd cc

follow_rest : (before : Option Entry) (e : Entry) (es : List Entry) → Follow before (e ∷ es) → Follow before es
follow_rest None e es f = tt
follow_rest (Some l) e es f = λ g m. f g (inr m)

step : (p : ℕ) (before : Option Entry) (e : Entry) (es : List Entry) (b c : Bool) → leb e.ikey.seq p ≡ b → is_again before e ≡ c → AllLater e es → Follow before (e ∷ es)
    → (these those : List Pair) → Passes p before es these → Passes p (Some e) es those → Passes p before (e ∷ es) (cond (not b || c) these (pair_of e ++ those))
step p before e es false c eb ec all f these those h k = passed p e es before these (λ key a. too_late e es p key eb) h
step p before e es true true eb ec all f these those h k = passed p e es before these (again p e es before ec) h
step p before e es true false eb ec all f these those h k = new_key p e es all eb before those (fresh_key before e es f ec) k

passes : (p : ℕ) (before : Option Entry) (es : List Entry) → Sorted es → Follow before es → Passes p before es (shown_pairs p before es)
passes p before [] s f = record { up = tt; right = λ x m. absurd m; whole = λ key value a v. absurd cc }
passes p before (e ∷ es) s f =
    step p before e es (leb e.ikey.seq p) (is_again before e) refl refl s.0 f (shown_pairs p before es) (shown_pairs p (Some e) es)
    (passes p before es s.1 (follow_rest before e es f)) (passes p (Some e) es s.1 s.0)

-- THE PASS gives each key that has a value, and no other.
pub pass_is : (p : ℕ) (es : List Entry) → IsInOrder es → Passes p None es (shown_pairs p None es)
pass_is p es h = passes p None es (sorted es h) tt
