-- The pairs of a range of keys.
use Rattle.std.proofs.Common.{◌≡◌, ℕ, zero, suc, ◌≤◌, Bool, true, false, cond, List, [], ◌∷◌, ◌++◌, Option, None, Some, refl, sym, ap, subst, ◌∙◌, inl, inr, ◌⊎◌, arith, length, take, get_or}
use Rattle.std.specs.List.{AllPairs, filter}
use Rattle.std.specs.Option.{option_and_then, option_map, option_to_list}
use Rattle.std.proofs.lemmas.List.{length-take, take_all, take-append-le}
use Rattle.lsm_key.specs.declared.entry.Entry.{Entry}
use Rattle.lsm_key.specs.Sets.{IsIn, SameMembers}
use Rattle.lsm_key.specs.Order.{IsInOrder, is_between}
use Rattle.lsm_key.specs.Visible.{visible, newer, is_seen, entry_value, value_at, IsUnique}
use Rattle.lsm_key.proofs.Membership.{IsIn-at}
use Rattle.lsm_key.proofs.AscendingEntries.{IsIn-filter}
use Rattle.lsm_key.proofs.LatestOfList.{visible_same, at_visible, is_seen-key}
use Rattle.lsm_coord.specs.Model.Range.{IsBelow, InHalfOpenRange, IsRange}
use Rattle.lsm_coord.specs.Inner.Scan.{shown_pairs, is_hidden, pair_of}
use Rattle.lsm_coord.proofs.ScansAgree.{Pair, Ascends}
use Rattle.lsm_coord.proofs.ShownPairs.{pass_is}

-- ---- lists of pairs that ascend

pub ascending : (xs : List Pair) → Ascends xs → AllPairs (λ p q. IsBelow p.0 q.0) xs
ascending [] h i j d lt within = absurd (omega arith)
ascending (x ∷ xs) h zero zero d lt within = absurd (omega arith)
ascending (x ∷ xs) h zero (suc j) d lt within = h.0 (get_or xs j d) (IsIn-at xs j d (omega arith))
ascending (x ∷ xs) h (suc i) zero d lt within = absurd (omega arith)
ascending (x ∷ xs) h (suc i) (suc j) d lt within = ascending xs h.1 i j d (omega arith) (omega arith)

in_front : (n : ℕ) (xs : List Pair) (x : Pair) → IsIn x (take n xs) → IsIn x xs
in_front zero xs x m = absurd m
in_front (suc n) [] x m = absurd m
in_front (suc n) (y ∷ ys) x m = elim m [ inl e ↦ inl e | inr k ↦ inr (in_front n ys x k) ]

ascends-take : (n : ℕ) (xs : List Pair) → Ascends xs → Ascends (take n xs)
ascends-take zero xs h = tt
ascends-take (suc n) [] h = tt
ascends-take (suc n) (x ∷ xs) h = (λ y m. h.0 y (in_front n xs y m), ascends-take n xs h.1)

-- a member of an ascending list is among its first n, or comes after n
among_first : (n : ℕ) (xs : List Pair) (x : Pair) → Ascends xs → IsIn x xs → IsIn x (take n xs) ⊎ ((length (take n xs) ≡ n) × ((y : Pair) → IsIn y (take n xs) → IsBelow y.0 x.0))
among_first zero xs x h m = inr (refl, λ y k. absurd k)
among_first (suc n) [] x h m = absurd m
among_first (suc n) (z ∷ zs) x h m = elim m [
  | inl e ↦ inl (inl e)
  | inr k ↦ elim (among_first n zs x h.1 k) [
    | inl i ↦ inl (inr i)
    | inr out ↦ inr (ap (λ (l : ℕ). suc l) out.0, λ y i. elim i [ inl e ↦ subst (λ (w : Pair). IsBelow w.0 x.0) (sym e) (h.0 x k) | inr j ↦ out.1 y j ])
  ]
]

-- ---- ranges of a function of keys

-- all pairs of a range of keys
pub record IsWhole (value_of : List ℕ → Option (List ℕ)) (lo hi : List ℕ) (pairs : List Pair) : Type 0 where
  pub up : Ascends pairs
  pub right : (p : Pair) → IsIn p pairs → InHalfOpenRange lo hi p.0 × (value_of p.0 ≡ Some p.1)
  pub whole : (key value : List ℕ) → InHalfOpenRange lo hi key → value_of key ≡ Some value → IsIn (key, value) pairs

-- the first of them
pub first_of_whole : (value_of : List ℕ → Option (List ℕ)) (lo hi : List ℕ) (limit : ℕ) (pairs : List Pair) → IsWhole value_of lo hi pairs → IsRange value_of lo hi limit (take limit pairs)
first_of_whole value_of lo hi limit pairs h = record {
  few = omega (arith, length-take limit pairs);
  ascending = ascending (take limit pairs) (ascends-take limit pairs h.up);
  right = λ p m. h.right p (in_front limit pairs p m);
  whole = λ key value inside v. among_first limit pairs (key, value) h.up (h.whole key value inside v);
}

-- only the values count
pub same_range : (one other : List ℕ → Option (List ℕ)) (lo hi : List ℕ) (limit : ℕ) (pairs : List Pair) → ((key : List ℕ) → one key ≡ other key) → IsRange one lo hi limit pairs → IsRange other lo hi limit pairs
same_range one other lo hi limit pairs same r = record {
  few = r.few;
  ascending = r.ascending;
  right = λ p m. let q = r.right p m in (q.0, sym (same p.0) ∙ q.1);
  whole = λ key value w v. r.whole key value w (same key ∙ v);
}

-- ---- the entries of a range

unique-filter : (test : Entry → Bool) (es : List Entry) → IsUnique es → IsUnique (filter test es)
unique-filter test es u e f me mf keys seqs = u e f (IsIn-filter test e es me).0 (IsIn-filter test f es mf).0 keys seqs

-- what is between shows all of a key that is between
visible-between : (from to key : List ℕ) (p : ℕ) → InHalfOpenRange from to key → (es : List Entry) → visible (filter (is_between from to) es) key p ≡ visible es key p
visible-between from to key p w [] = refl
visible-between from to key p w (e ∷ es) = by (is_between from to e) refl (visible-between from to key p w es)
  where
    by : (b : Bool) → is_between from to e ≡ b → visible (filter (is_between from to) es) key p ≡ visible es key p → visible (cond b (e ∷ filter (is_between from to) es) (filter (is_between from to) es)) key p ≡ visible (e ∷ es) key p
    by true h rest = ap (λ (o : Option Entry). newer (cond (is_seen key p e) (Some e) None) o) rest
    by false h rest = rest ∙ out (is_seen key p e) refl
      where
        out : (c : Bool) → is_seen key p e ≡ c → visible es key p ≡ newer (cond c (Some e) None) (visible es key p)
        out false s = refl
        out true s =
            let k : e.ikey.key ≡ key = is_seen-key key p e s in
            let yes : is_between from to e ≡ true = subst (λ (l : List ℕ). InHalfOpenRange from to l) (sym k) w in
            let bad : false ≡ true = sym h ∙ yes in
            absurd cc

module _ (all es : List Entry) (from to : List ℕ) (p : ℕ) (unique : IsUnique all) (same : SameMembers (filter (is_between from to) all) es) (order : IsInOrder es) where
  value_within : (key : List ℕ) → InHalfOpenRange from to key → value_at es key p ≡ value_at all key p
  value_within key w =
      ap (option_and_then entry_value) (
      sym (visible_same (filter (is_between from to) all) es key p (unique-filter (is_between from to) all unique) same)
      ∙ visible-between from to key p w all)

  -- a key that has a value is one of the range's
  inside : (key value : List ℕ) (o : Option Entry) → visible es key p ≡ o → option_and_then entry_value o ≡ Some value → InHalfOpenRange from to key
  inside key value None found v = absurd cc
  inside key value (Some x) found v =
      let l = at_visible es key p x found in
      let m = (same x).1 l.member in
      subst (λ (k : List ℕ). InHalfOpenRange from to k) (is_seen-key key p x l.satisfies) (IsIn-filter (is_between from to) x all m).1

  pub whole_range : IsWhole (λ key. value_at all key p) from to (shown_pairs p None es)
  whole_range =
      let passes = pass_is p es order in
      record {
        up = passes.up;
        right = λ x m. let v = (passes.right x m).1 in let w = inside x.0 x.1 (visible es x.0 p) refl v in (w, sym (value_within x.0 w) ∙ v);
        whole = λ key value w v. passes.whole key value tt (value_within key w ∙ v);
      }

-- ---- one entry after another

pub pass_hidden : (p : ℕ) (before : Option Entry) (e : Entry) (es : List Entry) → is_hidden p before e ≡ true → shown_pairs p before (e ∷ es) ≡ shown_pairs p before es
pass_hidden p before e es h = ap (λ (b : Bool). cond b (shown_pairs p before es) (pair_of e ++ shown_pairs p (Some e) es)) h

pub pass_seen : (p : ℕ) (before : Option Entry) (e : Entry) (es : List Entry) → is_hidden p before e ≡ false → shown_pairs p before (e ∷ es) ≡ pair_of e ++ shown_pairs p (Some e) es
pass_seen p before e es h = ap (λ (b : Bool). cond b (shown_pairs p before es) (pair_of e ++ shown_pairs p (Some e) es)) h

pub one_pair : (e : Entry) → length (pair_of e) ≤ 1
one_pair e = by (entry_value e)
  where
    by : (o : Option (List ℕ)) → length {A = Pair} (option_to_list (option_map (λ (value : List ℕ). (e.ikey.key, value)) o)) ≤ 1
    by None = omega arith
    by (Some v) = omega arith

pub full_front : (n : ℕ) (xs ys : List Pair) → n ≤ length xs → length xs ≤ n → take n (xs ++ ys) ≡ xs
full_front n xs ys a b = take-append-le n xs ys a ∙ take_all n xs b
