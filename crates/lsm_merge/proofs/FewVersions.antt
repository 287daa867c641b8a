-- Of one key no more entries are kept than there are points, and one.
use Rattle.std.proofs.Common.{◌≡◌, ℕ, suc, ◌+◌, ◌<◌, ◌≤◌, Bool, true, false, cond, not, List, [], ◌∷◌, ◌++◌, length, Option, Some, refl, sym, ap, ◌∙◌, subst, inl, inr, arith, ltb}
use Rattle.std.specs.List.{filter}
use Rattle.std.proofs.lemmas.Bool.{true≢false, cases_Bool, and_parts, lt-ltb, le-ltb, cases_lt}
use Rattle.lsm_key.specs.declared.entry.Entry.{Entry}
use Rattle.lsm_key.specs.Order.{Precedes}
use Rattle.lsm_key.specs.Sets.{IsIn}
use Rattle.lsm_key.specs.Visible.{has_key}
use Rattle.lsm_key.proofs.AscendingEntries.{Falls}
use Rattle.lsm_key.proofs.EntryOrder.{newer_first}
use Rattle.lsm_key.proofs.LatestOfList.{has_key-is, has_key-at}
use Rattle.lsm_key.specs.declared.range.KeyRange.{KeyRange}
use Rattle.lsm_msg.specs.Merge.{may_go}
use Rattle.lsm_merge.specs.Keeping.{is_seen_alone, is_needed, stays, kept_list}
use Rattle.lsm_merge.proofs.KeptInOnePass.{alone_is, key_gone, kept_list-in}

-- how many points are below a sequence
abbrev points_below : List ℕ → ℕ → ℕ
points_below [] s = 0
points_below (p ∷ ps) s = cond (ltb p s) 1 0 + points_below ps s

-- how many entries have the key
abbrev pub of_key : List ℕ → List Entry → ℕ
of_key k [] = 0
of_key k (x ∷ xs) = cond (has_key k x) 1 0 + of_key k xs

length_cond : (c : Bool) (x : Entry) (xs : List Entry) → length (cond c (x ∷ xs) xs) ≡ cond c 1 0 + length xs
length_cond true x xs = omega arith
length_cond false x xs = omega arith

pub of_key-filter : (k : List ℕ) (xs : List Entry) → length (filter (has_key k) xs) ≡ of_key k xs
of_key-filter k [] = refl
of_key-filter k (x ∷ xs) = length_cond (has_key k x) x (filter (has_key k) xs) ∙ ap (λ (n : ℕ). cond (has_key k x) 1 0 + n) (of_key-filter k xs)

pub of_key-append : (k : List ℕ) (xs ys : List Entry) → of_key k (xs ++ ys) ≡ of_key k xs + of_key k ys
of_key-append k [] ys = omega arith
of_key-append k (x ∷ xs) ys = let r = of_key-append k xs ys in omega (arith, r)

one : (p s t : ℕ) → s ≤ t → cond (ltb p s) 1 0 ≤ cond (ltb p t) 1 0
one p s t h = elim (cases_lt p s) [
  | inl a ↦ let lt : p < t = omega arith in subst (λ (b : Bool). cond (ltb p s) 1 0 ≤ cond b 1 0) (sym (lt-ltb p t lt)) (subst (λ (b : Bool). cond b 1 0 ≤ 1) (sym (lt-ltb p s a)) (omega arith))
  | inr a ↦ subst (λ (b : Bool). cond b 1 0 ≤ cond (ltb p t) 1 0) (sym (le-ltb p s a)) (omega arith)
]

below_le : (ps : List ℕ) (s t : ℕ) → s ≤ t → points_below ps s ≤ points_below ps t
below_le [] s t h = omega arith
below_le (p ∷ ps) s t h = let a = one p s t h in let b = below_le ps s t h in omega (arith, a, b)

below_length : (ps : List ℕ) (s : ℕ) → points_below ps s ≤ length ps
below_length [] s = omega arith
below_length (p ∷ ps) s =
    let b = below_length ps s in
    elim (cases_lt p s) [
      | inl a ↦ subst (λ (c : Bool). cond c 1 0 + points_below ps s ≤ suc (length ps)) (sym (lt-ltb p s a)) (omega (arith, b))
      | inr a ↦ subst (λ (c : Bool). cond c 1 0 + points_below ps s ≤ suc (length ps)) (sym (le-ltb p s a)) (omega (arith, b))
    ]

-- a point between makes one more
below_more : (ps : List ℕ) (s t p : ℕ) → IsIn p ps → s ≤ p → p < t → points_below ps s + 1 ≤ points_below ps t
below_more [] s t p m a b = absurd m
below_more (q ∷ ps) s t p m a b = elim m [
  | inl e ↦
      let r = below_le ps s t (omega arith) in
      let x : ltb q s ≡ false = le-ltb q s (omega arith) in
      let y : ltb q t ≡ true = lt-ltb q t (omega arith) in
      subst (λ (c : Bool). cond c 1 0 + points_below ps s + 1 ≤ cond (ltb q t) 1 0 + points_below ps t) (sym x) (subst (λ (c : Bool). 0 + points_below ps s + 1 ≤ cond c 1 0 + points_below ps t) (sym y) (omega (arith, r)))
  | inr n ↦ let r = below_more ps s t p n a b in let o = one q s t (omega arith) in omega (arith, r, o)
]

-- entries that the key is not among
pub none_of : (k : List ℕ) (xs : List Entry) → ((x : Entry) → IsIn x xs → x.ikey.key ≡ k → ⊥) → of_key k xs ≡ 0
none_of k [] h = refl
none_of k (x ∷ xs) h = elim (cases_Bool (has_key k x)) [
  | inl t ↦ absurd (h x (inl refl) (has_key-is k x t))
  | inr f ↦ ap (λ (b : Bool). cond b 1 0 + of_key k xs) f ∙ (let r : of_key k xs ≡ 0 = none_of k xs (λ y m. h y (inr m)) in omega arith)
]

module _ (points : List ℕ) (deeper : List KeyRange) (k : List ℕ) where
  -- with or without the entry x, whose key it is
  with_one : (c : Bool) (x : Entry) (rest : List Entry) → has_key k x ≡ true → of_key k (cond c (x ∷ rest) rest) ≡ cond c 1 0 + of_key k rest
  with_one true x rest h = ap (λ (b : Bool). cond b 1 0 + of_key k rest) h
  with_one false x rest h = omega arith

  without : (c : Bool) (x : Entry) (rest : List Entry) → has_key k x ≡ false → of_key k (cond c (x ∷ rest) rest) ≡ of_key k rest
  without true x rest h = ap (λ (b : Bool). cond b 1 0 + of_key k rest) h ∙ (let e : 0 + of_key k rest ≡ of_key k rest = omega arith in e)
  without false x rest h = refl

  needed_alone : (x y : Entry) → x.ikey.key ≡ y.ikey.key → stays points deeper (Some y) x ≡ true → is_seen_alone points y.ikey.seq x.ikey.seq ≡ true
  needed_alone x y e h =
      let c = (and_parts (is_needed points (Some y) x) (not (may_go points deeper x)) h).0 in
      subst (λ (b : Bool). cond b (is_seen_alone points y.ikey.seq x.ikey.seq) true ≡ true) (has_key-at y.ikey.key x e) c

  few_after : (y : Entry) (xs : List Entry) → y.ikey.key ≡ k → ((z : Entry) → IsIn z xs → Precedes y z) → Falls xs → of_key k (kept_list points deeper (Some y) xs) ≤ points_below points y.ikey.seq
  few_after y [] e before s = omega arith
  few_after y (x ∷ xs) e before s =
      let rest = kept_list points deeper (Some x) xs in
      elim (cases_Bool (has_key k x)) [
        | inl t ↦
            let q : x.ikey.key ≡ k = has_key-is k x t in
            let lt : x.ikey.seq < y.ikey.seq = newer_first y x (before x (inl refl)) (e ∙ sym q) in
            let r : of_key k rest ≤ points_below points x.ikey.seq = few_after x xs q s.0 s.1 in
            let w = with_one (stays points deeper (Some y) x) x rest t in
            elim (cases_Bool (stays points deeper (Some y) x)) [
              | inl a ↦
                  let p = alone_is points y.ikey.seq x.ikey.seq (needed_alone x y (q ∙ sym e) a) in
                  let m = below_more points x.ikey.seq y.ikey.seq p.0 p.1 p.2 p.3 in
                  let n : of_key k (kept_list points deeper (Some y) (x ∷ xs)) ≡ 1 + of_key k rest = w ∙ ap (λ (b : Bool). cond b 1 0 + of_key k rest) a in
                  omega (arith, m, r, n)
              | inr a ↦
                  let m = below_le points x.ikey.seq y.ikey.seq (omega arith) in
                  let n : of_key k (kept_list points deeper (Some y) (x ∷ xs)) ≡ 0 + of_key k rest = w ∙ ap (λ (b : Bool). cond b 1 0 + of_key k rest) a in
                  omega (arith, m, r, n)
            ]
        | inr f ↦
            let other : x.ikey.key ≡ k → ⊥ = λ h. true≢false (sym (has_key-at k x h) ∙ f) in
            let z : of_key k (kept_list points deeper (Some y) (x ∷ xs)) ≡ 0 =
            none_of k (kept_list points deeper (Some y) (x ∷ xs)) (λ v m.
            elim (kept_list-in points deeper (Some y) (x ∷ xs) v m) [
              | inl same ↦ key_gone k y x v e (before x (inl refl)) other (inl same)
              | inr n ↦ key_gone k y x v e (before x (inl refl)) other (inr (s.0 v n))
            ]) in
            omega (arith, z)
      ]

  pub few_kept : (last : Option Entry) (xs : List Entry) → Falls xs → of_key k (kept_list points deeper last xs) ≤ length points + 1
  few_kept last [] s = omega arith
  few_kept last (x ∷ xs) s =
      let rest = kept_list points deeper (Some x) xs in
      elim (cases_Bool (has_key k x)) [
        | inl t ↦
            let q : x.ikey.key ≡ k = has_key-is k x t in
            let r : of_key k rest ≤ points_below points x.ikey.seq = few_after x xs q s.0 s.1 in
            let b = below_length points x.ikey.seq in
            let w = with_one (stays points deeper last x) x rest t in
            elim (cases_Bool (stays points deeper last x)) [
              | inl a ↦ let n : of_key k (kept_list points deeper last (x ∷ xs)) ≡ 1 + of_key k rest = w ∙ ap (λ (c : Bool). cond c 1 0 + of_key k rest) a in omega (arith, r, b, n)
              | inr a ↦ let n : of_key k (kept_list points deeper last (x ∷ xs)) ≡ 0 + of_key k rest = w ∙ ap (λ (c : Bool). cond c 1 0 + of_key k rest) a in omega (arith, r, b, n)
            ]
        | inr f ↦ let r = few_kept (Some x) xs s.1 in let n = without (stays points deeper last x) x rest f in omega (arith, r, n)
      ]
