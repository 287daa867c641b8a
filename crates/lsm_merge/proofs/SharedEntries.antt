-- Sorted lists share an entry's key and sequence exactly when the merged list has two of them.
use Rattle.std.proofs.Common.{◌≡◌, ℕ, ◌≤◌, Bool, true, false, cond, ◌&&◌, ◌⊎◌, List, [], ◌∷◌, zero, suc, eqb, refl, sym, ap, ◌∙◌, subst, inl, inr, arith}
use Rattle.std.specs.declared.cmp.Ordering.{Ordering}
use Rattle.std.specs.declared.cmp.Ordering.TheVariants.{Less, Equal, Greater}
use Rattle.std.specs.List.{sum_by}
use Rattle.std.specs.List.Sorted.{IsPermutation}
use Rattle.std.specs.Ordering.{nat_cmp, is_lt, ordering_then, ordering_reverse}
use Rattle.std.specs.Cmp.Lexicographic.{slice_cmp}
use Rattle.std.proofs.lemmas.Bool.{true≢false, cases_Bool, and_parts, and_from, eqb-true, eq-eqb}
use Rattle.std.proofs.lemmas.List.Sorted.{sum_by-IsPermutation}
use Rattle.std.proofs.lemmas.List.Sums.{sum_by-cons, sum_by-append}
use Rattle.lsm_key.specs.declared.entry.Entry.{Entry}
use Rattle.lsm_key.specs.Order.{Precedes, precedes, place_cmp, IsAscending, IsInOrder}
use Rattle.lsm_key.specs.Places.{all_entries}
use Rattle.lsm_key.specs.Sets.{IsIn}
use Rattle.lsm_key.specs.Visible.{has_key}
use Rattle.lsm_key.proofs.AscendingEntries.{Falls, ascending_falls, first_in_order, rest_in_order}
use Rattle.lsm_key.proofs.EntryOrder.{pair_total, keys_equal, newer_first, place_equal}
use Rattle.lsm_key.proofs.LatestOfList.{has_key-is, has_key-at}
use Rattle.lsm_merge.specs.Inputs.{HaveSameEntry}
use Rattle.lsm_merge.proofs.KeptInOnePass.{precedes-trans}

-- the entry has the key and the sequence
abbrev pub is_at : List ℕ → ℕ → Entry → Bool
is_at k s e = has_key k e && eqb e.ikey.seq s

abbrev pub one_at : List ℕ → ℕ → Entry → ℕ
one_at k s e = cond (is_at k s e) 1 0

-- how many do
abbrev pub count_at : List ℕ → ℕ → List Entry → ℕ
count_at k s es = sum_by (one_at k s) es

pub at_from : (k : List ℕ) (s : ℕ) (e : Entry) → e.ikey.key ≡ k → e.ikey.seq ≡ s → is_at k s e ≡ true
at_from k s e a b = and_from (has_key k e) (eqb e.ikey.seq s) (has_key-at k e a) (eq-eqb e.ikey.seq s b)

pub at_is : (k : List ℕ) (s : ℕ) (e : Entry) → is_at k s e ≡ true → (e.ikey.key ≡ k) × (e.ikey.seq ≡ s)
at_is k s e h = let p = and_parts (has_key k e) (eqb e.ikey.seq s) h in (has_key-is k e p.0, eqb-true e.ikey.seq s p.1)

module _ (k : List ℕ) (s : ℕ) where
  one_is : (x : Entry) → is_at k s x ≡ true → one_at k s x ≡ 1
  one_is x h = ap (λ (b : Bool). cond b 1 0) h

  one_is_not : (x : Entry) → is_at k s x ≡ false → one_at k s x ≡ 0
  one_is_not x h = ap (λ (b : Bool). cond b 1 0) h

  pub counted : (es : List Entry) (e : Entry) → IsIn e es → is_at k s e ≡ true → 1 ≤ count_at k s es
  counted [] e m h = absurd m
  counted (x ∷ es) e m h =
      let all = sum_by-cons (one_at k s) x es in
      elim m [
        | inl same ↦ let o : one_at k s x ≡ 1 = one_is x (ap (is_at k s) (sym same) ∙ h) in omega (arith, all, o)
        | inr later ↦ let r = counted es e later h in omega (arith, all, r)
      ]

  pub found : (es : List Entry) → 1 ≤ count_at k s es → (e : Entry) × IsIn e es × (is_at k s e ≡ true)
  found [] some = absurd (omega (arith, some))
  found (x ∷ es) some = elim (cases_Bool (is_at k s x)) [
    | inl t ↦ (x, inl refl, t)
    | inr f ↦ let all = sum_by-cons (one_at k s) x es in let o = one_is_not x f in let r = found es (omega (arith, all, o, some)) in (r.0, inr r.1, r.2)
  ]

  -- of entries in order at most one has it
  pub once : (es : List Entry) → Falls es → count_at k s es ≤ 1
  once [] falls = omega arith
  once (x ∷ es) falls =
      let all = sum_by-cons (one_at k s) x es in
      let rest = once es falls.1 in
      elim (cases_Bool (is_at k s x)) [
        | inl t ↦
            let own = at_is k s x t in
            let o = one_is x t in
            elim (cases_more (count_at k s es)) [
              | inl none ↦ omega (arith, all, o, none)
              | inr some ↦
                  let f = found es some in
                  let at = at_is k s f.0 f.2 in
                  let lt = newer_first x f.0 (falls.0 f.0 f.1) (own.0 ∙ sym at.0) in
                  absurd (omega (arith, lt, own.1, at.1))
            ]
        | inr f ↦ let o = one_is_not x f in omega (arith, all, o, rest)
      ]
    where
      cases_more : (n : ℕ) → (n ≡ 0) ⊎ (1 ≤ n)
      cases_more zero = inl refl
      cases_more (suc n) = inr (omega arith)

-- ---- lists that share an entry

pub twice : (lists : List (List Entry)) → HaveSameEntry lists → (k : List ℕ) × (s : ℕ) × (2 ≤ count_at k s (all_entries lists))
twice [] h = absurd h
twice (es ∷ later) h = elim h [
  | inl shared ↦
      let e : Entry = shared.0 in
      let f : Entry = shared.1 in
      let k : List ℕ = f.ikey.key in
      let s : ℕ = f.ikey.seq in
      let a = counted k s es e shared.2 (at_from k s e shared.4 shared.5) in
      let b = counted k s (all_entries later) f shared.3 (at_from k s f refl refl) in
      (k, s, omega (arith, a, b, sum_by-append (one_at k s) es (all_entries later)))
  | inr more ↦
      let r = twice later more in
      (r.0, r.1, omega (arith, r.2, sum_by-append (one_at r.0 r.1) es (all_entries later)))
]

abbrev pub AllFall : List (List Entry) → Type 0
AllFall [] = Unit {0}
AllFall (es ∷ later) = Falls es × AllFall later

pub shared : (lists : List (List Entry)) → AllFall lists → (k : List ℕ) (s : ℕ) → 2 ≤ count_at k s (all_entries lists) → HaveSameEntry lists
shared [] falls k s more = absurd (omega (arith, more))
shared (es ∷ later) falls k s more =
    let all = sum_by-append (one_at k s) es (all_entries later) in
    let few = once k s es falls.0 in
    elim (cases_some (count_at k s es)) [
      | inl none ↦ inr (shared later falls.1 k s (omega (arith, all, none, more)))
      | inr some ↦
          let e = found k s es some in
          let f = found k s (all_entries later) (omega (arith, all, few, more)) in
          let a = at_is k s e.0 e.2 in
          let b = at_is k s f.0 f.2 in
          inl (e.0, f.0, e.1, f.1, a.0 ∙ sym b.0, a.1 ∙ sym b.1)
    ]
  where
    cases_some : (n : ℕ) → (n ≡ 0) ⊎ (1 ≤ n)
    cases_some zero = inl refl
    cases_some (suc n) = inr (omega arith)

-- ---- entries in order, in which one may stand twice

neither : (o r : Ordering) → o ≡ ordering_reverse r → is_lt o ≡ false → is_lt r ≡ false → o ≡ Equal
neither Less r e a b = absurd (true≢false a)
neither Equal r e a b = refl
neither Greater Less e a b = absurd (true≢false b)
neither Greater Equal e a b = absurd cc
neither Greater Greater e a b = absurd cc

first_tied : (o r : Ordering) → ordering_then o r ≡ Equal → o ≡ Equal
first_tied Less r e = absurd cc
first_tied Equal r e = refl
first_tied Greater r e = absurd cc

-- two entries of which neither stands before the other have one key and sequence
tied : (x y : Entry) → precedes x y ≡ false → precedes y x ≡ false → (x.ikey.key ≡ y.ikey.key) × (x.ikey.seq ≡ y.ikey.seq)
tied x y a b =
    let e : place_cmp x.ikey.key x.ikey.seq y.ikey.key y.ikey.seq ≡ Equal =
    neither (place_cmp x.ikey.key x.ikey.seq y.ikey.key y.ikey.seq) (place_cmp y.ikey.key y.ikey.seq x.ikey.key x.ikey.seq) (pair_total.antisymm (x.ikey.key, x.ikey.seq) (y.ikey.key, y.ikey.seq)) a b in
    (keys_equal x.ikey.key y.ikey.key (first_tied (slice_cmp nat_cmp x.ikey.key y.ikey.key) (nat_cmp y.ikey.seq x.ikey.seq) e), place_equal x.ikey.key x.ikey.seq y.ikey.key y.ikey.seq e)

-- entries in order stand each before all that follow, or one stands there twice
abbrev Stands : List Entry → Type 0
Stands es = Falls es ⊎ ((k : List ℕ) × (s : ℕ) × (2 ≤ count_at k s es))

pub falls_or_twice : (es : List Entry) → IsInOrder es → Stands es
falls_or_twice [] order = inl tt
falls_or_twice (x ∷ []) order = inl (λ y m. absurd m, tt)
falls_or_twice (x ∷ y ∷ es) order = elim (falls_or_twice (y ∷ es) (rest_in_order x (y ∷ es) order)) [
  | inr r ↦ inr (r.0, r.1, omega (arith, r.2, sum_by-cons (one_at r.0 r.1) x (y ∷ es)))
  | inl falls ↦ by falls (cases_Bool (precedes x y))
]
  where
    by : Falls (y ∷ es) → (precedes x y ≡ true) ⊎ (precedes x y ≡ false) → Stands (x ∷ y ∷ es)
    by falls (inl before) = inl (λ z m. elim m [ inl e ↦ subst (Precedes x) (sym e) before | inr n ↦ precedes-trans x y z before (falls.0 z n) ], falls)
    by falls (inr not_before) =
        let k : List ℕ = y.ikey.key in
        let s : ℕ = y.ikey.seq in
        let same = tied x y not_before (first_in_order x (y ∷ es) order y (inl refl)) in
        let a : one_at k s x ≡ 1 = one_is k s x (at_from k s x same.0 same.1) in
        let b = counted k s (y ∷ es) y (inl refl) (at_from k s y refl refl) in
        inr (k, s, omega (arith, a, b, sum_by-cons (one_at k s) x (y ∷ es)))

-- ---- the merged list against the lists

module _ (lists : List (List Entry)) (merged : List Entry) (perm : IsPermutation (all_entries lists) merged) where
  pub apart : IsAscending merged → HaveSameEntry lists → ⊥
  apart up h =
      let t = twice lists h in
      let o = once t.0 t.1 merged (ascending_falls merged up) in
      let same = sum_by-IsPermutation (one_at t.0 t.1) (all_entries lists) merged perm in
      omega (arith, t.2, o, same)
