-- Retired files by number: how they are inserted and sorted, and how one is found.
use Rattle.std.proofs.Common.{◌≡◌, ℕ, zero, suc, ◌+◌, ◌<◌, ◌≤◌, Bool, true, false, cond, List, [], ◌∷◌, ◌++◌, ◌⊎◌, inl, inr, filter, None, Some, Ok, Err, length, get_or, refl, sym, ap, subst, ◌∙◌, arith, eqb, ltb}
use Rattle.std.specs.Prelude.{sum_by}
use Rattle.std.specs.List.Sorted.{IsBinarySearchResult, IsNonDecreasingBy, IsPermutation, IsSearchInRange}
use Rattle.std.specs.Ordering.{nat_cmp, ordering_index}
use Rattle.std.proofs.lemmas.Bool.{cases_Bool, cases_lt, eq-eqb, eqb-true, eqb-false, ltb-true, ltb-false, ne_eqb}
use Rattle.std.proofs.lemmas.Bool.Decides.{nat_tests}
use Rattle.std.proofs.lemmas.Cmp.{ranked}
use Rattle.std.proofs.lemmas.List.Sorted.{IsPermutation-append_comm, IsPermutation-cons, IsPermutation-middle, IsPermutation-refl, IsPermutation-sym, IsPermutation-trans, sum_by-IsPermutation}
use Rattle.std.proofs.lemmas.List.Sums.{sum_by-cons}
use Rattle.lsm_key.specs.Sets.{IsIn, SameMembers}
use Rattle.lsm_key.proofs.AscendingEntries.{IsIn-filter}
use Rattle.lsm_key.proofs.Membership.{IsIn-append_cases, IsIn-append_left, IsIn-append_right, IsIn-at, SameMembers-permutation}
use Rattle.lsm_versions.specs.declared.retired.Retired.{Retired}
use Rattle.lsm_versions.specs.Retention.{NumbersRise, put_by_number, put_each, retired_at}

-- ---- insertion

put_by : (b : Bool) (r x : Retired) (xs : List Retired) → IsPermutation (r ∷ xs) (put_by_number r xs) → IsPermutation (r ∷ x ∷ xs) (cond b (r ∷ x ∷ xs) (x ∷ put_by_number r xs))
put_by true r x xs h = IsPermutation-refl (r ∷ x ∷ xs)
put_by false r x xs h =
    IsPermutation-trans (r ∷ x ∷ xs) (x ∷ r ∷ xs) (x ∷ put_by_number r xs) (IsPermutation-sym (x ∷ r ∷ xs) (r ∷ x ∷ xs) (IsPermutation-middle (x ∷ []) r xs)) (IsPermutation-cons x (r ∷ xs) (put_by_number r xs) h)

put_moves : (r : Retired) (xs : List Retired) → IsPermutation (r ∷ xs) (put_by_number r xs)
put_moves r [] = IsPermutation-refl (r ∷ [])
put_moves r (x ∷ xs) = put_by (ltb r.number x.number) r x xs (put_moves r xs)

pub each_moves : (rs xs : List Retired) → IsPermutation (rs ++ xs) (put_each rs xs)
each_moves [] xs = IsPermutation-refl xs
each_moves (r ∷ rs) xs = IsPermutation-trans (r ∷ (rs ++ xs)) (r ∷ put_each rs xs) (put_by_number r (put_each rs xs)) (IsPermutation-cons r (rs ++ xs) (put_each rs xs) (each_moves rs xs)) (put_moves r (put_each rs xs))

-- no file of the list has the other's number
abbrev pub IsApart : Retired → List Retired → Type 0
IsApart r xs = (x : Retired) → IsIn x xs → x.number ≡ r.number → ⊥

rise_by : (b : Bool) (r x : Retired) (xs : List Retired) → ltb r.number x.number ≡ b → NumbersRise (x ∷ xs) → IsApart r (x ∷ xs) → NumbersRise (put_by_number r xs) → NumbersRise (cond b (r ∷ x ∷ xs) (x ∷ put_by_number r xs))
rise_by true r x xs e up apart rest = (
  λ y m.
      let first : r.number < x.number = ltb-true r.number x.number e in
      elim m [
        | inl same ↦ subst (λ (z : Retired). r.number < z.number) (sym same) first
        | inr later ↦ let more = up.0 y later in omega (arith, first, more)
      ],
  up,
)
rise_by false r x xs e up apart rest = (
  λ y m. elim ((SameMembers-permutation (r ∷ xs) (put_by_number r xs) (put_moves r xs) y).1 m) [
    | inl same ↦
        let le : x.number ≤ r.number = ltb-false r.number x.number e in
        let less : x.number < r.number = elim (cases_lt x.number r.number) [ inl lt ↦ lt | inr ge ↦ absurd (apart x (inl refl) (omega (arith, le, ge))) ] in
        subst (λ (z : Retired). x.number < z.number) (sym same) less
    | inr there ↦ up.0 y there
  ],
  rest,
)

rise_put : (r : Retired) (xs : List Retired) → NumbersRise xs → IsApart r xs → NumbersRise (put_by_number r xs)
rise_put r [] up apart = (λ y m. absurd m, tt)
rise_put r (x ∷ xs) up apart = rise_by (ltb r.number x.number) r x xs refl up apart (rise_put r xs up.1 (λ y m. apart y (inr m)))

-- no two files of the list have one number
abbrev pub AreApart : List Retired → Type 0
AreApart [] = Unit {0}
AreApart (r ∷ rs) = IsApart r rs × AreApart rs

pub rise_each : (rs xs : List Retired) → NumbersRise xs → AreApart rs → ((r : Retired) → IsIn r rs → IsApart r xs) → NumbersRise (put_each rs xs)
rise_each [] xs up apart others = up
rise_each (r ∷ rs) xs up apart others =
    rise_put r (put_each rs xs) (rise_each rs xs up apart.1 (λ q m. others q (inr m))) (λ y m same. elim (IsIn-append_cases y rs xs ((SameMembers-permutation (rs ++ xs) (put_each rs xs) (each_moves rs xs) y).1 m)) [
      | inl a ↦ apart.0 y a same
      | inr b ↦ others r (inl refl) y b same
    ])

-- what was inserted, and what was there
pub put_new : (rs xs : List Retired) (r : Retired) → IsIn r rs → IsIn r (put_each rs xs)
put_new rs xs r m = (SameMembers-permutation (rs ++ xs) (put_each rs xs) (each_moves rs xs) r).0 (IsIn-append_left r rs xs m)

pub put_old : (rs xs : List Retired) (r : Retired) → IsIn r xs → IsIn r (put_each rs xs)
put_old rs xs r m = (SameMembers-permutation (rs ++ xs) (put_each rs xs) (each_moves rs xs) r).0 (IsIn-append_right r rs xs m)

pub put_cases : (rs xs : List Retired) (r : Retired) → IsIn r (put_each rs xs) → IsIn r xs ⊎ IsIn r rs
put_cases rs xs r m = elim (IsIn-append_cases r rs xs ((SameMembers-permutation (rs ++ xs) (put_each rs xs) (each_moves rs xs) r).1 m)) [ inl new ↦ inr new | inr old ↦ inl old ]

kept_by : (b : Bool) (test : Retired → Bool) (r : Retired) (rs : List Retired) → ((x : Retired) → IsIn x rs → r.number < x.number) → NumbersRise (filter test rs) → NumbersRise (cond b (r ∷ filter test rs) (filter test rs))
kept_by true test r rs first rest = (λ x m. first x (IsIn-filter test x rs m).0, rest)
kept_by false test r rs first rest = rest

pub rising-filter : (test : Retired → Bool) (rs : List Retired) → NumbersRise rs → NumbersRise (filter test rs)
rising-filter test [] up = tt
rising-filter test (r ∷ rs) up = kept_by (test r) test r rs up.0 (rising-filter test rs up.1)

-- ---- a sort

abbrev count : ℕ → List Retired → ℕ
count n xs = sum_by (λ (r : Retired). cond (eqb r.number n) 1 0) xs

one_more : (n : ℕ) (x : Retired) (xs : List Retired) → x.number ≡ n → count n (x ∷ xs) ≡ 1 + count n xs
one_more n x xs same = sum_by-cons (λ (r : Retired). cond (eqb r.number n) 1 0) x xs ∙ ap (λ (b : Bool). cond b 1 0 + count n xs) (eq-eqb x.number n same)

as_many : (n : ℕ) (x : Retired) (xs : List Retired) → (x.number ≡ n → ⊥) → count n (x ∷ xs) ≡ 0 + count n xs
as_many n x xs other = sum_by-cons (λ (r : Retired). cond (eqb r.number n) 1 0) x xs ∙ ap (λ (b : Bool). cond b 1 0 + count n xs) (ne_eqb x.number n other)

none_above : (n : ℕ) (xs : List Retired) → ((x : Retired) → IsIn x xs → n < x.number) → count n xs ≡ 0
none_above n [] h = refl
none_above n (x ∷ xs) h =
    let lt = h x (inl refl) in
    omega (arith, as_many n x xs (λ e. omega (arith, e, lt)), none_above n xs (λ y m. h y (inr m)))

once : (n : ℕ) (xs : List Retired) → NumbersRise xs → count n xs ≤ 1
once n [] up = omega arith
once n (x ∷ xs) up = elim (cases_Bool (eqb x.number n)) [
  | inl t ↦
      let same = eqb-true x.number n t in
      omega (arith, one_more n x xs same, none_above n xs (λ y m. subst (λ (k : ℕ). k < y.number) same (up.0 y m)))
  | inr f ↦ omega (arith, as_many n x xs (eqb-false x.number n f), once n xs up.1)
]

there : (x : Retired) (xs : List Retired) → IsIn x xs → 1 ≤ count x.number xs
there x [] m = absurd m
there x (y ∷ xs) m = elim m [
  | inl same ↦ let one = one_more x.number y xs (ap (λ (r : Retired). r.number) (sym same)) in omega (arith, one)
  | inr later ↦ let rest = there x xs later in elim (cases_Bool (eqb y.number x.number)) [
    | inl t ↦ let one = one_more x.number y xs (eqb-true y.number x.number t) in omega (arith, one)
    | inr f ↦ let none = as_many x.number y xs (eqb-false y.number x.number f) in omega (arith, none, rest)
  ]
]

-- fewer are fewer
at_most : (n : ℕ) (y : Retired) (ys : List Retired) → count n (y ∷ ys) ≤ 1 → count n ys ≤ 1
at_most n y ys h = elim (cases_Bool (eqb y.number n)) [
  | inl t ↦ let one = one_more n y ys (eqb-true y.number n t) in omega (arith, one, h)
  | inr f ↦ let none = as_many n y ys (eqb-false y.number n f) in omega (arith, none, h)
]

place_in : (x : Retired) (xs : List Retired) → IsIn x xs → (i : ℕ) × (i < length xs) × (get_or xs i x ≡ x)
place_in x [] m = absurd m
place_in x (y ∷ xs) m = elim m [
  | inl same ↦ (0, omega arith, sym same)
  | inr later ↦ let at = place_in x xs later in (suc at.0, omega (arith, at.1), at.2)
]

rise_from : (ys : List Retired) → IsNonDecreasingBy (λ r. r.number) ys → ((n : ℕ) → count n ys ≤ 1) → NumbersRise ys
rise_from [] up few = tt
rise_from (y ∷ ys) up few = (
  λ z m.
      let at = place_in z ys m in
      let le : y.number ≤ (get_or ys at.0 z).number = up 0 (suc at.0) z (omega arith) (omega (arith, at.1)) in
      let same = ap (λ (r : Retired). r.number) at.2 in
      elim (cases_lt y.number z.number) [
        | inl lt ↦ lt
        | inr ge ↦
            let equal : y.number ≡ z.number = omega (arith, le, same, ge) in
            let one = one_more y.number y ys refl in
            let other = subst (λ (n : ℕ). 1 ≤ count n ys) (sym equal) (there z ys m) in
            let most = few y.number in
            absurd (omega (arith, one, other, most))
      ],
  rise_from ys (λ i j d le lt. up (suc i) (suc j) d (omega (arith, le)) (omega (arith, lt))) (λ n. at_most n y ys (few n)),
)

same_by : (x : Retired) (xs : List Retired) (z y : Retired) (ys : List Retired) → x ≡ y → NumbersRise (x ∷ xs) → (IsIn z (x ∷ xs) → IsIn z (y ∷ ys)) → IsIn z xs → IsIn z ys
same_by x xs z y ys same up to m = elim (to (inr m)) [
  | inl first ↦ let lt = up.0 z m in let equal = ap (λ (r : Retired). r.number) (first ∙ sym same) in absurd (omega (arith, lt, equal))
  | inr later ↦ later
]

-- lists that rise are one if their members are
rising_same : (xs ys : List Retired) → NumbersRise xs → NumbersRise ys → SameMembers xs ys → xs ≡ ys
rising_same [] [] a b h = refl
rising_same [] (y ∷ ys) a b h = absurd ((h y).1 (inl refl))
rising_same (x ∷ xs) [] a b h = absurd ((h x).0 (inl refl))
rising_same (x ∷ xs) (y ∷ ys) a b h =
    let first : x ≡ y = elim ((h x).0 (inl refl)) [
      | inl same ↦ same
      | inr later ↦ elim ((h y).1 (inl refl)) [
        | inl same ↦ sym same
        | inr after ↦ let less = b.0 x later in let more = a.0 y after in absurd (omega (arith, less, more))
      ]
    ] in
    let rest = rising_same xs ys a.1 b.1 (λ z. (same_by x xs z y ys first a (h z).0, same_by y ys z x xs (sym first) b (h z).1)) in
    λ i. first i ∷ rest i

-- files in the order of their numbers are those that were inserted
pub sorted_is : (rs xs ys : List Retired) → IsPermutation (xs ++ rs) ys → IsNonDecreasingBy (λ r. r.number) ys → NumbersRise (put_each rs xs) → ys ≡ put_each rs xs
sorted_is rs xs ys moved up rising =
    let all : IsPermutation ys (put_each rs xs) = IsPermutation-trans ys (xs ++ rs) (put_each rs xs) (IsPermutation-sym (xs ++ rs) ys moved) (IsPermutation-trans (xs ++ rs) (rs ++ xs) (put_each rs xs) (IsPermutation-append_comm xs rs) (each_moves rs xs)) in
    rising_same ys (put_each rs xs)
    (rise_from ys up (λ n. let same = sum_by-IsPermutation (λ (r : Retired). cond (eqb r.number n) 1 0) ys (put_each rs xs) all in let few = once n (put_each rs xs) rising in omega (arith, same, few)))
    rising (SameMembers-permutation ys (put_each rs xs) all)

-- ---- a search

found_at : (xs : List Retired) (n i : ℕ) (d : Retired) → NumbersRise xs → i < length xs → (get_or xs i d).number ≡ n → retired_at xs n ≡ Some (get_or xs i d).bytes
found_at [] n i d up lt is = absurd (omega (arith, lt))
found_at (x ∷ xs) n zero d up lt is = ap (λ (b : Bool). cond b (Some x.bytes) (retired_at xs n)) (eq-eqb x.number n is)
found_at (x ∷ xs) n (suc i) d up lt is =
    let less = up.0 (get_or xs i d) (IsIn-at xs i d (omega (arith, lt))) in
    ap (λ (b : Bool). cond b (Some x.bytes) (retired_at xs n)) (ne_eqb x.number n (λ e. omega (arith, e, less, is)))
    ∙ found_at xs n i d up.1 (omega (arith, lt)) is

absent : (xs : List Retired) (n : ℕ) → ((k : ℕ) (d : Retired) → k < length xs → (get_or xs k d).number ≡ n → ⊥) → retired_at xs n ≡ None
absent [] n none = refl
absent (x ∷ xs) n none =
    ap (λ (b : Bool). cond b (Some x.bytes) (retired_at xs n)) (ne_eqb x.number n (none 0 x (omega arith)))
    ∙ absent xs n (λ k d lt. none (suc k) d (omega (arith, lt)))

rises : (xs : List Retired) → NumbersRise xs → IsNonDecreasingBy (λ r. r.number) xs
rises [] up i j d le lt = absurd (omega (arith, lt))
rises (x ∷ xs) up zero zero d le lt = omega arith
rises (x ∷ xs) up zero (suc j) d le lt = (let more = up.0 (get_or xs j d) (IsIn-at xs j d (omega (arith, lt))) in omega (arith, more))
rises (x ∷ xs) up (suc i) zero d le lt = absurd (omega (arith, le))
rises (x ∷ xs) up (suc i) (suc j) d le lt = rises xs up.1 i j d (omega (arith, le)) (omega (arith, lt))

module _ (xs : List Retired) (n : ℕ) (up : NumbersRise xs) where
  comparisons_rise : IsNonDecreasingBy (λ (r : Retired). ordering_index (nat_cmp r.number n)) xs
  comparisons_rise i j d le lt = (let more = rises xs up i j d le lt in grind (arith, nat_tests))

  pub search_found : (i : ℕ) (d : Retired) → IsSearchInRange (Ok i) (length xs) → IsBinarySearchResult (λ (r : Retired). nat_cmp r.number n) xs (Ok i) → retired_at xs n ≡ Some (get_or xs i d).bytes
  search_found i d within equal = found_at xs n i d up within (ranked (get_or xs i d).number n _ (sym (equal d)))

  pub search_missed : (i : ℕ) → IsSearchInRange (Err i) (length xs) → IsBinarySearchResult (λ (r : Retired). nat_cmp r.number n) xs (Err i) → retired_at xs n ≡ None
  search_missed i within parted =
      let halves = parted comparisons_rise in
      absent xs n (λ k d lt same. elim (cases_lt k i) [
        | inl before ↦ let less : (get_or xs k d).number < n = ranked (get_or xs k d).number n _ (sym (halves.0 k d (omega arith) before)) in omega (arith, less, same)
        | inr after ↦ let more : n < (get_or xs k d).number = ranked (get_or xs k d).number n _ (sym (halves.1 k d after lt)) in omega (arith, more, same)
      ])
