-- Heads that stand from the last in order to the first.
use Rattle.std.proofs.Common.{◌≡◌, ℕ, zero, suc, ◌<◌, ◌≤◌, ◌-◌, Bool, true, false, List, [], ◌∷◌, ◌++◌, Option, Some, None, unwrap_or, take, Bor, option_copied, length, get_or, map, refl, sym, ap, subst, ◌∙◌, inl, inr, ◌⊎◌, arith}
use Rattle.std.specs.List.{AllWithin, insert, slice_get, slice_index_or, slice_set}
use Rattle.std.specs.Prelude.{IfSome}
use Rattle.std.specs.List.Sorted.{IsPartitionedBy, IsPermutation}
use Rattle.std.proofs.lemmas.Bool.{true≢false}
use Rattle.std.proofs.Math.Seq.{get_or-append_seam, take-append_seam}
use Rattle.std.proofs.lemmas.List.{append-nil, append_cancel_left, append_assoc, get_or_append_left, length-append}
use Rattle.std.proofs.lemmas.List.Sorted.{IsPermutation-append_comm, IsPermutation-append_left, IsPermutation-append_right, IsPermutation-cons, IsPermutation-insert, IsPermutation-push_more, IsPermutation-refl, IsPermutation-trans}
use Rattle.lsm_key.specs.declared.entry.Entry.{Entry}
use Rattle.lsm_key.specs.Order.{IsInOrder, precedes}
use Rattle.lsm_key.specs.Sets.{IsIn}
use Rattle.lsm_key.proofs.Membership.{IsIn-append_cases, IsIn-append_left, IsIn-append_right, IsIn-at, IsIn-place}
use Rattle.lsm_key.proofs.WeakOrder.{entries_weak}
use Rattle.lsm_key.specs.Places.{all_entries}
use Rattle.lsm_key.proofs.AscendingEntries.{first_in_order, rest_in_order}
use Rattle.lsm_table.specs.Heads.{AdvancesHeads, AllInOrder, AreTurned, PutInOrder, TakesFirst, first_of, lists_ahead}

module _ {X : Type 0} (f : X → Entry) where
  pub turned_at : (xs : List X) (i j : ℕ) (d : X) → AreTurned f xs → i < j → j < length xs → precedes (f (get_or xs i d)) (f (get_or xs j d)) ≡ false
  turned_at [] i j d up lt within = absurd (omega (arith, within))
  turned_at (x ∷ xs) zero zero d up lt within = absurd (omega (arith, lt))
  turned_at (x ∷ xs) zero (suc j) d up lt within = up.0 (get_or xs j d) (IsIn-at xs j d (omega (arith, within)))
  turned_at (x ∷ xs) (suc i) zero d up lt within = absurd (omega (arith, lt))
  turned_at (x ∷ xs) (suc i) (suc j) d up lt within = turned_at xs i j d up.1 (omega (arith, lt)) (omega (arith, within))

  -- those that an entry comes before stand in front
  pub fronts : (e : Entry) (xs : List X) → AreTurned f xs → IsPartitionedBy (λ x. precedes e (f x)) xs
  fronts e xs up i j d le within h = by (precedes e (f (get_or xs i d))) refl
    where
      either : (i < j) ⊎ (i ≡ j)
      either = cases i j le
        where
          cases : (a b : ℕ) → a ≤ b → (a < b) ⊎ (a ≡ b)
          cases zero zero h2 = inr refl
          cases zero (suc b) h2 = inl (omega arith)
          cases (suc a) zero h2 = absurd (omega (arith, h2))
          cases (suc a) (suc b) h2 = elim (cases a b (omega (arith, h2))) [ inl lt ↦ inl (omega (arith, lt)) | inr same ↦ inr (ap (λ (n : ℕ). suc n) same) ]

      by : (b : Bool) → precedes e (f (get_or xs i d)) ≡ b → precedes e (f (get_or xs i d)) ≡ true
      by true is = is
      by false is = elim either [
        | inl lt ↦ absurd (true≢false (sym h ∙ entries_weak.chain e (f (get_or xs i d)) (f (get_or xs j d)) is (turned_at xs i j d up lt within)))
        | inr same ↦ ap (λ (k : ℕ). precedes e (f (get_or xs k d))) same ∙ h
      ]

  pub in_insert : (xs : List X) (k : ℕ) (y z : X) → IsIn z (insert xs k y) → (z ≡ y) ⊎ IsIn z xs
  in_insert xs zero y z m = elim m [ inl same ↦ inl same | inr later ↦ inr later ]
  in_insert [] (suc k) y z m = elim m [ inl same ↦ inl same | inr none ↦ absurd none ]
  in_insert (x ∷ xs) (suc k) y z m = elim m [
    | inl same ↦ inr (inl same)
    | inr later ↦ elim (in_insert xs k y z later) [ inl own ↦ inl own | inr other ↦ inr (inr other) ]
  ]

  pub turned_insert : (xs : List X) (k : ℕ) (y : X) → k ≤ length xs → AllWithin (λ x. precedes (f y) (f x) ≡ true) xs 0 k → AllWithin (λ x. precedes (f y) (f x) ≡ false) xs k (length xs) → AreTurned f xs → AreTurned f (insert xs k y)
  turned_insert xs zero y le front back up = (λ z m. let at = IsIn-place z xs m in subst (λ (w : X). precedes (f y) (f w) ≡ false) at.2 (back at.0 z (omega arith) at.1), up)
  turned_insert [] (suc k) y le front back up = absurd (omega (arith, le))
  turned_insert (x ∷ xs) (suc k) y le front back up = (
    λ z m. elim (in_insert xs k y z m) [
      | inl same ↦ subst (λ (w : X). precedes (f x) (f w) ≡ false) (sym same) (entries_weak.one_way (f y) (f x) (front 0 x (omega arith) (omega arith)))
      | inr later ↦ up.0 z later
    ],
    turned_insert xs k y (omega (arith, le)) (λ i d low lt. front (suc i) d (omega arith) (omega (arith, lt))) (λ i d low lt. back (suc i) d (omega (arith, low)) (omega (arith, lt))) up.1,
  )

-- ---- the first of several

never_itself : (e : Entry) → precedes e e ≡ false
never_itself e = by (precedes e e) refl
  where
    by : (b : Bool) → precedes e e ≡ b → precedes e e ≡ false
    by false is = is
    by true is = entries_weak.one_way e e is

-- heads of which this is the first
pub first_apart : {X : Type 0} (xs : List X) (h : X) → first_of xs ≡ Some h → (others : List X) × (xs ≡ others ++ h ∷ [])
first_apart [] h is = absurd (none≢some h is)
  where
    none≢some : {A : Type 0} (a : A) → None ≡ Some a → ⊥
    none≢some a e = cc
first_apart {X} (x ∷ []) h is = ([], ap (λ (y : Option X). unwrap_or y x ∷ []) is)
first_apart {X} (x ∷ y ∷ ys) h is = (let t = first_apart (y ∷ ys) h is in (x ∷ t.0, ap (λ (zs : List X). x ∷ zs) t.1))

pub first_last : {X : Type 0} (xs : List X) (h : X) → first_of (xs ++ h ∷ []) ≡ Some h
first_last [] h = refl
first_last (x ∷ []) h = refl
first_last (x ∷ y ∷ ys) h = first_last (y ∷ ys) h

pub first_none : {X : Type 0} (xs : List X) → first_of xs ≡ None → xs ≡ []
first_none [] is = refl
first_none (x ∷ xs) is = absurd (some≢none xs x is)
  where
    never : {A : Type 0} (a : A) → Some a ≡ None → ⊥
    never a e = cc

    some≢none : {A : Type 0} (ys : List A) (y : A) → first_of (y ∷ ys) ≡ None → ⊥
    some≢none [] y e = never y e
    some≢none (z ∷ ys) y e = some≢none ys z e

-- as it is lent, and with another one in its place
pub first_lent : {X : Type 0} (xs : List X) (len : ℕ) (h : X) → len ≡ length xs → 0 < len → h ≡ slice_index_or xs (len - 1) h
    → (others : List X) × (xs ≡ others ++ h ∷ []) × ((next : X) → slice_set xs (len - 1) next ≡ others ++ next ∷ [])
first_lent {X} xs len h is some at =
    let t = apart xs (omega (arith, is, some)) in (
      t.0,
      t.1 ∙ ap (λ (y : X). t.0 ++ y ∷ []) (ap (λ (n : ℕ). slice_index_or xs (n - 1) h) (sym is) ∙ sym at),
      λ next. ap (λ (n : ℕ). slice_set xs (n - 1) next) is ∙ t.2 next,
    )
  where
    apart : (ys : List X) → 0 < length ys → (others : List X) × (ys ≡ others ++ slice_index_or ys (length ys - 1) h ∷ []) × ((next : X) → slice_set ys (length ys - 1) next ≡ others ++ next ∷ [])
    apart [] lt = absurd (omega (arith, lt))
    apart (y ∷ []) lt = ([], refl, λ next. refl)
    apart (y ∷ z ∷ ys) lt =
        let t = apart (z ∷ ys) (omega arith) in
        let same : suc (suc (length ys)) - 1 ≡ suc (suc (length ys) - 1) = omega arith in (
          y ∷ t.0,
          subst (λ (k : ℕ). y ∷ z ∷ ys ≡ (y ∷ t.0) ++ slice_index_or (y ∷ z ∷ ys) k h ∷ []) (sym same) (ap (λ (zs : List X). y ∷ zs) t.1),
          λ next. ap (λ (k : ℕ). slice_set (y ∷ z ∷ ys) k next) same ∙ ap (λ (zs : List X). y ∷ zs) (t.2 next),
        )

-- all but the last one, and that one
pub parts_same : {X : Type 0} (xs ys : List X) (x y : X) → xs ++ x ∷ [] ≡ ys ++ y ∷ [] → (xs ≡ ys) × (x ≡ y)
parts_same {X} xs ys x y is =
    let count : length xs ≡ length ys = omega (arith, length-append xs (x ∷ []), length-append ys (y ∷ []), ap length is) in
    let front : xs ≡ ys = sym (take-append_seam xs (x ∷ [])) ∙ ap (take (length xs)) is ∙ ap (λ (n : ℕ). take n (ys ++ y ∷ [])) count ∙ take-append_seam ys (y ∷ []) in
    (front, one x y (append_cancel_left ys (x ∷ []) (y ∷ []) (ap (λ (zs : List X). zs ++ x ∷ []) (sym front) ∙ is)))
  where
    one : {A : Type 0} (a b : A) → a ∷ [] ≡ b ∷ [] → a ≡ b
    one a b h = cc

-- as a slice gives it
pub first_is : {X : Type 0} (xs : List X) → slice_get xs (length xs - 1) ≡ first_of xs
first_is [] = refl
first_is (x ∷ []) = refl
first_is (x ∷ y ∷ ys) =
    let same : suc (suc (length ys)) - 1 ≡ suc (suc (length ys) - 1) = omega arith in
    ap (λ (k : ℕ). slice_get (x ∷ y ∷ ys) k) same ∙ first_is (y ∷ ys)

pub turned_front : {X : Type 0} (f : X → Entry) (xs : List X) (y : X) → AreTurned f (xs ++ y ∷ []) → AreTurned f xs
turned_front f [] y up = tt
turned_front f (x ∷ xs) y up = (λ z m. up.0 z (IsIn-append_left z xs (y ∷ []) m), turned_front f xs y up.1)

turned_last : {X : Type 0} (f : X → Entry) (xs : List X) (y : X) → AreTurned f (xs ++ y ∷ []) → (z : X) → IsIn z xs → precedes (f z) (f y) ≡ false
turned_last f [] y up z m = absurd m
turned_last {X} f (x ∷ xs) y up z m = elim m [
  | inl same ↦ subst (λ (w : X). precedes (f w) (f y) ≡ false) (sym same) (up.0 y (IsIn-append_right y xs (y ∷ []) (inl refl)))
  | inr later ↦ turned_last f xs y up.1 z later
]

-- the last but one does not come before the last
pub turned_push : {X : Type 0} (f : X → Entry) (xs : List X) (o y : X) → AreTurned f (xs ++ o ∷ []) → precedes (f o) (f y) ≡ false → AreTurned f ((xs ++ o ∷ []) ++ y ∷ [])
turned_push {X} f [] o y up behind = (λ z m. elim m [ inl same ↦ subst (λ (w : X). precedes (f o) (f w) ≡ false) (sym same) behind | inr none ↦ absurd none ], (λ z m. absurd m, tt))
turned_push {X} f (x ∷ xs) o y up behind = (
  λ z m. elim (IsIn-append_cases z (xs ++ o ∷ []) (y ∷ []) m) [
    | inl before ↦ up.0 z before
    | inr own ↦ elim own [
      | inl same ↦ subst (λ (w : X). precedes (f x) (f w) ≡ false) (sym same) (entries_weak.chain (f x) (f o) (f y) (up.0 o (IsIn-append_right o xs (o ∷ []) (inl refl))) behind)
      | inr none ↦ absurd none
    ]
  ],
  turned_push f xs o y up.1 behind,
)

-- the same by index
pub behind_last : {X : Type 0} (f : X → Entry) (all xs : List X) (y a b : X) → all ≡ xs ++ y ∷ [] → AreTurned f xs → 1 < length all → a ≡ slice_index_or all (length all - 2) a → b ≡ slice_index_or all (length all - 1) b → precedes (f a) (f b) ≡ false → AreTurned f all
behind_last {X} f all xs y a b is up many at_a at_b behind =
    let count : length all ≡ suc (length xs) = ap length is ∙ length-append xs (y ∷ []) ∙ (omega arith) in
    let before : length all - 2 ≡ length xs - 1 = omega (arith, count) in
    let last : length all - 1 ≡ length xs = omega (arith, count) in
    let own_b : b ≡ y = at_b ∙ ap (λ (k : ℕ). slice_index_or all k b) last ∙ ap (λ (ys : List X). slice_index_or ys (length xs) b) is ∙ get_or-append_seam xs y [] b in
    let own_a : a ≡ slice_index_or xs (length xs - 1) a = at_a ∙ ap (λ (k : ℕ). slice_index_or all k a) before ∙ ap (λ (ys : List X). slice_index_or ys (length xs - 1) a) is ∙ get_or_append_left xs (y ∷ []) a (length xs - 1) (omega (arith, count, many)) in
    let t = first_lent xs (length xs) a refl (omega (arith, count, many)) own_a in
    let pushed = turned_push f t.0 a y (subst (AreTurned f) t.1 up) (subst (λ (z : X). precedes (f a) (f z) ≡ false) own_b behind) in
    subst (AreTurned f) (sym (is ∙ ap (λ (ys : List X). ys ++ y ∷ []) t.1)) pushed

module _ {X : Type 0} (f : X → Entry) (r : X → List Entry) where
  -- an element's entries
  abbrev pub list_of : X → List Entry
  list_of x = f x ∷ r x

  abbrev pub all_of : List X → List Entry
  all_of xs = all_entries (map list_of xs)

  in_lists : (l : List Entry) (xs : List X) → IsIn l (map list_of xs) → (x : X) × IsIn x xs × (l ≡ list_of x)
  in_lists l [] m = absurd m
  in_lists l (x ∷ xs) m = elim m [ inl same ↦ (x, inl refl, same) | inr later ↦ (let t = in_lists l xs later in (t.0, inr t.1, t.2)) ]

  lists_in : (x : X) (xs : List X) → IsIn x xs → IsIn (list_of x) (map list_of xs)
  lists_in x [] m = absurd m
  lists_in x (y ∷ xs) m = elim m [ inl same ↦ inl (ap list_of same) | inr later ↦ inr (lists_in x xs later) ]

  in_all : (e : Entry) (xs : List X) → IsIn e (all_of xs) → (x : X) × IsIn x xs × IsIn e (list_of x)
  in_all e [] m = absurd m
  in_all e (x ∷ xs) m = elim (IsIn-append_cases e (list_of x) (all_of xs) m) [ inl own ↦ (x, inl refl, own) | inr later ↦ (let t = in_all e xs later in (t.0, inr t.1, t.2)) ]

  all_push : (xs : List X) (y : X) → all_of (xs ++ y ∷ []) ≡ all_of xs ++ list_of y
  all_push [] y = append-nil (list_of y)
  all_push (x ∷ xs) y = ap (λ (es : List Entry). list_of x ++ es) (all_push xs y) ∙ sym (append_assoc (list_of x) (all_of xs) (list_of y))

  insert_all : (xs : List X) (k : ℕ) (y : X) → IsPermutation (list_of y ++ all_of xs) (all_of (insert xs k y))
  insert_all xs zero y = IsPermutation-refl (list_of y ++ all_of xs)
  insert_all [] (suc k) y = IsPermutation-refl (list_of y ++ [])
  insert_all (x ∷ xs) (suc k) y =
      let turned = IsPermutation-append_left (all_of xs) (list_of y ++ list_of x) (list_of x ++ list_of y) (IsPermutation-append_comm (list_of y) (list_of x)) in
      let apart = subst (λ (es : List Entry). IsPermutation es (list_of x ++ (list_of y ++ all_of xs))) (append_assoc (list_of y) (list_of x) (all_of xs)) (subst (IsPermutation ((list_of y ++ list_of x) ++ all_of xs)) (append_assoc (list_of x) (list_of y) (all_of xs)) turned) in
      IsPermutation-trans (list_of y ++ (list_of x ++ all_of xs)) (list_of x ++ (list_of y ++ all_of xs)) (list_of x ++ all_of (insert xs k y)) apart (IsPermutation-append_right (list_of x) (list_of y ++ all_of xs) (all_of (insert xs k y)) (insert_all xs k y))

  takes : (xs : List X) (h : X) (ys : List X) → AreTurned f (xs ++ h ∷ []) → IsPermutation (r h ++ all_of xs) (all_of ys) → ((y : X) → IsIn y ys → IsIn y xs ⊎ (list_of y ≡ r h)) → TakesFirst (map list_of (xs ++ h ∷ [])) (f h) (map list_of ys)
  takes xs h ys up perm from =
      let own : IsIn (list_of h) (map list_of (xs ++ h ∷ [])) = lists_in h (xs ++ h ∷ []) (IsIn-append_right h xs (h ∷ []) (inl refl)) in
      let other : (y : X) → IsIn y xs → IsIn (list_of y) (map list_of (xs ++ h ∷ [])) = λ y m. lists_in y (xs ++ h ∷ []) (IsIn-append_left y xs (h ∷ []) m) in
      record {
        all = subst (λ (es : List Entry). IsPermutation es (f h ∷ all_of ys)) (sym (all_push xs h)) (IsPermutation-trans (all_of xs ++ list_of h) (list_of h ++ all_of xs) (f h ∷ all_of ys) (IsPermutation-append_comm (all_of xs) (list_of h)) (IsPermutation-cons (f h) (r h ++ all_of xs) (all_of ys) perm));
        order = λ old l m. (let t = in_lists l ys m in elim (from t.0 t.1) [
          | inl before ↦ subst IsInOrder (sym t.2) (old (list_of t.0) (other t.0 before))
          | inr rest ↦ subst IsInOrder (sym (t.2 ∙ rest)) (rest_in_order (f h) (r h) (old (list_of h) own))
        ]);
        first = λ old e m. (let t = in_all e ys m in elim (from t.0 t.1) [
          | inl before ↦
              let head = turned_last f xs h up t.0 before in
              elim t.2 [
                | inl same ↦ subst (λ (z : Entry). precedes z (f h) ≡ false) (sym same) head
                | inr later ↦ entries_weak.chain e (f t.0) (f h) (first_in_order (f t.0) (r t.0) (old (list_of t.0) (other t.0 before)) e later) head
              ]
          | inr rest ↦ first_in_order (f h) (r h) (old (list_of h) own) e (subst (IsIn e) rest t.2)
        ]);
      }

  -- the next one of the same list is put back
  pub takes_on : (xs : List X) (h next : X) (k : ℕ) → AreTurned f (xs ++ h ∷ []) → r h ≡ list_of next → TakesFirst (map list_of (xs ++ h ∷ [])) (f h) (map list_of (insert xs k next))
  takes_on xs h next k up is =
      takes xs h (insert xs k next) up (subst (λ (es : List Entry). IsPermutation (es ++ all_of xs) (all_of (insert xs k next))) (sym is) (insert_all xs k next))
      (λ y m. elim (in_insert f xs k next y m) [ inl same ↦ inr (ap list_of same ∙ sym is) | inr later ↦ inl later ])

  -- or there is none
  pub takes_last : (xs : List X) (h : X) → AreTurned f (xs ++ h ∷ []) → r h ≡ [] → TakesFirst (map list_of (xs ++ h ∷ [])) (f h) (map list_of xs)
  takes_last xs h up none = takes xs h xs up (subst (λ (es : List Entry). IsPermutation (es ++ all_of xs) (all_of xs)) (sym none) (IsPermutation-refl (all_of xs))) (λ y m. inl m)

  -- the next one stays the first
  pub takes_same : (xs : List X) (h next : X) → AreTurned f (xs ++ h ∷ []) → r h ≡ list_of next → TakesFirst (map list_of (xs ++ h ∷ [])) (f h) (map list_of (xs ++ next ∷ []))
  takes_same xs h next up is =
      takes xs h (xs ++ next ∷ []) up (subst (λ (es : List Entry). IsPermutation (es ++ all_of xs) (all_of (xs ++ next ∷ []))) (sym is) (subst (IsPermutation (list_of next ++ all_of xs)) (sym (all_push xs next)) (IsPermutation-append_comm (list_of next) (all_of xs))))
      (λ y m. elim (IsIn-append_cases y xs (next ∷ []) m) [ inl before ↦ inl before | inr own ↦ elim own [ inl same ↦ inr (ap list_of same ∙ sym is) | inr none ↦ absurd none ] ])

  -- ---- what a call of `advance` does

  goes : (xs : List X) (h : X) (new all : List X) → all ≡ xs ++ h ∷ [] → ((r h ≡ []) × IsPermutation xs new) ⊎ ((next : X) × (r h ≡ f next ∷ r next) × IsPermutation (next ∷ xs) new) → TakesFirst (map list_of (xs ++ h ∷ [])) (f h) (map list_of new) → AdvancesHeads f r all (first_of all) new
  goes xs h new all is onward taken = subst (λ (hs : List X). AdvancesHeads f r hs (first_of hs) new) (sym is) (subst (λ (o : Option X). AdvancesHeads f r (xs ++ h ∷ []) o new) (sym (first_last xs h)) ((xs, IsPermutation-append_comm xs (h ∷ []), onward), taken))

  pub advances_last : (xs : List X) (h : X) (all : List X) → all ≡ xs ++ h ∷ [] → AreTurned f all → r h ≡ [] → AdvancesHeads f r all (first_of all) xs
  advances_last xs h all is up none = goes xs h xs all is (inl (none, IsPermutation-refl xs)) (takes_last xs h (subst (AreTurned f) is up) none)

  pub advances_same : (xs : List X) (h next : X) (all : List X) → all ≡ xs ++ h ∷ [] → AreTurned f all → r h ≡ list_of next → AdvancesHeads f r all (first_of all) (xs ++ next ∷ [])
  advances_same xs h next all is up on = goes xs h (xs ++ next ∷ []) all is (inr (next, on, IsPermutation-append_comm (next ∷ []) xs)) (takes_same xs h next (subst (AreTurned f) is up) on)

  pub advances_on : (xs : List X) (h next : X) (k : ℕ) (all : List X) → all ≡ xs ++ h ∷ [] → AreTurned f all → r h ≡ list_of next → AdvancesHeads f r all (first_of all) (insert xs k next)
  advances_on xs h next k all is up on = goes xs h (insert xs k next) all is (inr (next, on, IsPermutation-insert xs k next)) (takes_on xs h next k (subst (AreTurned f) is up) on)

  -- no entry that is left comes before that of the last head
  pub last_least : (xs : List X) (h : X) → AreTurned f (xs ++ h ∷ []) → AllInOrder (lists_ahead f r (xs ++ h ∷ [])) → (e : Entry) → IsIn e (all_of (xs ++ h ∷ [])) → precedes e (f h) ≡ false
  last_least xs h up old e m = (let t = in_all e (xs ++ h ∷ []) m in elim (IsIn-append_cases t.0 xs (h ∷ []) t.1) [
    | inl before ↦
        let head = turned_last f xs h up t.0 before in
        elim t.2 [
          | inl same ↦ subst (λ (z : Entry). precedes z (f h) ≡ false) (sym same) head
          | inr later ↦ entries_weak.chain e (f t.0) (f h) (first_in_order (f t.0) (r t.0) (old (list_of t.0) (lists_in t.0 (xs ++ h ∷ []) t.1)) e later) head
        ]
    | inr own ↦ elim own [
      | inl same ↦
          elim (subst (λ (y : X). IsIn e (list_of y)) same t.2) [
            | inl first ↦ subst (λ (z : Entry). precedes z (f h) ≡ false) (sym first) (never_itself (f h))
            | inr later ↦ first_in_order (f h) (r h) (old (list_of h) (lists_in h (xs ++ h ∷ []) (IsIn-append_right h xs (h ∷ []) (inl refl)))) e later
          ]
      | inr none ↦ absurd none
    ]
  ])

  pub least_of : (all : List X) (first : Option (Bor X)) → AreTurned f all → option_copied first ≡ first_of all → IfSome first (λ h. AllInOrder (lists_ahead f r all) → (e : Entry) → IsIn e (all_of all) → precedes e (f h.now) ≡ false)
  least_of all None up is = tt
  least_of all (Some h) up is = (let t = first_apart all h.now (sym is) in
      λ old e m. last_least t.0 h.now (subst (AreTurned f) t.1 up) (subst (λ (hs : List X). AllInOrder (lists_ahead f r hs)) t.1 old) e (subst (λ (hs : List X). IsIn e (all_of hs)) t.1 m))

  -- ---- heads put in order, one by one

  pub none_placed : PutInOrder f r [] []
  none_placed = record { same = IsPermutation-refl []; all = IsPermutation-refl []; order = λ old. old }

  pub one_placed : (yielded placed : List X) (k : ℕ) (h : X) → PutInOrder f r yielded placed → PutInOrder f r (yielded ++ h ∷ []) (insert placed k h)
  one_placed yielded placed k h so_far = record {
    same = IsPermutation-push_more yielded placed (insert placed k h) h so_far.same (IsPermutation-insert placed k h);
    all = subst (λ (es : List Entry). IsPermutation es (all_of (insert placed k h))) (sym (all_push yielded h))
        (IsPermutation-trans (all_of yielded ++ list_of h) (list_of h ++ all_of yielded) (all_of (insert placed k h)) (IsPermutation-append_comm (all_of yielded) (list_of h))
        (IsPermutation-trans (list_of h ++ all_of yielded) (list_of h ++ all_of placed) (all_of (insert placed k h)) (IsPermutation-append_right (list_of h) (all_of yielded) (all_of placed) so_far.all) (insert_all placed k h)));
    order = λ old l m. (let t = in_lists l (insert placed k h) m in
        elim (in_insert f placed k h t.0 t.1) [
          | inl same ↦ subst IsInOrder (ap list_of (sym same) ∙ sym t.2) (old (list_of h) (lists_in h (yielded ++ h ∷ []) (IsIn-append_right h yielded (h ∷ []) (inl refl))))
          | inr before ↦ subst IsInOrder (sym t.2) (so_far.order (λ l2 m2. (let u = in_lists l2 yielded m2 in subst IsInOrder (sym u.2) (old (list_of u.0) (lists_in u.0 (yielded ++ h ∷ []) (IsIn-append_left u.0 yielded (h ∷ []) u.1))))) (list_of t.0) (lists_in t.0 placed before))
        ]);
  }
