-- What a scan gives is one list.
use Rattle.std.proofs.Common.{◌≡◌, ℕ, suc, ◌-◌, ◌≤◌, ◌<◌, List, [], ◌∷◌, Option, Some, refl, sym, ap, subst, ◌∙◌, inl, inr, ◌⊎◌, arith, length, get_or}
use Rattle.std.specs.List.{AllPairs}
use Rattle.std.specs.Option.{unwrap_or}
use Rattle.lsm_key.specs.declared.op.Op.{Op}
use Rattle.lsm_key.specs.Sets.{IsIn}
use Rattle.lsm_key.specs.Writes.{answer}
use Rattle.lsm_coord.specs.Model.Range.{IsBelow, InHalfOpenRange, IsRange}
use Rattle.lsm_coord.specs.Model.Laws.{ScansAreDetermined}
use Rattle.lsm_coord.proofs.KeyIntervals.{below_asym, below_irreflexive, key_cases}

-- ---- lists of pairs that ascend

abbrev pub Pair : Type 0
Pair = List ℕ × List ℕ

abbrev pub AllAbove : Pair → List Pair → Type 0
AllAbove x xs = (p : Pair) → IsIn p xs → IsBelow x.0 p.0

abbrev AllBelow : List Pair → Pair → Type 0
AllBelow xs p = (x : Pair) → IsIn x xs → IsBelow x.0 p.0

abbrev pub Ascends : List Pair → Type 0
Ascends [] = Unit {0}
Ascends (x ∷ xs) = AllAbove x xs × Ascends xs

place : (xs : List Pair) (p d : Pair) → IsIn p xs → (i : ℕ) × (i < length xs) × (get_or xs i d ≡ p)
place [] p d h = absurd h
place (x ∷ xs) p d h =
    elim h [
      | inl a ↦ (0, omega arith, sym a)
      | inr b ↦ let i = place xs p d b in (suc i.0, omega (arith, i.1), i.2)
    ]

pub ascends : (xs : List Pair) → AllPairs (λ p q. IsBelow p.0 q.0) xs → Ascends xs
ascends [] h = tt
ascends (x ∷ xs) h = (
  (λ p m. let i = place xs p x m in subst (λ (q : Pair). IsBelow x.0 q.0) i.2 (h 0 (suc i.0) x (omega arith) (omega (arith, i.1)))),
  ascends xs (λ i j d a b. h (suc i) (suc j) d (omega arith) (omega arith)),
)

-- the first members of a set of pairs, ascending
record IsFirst (S : Pair → Type 0) (limit : ℕ) (xs : List Pair) : Type 0 where
  few : length xs ≤ limit
  up : Ascends xs
  right : (p : Pair) → IsIn p xs → S p
  whole : (p : Pair) → S p → IsIn p xs ⊎ ((length xs ≡ limit) × AllBelow xs p)

abbrev IsFunctional : (Pair → Type 0) → Type 0
IsFunctional S = (p q : Pair) → S p → S q → p.0 ≡ q.0 → p ≡ q

-- the first of one is not below the first of the other
not_below : (S : Pair → Type 0) (limit : ℕ) (x y : Pair) (xs ys : List Pair) → IsFirst S limit (x ∷ xs) → IsFirst S limit (y ∷ ys) → IsBelow x.0 y.0 → ⊥
not_below S limit x y xs ys f g h =
    elim (g.whole x (f.right x (inl refl))) [
      | inl m ↦ elim m [
        | inl e ↦ below_irreflexive x.0 y.0 (ap (λ (p : Pair). p.0) e) h
        | inr later ↦ below_asym x.0 y.0 h (g.up.0 x later)
      ]
      | inr out ↦ below_asym x.0 y.0 h (out.1 y (inl refl))
    ]

-- the members after the first
rest : (S : Pair → Type 0) (limit : ℕ) (x : Pair) (xs : List Pair) → IsFirst S limit (x ∷ xs) → IsFirst (λ p. S p × IsBelow x.0 p.0) (limit - 1) xs
rest S limit x xs f = record {
  few = let n = f.few in omega arith;
  up = f.up.1;
  right = λ p m. (f.right p (inr m), f.up.0 p m);
  whole = λ p s. elim (f.whole p s.0) [
    | inl m ↦ elim m [
      | inl e ↦ absurd (below_irreflexive x.0 p.0 (ap (λ (q : Pair). q.0) (sym e)) s.1)
      | inr later ↦ inl later
    ]
    | inr out ↦ inr (let n = out.0 in omega arith, λ q m. out.1 q (inr m))
  ];
}

none_left : (S : Pair → Type 0) (limit : ℕ) (y : Pair) (ys : List Pair) → IsFirst S limit [] → IsFirst S limit (y ∷ ys) → ⊥
none_left S limit y ys f g =
    elim (f.whole y (g.right y (inl refl))) [
      | inl m ↦ absurd m
      | inr out ↦ let n = out.0 in let few = g.few in omega arith
    ]

one_first : (S : Pair → Type 0) (limit : ℕ) (xs ys : List Pair) → IsFunctional S → IsFirst S limit xs → IsFirst S limit ys → xs ≡ ys
one_first S limit [] [] one f g = refl
one_first S limit [] (y ∷ ys) one f g = absurd (none_left S limit y ys f g)
one_first S limit (x ∷ xs) [] one f g = absurd (none_left S limit x xs g f)
one_first S limit (x ∷ xs) (y ∷ ys) one f g =
    elim (key_cases x.0 y.0) [
      | inl a ↦ absurd (not_below S limit x y xs ys f g a)
      | inr b ↦ elim b [
        | inr c ↦ absurd (not_below S limit y x ys xs g f c)
        | inl same ↦
            let e : x ≡ y = one x y (f.right x (inl refl)) (g.right y (inl refl)) same in
            let h : IsFirst S limit (x ∷ ys) = subst (λ (z : Pair). IsFirst S limit (z ∷ ys)) (sym e) g in
            ap (λ (z : Pair). z ∷ xs) e ∙ ap (λ (zs : List Pair). y ∷ zs) (one_first (λ p. S p × IsBelow x.0 p.0) (limit - 1) xs ys (λ p q s t k. one p q s.0 t.0 k) (rest S limit x xs f) (rest S limit x ys h))
      ]
    ]

first_of : (writes : List Op) (at : ℕ) (lo hi : List ℕ) (limit : ℕ) (pairs : List Pair) → IsRange (answer writes at) lo hi limit pairs → IsFirst (λ p. InHalfOpenRange lo hi p.0 × (answer writes at p.0 ≡ Some p.1)) limit pairs
first_of writes at lo hi limit pairs h = record { few = h.few; up = ascends pairs h.ascending; right = h.right; whole = λ p s. h.whole p.0 p.1 s.0 s.1 }

pub scans_are_determined : ScansAreDetermined
scans_are_determined writes at lo hi limit xs ys f g =
    one_first (λ p. InHalfOpenRange lo hi p.0 × (answer writes at p.0 ≡ Some p.1)) limit xs ys
    (λ p q s t k.
    let e : p.1 ≡ q.1 = ap (λ (o : Option (List ℕ)). unwrap_or o p.1) (sym s.1 ∙ ap (λ (key : List ℕ). answer writes at key) k ∙ t.1) in
    ap (λ (key : List ℕ). (key, p.1)) k ∙ ap (λ (value : List ℕ). (q.0, value)) e)
    (first_of writes at lo hi limit xs f) (first_of writes at lo hi limit ys g)
