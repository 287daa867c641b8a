-- A search for a closure ends: each round takes in a file that was outside.
use Rattle.std.proofs.Common.{◌≡◌, ℕ, ◌+◌, ◌<◌, ◌≤◌, Bool, true, false, not, cond, ◌&&◌, List, [], ◌∷◌, inl, inr, refl, sym, ap, ◌∙◌, subst, arith, length}
use Rattle.std.specs.List.{filter}
use Rattle.std.proofs.lemmas.Bool.{true≢false}
use Rattle.lsm_key.specs.Sets.{IsIn}
use Rattle.lsm_key.specs.Order.{key_le}
use Rattle.lsm_key.proofs.KeyRanges.{key_le_antisymm, key_le_refl}
use Rattle.lsm_edit.specs.declared.file.FileMeta.{FileMeta}
use Rattle.lsm_pick.specs.Closure.{Candidate}
use Rattle.lsm_pick.specs.Reach.{IsReach, is_inside}
use Rattle.lsm_pick.proofs.ReachGrows.{inside_from, inside_more}

-- ---- fewer pass a stricter test

module _ {X : Type 0} (p q : X → Bool) where
  fewer_here : (x : X) (n m : ℕ) → (a b : Bool) → (b ≡ true → a ≡ true) → n ≤ m → cond b (n + 1) n ≤ cond a (m + 1) m
  fewer_here x n m true true h le = omega arith
  fewer_here x n m true false h le = omega arith
  fewer_here x n m false true h le = absurd (true≢false (sym (h refl)))
  fewer_here x n m false false h le = le

  by_length : (x : X) (xs : List X) (b : Bool) → length (cond b (x ∷ xs) xs) ≡ cond b (length xs + 1) (length xs)
  by_length x xs true = omega arith
  by_length x xs false = refl

  no_more : (xs : List X) → ((x : X) → IsIn x xs → q x ≡ true → p x ≡ true) → length (filter q xs) ≤ length (filter p xs)
  no_more [] h = omega arith
  no_more (x ∷ xs) h =
      let le = no_more xs (λ y m. h y (inr m)) in
      let here = fewer_here x (length (filter q xs)) (length (filter p xs)) (p x) (q x) (h x (inl refl)) le in
      let one = by_length x (filter q xs) (q x) in
      let other = by_length x (filter p xs) (p x) in
      omega (arith, here, one, other)

  pub fewer : (xs : List X) → ((x : X) → IsIn x xs → q x ≡ true → p x ≡ true) → (y : X) → IsIn y xs → p y ≡ true → q y ≡ false → length (filter q xs) < length (filter p xs)
  fewer [] h y m into out = absurd m
  fewer (x ∷ xs) h y m into out = elim m [
    | inl e ↦
        let le = no_more xs (λ z n. h z (inr n)) in
        let one = by_length x (filter q xs) (q x) ∙ ap (λ (b : Bool). cond b (length (filter q xs) + 1) (length (filter q xs))) (ap q (sym e) ∙ out) in
        let other = by_length x (filter p xs) (p x) ∙ ap (λ (b : Bool). cond b (length (filter p xs) + 1) (length (filter p xs))) (ap p (sym e) ∙ into) in
        omega (arith, le, one, other)
    | inr n ↦
        let less = fewer xs (λ z k. h z (inr k)) y n into out in
        let here = fewer_here x (length (filter q xs) + 1) (length (filter p xs)) (p x) (q x) (h x (inl refl)) (omega (arith, less)) in
        let one = by_length x (filter q xs) (q x) in
        let other = by_length x (filter p xs) (p x) in
        strict (length (filter q xs)) (length (filter p xs)) (q x) (p x) here one other
  ]
    where
      strict : {a b : ℕ} (n m : ℕ) (u v : Bool) → cond u ((n + 1) + 1) (n + 1) ≤ cond v (m + 1) m → a ≡ cond u (n + 1) n → b ≡ cond v (m + 1) m → a < b
      strict n m true v here one other = omega (arith, here, one, other)
      strict n m false v here one other = omega (arith, here, one, other)

-- ---- files outside

abbrev pub outside : List ℕ → List ℕ → List FileMeta → ℕ
outside lo hi files = length (filter (λ f. not (is_inside lo hi f)) files)

not_inside : (lo hi : List ℕ) (f : FileMeta) → is_inside lo hi f ≡ false → not (is_inside lo hi f) ≡ true
not_inside lo hi f e = ap not e

out_low : (lo hi : List ℕ) (f : FileMeta) → key_le lo f.smallest ≡ false → is_inside lo hi f ≡ false
out_low lo hi f e = ap (λ (b : Bool). b && key_le f.largest hi) e

out_high : (lo hi : List ℕ) (f : FileMeta) → key_le f.largest hi ≡ false → is_inside lo hi f ≡ false
out_high lo hi f e = by (key_le lo f.smallest)
  where
    by : (b : Bool) → (b && key_le f.largest hi) ≡ false
    by true = e
    by false = refl

module _ (files : List FileMeta) (t : Candidate) (lo hi new_lo new_hi : List ℕ) (r : IsReach files t new_lo new_hi) (low : key_le new_lo lo ≡ true) (high : key_le hi new_hi ≡ true) where
  stays : (f : FileMeta) → IsIn f files → not (is_inside new_lo new_hi f) ≡ true → not (is_inside lo hi f) ≡ true
  stays f m h = by (is_inside lo hi f) refl
    where
      by : (b : Bool) → is_inside lo hi f ≡ b → not b ≡ true
      by false e = refl
      by true e = absurd (true≢false (sym h ∙ ap not (inside_more lo hi new_lo new_hi f low high e)))

  taken_in : (f : FileMeta) → IsIn f files → is_inside new_lo new_hi f ≡ true → is_inside lo hi f ≡ false → outside new_lo new_hi files < outside lo hi files
  taken_in f m now before = fewer (λ g. not (is_inside lo hi g)) (λ g. not (is_inside new_lo new_hi g)) files stays f m (ap not before) (ap not now)

  -- a reach that differs is wider by a file
  pub fewer_outside : ((new_lo ≡ lo) × (new_hi ≡ hi) → ⊥) → outside new_lo new_hi files < outside lo hi files
  fewer_outside differ = by (key_le lo new_lo) (key_le new_hi hi) refl refl
    where
      by : (a b : Bool) → key_le lo new_lo ≡ a → key_le new_hi hi ≡ b → outside new_lo new_hi files < outside lo hi files
      by false b e d =
          let f = r.least in
          taken_in f.0 f.1 (inside_from new_lo new_hi f.0 (subst (λ (k : List ℕ). key_le new_lo k ≡ true) (sym f.3) (key_le_refl new_lo)) f.4)
          (out_low lo hi f.0 (subst (λ (k : List ℕ). key_le lo k ≡ false) (sym f.3) e))
      by true false e d =
          let f = r.greatest in
          taken_in f.0 f.1 (inside_from new_lo new_hi f.0 f.4 (subst (λ (k : List ℕ). key_le k new_hi ≡ true) (sym f.3) (key_le_refl new_hi)))
          (out_high lo hi f.0 (subst (λ (k : List ℕ). key_le k hi ≡ false) (sym f.3) d))
      by true true e d = absurd (differ (key_le_antisymm new_lo lo low e, key_le_antisymm new_hi hi d high))
