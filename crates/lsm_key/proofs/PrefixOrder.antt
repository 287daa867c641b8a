-- Keys are in the order of their prefixes.
use Rattle.std.proofs.Common.{Bool, true, false, cond, ◌&&◌, length, take, drop, nat_eq, ◌≡◌, ℕ, zero, suc, ◌+◌, ◌-◌, ◌*◌, ◌^◌, ◌<◌, ◌≤◌, List, [], ◌∷◌, refl, ap, ◌∙◌, add-one, arith}
use Rattle.std.specs.declared.cmp.Ordering.{Ordering}
use Rattle.std.specs.declared.cmp.Ordering.TheVariants.{Less, Equal, Greater}
use Rattle.std.specs.Bool.{nat_lt}
use Rattle.std.specs.Int.{w64, from_be_bytes}
use Rattle.std.specs.Ordering.{nat_cmp, ordering_then, match_ordering, is_lt}
use Rattle.std.specs.Cmp.Lexicographic.{slice_cmp}
use Rattle.std.specs.Str.{bytes_eq}
use Rattle.std.proofs.lemmas.Bool.{ltb-true, eqb-true}
use Rattle.std.proofs.Math.Nat.{pow-suc, one-le-pow}
use Rattle.std.proofs.lemmas.Cmp.{ranked}
use Rattle.std.proofs.lemmas.Nat.{mul-le}
use Rattle.lsm_key.proofs.FieldLaws.{IsBytes}
use Rattle.lsm_key.specs.Prefix.{byte_at, leading, prefix_of}

-- one more digit before those that are below a power
digit_below : (n b rest : ℕ) → b < 256 → rest < 256 ^ n → b * 256 ^ n + rest < 256 ^ suc n
digit_below n b rest small low =
    let rows : (b + 1) * 256 ^ n ≤ 256 * 256 ^ n = mul-le (b + 1) (256 ^ n) 256 (256 ^ n) (omega (arith, small)) (omega arith) in
    omega (arith, rows, low, pow-suc 256 n)

pub leading_below : (n : ℕ) (key : List ℕ) → IsBytes key → leading n key < 256 ^ n
leading_below zero key bytes = omega arith
leading_below (suc n) [] bytes = one-le-pow (suc n) 256 (omega arith)
leading_below (suc n) (b ∷ bs) bytes = digit_below n b (leading n bs) (bytes 0) (leading_below n bs (λ i. bytes (suc i)))

leading_next : (n : ℕ) (key : List ℕ) → leading (suc n) key ≡ leading n key * 256 + byte_at key n
leading_next zero [] = refl
leading_next zero (b ∷ bs) = omega arith
leading_next (suc n) [] = refl
leading_next (suc n) (b ∷ bs) =
    let rest = leading_next n bs in
    let first = ap (λ (p : ℕ). b * p) (pow-suc 256 n) in
    let last : byte_at (b ∷ bs) (suc n) ≡ byte_at bs n = refl in
    omega (arith, rest, first, last)

-- one more byte
pub leading_more : (n : ℕ) (key : List ℕ) → leading (n + 1) key ≡ leading n key * 256 + byte_at key n
leading_more n key = ap (λ (m : ℕ). leading m key) (add-one n) ∙ leading_next n key

-- of a key that has all 8 bytes
pub leading_loaded : (key : List ℕ) → 8 ≤ length key → from_be_bytes w64 (take 8 key) ≡ leading 8 key
leading_loaded [] long = absurd (omega arith)
leading_loaded (a ∷ []) long = absurd (omega arith)
leading_loaded (a ∷ b ∷ []) long = absurd (omega arith)
leading_loaded (a ∷ b ∷ c ∷ []) long = absurd (omega arith)
leading_loaded (a ∷ b ∷ c ∷ d ∷ []) long = absurd (omega arith)
leading_loaded (a ∷ b ∷ c ∷ d ∷ e ∷ []) long = absurd (omega arith)
leading_loaded (a ∷ b ∷ c ∷ d ∷ e ∷ f ∷ []) long = absurd (omega arith)
leading_loaded (a ∷ b ∷ c ∷ d ∷ e ∷ f ∷ g ∷ []) long = absurd (omega arith)
leading_loaded (a ∷ b ∷ c ∷ d ∷ e ∷ f ∷ g ∷ h ∷ rest) long = omega arith

-- of two numbers the one with the smaller first digit is smaller
digits_apart : (p a b r s : ℕ) → b < a → s < p → a * p + r < b * p + s → ⊥
digits_apart p a b r s more low lt =
    let rows : (b + 1) * p ≤ a * p = mul-le (b + 1) p a p (omega (arith, more)) (omega arith) in
    omega (arith, rows, low, lt)

first_before : (n x y : ℕ) (xs ys : List ℕ) (o : Ordering) → o ≡ nat_cmp x y → IsBytes ys → x * 256 ^ n + leading n xs < y * 256 ^ n + leading n ys → (leading n xs < leading n ys → slice_cmp nat_cmp xs ys ≡ Less) → ordering_then o (slice_cmp nat_cmp xs ys) ≡ Less
first_before n x y xs ys Less is v lt rest = refl
first_before n x y xs ys Equal is v lt rest =
    let same : x ≡ y = ranked x y Equal is in
    let own : x * 256 ^ n ≡ y * 256 ^ n = ap (λ (d : ℕ). d * 256 ^ n) same in
    rest (omega (arith, own, lt))
first_before n x y xs ys Greater is v lt rest = absurd (digits_apart (256 ^ n) x y (leading n xs) (leading n ys) (ranked x y Greater is) (leading_below n ys v) lt)

leading_before : (n : ℕ) (a b : List ℕ) → IsBytes b → leading n a < leading n b → slice_cmp nat_cmp a b ≡ Less
leading_before zero a b bytes lt = absurd (omega arith)
leading_before (suc n) [] [] bytes lt = absurd (omega arith)
leading_before (suc n) [] (y ∷ ys) bytes lt = refl
leading_before (suc n) (x ∷ xs) [] bytes lt = absurd (omega arith)
leading_before (suc n) (x ∷ xs) (y ∷ ys) bytes lt =
    first_before n x y xs ys (nat_cmp x y) refl (λ i. bytes (suc i)) lt (leading_before n xs ys (λ i. bytes (suc i)))

below_at : (o : Ordering) (f : ℕ) (fs : List ℕ) (b : ℕ) (bs : List ℕ) → prefix_of fs bs ≤ 2 ^ 64 - 1 → match_ordering o 0 (prefix_of fs bs) (2 ^ 64 - 1) ≤ 2 ^ 64 - 1
below_at Less f fs b bs low = omega arith
below_at Equal f fs b bs low = low
below_at Greater f fs b bs low = omega arith

pub prefix_below : (front key : List ℕ) → IsBytes key → prefix_of front key ≤ 2 ^ 64 - 1
prefix_below [] key bytes = let low = leading_below 8 key bytes in omega (arith, low)
prefix_below (f ∷ fs) [] bytes = omega arith
prefix_below (f ∷ fs) (b ∷ bs) bytes = below_at (nat_cmp b f) f fs b bs (prefix_below fs bs (λ i. bytes (suc i)))

both_at : (f : ℕ) (fs : List ℕ) (x y : ℕ) (xs ys : List ℕ) (o p q : Ordering) → o ≡ nat_cmp x f → p ≡ nat_cmp y f → q ≡ nat_cmp x y → prefix_of fs ys ≤ 2 ^ 64 - 1
    → (prefix_of fs xs < prefix_of fs ys → slice_cmp nat_cmp xs ys ≡ Less)
    → match_ordering o 0 (prefix_of fs xs) (2 ^ 64 - 1) < match_ordering p 0 (prefix_of fs ys) (2 ^ 64 - 1) → ordering_then q (slice_cmp nat_cmp xs ys) ≡ Less
both_at f fs x y xs ys o p Less a b c small rest lt = refl
both_at f fs x y xs ys Less Less Equal a b c small rest lt = absurd (omega arith)
both_at f fs x y xs ys Equal Less Equal a b c small rest lt = absurd (omega arith)
both_at f fs x y xs ys Greater Less Equal a b c small rest lt = absurd (omega arith)
both_at f fs x y xs ys Less Equal Equal a b c small rest lt = let u = ranked x f Less a in let v = ranked y f Equal b in let w = ranked x y Equal c in absurd (omega (arith, u, v, w))
both_at f fs x y xs ys Equal Equal Equal a b c small rest lt = rest lt
both_at f fs x y xs ys Greater Equal Equal a b c small rest lt = absurd (omega (arith, small, lt))
both_at f fs x y xs ys Less Greater Equal a b c small rest lt = let u = ranked x f Less a in let v = ranked y f Greater b in let w = ranked x y Equal c in absurd (omega (arith, u, v, w))
both_at f fs x y xs ys Equal Greater Equal a b c small rest lt = let u = ranked x f Equal a in let v = ranked y f Greater b in let w = ranked x y Equal c in absurd (omega (arith, u, v, w))
both_at f fs x y xs ys Greater Greater Equal a b c small rest lt = absurd (omega arith)
both_at f fs x y xs ys Less Less Greater a b c small rest lt = absurd (omega arith)
both_at f fs x y xs ys Equal Less Greater a b c small rest lt = absurd (omega arith)
both_at f fs x y xs ys Greater Less Greater a b c small rest lt = absurd (omega arith)
both_at f fs x y xs ys Less Equal Greater a b c small rest lt = let u = ranked x f Less a in let v = ranked y f Equal b in let w = ranked x y Greater c in absurd (omega (arith, u, v, w))
both_at f fs x y xs ys Equal Equal Greater a b c small rest lt = let u = ranked x f Equal a in let v = ranked y f Equal b in let w = ranked x y Greater c in absurd (omega (arith, u, v, w))
both_at f fs x y xs ys Greater Equal Greater a b c small rest lt = absurd (omega (arith, small, lt))
both_at f fs x y xs ys Less Greater Greater a b c small rest lt = let u = ranked x f Less a in let v = ranked y f Greater b in let w = ranked x y Greater c in absurd (omega (arith, u, v, w))
both_at f fs x y xs ys Equal Greater Greater a b c small rest lt = let u = ranked x f Equal a in let v = ranked y f Greater b in let w = ranked x y Greater c in absurd (omega (arith, u, v, w))
both_at f fs x y xs ys Greater Greater Greater a b c small rest lt = absurd (omega arith)

pub prefix_before : (front a b : List ℕ) → IsBytes b → prefix_of front a < prefix_of front b → slice_cmp nat_cmp a b ≡ Less
prefix_before [] a b bytes lt = leading_before 8 a b bytes lt
prefix_before (f ∷ fs) [] [] bytes lt = absurd (omega arith)
prefix_before (f ∷ fs) [] (y ∷ ys) bytes lt = refl
prefix_before (f ∷ fs) (x ∷ xs) [] bytes lt = absurd (omega arith)
prefix_before (f ∷ fs) (x ∷ xs) (y ∷ ys) bytes lt =
    both_at f fs x y xs ys (nat_cmp x f) (nat_cmp y f) (nat_cmp x y) refl refl refl (prefix_below fs ys (λ i. bytes (suc i))) (prefix_before fs xs ys (λ i. bytes (suc i))) lt

-- ---- how a prefix is found

module _ (f : ℕ) (fs : List ℕ) (b : ℕ) (bs : List ℕ) where
  starts_at : (lt eq : Bool) → nat_lt b f ≡ lt → nat_eq b f ≡ eq → (eq && bytes_eq (take (length fs) bs) fs) ≡ true → (bytes_eq (take (length fs) bs) fs ≡ true → prefix_of fs bs ≡ leading 8 (drop (length fs) bs))
      → match_ordering (cond lt Less (cond eq Equal Greater)) 0 (prefix_of fs bs) (2 ^ 64 - 1) ≡ leading 8 (drop (length fs) bs)
  starts_at true true less same h rest = let u = ltb-true b f less in let v : b ≡ f = eqb-true b f same in absurd (omega (arith, u, v))
  starts_at false true less same h rest = rest h
  starts_at true false less same h rest = absurd cc
  starts_at false false less same h rest = absurd cc

  before_at : (lt eq : Bool) → (eq && bytes_eq (take (length fs) bs) fs) ≡ false → is_lt (ordering_then (cond lt Less (cond eq Equal Greater)) (slice_cmp nat_cmp bs fs)) ≡ true
      → (bytes_eq (take (length fs) bs) fs ≡ false → is_lt (slice_cmp nat_cmp bs fs) ≡ true → prefix_of fs bs ≡ 0)
      → match_ordering (cond lt Less (cond eq Equal Greater)) 0 (prefix_of fs bs) (2 ^ 64 - 1) ≡ 0
  before_at true eq h less rest = refl
  before_at false true h less rest = rest h less
  before_at false false h less rest = absurd cc

  after_at : (lt eq : Bool) → (eq && bytes_eq (take (length fs) bs) fs) ≡ false → is_lt (ordering_then (cond lt Less (cond eq Equal Greater)) (slice_cmp nat_cmp bs fs)) ≡ false
      → (bytes_eq (take (length fs) bs) fs ≡ false → is_lt (slice_cmp nat_cmp bs fs) ≡ false → prefix_of fs bs ≡ 2 ^ 64 - 1)
      → match_ordering (cond lt Less (cond eq Equal Greater)) 0 (prefix_of fs bs) (2 ^ 64 - 1) ≡ 2 ^ 64 - 1
  after_at true eq h less rest = absurd cc
  after_at false true h less rest = rest h less
  after_at false false h less rest = refl

-- of a key that begins with the front
pub prefix_starts : (front key : List ℕ) → bytes_eq (take (length front) key) front ≡ true → prefix_of front key ≡ leading 8 (drop (length front) key)
prefix_starts [] key h = refl
prefix_starts (f ∷ fs) [] h = absurd cc
prefix_starts (f ∷ fs) (b ∷ bs) h = starts_at f fs b bs (nat_lt b f) (nat_eq b f) refl refl h (prefix_starts fs bs)

-- of one before all these
pub prefix_least : (front key : List ℕ) → bytes_eq (take (length front) key) front ≡ false → is_lt (slice_cmp nat_cmp key front) ≡ true → prefix_of front key ≡ 0
prefix_least [] key h less = absurd cc
prefix_least (f ∷ fs) [] h less = refl
prefix_least (f ∷ fs) (b ∷ bs) h less = before_at f fs b bs (nat_lt b f) (nat_eq b f) h less (prefix_least fs bs)

-- of one after all these
pub prefix_greatest : (front key : List ℕ) → bytes_eq (take (length front) key) front ≡ false → is_lt (slice_cmp nat_cmp key front) ≡ false → prefix_of front key ≡ 2 ^ 64 - 1
prefix_greatest [] key h less = absurd cc
prefix_greatest (f ∷ fs) [] h less = absurd cc
prefix_greatest (f ∷ fs) (b ∷ bs) h less = after_at f fs b bs (nat_lt b f) (nat_eq b f) h less (prefix_greatest fs bs)
