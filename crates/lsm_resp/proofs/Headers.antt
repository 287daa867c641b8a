-- Where the digits of a header end.
use Rattle.std.proofs.Common.{◌≡◌, ℕ, ◌+◌, ◌≤◌, ◌<◌, ◌^◌, ◌%◌, List, [], ◌∷◌, ◌++◌, length, take, drop, get_or, inr, sym, ap, ◌∙◌, arith, subst, length-append}
use Prim.Native.Nat.{zero, suc}
use Rattle.std.proofs.Math.Seq.{get_or-append_seam}
use Rattle.std.proofs.lemmas.Grind.{common_steps}
use Rattle.std.proofs.lemmas.List.{append_cancel_right, get_or_append_left, get_or-append-add}
use Rattle.std.proofs.Math.Nat.{lt_of_not-le}
use Rattle.std.proofs.lemmas.Fmt.{decimal_by_steps, length-decimal-le}
use Rattle.std.specs.Fmt.{decimal}
use Rattle.lsm_resp.specs.Outcomes.{IsNoLength, bytes_before}
use Rattle.lsm_resp.specs.Requests.{IsAhead}
use Rattle.lsm_resp.specs.Wire.{header_bytes}
use Rattle.lsm_resp.proofs.Ahead.{ahead_rest, ahead_front, ahead_take, ahead_at}

-- no digit is below 48
abbrev AreDigits : List ℕ → Type 0
AreDigits ds = (j : ℕ) → j < length ds → 48 ≤ get_or ds j 0

one_digit : (n : ℕ) → n < 10 → AreDigits ((48 + n) ∷ [])
one_digit n small zero h = omega arith
one_digit n small (suc j) h = absurd (omega arith)

more_digits : (n : ℕ) (ds : List ℕ) → AreDigits ds → AreDigits (ds ++ ((48 + n % 10) ∷ []))
more_digits n [] all zero h = omega arith
more_digits n [] all (suc j) h = absurd (omega arith)
more_digits n (d ∷ ds) all zero h = all 0 (omega arith)
more_digits n (d ∷ ds) all (suc j) h = more_digits n ds (λ k lt. all (suc k) (omega arith)) j (omega arith)

decimal_digits : (n : ℕ) → n < 2 ^ 64 → AreDigits (decimal n)
decimal_digits = decimal_by_steps (λ n ds. AreDigits ds) one_digit (λ n ds large all. more_digits n ds all)

-- Digits and their line end, ahead of an input whose first carriage return is at an index.
module _ (ds input : List ℕ) (at : ℕ) (digits : AreDigits ds) (ahead : IsAhead (ds ++ 13 ∷ 10 ∷ []) input)
    (within : at ≤ length input) (before : (k : ℕ) → k < at → get_or input k 0 ≡ 13 → ⊥) (found : at < length input → get_or input at 0 ≡ 13) where
  not_behind : length ds < at → ⊥
  not_behind lt =
      let sum = length-append ds (13 ∷ 10 ∷ []) in
      before (length ds) lt (ahead_at (ds ++ 13 ∷ 10 ∷ []) input (length ds) ahead (omega arith) (omega arith) ∙ get_or-append_seam ds 13 (10 ∷ []) 0)

  not_before : at < length input → at < length ds → ⊥
  not_before come lt =
      let sum = length-append ds (13 ∷ 10 ∷ []) in
      let is = sym (ahead_at (ds ++ 13 ∷ 10 ∷ []) input at ahead (omega arith) come) ∙ found come in
      omega (arith, is, digits at lt, get_or_append_left ds (13 ∷ 10 ∷ []) 0 at lt)

  at_most : at ≤ length ds
  at_most = let lt : at < length ds + 1 = lt_of_not-le {n = length ds + 1} {m = at} (λ h. not_behind (omega arith)) in omega arith

  is_end : at < length input → at ≡ length ds
  is_end come =
      let most = at_most in
      let lt : length ds < at + 1 = lt_of_not-le {n = at + 1} {m = length ds} (λ h. not_before come (omega arith)) in
      omega arith

-- A header, ahead of an input that has come as far as its first byte.
module _ (mark n first at : ℕ) (input rest : List ℕ) (small : n < 2 ^ 64) (ahead : IsAhead (header_bytes mark n) input) (is : input ≡ first ∷ rest)
    (within : at ≤ length rest) (before : (k : ℕ) → k < at → get_or rest k 0 ≡ 13 → ⊥) (found : at < length rest → get_or rest at 0 ≡ 13) where
  digits_ahead : IsAhead (decimal n ++ 13 ∷ 10 ∷ []) rest
  unfolding header_bytes
  digits_ahead = ahead_rest (mark ∷ []) (decimal n ++ 13 ∷ 10 ∷ []) (first ∷ rest) (subst (λ (xs : List ℕ). IsAhead (mark ∷ (decimal n ++ 13 ∷ 10 ∷ [])) xs) is ahead) (omega arith)

  most : at ≤ length (decimal n)
  most = at_most (decimal n) rest at (decimal_digits n small) digits_ahead within before found

  pub too_far : 32 ≤ at → ⊥
  too_far far = omega (arith, most, length-decimal-le 20 n (omega arith) (omega arith) small)

  pub not_come : length rest < at + 2 → length input < length (header_bytes mark n)
  unfolding header_bytes
  not_come few =
      let len = ap (λ (xs : List ℕ). length xs) is in
      let sum = length-append (decimal n) (13 ∷ 10 ∷ []) in
      let below = most in
      omega arith

  pub end_is : at + 2 ≤ length rest → at ≡ length (decimal n)
  end_is come = is_end (decimal n) rest at (decimal_digits n small) digits_ahead within before found (omega arith)

  pub line_feed : at + 2 ≤ length rest → get_or rest (at + 1) 0 ≡ 10
  line_feed come =
      let e = end_is come in
      let sum = length-append (decimal n) (13 ∷ 10 ∷ []) in
      ap (λ (i : ℕ). get_or rest (i + 1) 0) e
      ∙ ahead_at (decimal n ++ 13 ∷ 10 ∷ []) rest (length (decimal n) + 1) digits_ahead (omega arith) (omega arith)
      ∙ get_or-append-add (decimal n) (13 ∷ 10 ∷ []) 1 0

  pub digits_are : at + 2 ≤ length rest → take at rest ≡ decimal n
  digits_are come =
      let e = end_is come in
      ap (λ (i : ℕ). take i rest) e ∙ ahead_take (decimal n) rest (ahead_front (decimal n) (13 ∷ 10 ∷ []) rest digits_ahead) (omega arith)

  pub len_is : at + 2 ≤ length rest → at + 3 ≡ length (header_bytes mark n)
  unfolding header_bytes
  len_is come =
      let e = end_is come in
      let sum = length-append (decimal n) (13 ∷ 10 ∷ []) in
      omega arith

-- nothing of a header has come
pub none_come : (mark n : ℕ) (input : List ℕ) → length input ≡ 0 → length input < length (header_bytes mark n)
unfolding header_bytes
none_come mark n input none = omega arith

-- ---- the other way round: what a line is, once it has come with the byte behind its end

pub line_is : (rest : List ℕ) (at : ℕ) → at + 2 ≤ length rest → get_or rest at 0 ≡ 13 → get_or rest (at + 1) 0 ≡ 10 → take (at + 2) rest ≡ take at rest ++ 13 ∷ 10 ∷ []
line_is rest at come first second = grind (arith, common_steps)

pub is_number : (mark n first at : ℕ) (input rest : List ℕ) → input ≡ first ∷ rest → at + 2 ≤ length rest → get_or rest at 0 ≡ 13 → get_or rest (at + 1) 0 ≡ 10 → take at rest ≡ decimal n → take (at + 3) input ≡ header_bytes (get_or input 0 0) n
unfolding header_bytes
is_number mark n first at input rest is come here next digits =
    let three : at + 3 ≡ suc (at + 2) = omega arith in
    rw (is, three) (ap (λ (xs : List ℕ). first ∷ xs) (line_is rest at come here next ∙ ap (λ (xs : List ℕ). xs ++ 13 ∷ 10 ∷ []) digits))

pub is_no_length : (first at : ℕ) (input rest : List ℕ) → input ≡ first ∷ rest → at ≡ bytes_before 13 rest → at + 2 ≤ length rest → get_or rest at 0 ≡ 13 → get_or rest (at + 1) 0 ≡ 10 → ((n : ℕ) → n < 2 ^ 64 → take at rest ≡ decimal n → ⊥) → IsNoLength (drop 1 input)
is_no_length first at input rest is e come here next none =
    rw (is, ← e) (inr (come, λ n small spelled. none n small (append_cancel_right (take at rest) (decimal n) (13 ∷ 10 ∷ []) (sym (line_is rest at come here next) ∙ spelled))))
