-- A beginning of a frame is torn.
use Rattle.std.proofs.Common.{◌≡◌, ℕ, zero, suc, ◌+◌, ◌-◌, ◌^◌, ◌<◌, ◌≤◌, Bool, true, false, ltb, ◌||◌, List, ◌++◌, length, take, drop, replicate, refl, sym, ap, ◌∙◌, arith, inl, inr}
use Rattle.std.specs.Prelude.{◌==◌}
use Rattle.std.specs.List.{list_all}
use Rattle.std.specs.Int.{w32, w64, to_be_bytes, from_be_bytes}
use Rattle.std.proofs.lemmas.Bool.{cases_lt, eq-eqb}
use Rattle.std.proofs.lemmas.List.{append-nil, length-drop, length-take-le, take_at, drop_at, drop-drop, take-append-le, drop-append-le, take-take, drop-take, drop-replicate}
use Rattle.lsm_key.proofs.FieldLaws.{wide32}
use Rattle.lsm_file_vault.specs.Frames.{checksum, turned, frame, claimed, ends_in_zeros, is_torn}
use Rattle.lsm_file_vault.proofs.FrameReading.{regrouped}

-- the last of three tests
third : (a b c : Bool) → c ≡ true → (a || b || c) ≡ true
third true b c e = refl
third false true c e = refl
third false false c e = e

-- the length that a beginning of a frame claims
pub claim_of_front : (bytes : List ℕ) (k : ℕ) → length bytes < 2 ^ 32 → 4 ≤ k → claimed (take k (frame bytes)) ≡ length bytes
claim_of_front bytes k short enough =
    let len = to_be_bytes w32 (length bytes) in
    let other = to_be_bytes w32 (turned (length bytes)) in
    let more = to_be_bytes w64 (checksum bytes) ++ bytes in
    let layout : frame bytes ≡ len ++ (other ++ more) = regrouped len other (to_be_bytes w64 (checksum bytes)) bytes in
    ap (from_be_bytes w32) (take-take 4 k (frame bytes) enough ∙ ap (take 4) layout ∙ take_at len (other ++ more) 4 refl) ∙ wide32.again (length bytes) short

-- the complement that a beginning of a frame has
complement_of_front : (bytes : List ℕ) (k : ℕ) → length bytes < 2 ^ 32 → 8 ≤ k → from_be_bytes w32 (take 4 (drop 4 (take k (frame bytes)))) ≡ turned (length bytes)
complement_of_front bytes k short enough =
    let n = length bytes in
    let len = to_be_bytes w32 n in
    let other = to_be_bytes w32 (turned n) in
    let more = to_be_bytes w64 (checksum bytes) ++ bytes in
    let layout : frame bytes ≡ len ++ (other ++ more) = regrouped len other (to_be_bytes w64 (checksum bytes)) bytes in
    let apart : 4 + (k - 4) ≡ k = omega (arith, enough) in
    let next : take 4 (drop 4 (take k (frame bytes))) ≡ other =
    ap (λ (m : ℕ). take 4 (drop 4 (take m (frame bytes)))) (sym apart)
    ∙ ap (take 4) (drop-take 4 (k - 4) (frame bytes))
    ∙ take-take 4 (k - 4) (drop 4 (frame bytes)) (omega (arith, enough))
    ∙ ap (λ (l : List ℕ). take 4 (drop 4 l)) layout
    ∙ ap (take 4) (drop_at len (other ++ more) 4 refl)
    ∙ take_at other more 4 refl in
    ap (from_be_bytes w32) next ∙ wide32.again (turned n) (omega (arith, short))

-- zeros are zeros
zeros : (n : ℕ) → list_all (λ b. b == 0) (replicate n 0) ≡ true
zeros zero = refl
zeros (suc n) = zeros n

-- zeros behind a front that ends before so many bytes
zeros_behind : (m : ℕ) (front : List ℕ) (n : ℕ) → length front ≤ m → list_all (λ b. b == 0) (drop m (front ++ replicate n 0)) ≡ true
zeros_behind m front n few =
    let zs : List ℕ = replicate n 0 in
    let k = length front in
    let apart : k + (m - k) ≡ m = omega (arith, few) in
    let rest : drop m (front ++ zs) ≡ replicate (n - (m - k)) 0 =
    ap (λ (i : ℕ). drop i (front ++ zs)) (sym apart)
    ∙ sym (drop-drop (m - k) k (front ++ zs))
    ∙ ap (drop (m - k)) (drop_at front zs k refl)
    ∙ drop-replicate {X = ℕ} (m - k) n 0 in
    ap (list_all (λ b. b == 0)) rest ∙ zeros (n - (m - k))

-- a frame that was cut short behind its lengths has zeros alone behind where it would end
ends : (bytes : List ℕ) (k n : ℕ) → length bytes < 2 ^ 32 → 8 ≤ k → k < length (frame bytes) → ends_in_zeros (take k (frame bytes) ++ replicate n 0) ≡ true
ends bytes k n short enough lt =
    let front = take k (frame bytes) in
    let zs : List ℕ = replicate n 0 in
    let size : length front ≡ k = length-take-le k (frame bytes) (omega (arith, lt)) in
    let claim : claimed (front ++ zs) ≡ length bytes = ap (from_be_bytes w32) (take-append-le 4 front zs (omega (arith, size, enough))) ∙ claim_of_front bytes k short (omega (arith, enough)) in
    let behind : 4 ≤ length (drop 4 front) = omega (arith, length-drop 4 front, size, enough) in
    let next : take 4 (drop 4 (front ++ zs)) ≡ take 4 (drop 4 front) = ap (take 4) (drop-append-le 4 front zs (omega (arith, size, enough))) ∙ take-append-le 4 (drop 4 front) zs behind in
    let complement : from_be_bytes w32 (take 4 (drop 4 (front ++ zs))) ≡ turned (length bytes) = ap (from_be_bytes w32) next ∙ complement_of_front bytes k short enough in
    rw (claim, complement, eq-eqb (turned (length bytes)) (turned (length bytes)) refl, zeros_behind (16 + length bytes) front n (omega (arith, size, lt))) refl

-- the middle one of three tests
second : (a b c : Bool) → b ≡ true → (a || b || c) ≡ true
second true b c e = refl
second false true c e = refl
second false false c e = absurd cc

-- what is left of a frame, with zeros behind it, is torn
pub torn_before_zeros : (bytes : List ℕ) (k n : ℕ) → length bytes < 2 ^ 32 → k < length (frame bytes) → is_torn (take k (frame bytes) ++ replicate n 0) ≡ true
torn_before_zeros bytes k n short lt =
    let front = take k (frame bytes) in
    let rest : List ℕ = front ++ replicate n 0 in
    let size : length front ≡ k = length-take-le k (frame bytes) (omega (arith, lt)) in
    elim (cases_lt k 8) [
      | inl few ↦ second (ltb (length rest) 16) (list_all (λ b. b == 0) (drop 8 rest)) (ends_in_zeros rest) (zeros_behind 8 front n (omega (arith, size, few)))
      | inr enough ↦ third (ltb (length rest) 16) (list_all (λ b. b == 0) (drop 8 rest)) (ends_in_zeros rest) (ends bytes k n short enough lt)
    ]

-- what a stop in the middle of an append left of a frame is torn
pub torn_front : (bytes : List ℕ) (k : ℕ) → length bytes < 2 ^ 32 → k < length (frame bytes) → is_torn (take k (frame bytes)) ≡ true
torn_front bytes k short lt = ap is_torn (sym (append-nil (take k (frame bytes)))) ∙ torn_before_zeros bytes k 0 short lt
