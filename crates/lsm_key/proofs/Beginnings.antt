-- Each proper beginning of a field's spelling is too short.
use Rattle.std.proofs.Common.{inl, inr, ◌≡◌, ℕ, ◌-◌, ◌^◌, ◌<◌, ◌≤◌, ◌||◌, Bool, true, false, cond, ltb, eqb, List, ◌++◌, length, take, Result, Ok, Err, refl, ap, ◌∙◌, arith}
use Rattle.std.specs.Int.{Width, w16, w64, byte_len, to_be_bytes}
use Rattle.std.proofs.lemmas.Bool.{cases_lt, lt-ltb, le-ltb, ne_eqb, or_from}
use Rattle.std.proofs.lemmas.List.{take-append-le, length-take-le, length-append}
use Rattle.bytes.proofs.Ranges.{take-append_past}
use Rattle.lsm_key.specs.declared.entry.Kind.{Kind}
use Rattle.lsm_key.specs.Spelling.{key, trailer, IsKey}
use Rattle.lsm_key.specs.Reading.{◌>>=◌, number_at, piece_at, ranged_number_at, fixed_at, key_at, trailer_at}
use Rattle.lsm_key.proofs.FieldLaws.{IsWide, wide16, wide64, number_again}

-- a proper beginning of the spelling of a value is too short
abbrev pub Cuts : {Z F : Type 0} → F → (List ℕ → Result (Z × List ℕ) F) → (Z → List ℕ) → (Z → Type 0) → Type 0
Cuts {Z} short read spell IsZ = (z : Z) → IsZ z → (n : ℕ) → n < length (spell z) → read (take n (spell z)) ≡ Err short

-- reading one part and then another, where a beginning ends inside the one or the other
pub cut_then : {X Y F : Type 0} (short : F) (r : List ℕ → Result X F) (k : X → Result Y F) (a b : List ℕ) (x : List ℕ → X)
    → ((n : ℕ) → n < length a → r (take n a) ≡ Err short) → ((rest : List ℕ) → r (a ++ rest) ≡ Ok (x rest)) → ((n : ℕ) → n < length b → k (x (take n b)) ≡ Err short)
    → (n : ℕ) → n < length (a ++ b) → (r (take n (a ++ b)) >>= k) ≡ Err short
cut_then {X} {Y} {F} short r k a b x cut again then n lt =
    elim (cases_lt n (length a)) [
      | inl less ↦ ap (λ (bytes : List ℕ). r bytes >>= k) (take-append-le n a b (omega (arith, less))) ∙ ap (λ (y : Result X F). y >>= k) (cut n less)
      | inr past ↦
          let m = n - length a in
          let parts : take n (a ++ b) ≡ a ++ take m b = take-append_past a b m n (omega (arith, past)) in
          let left : m < length b = omega (arith, lt, past, length-append a b) in
          ap (λ (bytes : List ℕ). r bytes >>= k) parts ∙ ap (λ (y : Result X F). y >>= k) (again (take m b)) ∙ then m left
    ]

module _ {F : Type 0} (short : F) where
  pub number_cut : (w : Width) (limit : ℕ) (wide : IsWide w limit) (x n : ℕ) → n < length (to_be_bytes w x) → number_at short w (take n (to_be_bytes w x)) ≡ Err short
  number_cut w limit wide x n lt =
      let long : ltb (length (take n (to_be_bytes w x))) (byte_len w) ≡ true = lt-ltb _ _ (omega (arith, lt, wide.len x, length-take-le n (to_be_bytes w x) (omega (arith, lt)))) in
      rw long refl

  pub within_cut : (bad : F) (w : Width) (limit : ℕ) (wide : IsWide w limit) (low high : ℕ) → Cuts short (ranged_number_at short bad w low high) (to_be_bytes w) (λ x. (low ≤ x) × (x ≤ high))
  within_cut bad w limit wide low high x is n lt = ap (λ (r : Result (ℕ × List ℕ) F). r >>= λ y. cond (ltb y.0 low || ltb high y.0) (Err bad) (Ok y)) (number_cut w limit wide x n lt)

  pub fixed_cut : (bad : F) (w : Width) (limit : ℕ) (wide : IsWide w limit) (x n : ℕ) → n < length (to_be_bytes w x) → fixed_at short bad w x (take n (to_be_bytes w x)) ≡ Err short
  fixed_cut bad w limit wide x n lt = ap (λ (r : Result (ℕ × List ℕ) F). r >>= λ y. cond (eqb y.0 x) (Ok y.1) (Err bad)) (number_cut w limit wide x n lt)

  pub piece_cut : (text : List ℕ) (n : ℕ) → n < length text → piece_at short (length text) (take n text) ≡ Err short
  piece_cut text n lt =
      let long : ltb (length (take n text)) (length text) ≡ true = lt-ltb _ _ (omega (arith, lt, length-take-le n text (omega (arith, lt)))) in
      rw long refl

  pub key_cut : (bad : F) (limit : ℕ) → limit < 2 ^ 16 → Cuts short (key_at limit short bad) key (IsKey limit)
  unfolding key_at
  key_cut bad limit low k is n lt =
      let most = is.1 in
      let tests : (eqb (length k) 0 || ltb limit (length k)) ≡ false = or_from _ _ (ne_eqb (length k) 0 (λ z. omega (arith, z, is.0))) (le-ltb limit (length k) is.1) in
      cut_then short (number_at short w16) (λ x. cond (eqb x.0 0 || ltb limit x.0) (Err bad) (piece_at short x.0 x.1)) (to_be_bytes w16 (length k)) k (λ rest. (length k, rest))
      (number_cut w16 (2 ^ 16) wide16 (length k)) (λ rest. number_again short w16 (2 ^ 16) wide16 (length k) rest (omega (arith, most, low)))
      (λ m left. ap (λ (b : Bool). cond b (Err bad) (piece_at short (length k) (take m k))) tests ∙ piece_cut k m left) n lt

  pub trailer_cut : (bad : F) (seq : ℕ) (kind : Kind) (n : ℕ) → n < length (trailer seq kind) → trailer_at short bad (take n (trailer seq kind)) ≡ Err short
  unfolding trailer_at
  trailer_cut bad seq kind n lt = rw (number_cut w64 (2 ^ 64) wide64 _ n lt) refl
