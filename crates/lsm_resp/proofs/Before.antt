-- How many bytes come before the first of a value.
use Rattle.std.proofs.Common.{◌≡◌, ◌≢◌, ℕ, ◌≤◌, ◌<◌, ◌==◌, List, [], ◌∷◌, not, length, get_or, refl, arith, inl, inr}
use Prim.Native.Nat.{suc, zero}
use Rattle.std.proofs.lemmas.List.Sums.{prefix_len_passes, prefix_len_stops}
use Rattle.std.proofs.lemmas.Bool.{eq-eqb}
use Rattle.std.proofs.lemmas.Bool.Decides.{eqb_tells}
use Rattle.lsm_resp.specs.Outcomes.{bytes_before}

-- an index of the value, behind none of it, or the end
pub before_is : (wanted : ℕ) (bytes : List ℕ) (at : ℕ) → at ≤ length bytes → ((k : ℕ) → k < at → get_or bytes k 0 ≡ wanted → ⊥) → (at < length bytes → get_or bytes at 0 ≡ wanted) → at ≡ bytes_before wanted bytes
before_is wanted [] at within before here = omega arith
before_is wanted (b ∷ bs) zero within before here = rw (eq-eqb b wanted (here (omega arith))) refl
before_is wanted (b ∷ bs) (suc at) within before here =
    elim (eqb_tells b wanted) [
      | inl e ↦ absurd (before 0 (omega arith) e.1)
      | inr e ↦ rw e.0 (let is = before_is wanted bs at (omega arith) (λ k lt. before (suc k) (omega arith)) (λ lt. here (omega arith)) in omega arith)
    ]

-- none of the bytes before it is the value
pub none_before : (wanted : ℕ) (bytes : List ℕ) (k d : ℕ) → k < bytes_before wanted bytes → get_or bytes k d ≢ wanted
none_before wanted bytes k d lt e =
    let passes = prefix_len_passes (λ b. not (b == wanted)) bytes k d lt in
    let same = eq-eqb (get_or bytes k d) wanted e in
    cc

-- the byte behind them is
pub value_behind : (wanted : ℕ) (bytes : List ℕ) (d : ℕ) → bytes_before wanted bytes < length bytes → get_or bytes (bytes_before wanted bytes) d ≡ wanted
value_behind wanted bytes d lt =
    let stops = prefix_len_stops (λ b. not (b == wanted)) bytes d lt in
    elim (eqb_tells (get_or bytes (bytes_before wanted bytes) d) wanted) [ inl e ↦ e.1 | inr e ↦ (let differs = e.0 in absurd cc) ]
