-- Where a line ends.
use Rattle.std.proofs.Common.{◌≡◌, ◌≢◌, ℕ, ◌+◌, ◌≤◌, ◌<◌, List, [], ◌∷◌, ◌++◌, length, take, get_or, sym, ap, ◌∙◌, arith, length-append}
use Prim.Native.Nat.{zero, suc}
use Rattle.std.proofs.Math.Seq.{get_or-append_seam, take-suc}
use Rattle.std.proofs.Math.Numerals.{add-one}
use Rattle.std.proofs.lemmas.List.{get_or_append_left, get_or-take, length-take}
use Rattle.std.proofs.Math.Nat.{lt_of_not-le}
use Rattle.lsm_resp.specs.declared.limits.TheConstants.{MAX_LINE_BYTES}
use Rattle.lsm_resp.specs.Lines.{IsLine}
use Rattle.lsm_resp.specs.Requests.{IsAhead}
use Rattle.lsm_resp.specs.Outcomes.{bytes_before}
use Rattle.lsm_resp.proofs.Ahead.{ahead_at, ahead_front, ahead_take}
use Rattle.lsm_resp.proofs.Before.{none_before, value_behind}

-- A line and its line feed, ahead of an input whose first line feed is at an index.
module _ (line input : List ℕ) (at : ℕ) (is : IsLine line) (ahead : IsAhead (line ++ 10 ∷ []) input)
    (within : at ≤ length input) (before : (k : ℕ) → k < at → get_or input k 0 ≡ 10 → ⊥) (found : at < length input → get_or input at 0 ≡ 10) where
  not_behind : length line < at → ⊥
  not_behind lt =
      let sum = length-append line (10 ∷ []) in
      before (length line) lt (ahead_at (line ++ 10 ∷ []) input (length line) ahead (omega arith) (omega arith) ∙ get_or-append_seam line 10 [] 0)

  not_before : at < length input → at < length line → ⊥
  not_before come lt =
      let sum = length-append line (10 ∷ []) in
      is.one at 0 lt (sym (get_or_append_left line (10 ∷ []) 0 at lt) ∙ sym (ahead_at (line ++ 10 ∷ []) input at ahead (omega arith) come) ∙ found come)

  at_most : at ≤ length line
  at_most = let lt : at < length line + 1 = lt_of_not-le {n = length line + 1} {m = at} (λ h. not_behind (omega arith)) in omega arith

  is_end : at < length input → at ≡ length line
  is_end come =
      let most = at_most in
      let lt : length line < at + 1 = lt_of_not-le {n = at + 1} {m = length line} (λ h. not_before come (omega arith)) in
      omega arith

  pub line_too_far : MAX_LINE_BYTES < at → ⊥
  line_too_far far = omega (arith, at_most, is.short)

  pub line_not_come : at ≡ length input → length input < length line + 1
  line_not_come none = omega (arith, at_most)

  pub line_ends : at < length input → at ≡ length line
  line_ends come = is_end come

-- the line before its end
pub line_is : (line input : List ℕ) (at : ℕ) → IsAhead (line ++ 10 ∷ []) input → at ≡ length line → at < length input → take at input ≡ line
line_is line input at ahead e come = ap (λ (i : ℕ). take i input) e ∙ ahead_take line input (ahead_front line (10 ∷ []) input ahead) (omega arith)

first_of_line : (input : List ℕ) (end : ℕ) → get_or input 0 0 ≢ 42 → get_or (take end input) 0 0 ≢ 42
first_of_line input zero inline = λ e. absurd (omega arith)
first_of_line input (suc end) inline = rw (get_or-take (suc end) input 0 0 (omega arith)) inline

-- ---- the other way round: what a line is that has come

pub line_come : (input : List ℕ) (end : ℕ) → get_or input 0 0 ≢ 42 → end ≡ bytes_before 10 input → end < length input → end ≤ MAX_LINE_BYTES → IsLine (take end input)
line_come input end inline e come short = record {
  short = omega (arith, length-take end input);
  one = λ k d lt. (let before : k < end = omega (arith, lt, length-take end input) in rw (get_or-take end input k d before) (none_before 10 input k d (omega arith)));
  inline = first_of_line input end inline;
}

pub line_taken : (input : List ℕ) (end : ℕ) → end ≡ bytes_before 10 input → end < length input → take (end + 1) input ≡ take end input ++ 10 ∷ []
line_taken input end e come =
    let here : get_or input end 0 ≡ 10 = rw e (value_behind 10 input 0 (omega arith)) in
    rw add-one (take-suc input end 0 come ∙ ap (λ (x : ℕ). take end input ++ x ∷ []) here)
