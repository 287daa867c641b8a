-- What lies ahead of an input, piece by piece.
use Rattle.std.proofs.Common.{◌≡◌, ℕ, ◌≤◌, ◌<◌, List, ◌++◌, length, take, drop, get_or, sym, ap, ◌∙◌, append_assoc}
use Rattle.std.proofs.lemmas.List.{drop-append-le, take-append-le, get_or_append_left}
use Rattle.std.proofs.Math.Seq.{drop-append_seam, take-append_seam}
use Rattle.lsm_resp.specs.Requests.{IsAhead}

pub ahead_front : (a b input : List ℕ) → IsAhead (a ++ b) input → IsAhead a input
ahead_front a b input h = record { later = h.later; rest = b ++ h.rest; is = h.is ∙ append_assoc a b h.rest }

pub ahead_rest : (a b input : List ℕ) → IsAhead (a ++ b) input → length a ≤ length input → IsAhead b (drop (length a) input)
ahead_rest a b input h few = record {
  later = h.later;
  rest = h.rest;
  is = sym (drop-append-le (length a) input h.later few) ∙ ap (drop (length a)) (h.is ∙ append_assoc a b h.rest) ∙ drop-append_seam a (b ++ h.rest);
}

-- the front itself
pub ahead_take : (a input : List ℕ) → IsAhead a input → length a ≤ length input → take (length a) input ≡ a
ahead_take a input h few = sym (take-append-le (length a) input h.later few) ∙ ap (take (length a)) h.is ∙ take-append_seam a h.rest

-- a byte of it
pub ahead_at : (a input : List ℕ) (i : ℕ) → IsAhead a input → i < length a → i < length input → get_or input i 0 ≡ get_or a i 0
ahead_at a input i h within come =
    sym (get_or_append_left input h.later 0 i come) ∙ ap (λ (r : List ℕ). get_or r i 0) h.is ∙ get_or_append_left a h.rest 0 i within
