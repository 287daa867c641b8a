-- A frame that is read, and one that is refused, by what the reader lost.
use Rattle.std.proofs.Common.{◌≡◌, ℕ, ◌^◌, ◌<◌, List, ◌++◌, length, Option, Some, None, IfSome, refl, sym, ap, ◌∙◌, append_assoc, arith, inl, inr}
use Rattle.std.specs.Int.{w32, from_be_bytes, to_be_bytes}
use Rattle.std.specs.Io.KnownBytes.{Consumes, IsAtEnd}
use Rattle.std.proofs.lemmas.List.{take_at, length-append}
use Rattle.lsm_key.proofs.FieldLaws.{wide32}
use Rattle.lsm_msg.specs.declared.message.TheConstants.{MAX_MESSAGE_BYTES}
use Rattle.lsm_pipe.specs.Frames.{IsCutFrame, IsHead, IsTooLongFrame, announced}

announced_is : (xs ys : List ℕ) (len : ℕ) → xs ≡ to_be_bytes w32 len ++ ys → len < 2 ^ 32 → announced xs ≡ len
announced_is xs ys len e lt = ap announced e ∙ ap (from_be_bytes w32) (take_at (to_be_bytes w32 len) ys 4 refl) ∙ wide32.again len lt

-- the input ends inside the head
pub cut_head : (a b : Option (List ℕ)) (head : List ℕ) → Consumes a b head → 0 < length head → length head < 4 → IsAtEnd b → IfSome a IsCutFrame
cut_head None b head p begun short end = tt
cut_head (Some xs) None head p begun short end = absurd p
cut_head (Some xs) (Some ys) head p begun short end =
    let e = ap (λ (r : List ℕ). length r) p in
    let none = ap (λ (r : List ℕ). length r) end in
    record { begun = omega (arith, e, length-append head ys, begun); cut = inl (omega (arith, e, none, length-append head ys, short)) }

-- the input ends inside the bytes after the head
pub cut_payload : (a b d : Option (List ℕ)) (head payload : List ℕ) (len : ℕ) → Consumes a b head → IsHead head len → Consumes b d payload → length payload < len → IsAtEnd d → IfSome a IsCutFrame
cut_payload None b d head payload len p is q short end = tt
cut_payload (Some xs) None d head payload len p is q short end = absurd p
cut_payload (Some xs) (Some ys) None head payload len p is q short end = absurd q
cut_payload (Some xs) (Some ys) (Some zs) head payload len p is q short end =
    let whole : xs ≡ to_be_bytes w32 len ++ ys = p ∙ ap (λ (h : List ℕ). h ++ ys) is.spelled in
    let e = ap (λ (r : List ℕ). length r) whole in
    let more = ap (λ (r : List ℕ). length r) q in
    let none = ap (λ (r : List ℕ). length r) end in
    let says = announced_is xs ys len whole is.fits in
    record { begun = omega (arith, e); cut = inr (omega (arith, e, more, none, says, length-append payload zs, short)) }

-- the head announces too much
pub too_long : (a b : Option (List ℕ)) (head : List ℕ) (len : ℕ) → Consumes a b head → IsHead head len → MAX_MESSAGE_BYTES < len → IfSome a IsTooLongFrame
too_long None b head len p is long = tt
too_long (Some xs) None head len p is long = absurd p
too_long (Some xs) (Some ys) head len p is long =
    let whole : xs ≡ to_be_bytes w32 len ++ ys = p ∙ ap (λ (h : List ℕ). h ++ ys) is.spelled in
    let e = ap (λ (r : List ℕ). length r) whole in
    let says = announced_is xs ys len whole is.fits in
    record { head = omega (arith, e); long = omega (arith, says, long) }

-- the head and as many bytes as it announces
pub whole_frame : (a b d : Option (List ℕ)) (head payload : List ℕ) (len : ℕ) → Consumes a b head → IsHead head len → Consumes b d payload → length payload ≡ len → Consumes a d (to_be_bytes w32 (length payload) ++ payload)
whole_frame None b d head payload len p is q e = tt
whole_frame (Some xs) None d head payload len p is q e = absurd p
whole_frame (Some xs) (Some ys) None head payload len p is q e = absurd q
whole_frame (Some xs) (Some ys) (Some zs) head payload len p is q e =
    p ∙ ap (λ (h : List ℕ). h ++ ys) (is.spelled ∙ ap (to_be_bytes w32) (sym e)) ∙ ap (λ (r : List ℕ). to_be_bytes w32 (length payload) ++ r) q ∙ sym (append_assoc (to_be_bytes w32 (length payload)) payload zs)
