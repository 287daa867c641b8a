-- A stop in the middle of an append loses none of the edits before.
use Rattle.std.proofs.Common.{◌≡◌, ℕ, ◌+◌, ◌-◌, ◌^◌, ◌<◌, List, [], ◌∷◌, ◌++◌, length, take, drop, Result, Ok, Err, refl, sym, ap, ◌∙◌, append_assoc, arith}
use Rattle.std.specs.Prelude.{IsErr}
use Rattle.std.specs.Int.{w32, w64, to_be_bytes, from_be_bytes}
use Rattle.std.proofs.lemmas.List.{length-append, length-drop, length-take-le, take_at}
use Rattle.lsm_key.proofs.FieldLaws.{IsBytes, ok_is, wide32}
use Rattle.lsm_file_vault.specs.declared.frame.FrameFault.{FrameFault}
use Rattle.lsm_file_vault.specs.Frames.{checksum, turned, header_of, frame, frames, frame_at, claimed}
use Rattle.lsm_file_vault.specs.EditsFile.{AllFit, IsEditsFile}
use Rattle.lsm_file_vault.proofs.FrameReading.{regrouped, frame_takes, frame_again}
use Rattle.lsm_file_vault.proofs.TornFrames.{claim_of_front}

-- a frame claims the length of its bytes
claims : (bytes rest : List ℕ) → length bytes < 2 ^ 32 → claimed (frame bytes ++ rest) ≡ length bytes
claims bytes rest short =
    let len = to_be_bytes w32 (length bytes) in
    let more = to_be_bytes w32 (turned (length bytes)) ++ (to_be_bytes w64 (checksum bytes) ++ (bytes ++ rest)) in
    let layout : frame bytes ++ rest ≡ len ++ more = append_assoc (header_of bytes) bytes rest ∙ regrouped len (to_be_bytes w32 (turned (length bytes))) (to_be_bytes w64 (checksum bytes)) (bytes ++ rest) in
    ap claimed layout ∙ ap (from_be_bytes w32) (take_at len more 4 refl) ∙ wide32.again (length bytes) short

-- no frame begins a beginning of a frame
no_frame : (bytes : List ℕ) (k : ℕ) → length bytes < 2 ^ 32 → IsBytes (take k (frame bytes)) → k < length (frame bytes) → IsErr (frame_at (take k (frame bytes)))
no_frame bytes k short fits lt = by_case (frame_at (take k (frame bytes))) refl
  where
    by_case : (x : Result (List ℕ × List ℕ) FrameFault) → frame_at (take k (frame bytes)) ≡ x → IsErr x
    by_case (Err f) e = refl
    by_case (Ok y) e =
        let parts = frame_takes (take k (frame bytes)) y fits e in
        let len : length (take k (frame bytes)) ≡ k = length-take-le k (frame bytes) (omega (arith, lt)) in
        let size : length (frame y.0 ++ y.1) ≡ length (frame y.0) + length y.1 = length-append (frame y.0) y.1 in
        let whole : k ≡ length (frame y.0) + length y.1 = sym len ∙ ap length parts ∙ size in
        let few : length y.0 < length bytes = omega (arith, whole, lt) in
        let same : length bytes ≡ length y.0 = sym (claim_of_front bytes k short (omega (arith, whole))) ∙ ap claimed parts ∙ claims y.0 y.1 (omega (arith, few, short)) in
        absurd (omega (arith, few, same))

-- what was read is no fault
not_both : {A : Type 0} (r : Result A FrameFault) (y : A) → r ≡ Ok y → IsErr r → ⊥
not_both (Ok x) y e h = cc
not_both (Err f) y e h = cc

-- a file is frames and a rest that begins none in one way
one_way : (xs ys : List (List ℕ)) (r s : List ℕ) → AllFit xs → AllFit ys → frames xs ++ r ≡ frames ys ++ s → IsErr (frame_at r) → IsErr (frame_at s) → (xs ≡ ys) × (r ≡ s)
one_way [] [] r s fx fy e nr ns = (refl, e)
one_way [] (b ∷ ys) r s fx fy e nr ns = absurd (not_both _ _ (ap frame_at (e ∙ append_assoc (frame b) (frames ys) s) ∙ frame_again b (frames ys ++ s) fy.0.0 fy.0.1) nr)
one_way (a ∷ xs) [] r s fx fy e nr ns = absurd (not_both _ _ (ap frame_at (sym e ∙ append_assoc (frame a) (frames xs) r) ∙ frame_again a (frames xs ++ r) fx.0.0 fx.0.1) ns)
one_way (a ∷ xs) (b ∷ ys) r s fx fy e nr ns =
    let one = frame_again a (frames xs ++ r) fx.0.0 fx.0.1 in
    let other = frame_again b (frames ys ++ s) fy.0.0 fy.0.1 in
    let same = ok_is {F = FrameFault} (a, frames xs ++ r) (b, frames ys ++ s) (sym one ∙ ap frame_at (sym (append_assoc (frame a) (frames xs) r) ∙ e ∙ append_assoc (frame b) (frames ys) s) ∙ other) in
    let more = one_way xs ys r s fx.1 fy.1 (ap (λ (p : List ℕ × List ℕ). p.1) same) nr ns in
    (ap (λ (l : List ℕ). l ∷ xs) (ap (λ (p : List ℕ × List ℕ). p.0) same) ∙ ap (λ (l : List (List ℕ)). b ∷ l) more.0, more.1)

-- whole frames and a beginning of one more are read as the edits of those, and the beginning is torn
pub stopped : (written read : List (List ℕ)) (last : List ℕ) (k bytes torn : ℕ) → AllFit written → AllFit read → length last < 2 ^ 32 → IsBytes (take k (frame last)) → k < length (frame last)
    → IsEditsFile (frames written ++ take k (frame last)) read bytes torn → (read ≡ written) × (torn ≡ k)
stopped written read last k bytes torn fw fr short fits lt is =
    let front = take k (frame last) in
    let file = frames written ++ front in
    let u = one_way written read front (drop bytes file) fw fr is.0.0 (no_frame last k short fits lt) is.0.1 in
    let len : length front ≡ k = length-take-le k (frame last) (omega (arith, lt)) in
    let left : k ≡ length file - bytes = sym len ∙ ap length u.1 ∙ length-drop bytes file in
    (sym u.0, omega (arith, left, is.2))
