-- What is read as a frame is a frame, and what was written as one is read.
use Rattle.std.proofs.Common.{◌≡◌, ℕ, ◌^◌, ◌<◌, eqb, List, [], ◌∷◌, ◌++◌, length, Ok, refl, sym, ap, subst, ◌∙◌, append_assoc, arith}
use Rattle.std.specs.Int.{w32, w64, to_be_bytes}
use Rattle.std.proofs.lemmas.Bool.{eqb-true, eq-eqb}
use Rattle.std.proofs.lemmas.List.{append-nil}
use Rattle.lsm_key.specs.Reading.{number_at, fixed_at, piece_at}
use Rattle.lsm_key.proofs.FieldLaws.{IsBytes, bind_ok, guard_held, ok_is, Takes-then, wide32, wide64, number_takes, number_again, fixed_takes, fixed_again, piece_takes, piece_again}
use Rattle.lsm_file_vault.specs.declared.frame.FrameFault.{FrameFault}
use Rattle.lsm_file_vault.specs.declared.frame.FrameFault.TheVariants.{Truncated, BadLength, BadChecksum}
use Rattle.lsm_file_vault.specs.Frames.{checksum, turned, header_of, frame, frame_at, frames}

-- a header's three fields before what follows
pub regrouped : (a b c more : List ℕ) → (a ++ (b ++ c)) ++ more ≡ a ++ (b ++ (c ++ more))
regrouped a b c more = append_assoc a (b ++ c) more ∙ ap (λ (l : List ℕ). a ++ l) (append_assoc b c more)

-- what was read as a frame stands in the file as one
pub frame_takes : (file : List ℕ) (x : List ℕ × List ℕ) → IsBytes file → frame_at file ≡ Ok x → file ≡ frame x.0 ++ x.1
unfolding frame_at
frame_takes file x fits e =
    let a = bind_ok (number_at Truncated w32 file) _ x e in
    let n = a.0.0 in
    let t = number_takes Truncated w32 (2 ^ 32) wide32 file n a.0.1 fits a.1 in
    let b = bind_ok (fixed_at Truncated BadLength w32 (turned n) a.0.1) _ x a.2 in
    let u = fixed_takes Truncated BadLength w32 (2 ^ 32) wide32 (turned n) a.0.1 b.0 t.0.rest_fits b.1 in
    let d = bind_ok (number_at Truncated w64 b.0) _ x b.2 in
    let v = number_takes Truncated w64 (2 ^ 64) wide64 b.0 d.0.0 d.0.1 u.rest_fits d.1 in
    let p = bind_ok (piece_at Truncated n d.0.1) _ x d.2 in
    let w = piece_takes Truncated n d.0.1 p.0.0 p.0.1 v.0.rest_fits p.1 in
    let g = guard_held (eqb d.0.0 (checksum p.0.0)) BadChecksum (Ok p.0) x p.2 in
    let same : d.0.0 ≡ checksum p.0.0 = eqb-true d.0.0 (checksum p.0.0) g.0 in
    let fields = Takes-then file (to_be_bytes w32 n) a.0.1 _ p.0.1 t.0 (Takes-then a.0.1 (to_be_bytes w32 (turned n)) b.0 _ p.0.1 u (Takes-then b.0 (to_be_bytes w64 d.0.0) d.0.1 p.0.0 p.0.1 v.0 w.0)) in
    let whole : file ≡ frame p.0.0 ++ p.0.1 =
    fields.parts ∙ rw (w.1, ← same) (ap (λ (l : List ℕ). l ++ p.0.1) (sym (regrouped (to_be_bytes w32 n) (to_be_bytes w32 (turned n)) (to_be_bytes w64 d.0.0) p.0.0))) in
    subst (λ (y : List ℕ × List ℕ). file ≡ frame y.0 ++ y.1) (ok_is {F = FrameFault} p.0 x g.1) whole

-- one more frame behind the others
pub frames_more : (held : List (List ℕ)) (bytes : List ℕ) → frames (held ++ bytes ∷ []) ≡ frames held ++ frame bytes
frames_more [] bytes = append-nil (frame bytes)
frames_more (first ∷ held) bytes = ap (λ (l : List ℕ). frame first ++ l) (frames_more held bytes) ∙ sym (append_assoc (frame first) (frames held) (frame bytes))

-- a frame that is taken from what is left joins those that were taken
pub frames_on : (file : List ℕ) (held : List (List ℕ)) (rest bytes after : List ℕ) → file ≡ frames held ++ rest → rest ≡ frame bytes ++ after → file ≡ frames (held ++ bytes ∷ []) ++ after
frames_on file held rest bytes after so_far next =
    so_far ∙ ap (λ (l : List ℕ). frames held ++ l) next ∙ sym (append_assoc (frames held) (frame bytes) after) ∙ ap (λ (l : List ℕ). l ++ after) (sym (frames_more held bytes))

-- what was written as a frame is read, whatever stands behind it
pub frame_again : (bytes rest : List ℕ) → length bytes < 2 ^ 32 → checksum bytes < 2 ^ 64 → frame_at (frame bytes ++ rest) ≡ Ok (bytes, rest)
unfolding frame_at
frame_again bytes rest short small =
    let n = length bytes in
    let layout : frame bytes ++ rest ≡ to_be_bytes w32 n ++ (to_be_bytes w32 (turned n) ++ (to_be_bytes w64 (checksum bytes) ++ (bytes ++ rest))) =
    append_assoc (header_of bytes) bytes rest ∙ regrouped (to_be_bytes w32 n) (to_be_bytes w32 (turned n)) (to_be_bytes w64 (checksum bytes)) (bytes ++ rest) in
    ap frame_at layout ∙ rw (
      number_again Truncated w32 (2 ^ 32) wide32 n (to_be_bytes w32 (turned n) ++ (to_be_bytes w64 (checksum bytes) ++ (bytes ++ rest))) short,
      fixed_again Truncated BadLength w32 (2 ^ 32) wide32 (turned n) (to_be_bytes w64 (checksum bytes) ++ (bytes ++ rest)) (omega (arith, short)),
      number_again Truncated w64 (2 ^ 64) wide64 (checksum bytes) (bytes ++ rest) small,
      piece_again Truncated n bytes rest refl,
      eq-eqb (checksum bytes) (checksum bytes) refl,
    ) refl
