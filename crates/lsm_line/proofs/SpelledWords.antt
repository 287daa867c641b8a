-- What a word encodes, from its first byte on.
use Rattle.std.proofs.Common.{◌≡◌, ℕ, ◌<◌, ◌≤◌, false, eqb, List, [], ◌∷◌, ◌++◌, length, drop, get_or, Option, Some, None, refl, ap, ◌∙◌, arith, append_assoc}
use Rattle.std.specs.Option.{option_map}
use Rattle.lsm_line.specs.Tokens.{literal, escape, onto, read_bytes}

literal_cons : (a : ℕ) (xs : List ℕ) → eqb a 37 ≡ false → read_bytes (a ∷ xs) ≡ onto (literal a) (read_bytes xs)
literal_cons a [] e = refl
literal_cons a (b ∷ []) e = refl
literal_cons a (b ∷ c ∷ xs) e = rw e refl

pub spelled-literal : (xs : List ℕ) → 0 < length xs → eqb (get_or xs 0 0) 37 ≡ false → read_bytes xs ≡ onto (literal (get_or xs 0 0)) (read_bytes (drop 1 xs))
spelled-literal [] h e = absurd (omega arith)
spelled-literal (a ∷ xs) h e = literal_cons a xs e

pub spelled-short : (xs : List ℕ) → 0 < length xs → length xs < 3 → get_or xs 0 0 ≡ 37 → read_bytes xs ≡ None
spelled-short [] h short e = absurd (omega arith)
spelled-short (a ∷ []) h short e = rw e refl
spelled-short (a ∷ b ∷ []) h short e = rw e refl
spelled-short (a ∷ b ∷ c ∷ xs) h short e = absurd (omega arith)

pub spelled-escape : (xs : List ℕ) → 3 ≤ length xs → get_or xs 0 0 ≡ 37 → read_bytes xs ≡ onto (escape (get_or xs 1 0) (get_or xs 2 0)) (read_bytes (drop 3 xs))
spelled-escape [] h e = absurd (omega arith)
spelled-escape (a ∷ []) h e = absurd (omega arith)
spelled-escape (a ∷ b ∷ []) h e = absurd (omega arith)
spelled-escape (a ∷ b ∷ c ∷ xs) h e = rw e refl

-- one more byte that is done
pub spelled-push : (done : List ℕ) (byte : ℕ) (rest : Option (List ℕ)) → option_map (λ bs. done ++ bs) (option_map (λ bs. byte ∷ bs) rest) ≡ option_map (λ bs. (done ++ byte ∷ []) ++ bs) rest
spelled-push done byte None = refl
spelled-push done byte (Some bs) = rw append_assoc refl

-- one turn over a word
pub spelled-more : (word done rest after more : List ℕ) (byte : ℕ) → read_bytes word ≡ option_map (λ bs. done ++ bs) (read_bytes rest) → read_bytes rest ≡ onto (Some byte) (read_bytes after) → more ≡ done ++ byte ∷ [] → read_bytes word ≡ option_map (λ bs. more ++ bs) (read_bytes after)
spelled-more word done rest after more byte so one is = so ∙ ap (option_map (λ (bs : List ℕ). done ++ bs)) one ∙ spelled-push done byte (read_bytes after) ∙ rw is refl
