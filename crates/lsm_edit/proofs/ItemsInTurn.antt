-- Items that are read one after another, each as those before it require.
use Rattle.std.proofs.Common.{◌≡◌, ℕ, zero, suc, ◌<◌, ◌≤◌, List, [], ◌∷◌, ◌++◌, length, take, Result, Ok, Err, refl, sym, ap, subst, ◌∙◌, append_assoc, arith}
use Rattle.std.specs.Int.{Width, to_be_bytes}
use Rattle.std.specs.List.{All, flat_map}
use Rattle.std.proofs.lemmas.List.{append-nil}
use Rattle.lsm_key.specs.declared.refused.Refused.{Refused}
use Rattle.lsm_key.specs.declared.refused.Refused.TheVariants.{OutOfMemory, Fault}
use Rattle.lsm_key.specs.Reading.{◌>>=◌, ranged_number_at, Fails}
use Rattle.lsm_key.proofs.Beginnings.{cut_then}
use Rattle.lsm_key.proofs.FieldLaws.{IsBytes, Takes, Takes-then, bind_ok, ok_is, IsWide}
use Rattle.lsm_key.proofs.ReaderLaws.{Reads, within_reads}
use Rattle.lsm_edit.specs.Edit.{items_at}

-- each item is as the one before it requires
abbrev pub AreInTurn : {S X : Type 0} → (S → X → Type 0) → (S → X → S) → S → List X → Type 0
AreInTurn Is next s [] = Unit {0}
AreInTurn Is next s (x ∷ xs) = Is s x × AreInTurn Is next (next s x) xs

-- two properties of each item, where one does not depend on the items before it
module _ {S X : Type 0} (Is : S → X → Type 0) (next : S → X → S) (Also : X → Type 0) where
  all_with : (x : X) (xs : List X) → Also x → All Also xs → All Also (x ∷ xs)
  all_with x xs here later zero d lt = here
  all_with x xs here later (suc k) d lt = later k d (omega (arith, lt))

  pub turn_parts : (s : S) (xs : List X) → AreInTurn (λ s x. Is s x × Also x) next s xs → AreInTurn Is next s xs × All Also xs
  turn_parts s [] is = (tt, λ k d lt. absurd (omega (arith, lt)))
  turn_parts s (x ∷ xs) is = (let later = turn_parts (next s x) xs is.1 in ((is.0.0, later.0), all_with x xs is.0.1 later.1))

  pub turn_both : (s : S) (xs : List X) → AreInTurn Is next s xs → All Also xs → AreInTurn (λ s x. Is s x × Also x) next s xs
  turn_both s [] is also = tt
  turn_both s (x ∷ xs) is also = ((is.0, also zero x (omega arith)), turn_both (next s x) xs is.1 (λ k d lt. also (suc k) d (omega (arith, lt))))

module _ {S X F : Type 0} {short : F} (Good : S → Type 0) (Is : S → X → Type 0) (read : S → List ℕ → Result (X × List ℕ) F) (next : S → X → S) (spell : X → List ℕ)
    (each : (s : S) → Good s → Reads short (read s) spell (Is s)) (on : (s : S) (x : X) → Good s → Is s x → Good (next s x)) where
  pub items_takes : (n : ℕ) (s : S) (bytes : List ℕ) (z : List X × List ℕ) → Good s → IsBytes bytes → items_at read next n s bytes ≡ Ok z → Takes bytes (flat_map spell z.0) z.1 × AreInTurn Is next s z.0 × (length z.0 ≡ n)
  items_takes zero s bytes z good fits e =
      let same = ok_is {F = F} ([], bytes) z e in
      let start : Takes bytes [] bytes = record { parts = refl; rest_fits = fits } in
      subst (λ (p : List X × List ℕ). Takes bytes (flat_map spell p.0) p.1 × AreInTurn Is next s p.0 × (length p.0 ≡ zero)) same (start, tt, refl)
  items_takes (suc n) s bytes z good fits e =
      let a = bind_ok (read s bytes) (λ x. items_at read next n (next s x.0) x.1 >>= λ xs. Ok (x.0 ∷ xs.0, xs.1)) z e in
      let b = bind_ok (items_at read next n (next s a.0.0) a.0.1) (λ xs. Ok (a.0.0 ∷ xs.0, xs.1)) z a.2 in
      let same = ok_is {F = F} (a.0.0 ∷ b.0.0, b.0.1) z b.2 in
      let t = (each s good).takes bytes a.0 fits a.1 in
      let u = items_takes n (next s a.0.0) a.0.1 b.0 (on s a.0.0 good t.1) t.0.rest_fits b.1 in
      subst (λ (p : List X × List ℕ). Takes bytes (flat_map spell p.0) p.1 × AreInTurn Is next s p.0 × (length p.0 ≡ suc n)) same
      (Takes-then bytes (spell a.0.0) a.0.1 (flat_map spell b.0.0) b.0.1 t.0 u.0, (t.1, u.1), ap suc u.2)

  pub items_again : (xs : List X) (s : S) (rest : List ℕ) → Good s → AreInTurn Is next s xs → items_at read next (length xs) s (flat_map spell xs ++ rest) ≡ Ok (xs, rest)
  items_again [] s rest good is = refl
  items_again (x ∷ xs) s rest good is =
      let a : read s (spell x ++ (flat_map spell xs ++ rest)) ≡ Ok (x, flat_map spell xs ++ rest) = (each s good).again x (flat_map spell xs ++ rest) is.0 in
      let b = items_again xs (next s x) rest (on s x good is.0) is.1 in
      ap (λ (z : List ℕ). read s z >>= λ y. items_at read next (length xs) (next s y.0) y.1 >>= λ ys. Ok (y.0 ∷ ys.0, ys.1)) (append_assoc (spell x) (flat_map spell xs) rest)
      ∙ ap (λ (r : Result (X × List ℕ) F). r >>= λ y. items_at read next (length xs) (next s y.0) y.1 >>= λ ys. Ok (y.0 ∷ ys.0, ys.1)) a
      ∙ ap (λ (r : Result (List X × List ℕ) F). r >>= λ ys. Ok (x ∷ ys.0, ys.1)) b

  pub items_cuts : (xs : List X) (s : S) → Good s → AreInTurn Is next s xs → (n : ℕ) → n < length (flat_map spell xs) → items_at read next (length xs) s (take n (flat_map spell xs)) ≡ Err short
  items_cuts [] s good is n lt = absurd (omega (arith, lt))
  items_cuts (x ∷ xs) s good is n lt =
      cut_then short (read s) (λ y. items_at read next (length xs) (next s y.0) y.1 >>= λ ys. Ok (y.0 ∷ ys.0, ys.1)) (spell x) (flat_map spell xs) (λ rest. (x, rest))
      ((each s good).cuts x is.0) (λ rest. (each s good).again x rest is.0)
      (λ m left. ap (λ (r : Result (List X × List ℕ) F). r >>= λ ys. Ok (x ∷ ys.0, ys.1)) (items_cuts xs (next s x) (on s x good is.0) is.1 m left)) n lt

  -- a count within a range, and that many items
  pub counted_reads : (bad : F) (w : Width) (limit : ℕ) → IsWide w limit → (low high : ℕ) (s : S) → high < limit → Good s
      → Reads short (λ bytes. ranged_number_at short bad w low high bytes >>= λ count. items_at read next count.0 s count.1) (λ xs. to_be_bytes w (length xs) ++ flat_map spell xs) (λ xs. (low ≤ length xs) × (length xs ≤ high) × AreInTurn Is next s xs)
  counted_reads bad w limit wide low high s lt good = record {
    takes = λ bytes z fits e.
        let a = bind_ok (ranged_number_at short bad w low high bytes) (λ count. items_at read next count.0 s count.1) z e in
        let t = (within_reads short bad w limit wide low high lt).takes bytes a.0 fits a.1 in
        let u = items_takes a.0.0 s a.0.1 z good t.0.rest_fits a.2 in
        let low_is : low ≤ length z.0 = (let l = t.1.0 in omega (arith, l, u.2)) in
        let high_is : length z.0 ≤ high = (let h = t.1.1 in omega (arith, h, u.2)) in (
          subst (λ (m : ℕ). Takes bytes (to_be_bytes w m ++ flat_map spell z.0) z.1) (sym u.2) (Takes-then bytes (to_be_bytes w a.0.0) a.0.1 (flat_map spell z.0) z.1 t.0 u.0),
          (low_is, high_is, u.1),
        );
    again = λ xs rest is.
        let a : ranged_number_at short bad w low high (to_be_bytes w (length xs) ++ (flat_map spell xs ++ rest)) ≡ Ok (length xs, flat_map spell xs ++ rest) = (within_reads short bad w limit wide low high lt).again (length xs) (flat_map spell xs ++ rest) (is.0, is.1) in
        ap (λ (z : List ℕ). ranged_number_at short bad w low high z >>= λ count. items_at read next count.0 s count.1) (append_assoc (to_be_bytes w (length xs)) (flat_map spell xs) rest)
        ∙ ap (λ (r : Result (ℕ × List ℕ) F). r >>= λ count. items_at read next count.0 s count.1) a
        ∙ items_again xs s rest good is.2;
    cuts = λ xs is n lt_all.
        let counts = within_reads short bad w limit wide low high lt in
        cut_then short (ranged_number_at short bad w low high) (λ count. items_at read next count.0 s count.1) (to_be_bytes w (length xs)) (flat_map spell xs) (λ rest. (length xs, rest))
        (counts.cuts (length xs) (is.0, is.1)) (λ rest. counts.again (length xs) rest (is.0, is.1)) (λ m left. items_cuts xs s good is.2 m left) n lt_all;
  }

-- ---- items that were read, before those that are still to be read

abbrev pub after_these : {X F : Type 0} → List X → Result (List X × List ℕ) F → Result (List X × List ℕ) F
after_these xs (Ok z) = Ok (xs ++ z.0, z.1)
after_these xs (Err e) = Err e

module _ {S X F : Type 0} (read : S → List ℕ → Result (X × List ℕ) F) (next : S → X → S) where
  none_yet : (r : Result (List X × List ℕ) F) → r ≡ after_these [] r
  none_yet (Ok z) = refl
  none_yet (Err e) = refl

  -- nothing is read yet
  pub begun : (xs : List X) (n m : ℕ) (s : S) (bytes : List ℕ) → xs ≡ [] → m ≡ n → items_at read next n s bytes ≡ after_these xs (items_at read next m s bytes)
  begun xs n m s bytes none same =
      none_yet (items_at read next n s bytes) ∙ ap (λ (ys : List X). after_these ys (items_at read next n s bytes)) (sym none) ∙ ap (λ (k : ℕ). after_these xs (items_at read next k s bytes)) (sym same)

  moved : (xs : List X) (x : X) (r : Result (List X × List ℕ) F) → after_these xs (r >>= λ ys. Ok (x ∷ ys.0, ys.1)) ≡ after_these (xs ++ x ∷ []) r
  moved xs x (Ok z) = ap (λ (ys : List X). Ok (ys, z.1)) (sym (append_assoc xs (x ∷ []) z.0))
  moved xs x (Err e) = refl

  module _ (all : Result (List X × List ℕ) F) (xs : List X) (m n : ℕ) (s : S) (bytes : List ℕ) (so_far : all ≡ after_these xs (items_at read next m s bytes)) where
    first : m ≡ suc n → all ≡ after_these xs (read s bytes >>= λ y. items_at read next n (next s y.0) y.1 >>= λ ys. Ok (y.0 ∷ ys.0, ys.1))
    first more = so_far ∙ ap (λ (k : ℕ). after_these xs (items_at read next k s bytes)) more

    -- one more is read
    pub one_read : m ≡ suc n → (rest : List ℕ) (x : X) (ys : List X) → read s bytes ≡ Ok (x, rest) → ys ≡ xs ++ x ∷ [] → all ≡ after_these ys (items_at read next n (next s x) rest)
    one_read more rest x ys e one =
        first more
        ∙ ap (λ (r : Result (X × List ℕ) F). after_these xs (r >>= λ y. items_at read next n (next s y.0) y.1 >>= λ ys. Ok (y.0 ∷ ys.0, ys.1))) e
        ∙ moved xs x (items_at read next n (next s x) rest)
        ∙ ap (λ (zs : List X). after_these zs (items_at read next n (next s x) rest)) (sym one)

    -- the next one is refused
    pub none_read : m ≡ suc n → (d : Refused F) → Fails d (read s bytes) → Fails d all
    none_read more OutOfMemory e = tt
    none_read more (Fault fault) e = first more ∙ ap (λ (r : Result (X × List ℕ) F). after_these xs (r >>= λ y. items_at read next n (next s y.0) y.1 >>= λ ys. Ok (y.0 ∷ ys.0, ys.1))) e

    -- all are read
    pub all_read : m ≡ 0 → all ≡ Ok (xs, bytes)
    all_read none = so_far ∙ ap (λ (k : ℕ). after_these xs (items_at read next k s bytes)) none ∙ ap (λ (ys : List X). Ok (ys, bytes)) (append-nil xs)
