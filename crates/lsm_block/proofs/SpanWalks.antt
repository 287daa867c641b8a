-- A walk over the entries of a span: what was passed stands before the key, and what is left is the rest of the bytes.
use Rattle.std.proofs.Common.{◌≡◌, ℕ, ◌+◌, ◌<◌, ◌≤◌, Bool, true, false, List, [], ◌∷◌, ◌++◌, length, get_or, Ok, Err, Some, None, refl, sym, ap, subst, ◌∙◌, append_assoc, arith}
use Rattle.std.specs.List.{AllByRecursion}
use Rattle.std.proofs.lemmas.List.{append-nil, length-append, get_or_append_left, get_or-append-add}
use Rattle.std.proofs.lemmas.List.Elements.{All-from_recursion}
use Rattle.lsm_key.specs.declared.entry.Entry.{Entry}
use Rattle.lsm_key.specs.Order.{IsPlace, comes_before}
use Rattle.lsm_key.specs.Visible.{visible}
use Rattle.lsm_key.proofs.EntryOrder.{partitioned, none_past, none_there, there}
use Rattle.lsm_block.specs.declared.fault.BlockFault.{BlockFault}
use Rattle.lsm_block.specs.Blocks.{entries, AreEntries}
use Rattle.lsm_block.specs.BlockReading.{entry_at}
use Rattle.lsm_block.specs.Spans.{IsSpan}
use Rattle.lsm_block.proofs.EntriesGrow.{each_push}
use Rattle.lsm_block.proofs.FencedSpans.{sound_rest}
use Rattle.lsm_block.proofs.SpanFronts.{AreRest, faultless, step, no_more}

-- the entries passed, and those to come
pub record Passed (es : List Entry) (key : List ℕ) (at : ℕ) (rest : List ℕ) : Type 0 where
  front : List Entry
  more : List Entry
  parts : es ≡ front ++ more
  before : AllByRecursion (λ e. comes_before key at e ≡ true) front
  left : rest ≡ entries more

abbrev pub Walks : List ℕ → List ℕ → ℕ → List ℕ → Type 0
Walks bytes key at rest = (es : List Entry) → IsSpan bytes es → Passed es key at rest

pub starts : (bytes key : List ℕ) (at : ℕ) → Walks bytes key at bytes
starts bytes key at es span = record { front = []; more = es; parts = refl; before = tt; left = span.spelled }

module _ (es : List Entry) (key : List ℕ) (at : ℕ) (sound : AreEntries es) where
  -- those to come are a span
  to_come : (rest : List ℕ) (p : Passed es key at rest) → IsSpan rest p.more
  to_come rest p = record { sound = sound_rest p.front p.more (subst AreEntries p.parts sound); spelled = p.left }

  place : (rest : List ℕ) (p : Passed es key at rest) → ((d : Entry) → length p.front < length es → comes_before key at (get_or es (length p.front) d) ≡ false) → IsPlace es key at (length p.front)
  place rest p stop = (
    λ i d low lt. rw p.parts (rw (get_or_append_left p.front p.more d i lt) (All-from_recursion (λ e. comes_before key at e ≡ true) p.front p.before i d lt)),
    λ i d le lt. other i d (comes_before key at (get_or es i d)) le lt refl,
  )
    where
      other : (i : ℕ) (d : Entry) (c : Bool) → length p.front ≤ i → i < length es → comes_before key at (get_or es i d) ≡ c → c ≡ false
      other i d false le lt e = refl
      other i d true le lt e = let up = partitioned es key at sound.ascending (length p.front) i d le lt e in let bad : true ≡ false = sym up ∙ stop d (omega (arith, le, lt)) in absurd cc

  at_front : (rest : List ℕ) (p : Passed es key at rest) (x : Entry) (xs : List Entry) (d : Entry) → p.more ≡ x ∷ xs → get_or es (length p.front) d ≡ x
  at_front rest p x xs d is = rw (p.parts ∙ ap (λ (m : List Entry). p.front ++ m) is) (let k : length p.front ≡ length p.front + 0 = omega arith in ap (λ (n : ℕ). get_or (p.front ++ x ∷ xs) n d) k ∙ get_or-append-add p.front (x ∷ xs) 0 d)

  within : (rest : List ℕ) (p : Passed es key at rest) (x : Entry) (xs : List Entry) → p.more ≡ x ∷ xs → length p.front < length es
  within rest p x xs is = let k : length es ≡ length p.front + length (x ∷ xs) = ap length (p.parts ∙ ap (λ (m : List Entry). p.front ++ m) is) ∙ length-append p.front (x ∷ xs) in omega (arith, k)

  pub ends : (rest : List ℕ) → Passed es key at rest → length rest ≡ 0 → visible es key at ≡ None
  ends rest p none =
      let k : length es ≡ length p.front = ap length (p.parts ∙ ap (λ (m : List Entry). p.front ++ m) (no_more rest p.more (to_come rest p) none) ∙ append-nil p.front) in
      none_past es key at (length p.front) sound.ascending (place rest p (λ d lt. absurd (omega (arith, lt, k)))) (omega (arith, k))

  module _ (rest : List ℕ) (p : Passed es key at rest) (some : length rest ≡ 0 → ⊥) where
    pub not_faulty : (f : BlockFault) → entry_at rest ≡ Err f → ⊥
    not_faulty f e = faultless rest p.more (to_come rest p) some f e

    module _ (e : Entry) (after : List ℕ) (read : entry_at rest ≡ Ok (e, after)) where
      next : (xs : List Entry) × (p.more ≡ e ∷ xs) × AreRest rest xs after
      next = step rest p.more (to_come rest p) some e after read

      pub shorter : length after < length rest
      shorter = next.2.1

      pub goes_on : comes_before key at e ≡ true → Passed es key at after
      goes_on h = record {
        front = p.front ++ e ∷ [];
        more = next.0;
        parts = p.parts ∙ ap (λ (m : List Entry). p.front ++ m) next.1 ∙ sym (append_assoc p.front (e ∷ []) next.0);
        before = each_push (λ y. comes_before key at y ≡ true) p.front e p.before h;
        left = next.2.0.spelled;
      }

      stop : comes_before key at e ≡ false → (d : Entry) → length p.front < length es → comes_before key at (get_or es (length p.front) d) ≡ false
      stop h d lt = rw (at_front rest p e next.0 d next.1) h

      pub found : comes_before key at e ≡ false → e.ikey.key ≡ key → visible es key at ≡ Some e
      found h own = there es key at (length p.front) sound.ascending (place rest p (stop h)) e (within rest p e next.0 next.1) (sym (at_front rest p e next.0 e next.1)) own

      pub missed : comes_before key at e ≡ false → (e.ikey.key ≡ key → ⊥) → visible es key at ≡ None
      missed h other = none_there es key at (length p.front) sound.ascending (place rest p (stop h)) e (within rest p e next.0 next.1) (sym (at_front rest p e next.0 e next.1)) other
