-- The entry in front of a span, and the span of those after it.
use Rattle.std.proofs.Common.{◌≡◌, ℕ, ◌+◌, ◌<◌, List, [], ◌∷◌, length, Result, Ok, Err, refl, sym, ap, subst, ◌∙◌, arith}
use Rattle.std.proofs.lemmas.List.{length-append}
use Rattle.std.proofs.lemmas.List.Concat.{flat_map-cons}
use Rattle.lsm_key.specs.declared.entry.Entry.{Entry}
use Rattle.lsm_block.specs.declared.fault.BlockFault.{BlockFault}
use Rattle.lsm_block.specs.Blocks.{entry, entries}
use Rattle.lsm_block.specs.BlockReading.{entry_at}
use Rattle.lsm_block.specs.Spans.{IsSpan}
use Rattle.lsm_block.proofs.BlockFields.{entry_again}
use Rattle.lsm_block.proofs.BlockRuns.{entry_some}
use Rattle.lsm_block.proofs.FencedSpans.{sound_rest}

abbrev pub done : Entry × List ℕ → Result (Entry × List ℕ) BlockFault
done x = Ok x

same_pair : (x y : Entry × List ℕ) → done x ≡ done y → x ≡ y
same_pair x y e = cc

pub apart : (x : Entry × List ℕ) (f : BlockFault) → done x ≡ Err f → ⊥
apart x f e = cc

-- the bytes after an entry are the span of the other entries, and fewer
abbrev pub AreRest : List ℕ → List Entry → List ℕ → Type 0
AreRest bytes xs after = IsSpan after xs × (length after < length bytes)

module _ (bytes : List ℕ) where
  reads : (x : Entry) (xs : List Entry) → IsSpan bytes (x ∷ xs) → entry_at bytes ≡ Ok (x, entries xs)
  reads x xs span = ap entry_at (span.spelled ∙ flat_map-cons entry x xs) ∙ entry_again x (entries xs) span.sound.each.0 span.sound.sequences.0

  rests : (x : Entry) (xs : List Entry) → IsSpan bytes (x ∷ xs) → AreRest bytes xs (entries xs)
  rests x xs span =
      let long : length bytes ≡ length (entry x) + length (entries xs) = ap length (span.spelled ∙ flat_map-cons entry x xs) ∙ length-append (entry x) (entries xs) in
      (record { sound = sound_rest (x ∷ []) xs span.sound; spelled = refl }, omega (arith, long, entry_some x))

  pub faultless : (es : List Entry) → IsSpan bytes es → (length bytes ≡ 0 → ⊥) → (f : BlockFault) → entry_at bytes ≡ Err f → ⊥
  faultless [] span some f e = some (ap length span.spelled)
  faultless (x ∷ xs) span some f e = apart (x, entries xs) f (sym (reads x xs span) ∙ e)

  -- what is read is the first entry
  pub step : (es : List Entry) → IsSpan bytes es → (length bytes ≡ 0 → ⊥) → (e : Entry) (after : List ℕ) → entry_at bytes ≡ Ok (e, after) → (xs : List Entry) × (es ≡ e ∷ xs) × AreRest bytes xs after
  step [] span some e after read = absurd (some (ap length span.spelled))
  step (x ∷ xs) span some e after read =
      let same : ◌≡◌ {A = Entry × List ℕ} (x, entries xs) (e, after) = same_pair (x, entries xs) (e, after) (sym (reads x xs span) ∙ read) in
      (xs, ap (λ (y : Entry × List ℕ). y.0 ∷ xs) same, subst (λ (y : Entry × List ℕ). AreRest bytes xs y.1) same (rests x xs span))

  -- where no byte is left, no entry is
  pub no_more : (es : List Entry) → IsSpan bytes es → length bytes ≡ 0 → es ≡ []
  no_more [] span none = refl
  no_more (x ∷ xs) span none = let lt = (rests x xs span).1 in absurd (omega (arith, lt, none))
