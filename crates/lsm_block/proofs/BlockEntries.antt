-- The entries of a block's bytes: which they are, and its first and last one.
use Rattle.std.proofs.Common.{◌≡◌, ℕ, ◌<◌, List, [], ◌∷◌, ◌++◌, length, drop, Some, Ok, sym, ap, subst, ◌∙◌, arith}
use Rattle.std.specs.Prelude.{slice_get}
use Rattle.std.specs.List.{slice_range}
use Rattle.std.proofs.lemmas.List.{take_rest, take_all}
use Rattle.lsm_key.specs.declared.entry.Entry.{Entry}
use Rattle.lsm_key.specs.declared.limits.TheConstants.{MAX_KEY_BYTES}
use Rattle.lsm_key.proofs.FieldLaws.{IsBytes}
use Rattle.lsm_block.specs.declared.indexing.Indexed.{Indexed}
use Rattle.lsm_block.specs.Blocks.{entries, IsBlock}
use Rattle.lsm_block.specs.BlockReading.{last_of, entry_at, read_block}
use Rattle.lsm_block.specs.Fences.{AreFences}
use Rattle.lsm_block.specs.Indexed.{IsIndexedBlock, IsLastAt, IsReadTo, block_entries}
use Rattle.lsm_block.specs.Spans.{IsSpan}
use Rattle.lsm_block.proofs.BlockRuns.{all_short, as_long, block_again, block_one, block_takes}
use Rattle.lsm_block.proofs.EntriesGrow.{last_added}
use Rattle.lsm_block.proofs.FencedSpans.{rest_span}
use Rattle.lsm_block.proofs.SpanFronts.{step}

-- a block is the span of its entries alone
pub span_one : (bytes : List ℕ) (es fs : List Entry) → IsSpan bytes es → IsBlock MAX_KEY_BYTES bytes fs → es ≡ fs
span_one bytes [] fs span is = absurd (omega (arith, is.some, as_long fs, ap length span.spelled, ap length is.spelled))
span_one bytes (x ∷ es) fs span is = block_one MAX_KEY_BYTES bytes (x ∷ es) fs (record { some = omega arith; sound = span.sound; short = all_short (x ∷ es) span.sound.each; spelled = span.spelled }) (block_again MAX_KEY_BYTES bytes fs is)

-- what a walk found of the bytes
pub indexed_block : (bytes : List ℕ) (found : Indexed) → IsBytes bytes → read_block MAX_KEY_BYTES bytes ≡ Ok (block_entries bytes) → IsReadTo bytes (length bytes) found → IsIndexedBlock bytes found
indexed_block bytes found fits read is =
    record {
      read = read;
      block = block_takes MAX_KEY_BYTES (omega arith) bytes (block_entries bytes) fits read;
      index = rw (← ap block_entries (take_all (length bytes) bytes (omega arith))) is.index;
    }

pub span_of : (bytes : List ℕ) (es : List Entry) → IsBlock MAX_KEY_BYTES bytes es → IsSpan bytes es
span_of bytes es is = record { sound = is.sound; spelled = is.spelled }

pub first_read : (bytes : List ℕ) (es : List Entry) (e : Entry) (after : List ℕ) → IsBlock MAX_KEY_BYTES bytes es → entry_at bytes ≡ Ok (e, after) → slice_get es 0 ≡ Some e
first_read bytes es e after is read =
    let s = step bytes es (span_of bytes es is) (λ none. omega (arith, none, is.some, as_long es, ap length is.spelled)) e after read in
    ap (λ (zs : List Entry). slice_get zs 0) s.1

pub last_read : (bytes : List ℕ) (es : List Entry) (place : ℕ) (e : Entry) (after : List ℕ) → IsBlock MAX_KEY_BYTES bytes es → IsLastAt es place → entry_at (slice_range bytes place (length bytes)) ≡ Ok (e, after) → last_of es ≡ Some e
last_read bytes es place e after is at read =
    let parted : IsSpan bytes (at.before ++ at.last ∷ []) = subst (IsSpan bytes) at.parts (span_of bytes es is) in
    let there : slice_range bytes place (length bytes) ≡ drop (length (entries at.before)) bytes = take_rest bytes place ∙ ap (λ (n : ℕ). drop n bytes) at.begins in
    let tail = rest_span bytes at.before (at.last ∷ []) parted in
    let one : 0 < length (drop (length (entries at.before)) bytes) = omega (arith, as_long (at.last ∷ []), ap length tail.spelled) in
    let s = step (drop (length (entries at.before)) bytes) (at.last ∷ []) tail (λ none. omega (arith, none, one)) e after (ap entry_at (sym there) ∙ read) in
    ap last_of at.parts ∙ last_added at.before at.last ∙ ap (λ (zs : List Entry). slice_get zs 0) s.1

-- its fences are those of whatever entries the bytes are
pub fences_of : (bytes : List ℕ) (found : Indexed) → IsIndexedBlock bytes found → (es : List Entry) → IsSpan bytes es → AreFences found.fences.front es found.fences.prefixes.items found.fences.places.items
fences_of bytes found is es span =
    subst (λ (zs : List Entry). AreFences found.fences.front zs found.fences.prefixes.items found.fences.places.items) (sym (span_one bytes es (block_entries bytes) span is.block)) is.index.fenced
