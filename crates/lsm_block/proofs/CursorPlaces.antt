-- The entries from a cursor's place on, and the place behind the next one of them.
use Rattle.std.proofs.Common.{◌≡◌, ℕ, ◌+◌, ◌-◌, ◌≤◌, List, [], ◌∷◌, ◌++◌, length, take, drop, Ok, Err, refl, sym, ap, subst, ◌∙◌, arith}
use Rattle.std.proofs.Math.Seq.{drop-append_seam, take-append_seam}
use Rattle.std.proofs.lemmas.List.{length-append, length-drop, drop-drop}
use Rattle.std.proofs.lemmas.List.Concat.{flat_map-cons}
use Rattle.lsm_key.specs.declared.entry.Entry.{Entry}
use Rattle.lsm_key.specs.Reading.{key_at}
use Rattle.lsm_block.specs.declared.fault.BlockFault.TheVariants.{Truncated}
use Rattle.lsm_key.specs.Entries.{IsEntry}
use Rattle.lsm_key.specs.Order.{key_le}
use Rattle.std.specs.List.{filter}
use Rattle.lsm_block.specs.Blocks.{HasSequence, entry, entries}
use Rattle.lsm_block.specs.BlockReading.{entry_at, entry_within}
use Rattle.lsm_block.specs.Cursors.{IsPlaceIn, entries_from}
use Rattle.lsm_block.specs.Indexed.{block_entries}
use Rattle.lsm_block.specs.Ranges.{IsLowerPlace}
use Rattle.lsm_block.specs.Spans.{IsSpan}
use Rattle.lsm_block.proofs.BlockRuns.{entry_some}
use Rattle.lsm_block.proofs.RangeFilters.{from_place}
use Rattle.lsm_block.proofs.ReadBlocks.{none_read, of_span}
use Rattle.lsm_block.proofs.SpanFronts.{apart, step}
use Rattle.lsm_block.proofs.SpanRanges.{more_span}

entry_of_none : entry_at [] ≡ Err Truncated
unfolding entry_within key_at
entry_of_none = refl

-- an entry that is read in front of a span is its first one, and begins its bytes
record IsHead (rest : List ℕ) (es : List Entry) (e : Entry) (after : List ℕ) : Type 0 where
  others : List Entry
  all : es ≡ e ∷ others
  parts : rest ≡ entry e ++ after
  span : IsSpan after others

head_read : (rest : List ℕ) (es : List Entry) → IsSpan rest es → (e : Entry) (after : List ℕ) → entry_at rest ≡ Ok (e, after) → IsHead rest es e after
head_read rest [] span e after read = absurd (apart (e, after) Truncated (sym read ∙ ap entry_at span.spelled ∙ entry_of_none))
head_read rest (x ∷ xs) span e after read =
    let long : length rest ≡ length (entry x) + length (entries xs) = ap length (span.spelled ∙ flat_map-cons entry x xs) ∙ length-append (entry x) (entries xs) in
    let s = step rest (x ∷ xs) span (λ none. omega (arith, none, long, entry_some x)) e after read in
    record {
      others = s.0;
      all = s.1;
      parts = span.spelled ∙ ap entries s.1 ∙ flat_map-cons entry e s.0 ∙ ap (λ (b : List ℕ). entry e ++ b) (sym s.2.0.spelled);
      span = s.2.0;
    }

-- what reading the next entry says of a cursor before and after it
pub record Passes (bytes : List ℕ) (place : ℕ) (e : Entry) (after : List ℕ) : Type 0 where
  pub fits : length after ≤ length (drop place bytes)
  pub ends : place + (length (drop place bytes) - length after) ≤ length bytes
  pub spelled : take (length (drop place bytes) - length after) (drop place bytes) ≡ entry e
  pub left : entries_from bytes place ≡ e ∷ entries_from bytes (place + (length (drop place bytes) - length after))
  pub on : IsPlaceIn bytes (place + (length (drop place bytes) - length after))
  pub sound : IsEntry e × HasSequence e

pub passes : (bytes : List ℕ) (place : ℕ) → IsPlaceIn bytes place → (e : Entry) (after : List ℕ) → entry_at (drop place bytes) ≡ Ok (e, after) → Passes bytes place e after
passes bytes place is e after read =
    let rest : List ℕ = drop place bytes in
    let head = head_read rest (entries_from bytes place) is.span e after read in
    let n : length rest - length after ≡ length (entry e) = omega (arith, ap length head.parts, length-append (entry e) after) in
    let behind : drop (place + (length rest - length after)) bytes ≡ after =
    sym (drop-drop (length rest - length after) place bytes) ∙ ap (λ (k : ℕ). drop k rest) n ∙ ap (drop (length (entry e))) head.parts ∙ drop-append_seam (entry e) after in
    let others : entries_from bytes (place + (length rest - length after)) ≡ head.others = of_span _ head.others (subst (λ (b : List ℕ). IsSpan b head.others) (sym behind) head.span) in
    let first = subst (IsSpan rest) head.all is.span in
    record {
      fits = omega (arith, ap length head.parts, length-append (entry e) after);
      ends = omega (arith, is.within, length-drop place bytes);
      spelled = ap (λ (i : ℕ). take i rest) n ∙ ap (take (length (entry e))) head.parts ∙ take-append_seam (entry e) after;
      left = head.all ∙ ap (λ (xs : List Entry). e ∷ xs) (sym others);
      on = record {
        within = omega (arith, is.within, length-drop place bytes);
        span = subst (IsSpan (drop (place + (length rest - length after)) bytes)) (sym others) (subst (λ (b : List ℕ). IsSpan b head.others) (sym behind) head.span);
      };
      sound = (first.sound.each.0, first.sound.sequences.0);
    }

-- at the end nothing is left
pub none_from : (bytes : List ℕ) (place : ℕ) → drop place bytes ≡ [] → entries_from bytes place ≡ []
none_from bytes place none = ap block_entries none ∙ none_read

-- ---- where cursors begin

pub front_place : (bytes : List ℕ) (es : List Entry) → IsSpan bytes es → IsPlaceIn bytes 0 × (entries_from bytes 0 ≡ es)
front_place bytes es span =
    let own = of_span bytes es span in
    (record { within = omega arith; span = subst (IsSpan bytes) (sym own) span }, own)

pub lower_place : (bytes : List ℕ) (es : List Entry) (lo : List ℕ) (place : ℕ) → place ≤ length bytes → IsSpan bytes es → IsLowerPlace es lo place → IsPlaceIn bytes place × (entries_from bytes place ≡ filter (λ e. key_le lo e.ikey.key) es)
lower_place bytes es lo place within span at =
    let more = more_span bytes es lo place span at.skips in
    let own = of_span (drop place bytes) at.skips.more more in
    (record { within = within; span = subst (IsSpan (drop place bytes)) (sym own) more }, own ∙ sym (from_place es lo place span.sound at))
