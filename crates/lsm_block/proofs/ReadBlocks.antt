-- What a reader of blocks has read: the first bytes, as a span.
use Rattle.std.proofs.Common.{◌≡◌, ℕ, zero, suc, ◌+◌, ◌-◌, ◌<◌, ◌≤◌, List, [], ◌∷◌, ◌++◌, length, take, drop, Some, None, Result, Ok, Err, refl, sym, ap, subst, ◌∙◌, arith}
use Rattle.std.specs.List.{slice_range}
use Rattle.std.proofs.lemmas.List.{take_rest, take_all, take-append-drop, take-take, drop_at, length-append, length-drop, length-take-le}
use Rattle.std.proofs.Math.Seq.{take-add}
use Rattle.std.proofs.lemmas.List.Concat.{flat_map-append}
use Rattle.lsm_key.specs.declared.entry.Entry.{Entry}
use Rattle.lsm_key.specs.declared.limits.TheConstants.{MAX_KEY_BYTES}
use Rattle.lsm_key.specs.declared.refused.Refused.{Refused}
use Rattle.lsm_key.specs.Reading.{Fails, key_at}
use Rattle.lsm_block.specs.declared.fault.BlockFault.{BlockFault}
use Rattle.lsm_block.specs.declared.indexing.Indexed.{Indexed}
use Rattle.lsm_block.specs.Blocks.{entry, entries, IsBlock}
use Rattle.lsm_block.specs.BlockReading.{last_of, entry_at, entry_within, next_at, entries_at, read_block}
use Rattle.lsm_block.specs.Indexed.{AreIndexed, IsIndexedBlock, IsLastKey, IsReadTo, block_entries, entries_read, entries_before}
use Rattle.lsm_block.specs.Spans.{IsSpan}
use Rattle.lsm_block.proofs.EntriesGrow.{no_entries}
use Rattle.lsm_block.proofs.BlockRuns.{all_short, as_long, block_again}
use Rattle.lsm_block.proofs.BlockEntries.{last_read}
use Rattle.lsm_block.proofs.FencedSpans.{rest_span}
use Rattle.lsm_block.proofs.SpanFronts.{faultless}

-- no bytes are no block
pub none_read : block_entries [] ≡ []
unfolding read_block entries_at next_at entry_within key_at
none_read = refl

-- nothing is read yet
pub read_none : (bytes : List ℕ) (found : Indexed) → AreIndexed [] found → IsReadTo bytes 0 found
read_none bytes found is = record {
  within = omega arith;
  span = rw none_read (record { sound = no_entries; spelled = refl });
  index = rw none_read is;
}

-- the entries of a span that has some
pub block_of : (bytes : List ℕ) (es : List Entry) → 0 < length es → IsSpan bytes es → IsBlock MAX_KEY_BYTES bytes es
block_of bytes es some span = record { some = some; sound = span.sound; short = all_short es span.sound.each; spelled = span.spelled }

pub entries_of : (bytes : List ℕ) (es : List Entry) → 0 < length es → IsSpan bytes es → block_entries bytes ≡ es
entries_of bytes es some span = ap entries_read (block_again MAX_KEY_BYTES bytes es (block_of bytes es some span))

pub of_span : (bytes : List ℕ) (es : List Entry) → IsSpan bytes es → block_entries bytes ≡ es
of_span bytes [] span = ap block_entries span.spelled ∙ none_read
of_span bytes (e ∷ es) span = entries_of bytes (e ∷ es) (omega arith) span

-- ---- the last entry

module _ (bytes : List ℕ) (es : List Entry) (found : Indexed) (span : IsSpan bytes es) (is : AreIndexed es found) (counts : found.count ≡ 0 → ⊥) where
  some : 0 < length es
  some = by (length es) refl
    where
      by : (n : ℕ) → length es ≡ n → 0 < n
      by zero h = absurd (counts (is.counted ∙ h))
      by (suc n) h = omega arith

  pub last_lent : (e : Entry) (after : List ℕ) → entry_at (slice_range bytes found.last (length bytes)) ≡ Ok (e, after) → Some e ≡ last_of es
  last_lent e after read = sym (last_read bytes es found.last e after (block_of bytes es some span) (is.ends some) read)

  pub last_faultless : (f : BlockFault) → entry_at (slice_range bytes found.last (length bytes)) ≡ Err f → ⊥
  last_faultless f read =
      let at = is.ends some in
      let tail = rest_span bytes at.before (at.last ∷ []) (subst (IsSpan bytes) at.parts span) in
      let there : slice_range bytes found.last (length bytes) ≡ drop (length (entries at.before)) bytes = take_rest bytes found.last ∙ ap (λ (n : ℕ). drop n bytes) at.begins in
      let one : 0 < length (drop (length (entries at.before)) bytes) = omega (arith, as_long (at.last ∷ []), ap length tail.spelled) in
      faultless (drop (length (entries at.before)) bytes) (at.last ∷ []) tail (λ none. omega (arith, none, one)) f (ap entry_at (sym there) ∙ read)

-- where the last one begins
pub last_within : (bytes : List ℕ) (es : List Entry) (found : Indexed) → IsSpan bytes es → AreIndexed es found → (found.count ≡ 0 → ⊥) → found.last ≤ length bytes
last_within bytes es found span is counts =
    let at = is.ends (some bytes es found span is counts) in
    omega (arith, at.begins, ap length (span.spelled ∙ ap (λ (xs : List Entry). entries xs) at.parts ∙ flat_map-append entry at.before (at.last ∷ [])), length-append (entries at.before) (entries (at.last ∷ [])))

-- ---- all is read

pub all_entries : (bytes : List ℕ) (read : ℕ) → drop read bytes ≡ [] → block_entries bytes ≡ entries_before bytes read
all_entries bytes read none = ap block_entries (sym (take_all read bytes (omega (arith, length-drop read bytes, ap length none))))

pub read_all : (bytes : List ℕ) (read : ℕ) (found : Indexed) → IsReadTo bytes read found → 0 < length (entries_before bytes read) → drop read bytes ≡ [] → IsIndexedBlock bytes found
read_all bytes read found is more none =
    let es = entries_before bytes read in
    let same : block_entries bytes ≡ es = all_entries bytes read none in
    let whole : take read bytes ≡ bytes = take_all read bytes (omega (arith, length-drop read bytes, ap length none)) in
    let block : IsBlock MAX_KEY_BYTES bytes es = block_of bytes es more (subst (λ (b : List ℕ). IsSpan b es) whole is.span) in
    record {
      read = block_again MAX_KEY_BYTES bytes es block ∙ ap (λ (zs : List Entry). Ok zs) (sym same);
      block = subst (IsBlock MAX_KEY_BYTES bytes) (sym same) block;
      index = subst (λ (zs : List Entry). AreIndexed zs found) (sym same) is.index;
    }

-- ---- more is read

-- the bytes up to an end
pub same_before : (bytes : List ℕ) (begin end : ℕ) → begin ≤ end → entries_before (take end bytes) begin ≡ entries_before bytes begin
same_before bytes begin end le = ap block_entries (take-take begin end bytes le)

pub same_after : (bytes : List ℕ) (begin end : ℕ) → begin ≤ end → end ≤ length bytes → drop begin (take end bytes) ≡ take (end - begin) (drop begin bytes)
same_after bytes begin end le within =
    let whole : end ≡ begin + (end - begin) = omega (arith, le) in
    ap (λ (n : ℕ). drop begin (take n bytes)) whole
    ∙ ap (drop begin) (take-add begin (end - begin) bytes)
    ∙ drop_at (take begin bytes) (take (end - begin) (drop begin bytes)) begin (length-take-le begin bytes (omega (arith, le, within)))

-- what was read of the bytes up to an end was read of all bytes
pub read_behind : (bytes : List ℕ) (end : ℕ) (found : Indexed) → end ≤ length bytes → IsReadTo (take end bytes) (length (take end bytes)) found → IsReadTo bytes end found
read_behind bytes end found within is =
    let same : take (length (take end bytes)) (take end bytes) ≡ take end bytes = take_all (length (take end bytes)) (take end bytes) (omega arith) in
    record {
      within = within;
      span = rw (← same) is.span;
      index = rw (← same) is.index;
    }

-- what a walk over all bytes found
pub walked_all : (given : Result (List Entry) BlockFault) (bytes : List ℕ) (es : List Entry) (found : Indexed) → 0 < length es → given ≡ Ok es → IsSpan bytes es → AreIndexed es found
    → (given ≡ Ok (entries_before bytes (length bytes))) × IsReadTo bytes (length bytes) found
walked_all given bytes es found some read span is =
    let whole : take (length bytes) bytes ≡ bytes = take_all (length bytes) bytes (omega arith) in
    let same : entries_before bytes (length bytes) ≡ es = ap block_entries whole ∙ entries_of bytes es some span in (
      read ∙ ap (λ (zs : List Entry). Ok zs) (sym same),
      record { within = omega arith; span = rw (same, whole) span; index = rw same is },
    )

-- the last entry's key and sequence
pub key_of_last : (es : List Entry) (e : Entry) → Some e ≡ last_of es → IsLastKey es e.ikey.key e.ikey.seq
key_of_last es e is = rw (← is) (refl, refl)

pub key_of_none : (es : List Entry) (seq : ℕ) → None ≡ last_of es → IsLastKey es [] seq
key_of_none es seq is = rw (← is) refl

-- a walk over all bytes from their front is the reading of a block
pub from_front : (limit : ℕ) (bytes : List ℕ) → entries_at limit (length bytes - 0 + 1) (entries_before bytes 0) (take (length bytes - 0) (drop 0 bytes)) ≡ read_block limit bytes
unfolding read_block
from_front limit bytes =
    let n : length bytes - 0 ≡ length bytes = omega arith in
    ap (λ (i : ℕ). entries_at limit (i + 1) (entries_before bytes 0) (take i bytes)) n
    ∙ ap (λ (b : List ℕ). entries_at limit (length bytes + 1) (entries_before bytes 0) b) (take_all (length bytes) bytes (omega arith))
    ∙ ap (λ (es : List Entry). entries_at limit (length bytes + 1) es bytes) none_read

-- a walk over the bytes up to an end is one over those between
pub cut_same : (limit : ℕ) (bytes : List ℕ) (begin end : ℕ) → begin ≤ end → end ≤ length bytes
    → entries_at limit (length (drop begin (take end bytes)) + 1) (entries_before (take end bytes) begin) (drop begin (take end bytes)) ≡ entries_at limit (end - begin + 1) (entries_before bytes begin) (take (end - begin) (drop begin bytes))
cut_same limit bytes begin end le within =
    let len : length (drop begin (take end bytes)) ≡ end - begin = omega (arith, length-drop begin (take end bytes), length-take-le end bytes within) in
    ap (λ (n : ℕ). entries_at limit (n + 1) (entries_before (take end bytes) begin) (drop begin (take end bytes))) len
    ∙ ap (λ (es : List Entry). entries_at limit (end - begin + 1) es (drop begin (take end bytes))) (same_before bytes begin end le)
    ∙ ap (λ (b : List ℕ). entries_at limit (end - begin + 1) (entries_before bytes begin) b) (same_after bytes begin end le within)

-- so is what it found
pub cut_read : (limit : ℕ) (bytes : List ℕ) (begin end : ℕ) (found : Indexed) → begin ≤ end → end ≤ length bytes
    → (entries_at limit (length (drop begin (take end bytes)) + 1) (entries_before (take end bytes) begin) (drop begin (take end bytes)) ≡ Ok (entries_before (take end bytes) (length (take end bytes)))) × IsReadTo (take end bytes) (length (take end bytes)) found
    → (entries_at limit (end - begin + 1) (entries_before bytes begin) (take (end - begin) (drop begin bytes)) ≡ Ok (entries_before bytes end)) × IsReadTo bytes end found
cut_read limit bytes begin end found le within is = (
  sym (cut_same limit bytes begin end le within) ∙ is.0 ∙ ap (λ (b : List ℕ). Ok (block_entries b)) (take_all (length (take end bytes)) (take end bytes) (omega arith)),
  read_behind bytes end found within is.1,
)

-- what reading gives of the next bytes
pub read_on : (limit : ℕ) (bytes slice : List ℕ) (read len : ℕ) (found : Indexed) → slice ≡ bytes
    → (entries_at limit (read + len - read + 1) (entries_before slice read) (take (read + len - read) (drop read slice)) ≡ Ok (entries_before slice (read + len))) × IsReadTo slice (read + len) found
    → (entries_at limit (len + 1) (entries_before bytes read) (take len (drop read bytes)) ≡ Ok (entries_before bytes (read + len))) × IsReadTo bytes (read + len) found
read_on limit bytes slice read len found is given =
    let n : read + len - read ≡ len = omega arith in
    let all = subst (λ (b : List ℕ). (entries_at limit (read + len - read + 1) (entries_before b read) (take (read + len - read) (drop read b)) ≡ Ok (entries_before b (read + len))) × IsReadTo b (read + len) found) is given in
    (ap (λ (i : ℕ). entries_at limit (i + 1) (entries_before bytes read) (take i (drop read bytes))) (sym n) ∙ all.0, all.1)

-- after a refusal nothing is read, and all bytes are left
pub all_left : (bytes : List ℕ) (read : ℕ) (found : Indexed) → IsReadTo bytes read found → drop 0 bytes ≡ entries (entries_before bytes read) ++ drop read bytes
all_left bytes read found is = sym (take-append-drop read bytes) ∙ ap (λ (b : List ℕ). b ++ drop read bytes) is.span.spelled

pub fails_on : (limit : ℕ) (bytes slice : List ℕ) (read len : ℕ) (e : Refused BlockFault) → slice ≡ bytes
    → Fails e (entries_at limit (read + len - read + 1) (entries_before slice read) (take (read + len - read) (drop read slice)))
    → Fails e (entries_at limit (len + 1) (entries_before bytes read) (take len (drop read bytes)))
fails_on limit bytes slice read len e is failed =
    let n : read + len - read ≡ len = omega arith in
    subst (λ (b : List ℕ). Fails e (entries_at limit (len + 1) (entries_before b read) (take len (drop read b)))) is
    (subst (λ (i : ℕ). Fails e (entries_at limit (i + 1) (entries_before slice read) (take i (drop read slice)))) n failed)
