-- What a builder has written: of no entry, of one more, and the table of all.
use Rattle.std.proofs.Common.{◌≡◌, ℕ, ◌+◌, ◌-◌, ◌<◌, ◌≤◌, List, [], ◌∷◌, ◌++◌, length, take, drop, Option, Some, Ok, Err, refl, sym, ap, subst, ◌∙◌, append_assoc, arith, inl, inr}
use Rattle.std.specs.List.{flat_map, slice_range}
use Rattle.std.specs.Int.{w32, to_be_bytes}
use Rattle.std.proofs.lemmas.Bool.{cases_lt}
use Rattle.std.proofs.lemmas.List.{append-nil, length-append, take_at, take_rest}
use Rattle.std.proofs.lemmas.List.Concat.{flat_map-append}
use Rattle.lsm_key.specs.declared.entry.Entry.{Entry}
use Rattle.lsm_key.specs.Limits.{entry_weight}
use Rattle.lsm_key.specs.Spelling.{key, trailer}
use Rattle.lsm_block.specs.declared.fault.BlockFault.{BlockFault}
use Rattle.lsm_block.specs.Blocks.{AreEntries, entry, entries, value}
use Rattle.lsm_block.specs.BlockReading.{entry_at, last_of}
use Rattle.lsm_block.specs.Indexed.{block_entries}
use Rattle.lsm_block.specs.Spans.{IsSpan}
use Rattle.lsm_table.specs.declared.measuring.Measure.{Measure}
use Rattle.lsm_table.specs.Building.{IsDraft, IsLastEnd, IsNextEntry, IsDraftWritten}
use Rattle.lsm_table.specs.Cuts.{cut_of}
use Rattle.lsm_table.specs.Measuring.{IndexSoFar, IsMeasured}
use Rattle.lsm_table.specs.Tables.{IsTarget, end_key, header, index, key_of_entry, table_of}
use Rattle.lsm_block.proofs.BlockEntries.{last_read}
use Rattle.lsm_block.proofs.BlockRuns.{entry_some}
use Rattle.lsm_block.proofs.BlocksInTurn.{entry_size}
use Rattle.lsm_block.proofs.EntriesGrow.{has_some, last_added, no_entries}
use Rattle.lsm_block.proofs.FencedSpans.{rest_span}
use Rattle.lsm_block.proofs.ReadBlocks.{block_of, none_read}
use Rattle.lsm_block.proofs.SpanFronts.{faultless}
use Rattle.lsm_table.proofs.MeasuredTables.{measured_blocks}
use Rattle.lsm_table.proofs.TableSizes.{table_size, table_spelled, weight_more}
use Rattle.lsm_table.proofs.WrittenIndexes.{index_none, so_far_room, so_far_full, so_far_all}

-- of no entry
pub written_none : (target : ℕ) (lines blocks : List ℕ) (m : Measure) → IsTarget target → lines ≡ [] → blocks ≡ [] → IsMeasured target [] m → IsDraftWritten target (block_entries blocks) 0 lines blocks 0 m
written_none target lines blocks m ranged no_lines no_blocks is =
    let none : block_entries blocks ≡ [] = ap block_entries no_blocks ∙ none_read in
    let last : m.last ≡ 0 = omega (arith, is.weighed, is.light.index) in
    subst (λ (es : List Entry). IsDraftWritten target es 0 lines blocks 0 m) (sym none) (record {
      draft = record { ranged = ranged; sound = no_entries; measured = is; small = omega (arith, table_size target []) };
      counted = refl;
      indexed = rw (no_lines, last) (index_none target []);
      spelled = no_blocks;
      ends = λ some. absurd (omega (arith, some));
    })

-- ---- the last entry

module _ (es : List Entry) (blocks : List ℕ) (last k : ℕ) (is : IsLastEnd es blocks last k) where
  tail : IsSpan (drop last blocks) (is.begins.last ∷ [])
  tail =
      let whole : IsSpan blocks (is.begins.before ++ is.begins.last ∷ []) = record { sound = subst AreEntries is.begins.parts is.sound; spelled = is.spelled ∙ ap entries is.begins.parts } in
      subst (λ (n : ℕ). IsSpan (drop n blocks) (is.begins.last ∷ [])) (sym is.begins.begins) (rest_span blocks is.begins.before (is.begins.last ∷ []) whole)

  pub last_is : last_of es ≡ Some is.begins.last
  last_is = ap last_of is.begins.parts ∙ last_added is.begins.before is.begins.last

  key_is : k ≡ length is.begins.last.ikey.key
  key_is = is.keyed ∙ ap (λ (o : Option Entry). length (key_of_entry o)) last_is

  tail_is : drop last blocks ≡ entry is.begins.last
  tail_is = tail.spelled ∙ append-nil (entry is.begins.last)

  long : length blocks ≡ last + 14 + length is.begins.last.ikey.key + length is.begins.last.value
  long =
      let whole = weight_more is.begins.before is.begins.last in
      let same : length blocks ≡ length (entries (is.begins.before ++ is.begins.last ∷ [])) = ap length (is.spelled ∙ ap entries is.begins.parts) in
      omega (arith, whole, same, is.begins.begins)

  -- its key and trailer are within the bytes
  pub end_within : last + (10 + k) ≤ length blocks
  end_within = omega (arith, long, key_is)

  pub end_is : take (last + (10 + k) - last) (drop last blocks) ≡ end_key (last_of es)
  end_is =
      let e : Entry = is.begins.last in
      let n : last + (10 + k) - last ≡ 10 + k = omega arith in
      let size : length (key e.ikey.key ++ trailer e.ikey.seq e.ikey.kind) ≡ 10 + k = omega (arith, length-append (key e.ikey.key) (trailer e.ikey.seq e.ikey.kind), key_is) in
      ap (λ (i : ℕ). take i (drop last blocks)) n
      ∙ ap (take (10 + k)) tail_is
      ∙ take_at (key e.ikey.key ++ trailer e.ikey.seq e.ikey.kind) (value e.value) (10 + k) size
      ∙ ap end_key (sym last_is)

  -- what is read there
  pub last_lent : (e : Entry) (after : List ℕ) → entry_at (slice_range blocks last (length blocks)) ≡ Ok (e, after) → Some e ≡ last_of es
  last_lent e after read =
      let some : 0 < length es = omega (arith, ap length is.begins.parts, length-append is.begins.before (is.begins.last ∷ [])) in
      sym (last_read blocks es last e after (block_of blocks es some (record { sound = is.sound; spelled = is.spelled })) is.begins read)

  pub last_faultless : (f : BlockFault) → entry_at (slice_range blocks last (length blocks)) ≡ Err f → ⊥
  last_faultless f read = faultless (drop last blocks) (is.begins.last ∷ []) tail (λ none. omega (arith, none, ap length tail_is, entry_some is.begins.last)) f (ap entry_at (sym (take_rest blocks last)) ∙ read)

-- ---- one more entry

pub next_weighs : (es : List Entry) (bytes : List ℕ) (e : Entry) → IsNextEntry es bytes e → length bytes ≡ entry_weight e
next_weighs es bytes e next = ap length next.spelled ∙ entry_size e

module _ (target : ℕ) (es : List Entry) (count : ℕ) (lines blocks : List ℕ) (last : ℕ) (m : Measure) (is : IsDraftWritten target es count lines blocks last m) where
  pub written_end : 0 < length es → IsLastEnd es blocks last m.last_key
  written_end some = record { sound = is.draft.sound; spelled = is.spelled; begins = is.ends some; keyed = is.draft.measured.keyed }

  -- a block that is full has an entry
  pub full_some : target ≤ m.last → 0 < length es
  full_some full = has_some es (omega (arith, is.draft.ranged.0, full, is.indexed.light))

  -- the same count of entries, told otherwise
  pub recounted : IsDraftWritten target es (length es) lines blocks last m
  recounted = subst (λ (n : ℕ). IsDraftWritten target es n lines blocks last m) is.counted is

  module _ (bytes : List ℕ) (e : Entry) (next : IsNextEntry es bytes e) where
    lines_grown : (more : Measure) (new : List ℕ) → (m.last < target → new ≡ lines) → (target ≤ m.last → new ≡ lines ++ (to_be_bytes w32 m.last ++ end_key (last_of es))) → (m.last < target → more.last ≡ m.last + length bytes) → (target ≤ m.last → more.last ≡ length bytes) → IndexSoFar target (es ++ e ∷ []) [] new more.last
    lines_grown more new same closes wider begun =
        let weighs = next_weighs es bytes e next in
        elim (cases_lt m.last target) [
          | inl room ↦ rw (same room, wider room) (so_far_room target es [] lines m.last is.indexed e (length bytes) weighs room)
          | inr full ↦
              let end = written_end (full_some full) in
              let x : Entry = end.begins.last in
              let ends : last_of es ≡ Some x = last_is es blocks last m.last_key end in
              rw (begun full) (so_far_full target es [] lines m.last is.indexed x e new (length bytes) weighs full ends (closes full ∙ ap (λ (o : Option Entry). lines ++ (to_be_bytes w32 m.last ++ end_key o)) ends))
        ]

    pub blocks_grown : (grown : List ℕ) → grown ≡ blocks ++ bytes → grown ≡ entries (es ++ e ∷ [])
    blocks_grown grown is_grown = is_grown ∙ (λ i. is.spelled i ++ next.spelled i) ∙ sym (flat_map-append entry es (e ∷ []) ∙ ap (λ (b : List ℕ). entries es ++ b) (append-nil (entry e)))

    pub written_more : (more : Measure) (new : List ℕ) → (m.last < target → new ≡ lines) → (target ≤ m.last → new ≡ lines ++ (to_be_bytes w32 m.last ++ end_key (last_of es))) → (m.last < target → more.last ≡ m.last + length bytes) → (target ≤ m.last → more.last ≡ length bytes)
        → (grown : List ℕ) (place : ℕ) → grown ≡ blocks ++ bytes → place ≡ length blocks → IsDraft target (es ++ e ∷ []) more → IsDraftWritten target (es ++ e ∷ []) (count + 1) new grown place more
    written_more more new same closes wider begun grown place is_grown at draft = record {
      draft = draft;
      counted = omega (arith, is.counted, length-append es (e ∷ []));
      indexed = lines_grown more new same closes wider begun;
      spelled = blocks_grown grown is_grown;
      ends = λ _. record { before = es; last = e; parts = refl; begins = at ∙ ap length is.spelled };
    }

  -- ---- the table of all

  pub written_all : (some : 0 < length es) (out : List ℕ) → out ≡ ((header m.version target count (m.closed + 1) ++ lines) ++ (to_be_bytes w32 m.last ++ end_key (last_of es))) ++ blocks → out ≡ table_of target es
  written_all some out spelled =
      let end = written_end some in
      let x : Entry = end.begins.last in
      let ends : last_of es ≡ Some x = last_is es blocks last m.last_key end in
      let line : List ℕ = to_be_bytes w32 m.last ++ end_key (last_of es) in
      let front : List ℕ = header m.version target count (m.closed + 1) in
      let lined : lines ++ line ≡ flat_map index (cut_of target es) = so_far_all target es [] lines m.last is.indexed x (lines ++ line) is.draft.ranged.0 some ends (ap (λ (o : Option Entry). lines ++ (to_be_bytes w32 m.last ++ end_key o)) ends) in
      let blocks_are = measured_blocks target es m is.draft.ranged.0 some is.draft.measured in
      spelled
      ∙ ap (λ (b : List ℕ). b ++ blocks) (append_assoc front lines line)
      ∙ (λ i. (header (is.draft.measured.versioned i) target (is.counted i) (blocks_are i) ++ lined i) ++ is.spelled i)
      ∙ table_spelled target es
