-- A table's index and its blocks, read one after another.
use Rattle.std.proofs.Common.{◌≡◌, ℕ, zero, suc, ◌+◌, ◌-◌, ◌<◌, ◌≤◌, true, false, eqb, List, [], ◌∷◌, ◌++◌, length, drop, Ok, Err, refl, ap, sym, ◌∙◌, append_assoc, arith}
use Rattle.std.specs.Int.{w32, to_be_bytes}
use Rattle.std.proofs.Math.Seq.{drop-append_seam}
use Rattle.std.proofs.lemmas.Bool.{le-ltb, eq-eqb}
use Rattle.std.proofs.lemmas.List.{length-append}
use Rattle.lsm_key.specs.declared.entry.Entry.{Entry}
use Rattle.lsm_key.specs.declared.entry.InternalKey.{InternalKey}
use Rattle.lsm_key.specs.Reading.{Fails}
use Rattle.lsm_key.specs.Versions.{key_limit}
use Rattle.lsm_key.specs.declared.refused.Refused.{Refused}
use Rattle.lsm_key.specs.declared.refused.Refused.TheVariants.{OutOfMemory, Fault}
use Rattle.lsm_key.proofs.FieldLaws.{IsBytes, bind_ok, ok_is}
use Rattle.lsm_table.specs.declared.fault.TableFault.{TableFault}
use Rattle.lsm_table.specs.declared.fault.TableFault.TheVariants.{NeedlessVersion}
use Rattle.lsm_table.specs.declared.reading.Header.{Header}
use Rattle.lsm_table.specs.Tables.{version_of_entries}
use Rattle.lsm_table.specs.TableReading.{index_at, sum_at, block_at, blocks_at, contents_at}
use Rattle.lsm_table.proofs.TableFields.{last_key, index_takes}

one_more : (left : ℕ) → 0 < left → left ≡ suc (left - 1)
one_more left some = omega (arith, some)

empty_of : (bytes : List ℕ) → length bytes ≡ 0 → bytes ≡ []
empty_of [] e = refl
empty_of (b ∷ bytes) e = absurd (omega (arith, e))

-- what reads keys of at most limit bytes
module _ (limit : ℕ) where
  -- ---- the sum of the lengths

  pub sum_none : (total : ℕ) (rest : List ℕ) → sum_at limit 0 total rest ≡ Ok (total, rest)
  unfolding sum_at
  sum_none total rest = refl

  sum_step : (more total : ℕ) (rest : List ℕ) (i : ℕ × InternalKey) (after : List ℕ) → index_at limit rest ≡ Ok (i, after) → sum_at limit (suc more) total rest ≡ sum_at limit more (total + i.0) after
  unfolding sum_at
  sum_step more total rest i after read = rw read refl

  sum_stops : (more total : ℕ) (rest : List ℕ) (f : TableFault) → index_at limit rest ≡ Err f → sum_at limit (suc more) total rest ≡ Err f
  unfolding sum_at
  sum_stops more total rest f read = rw read refl

  pub sum_more : (left total : ℕ) (rest : List ℕ) (i : ℕ × InternalKey) (after : List ℕ) → 0 < left → index_at limit rest ≡ Ok (i, after) → sum_at limit left total rest ≡ sum_at limit (left - 1) (total + i.0) after
  sum_more left total rest i after some read = ap (λ (n : ℕ). sum_at limit n total rest) (one_more left some) ∙ sum_step (left - 1) total rest i after read

  pub sum_fails : (left total : ℕ) (rest : List ℕ) (f : TableFault) → 0 < left → index_at limit rest ≡ Err f → sum_at limit left total rest ≡ Err f
  sum_fails left total rest f some read = ap (λ (n : ℕ). sum_at limit n total rest) (one_more left some) ∙ sum_stops (left - 1) total rest f read

  -- what has been summed is a part of the sum
  pub sum_grows : (left total : ℕ) (rest : List ℕ) (sum : ℕ) (after : List ℕ) → sum_at limit left total rest ≡ Ok (sum, after) → total ≤ sum
  unfolding sum_at
  sum_grows zero total rest sum after e =
      let same = ap (λ (x : ℕ × List ℕ). x.0) (ok_is {F = TableFault} (total, rest) (sum, after) e) in
      omega (arith, same)
  sum_grows (suc left) total rest sum after e =
      let i = bind_ok (index_at limit rest) (λ i. sum_at limit left (total + i.0.0) i.1) (sum, after) e in
      let more = sum_grows left (total + i.0.0.0) i.0.1 sum after i.2 in
      omega (arith, more)

  -- ---- the blocks

  pub blocks_none : (target : ℕ) (index : List ℕ) (before : List Entry) (bytes : List ℕ) → blocks_at limit target 0 index before bytes ≡ Ok before
  unfolding blocks_at
  blocks_none target index before bytes = refl

  blocks_step : (target more : ℕ) (index : List ℕ) (before : List Entry) (bytes : List ℕ) (i : ℕ × InternalKey) (after : List ℕ) (es : List Entry) → index_at limit index ≡ Ok (i, after) → block_at limit target more i before bytes ≡ Ok es
      → blocks_at limit target (suc more) index before bytes ≡ blocks_at limit target more after es (drop i.0 bytes)
  unfolding blocks_at
  blocks_step target more index before bytes i after es read block = rw (read, block) refl

  index_stops : (target more : ℕ) (index : List ℕ) (before : List Entry) (bytes : List ℕ) (f : TableFault) → index_at limit index ≡ Err f → blocks_at limit target (suc more) index before bytes ≡ Err f
  unfolding blocks_at
  index_stops target more index before bytes f read = rw read refl

  block_stops : (target more : ℕ) (index : List ℕ) (before : List Entry) (bytes : List ℕ) (i : ℕ × InternalKey) (after : List ℕ) (f : TableFault) → index_at limit index ≡ Ok (i, after) → block_at limit target more i before bytes ≡ Err f
      → blocks_at limit target (suc more) index before bytes ≡ Err f
  unfolding blocks_at
  block_stops target more index before bytes i after f read block = rw (read, block) refl

  pub blocks_more : (target left : ℕ) (index : List ℕ) (before : List Entry) (bytes : List ℕ) (i : ℕ × InternalKey) (after : List ℕ) (es : List Entry) → 0 < left → index_at limit index ≡ Ok (i, after) → block_at limit target (left - 1) i before bytes ≡ Ok es
      → blocks_at limit target left index before bytes ≡ blocks_at limit target (left - 1) after es (drop i.0 bytes)
  blocks_more target left index before bytes i after es some read block = ap (λ (n : ℕ). blocks_at limit target n index before bytes) (one_more left some) ∙ blocks_step target (left - 1) index before bytes i after es read block

  pub index_fails : (target left : ℕ) (index : List ℕ) (before : List Entry) (bytes : List ℕ) (f : TableFault) → 0 < left → index_at limit index ≡ Err f → blocks_at limit target left index before bytes ≡ Err f
  index_fails target left index before bytes f some read = ap (λ (n : ℕ). blocks_at limit target n index before bytes) (one_more left some) ∙ index_stops target (left - 1) index before bytes f read

  -- the same of a refusal that may be want of memory
  pub block_fails : (target left : ℕ) (index : List ℕ) (before : List Entry) (bytes : List ℕ) (i : ℕ × InternalKey) (after : List ℕ) (e : Refused TableFault) → 0 < left → index_at limit index ≡ Ok (i, after) → Fails e (block_at limit target (left - 1) i before bytes)
      → Fails e (blocks_at limit target left index before bytes)
  block_fails target left index before bytes i after OutOfMemory some read block = tt
  block_fails target left index before bytes i after (Fault f) some read block = ap (λ (n : ℕ). blocks_at limit target n index before bytes) (one_more left some) ∙ block_stops target (left - 1) index before bytes i after f read block

  -- ---- what is left of the sum

  -- the next block is no longer than what is left
  pub next_within : (left total : ℕ) (rest : List ℕ) (i : ℕ × InternalKey) (after : List ℕ) (sum : ℕ) (end : List ℕ) (size : ℕ) → 0 < left → index_at limit rest ≡ Ok (i, after) → sum_at limit left total rest ≡ Ok (sum, end) → total + size ≡ sum → i.0 ≤ size
  next_within left total rest i after sum end size some read sums counted =
      let grows = sum_grows (left - 1) (total + i.0) after sum end (sym (sum_more left total rest i after some read) ∙ sums) in
      omega (arith, grows, counted)

  -- after the last block nothing is left
  pub none_left : (total : ℕ) (rest : List ℕ) (sum : ℕ) (end bytes : List ℕ) → sum_at limit 0 total rest ≡ Ok (sum, end) → total + length bytes ≡ sum → bytes ≡ []
  none_left total rest sum end bytes sums counted =
      let same = ap (λ (x : ℕ × List ℕ). x.0) (ok_is {F = TableFault} (total, rest) (sum, end) (sym (sum_none total rest) ∙ sums)) in
      empty_of bytes (omega (arith, same, counted))

  -- ---- what comes after the index

  -- it is the end of the bytes
  sum_end : (left total : ℕ) (bytes : List ℕ) (x : ℕ × List ℕ) → IsBytes bytes → sum_at limit left total bytes ≡ Ok x → (text : List ℕ) × (bytes ≡ text ++ x.1)
  unfolding sum_at
  sum_end zero total bytes x fits e = ([], ap (λ (y : ℕ × List ℕ). y.1) (ok_is {F = TableFault} (total, bytes) x e))
  sum_end (suc left) total bytes x fits e =
      let i = bind_ok (index_at limit bytes) (λ i. sum_at limit left (total + i.0.0) i.1) x e in
      let takes = index_takes limit bytes i.0 fits i.1 in
      let rest = sum_end left (total + i.0.0.0) i.0.1 x takes.rest_fits i.2 in
      let front : List ℕ = to_be_bytes w32 i.0.0.0 ++ last_key i.0.0.1 in
      (front ++ rest.0, takes.parts ∙ ap (λ (y : List ℕ). front ++ y) rest.1 ∙ sym (append_assoc front rest.0 x.1))

  pub region_is : (left total : ℕ) (bytes lent : List ℕ) (sum : ℕ) (region : List ℕ) → IsBytes bytes → lent ≡ bytes → sum_at limit left total lent ≡ Ok (sum, region) → (length region ≤ length bytes) × (drop (length bytes - length region) bytes ≡ region)
  region_is left total bytes lent sum region fits same e =
      let end = sum_end left total bytes (sum, region) fits (ap (sum_at limit left total) (sym same) ∙ e) in
      let long : length bytes ≡ length end.0 + length region = ap (λ (y : List ℕ). length y) end.1 ∙ length-append end.0 region in
      let place : length bytes - length region ≡ length end.0 = omega (arith, long) in
      (omega (arith, long), ap (λ (n : ℕ). drop n bytes) place ∙ ap (drop (length end.0)) end.1 ∙ drop-append_seam end.0 region)

-- ---- all that comes after the index

module _ (h : Header) (text : List ℕ) (total : ℕ) (region : List ℕ) (es : List Entry) (long : length region ≡ total) (read : blocks_at (key_limit h.version) h.target h.blocks text [] region ≡ Ok es) (counted : length es ≡ h.count) where
  pub contents_read : eqb (version_of_entries es) h.version ≡ true → contents_at h text (total, region) ≡ Ok es
  unfolding contents_at
  contents_read needed = rw (le-ltb total (length region) (omega (arith, long)), le-ltb (length region) total (omega (arith, long)), read, eq-eqb (length es) h.count counted, needed) refl

  pub contents_needless : eqb (version_of_entries es) h.version ≡ false → contents_at h text (total, region) ≡ Err NeedlessVersion
  unfolding contents_at
  contents_needless needless = rw (le-ltb total (length region) (omega (arith, long)), le-ltb (length region) total (omega (arith, long)), read, eq-eqb (length es) h.count counted, needless) refl
