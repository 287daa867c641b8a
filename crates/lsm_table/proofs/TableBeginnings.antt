-- A proper beginning of a table is too short, and other bytes are no table, or another one.
use Rattle.std.proofs.Common.{◌≡◌, ℕ, suc, ◌+◌, ◌^◌, ◌<◌, ◌≤◌, Bool, false, cond, ltb, eqb, List, [], ◌∷◌, ◌++◌, length, take, Some, Result, Ok, Err, refl, sym, ap, subst, ◌∙◌, append_assoc, arith}
use Rattle.std.specs.Prelude.{IfOk}
use Rattle.std.specs.Int.{w8, w32, to_be_bytes}
use Rattle.std.specs.List.{flat_map, AllByRecursion}
use Rattle.std.proofs.lemmas.Bool.{lt-ltb, le-ltb, ne_eqb}
use Rattle.std.proofs.lemmas.List.{length-append, length-take-le}
use Rattle.std.proofs.lemmas.List.Concat.{flat_map-cons}
use Rattle.lsm_key.specs.declared.entry.Entry.{Entry}
use Rattle.lsm_key.specs.declared.entry.InternalKey.{InternalKey}
use Rattle.lsm_key.specs.declared.entry.Kind.{Kind}
use Rattle.lsm_key.specs.declared.limits.TheConstants.{MAX_TABLE_BYTES}
use Rattle.lsm_key.specs.Entries.{IsEntry}
use Rattle.lsm_key.specs.Places.{all_entries}
use Rattle.lsm_key.specs.Reading.{◌>>=◌, number_at, ranged_number_at, fixed_at, key_at, trailer_at}
use Rattle.lsm_key.specs.Spelling.{key, trailer, IsKey}
use Rattle.lsm_key.specs.Versions.{key_limit}
use Rattle.lsm_key.proofs.VersionLaws.{limit_short}
use Rattle.lsm_key.proofs.Beginnings.{cut_then, number_cut, within_cut, fixed_cut, key_cut, trailer_cut}
use Rattle.lsm_key.proofs.FieldLaws.{IsBytes, wide8, wide32, number_again, within_again, fixed_again, key_again}
use Rattle.lsm_block.specs.Blocks.{entries, HasSequence, HasShortKey, AreEntries}
use Rattle.lsm_block.specs.BlockReading.{last_of}
use Rattle.lsm_block.proofs.BlockRuns.{as_long}
use Rattle.lsm_block.proofs.BlocksInTurn.{each_front}
use Rattle.lsm_block.proofs.EntriesGrow.{each_rest}
use Rattle.lsm_table.specs.declared.fault.TableFault.{TableFault}
use Rattle.lsm_table.specs.declared.fault.TableFault.TheVariants.{BadMagic, BadVersion, Truncated, BadIndex, BadCut}
use Rattle.lsm_table.specs.declared.reading.Header.{Header}
use Rattle.lsm_table.specs.Cuts.{IsCut}
use Rattle.lsm_table.specs.Tables.{magic, end_key, index, header, version_of_entries, IsTable, IsTarget, target_of}
use Rattle.lsm_table.specs.TableReading.{header_at, index_at, sum_at, contents_at, read_table}
use Rattle.lsm_table.proofs.TableBlocks.{few_blocks, index_read, last_entry, last_short, size_parts, sum_again}
use Rattle.lsm_table.proofs.TableFields.{counts_at, header_again, last_key}
use Rattle.lsm_table.proofs.TableLaws.{some_blocks, table_takes}
use Rattle.lsm_table.proofs.TableSizes.{one_encoding}
use Rattle.lsm_table.proofs.TableVersions.{version_range, keys_within}

-- ---- inside the header

counts_cut : (version target count blocks : ℕ) → 0 < count → count < 2 ^ 32 → (n : ℕ) → n < length (to_be_bytes w32 count ++ to_be_bytes w32 blocks) → counts_at version (target, take n (to_be_bytes w32 count ++ to_be_bytes w32 blocks)) ≡ Err Truncated
counts_cut version target count blocks some lt n short =
    let f = to_be_bytes w32 blocks in
    let last : ℕ × List ℕ → Result (Header × List ℕ) TableFault = λ (m : ℕ × List ℕ). cond (eqb m.0 0) (Err BadIndex) (Ok (record { version = version; target = target; count = count; blocks = m.0 }, m.1)) in
    cut_then Truncated (number_at Truncated w32) (λ n. cond (eqb n.0 0) (Err BadIndex) (number_at Truncated w32 n.1 >>= λ m. cond (eqb m.0 0) (Err BadIndex) (Ok (record { version = version; target = target; count = n.0; blocks = m.0 }, m.1)))) (to_be_bytes w32 count) f (λ rest. (count, rest))
    (number_cut Truncated w32 (2 ^ 32) wide32 count) (λ rest. number_again Truncated w32 (2 ^ 32) wide32 count rest lt)
    (λ m left. ap (λ (b : Bool). cond b (Err BadIndex) (number_at Truncated w32 (take m f) >>= last)) (ne_eqb count 0 (λ z. omega (arith, z, some))) ∙ ap (λ (r : Result (ℕ × List ℕ) TableFault). r >>= last) (number_cut Truncated w32 (2 ^ 32) wide32 blocks m left)) n short

header_cut : (version target count blocks : ℕ) → (1 ≤ version) × (version ≤ 2) → IsTarget target → 0 < count → count < 2 ^ 32 → (n : ℕ) → n < length (header version target count blocks) → header_at (take n (header version target count blocks)) ≡ Err Truncated
unfolding header_at
header_cut version target count blocks versioned ranged some lt n short =
    let a = to_be_bytes w32 magic in
    let b = to_be_bytes w8 version in
    let c = to_be_bytes w32 target in
    let d = to_be_bytes w32 count in
    let f = to_be_bytes w32 blocks in
    let after_version : ℕ × List ℕ → Result (Header × List ℕ) TableFault = λ (v : ℕ × List ℕ). ranged_number_at Truncated BadCut w32 1 MAX_TABLE_BYTES v.1 >>= counts_at v.0 in
    let after_magic : List ℕ → Result (Header × List ℕ) TableFault = λ (r : List ℕ). ranged_number_at Truncated BadVersion w8 1 2 r >>= after_version in
    let regrouped : header version target count blocks ≡ a ++ (b ++ (c ++ (d ++ f))) = append_assoc (a ++ b ++ c) d f ∙ append_assoc (a ++ b) c (d ++ f) ∙ append_assoc a b (c ++ (d ++ f)) in
    ap (λ (t : List ℕ). header_at (take n t)) regrouped
    ∙ cut_then Truncated (fixed_at Truncated BadMagic w32 magic) after_magic a (b ++ (c ++ (d ++ f))) (λ rest. rest)
    (fixed_cut Truncated BadMagic w32 (2 ^ 32) wide32 magic) (λ rest. fixed_again Truncated BadMagic w32 (2 ^ 32) wide32 magic rest (omega arith))
    (cut_then Truncated (ranged_number_at Truncated BadVersion w8 1 2) after_version b (c ++ (d ++ f)) (λ rest. (version, rest))
    (within_cut Truncated BadVersion w8 (2 ^ 8) wide8 1 2 version versioned) (λ rest. within_again Truncated BadVersion w8 (2 ^ 8) wide8 1 2 version rest (omega (arith, versioned.1)) versioned.0 versioned.1)
    (cut_then Truncated (ranged_number_at Truncated BadCut w32 1 MAX_TABLE_BYTES) (counts_at version) c (d ++ f) (λ rest. (target, rest))
    (within_cut Truncated BadCut w32 (2 ^ 32) wide32 1 MAX_TABLE_BYTES target ranged) (λ rest. within_again Truncated BadCut w32 (2 ^ 32) wide32 1 MAX_TABLE_BYTES target rest (omega (arith, ranged.1)) ranged.0 ranged.1)
    (counts_cut version target count blocks some lt)))
    n (subst (λ (t : List ℕ). n < length t) regrouped short)

-- ---- inside the index

module _ (limit : ℕ) (low : limit < 2 ^ 16) where
  key_end_cut : (size : ℕ) (k : InternalKey) → 0 < size → size < 2 ^ 32 → IsKey limit k.key → (n : ℕ) → n < length (to_be_bytes w32 size ++ last_key k) → index_at limit (take n (to_be_bytes w32 size ++ last_key k)) ≡ Err Truncated
  unfolding index_at
  key_end_cut size k some lt fits n short =
      let t = trailer k.seq k.kind in
      let end : List ℕ → (ℕ × Kind) × List ℕ → Result ((ℕ × InternalKey) × List ℕ) TableFault = λ (own : List ℕ) (tag : (ℕ × Kind) × List ℕ). Ok ((size, record { key = own; seq = tag.0.0; kind = tag.0.1 }), tag.1) in
      let ends : List ℕ × List ℕ → Result ((ℕ × InternalKey) × List ℕ) TableFault = λ (own : List ℕ × List ℕ). trailer_at Truncated BadIndex own.1 >>= end own.0 in
      cut_then Truncated (number_at Truncated w32) (λ n. cond (eqb n.0 0) (Err BadIndex) (key_at limit Truncated BadIndex n.1 >>= λ own. trailer_at Truncated BadIndex own.1 >>= λ tag. Ok ((n.0, record { key = own.0; seq = tag.0.0; kind = tag.0.1 }), tag.1))) (to_be_bytes w32 size) (last_key k) (λ rest. (size, rest))
      (number_cut Truncated w32 (2 ^ 32) wide32 size) (λ rest. number_again Truncated w32 (2 ^ 32) wide32 size rest lt)
      (λ m left. ap (λ (b : Bool). cond b (Err BadIndex) (key_at limit Truncated BadIndex (take m (last_key k)) >>= ends)) (ne_eqb size 0 (λ z. omega (arith, z, some)))
      ∙ cut_then Truncated (key_at limit Truncated BadIndex) ends (key k.key) t (λ rest. (k.key, rest))
      (key_cut Truncated BadIndex limit low k.key fits) (λ rest. key_again Truncated BadIndex limit k.key rest fits (omega (arith, fits.1, low)))
      (λ j less. ap (λ (r : Result ((ℕ × Kind) × List ℕ) TableFault). r >>= end k.key) (trailer_cut Truncated BadIndex k.seq k.kind j less)) m left)
      n short

  index_cut : (es : List Entry) → 0 < length es → AllByRecursion IsEntry es → AllByRecursion HasSequence es → AllByRecursion (HasShortKey limit) es → length (entries es) < 2 ^ 32 → (n : ℕ) → n < length (index es) → index_at limit (take n (index es)) ≡ Err Truncated
  index_cut es some each sequences keys small n short =
      let len : ℕ = length (entries es) in
      let l = last_entry es some each sequences in
      let own : index es ≡ to_be_bytes w32 len ++ last_key l.0.ikey = ap (λ o. to_be_bytes w32 len ++ end_key o) l.1 in
      ap (λ (t : List ℕ). index_at limit (take n t)) own
      ∙ key_end_cut len l.0.ikey (omega (arith, some, as_long es)) small (l.2.key.0, last_short limit es keys l.0 l.1) n (subst (λ (t : List ℕ). n < length t) own short)

  -- the index of a block in front of any bytes, by the block's last entry
  index_front : (es : List Entry) → 0 < length es → AllByRecursion IsEntry es → AllByRecursion HasSequence es → AllByRecursion (HasShortKey limit) es → length (entries es) < 2 ^ 32 → (e : Entry) → last_of es ≡ Some e → (rest : List ℕ)
      → index_at limit (index es ++ rest) ≡ Ok ((length (entries es), e.ikey), rest)
  index_front es some each sequences keys small e last rest =
      let i = index_read limit es rest some each sequences keys small in
      let same : Some i.0 ≡ Some e = sym i.1 ∙ last in
      let own : i.0 ≡ e = cc in
      i.2 ∙ ap (λ (x : Entry). Ok ((length (entries es), x.ikey), rest)) own

  sum_cut : (target : ℕ) (blocks : List (List Entry)) (sum : ℕ) → IsCut target blocks → AllByRecursion IsEntry (all_entries blocks) → AllByRecursion HasSequence (all_entries blocks) → AllByRecursion (HasShortKey limit) (all_entries blocks) → length (entries (all_entries blocks)) < 2 ^ 32
      → (n : ℕ) → n < length (flat_map index blocks) → sum_at limit (length blocks) sum (take n (flat_map index blocks)) ≡ Err Truncated
  unfolding sum_at
  sum_cut target [] sum cut each sequences keys small n short = absurd (omega (arith, short))
  sum_cut target (es ∷ more) sum cut each sequences keys small n short =
      let others = all_entries more in
      let sizes = size_parts es others in
      let first : AllByRecursion IsEntry es = each_front IsEntry es others each in
      let numbers : AllByRecursion HasSequence es = each_front HasSequence es others sequences in
      let own : AllByRecursion (HasShortKey limit) es = each_front (HasShortKey limit) es others keys in
      let len : length (entries es) < 2 ^ 32 = omega (arith, sizes, small) in
      let l = last_entry es cut.0.some first numbers in
      let parts : flat_map index (es ∷ more) ≡ index es ++ flat_map index more = flat_map-cons index es more in
      ap (λ (t : List ℕ). sum_at limit (suc (length more)) sum (take n t)) parts
      ∙ cut_then Truncated (index_at limit) (λ i. sum_at limit (length more) (sum + i.0.0) i.1) (index es) (flat_map index more) (λ rest. ((length (entries es), l.0.ikey), rest))
      (index_cut es cut.0.some first numbers own len) (index_front es cut.0.some first numbers own len l.0 l.1)
      (sum_cut target more (sum + length (entries es)) cut.2 (each_rest IsEntry es others each) (each_rest HasSequence es others sequences) (each_rest (HasShortKey limit) es others keys) (omega (arith, sizes, small)))
      n (subst (λ (t : List ℕ). n < length t) parts short)

-- ---- behind the index

contents_cut : (h : Header) (text : List ℕ) (total : ℕ) (region : List ℕ) → length region < total → contents_at h text (total, region) ≡ Err Truncated
unfolding contents_at
contents_cut h text total region lt = rw (lt-ltb (length region) total lt) refl

pub table_cut : (bytes : List ℕ) (es : List Entry) (n : ℕ) → IsTable bytes es → n < length bytes → read_table (take n bytes) ≡ Err Truncated
unfolding read_table
table_cut bytes es n is lt =
    let all : List Entry = all_entries is.blocks in
    let len : ℕ = length (entries all) in
    let version : ℕ = version_of_entries all in
    let limit : ℕ = key_limit version in
    let front : List ℕ = header version is.target (length all) (length is.blocks) in
    let first : List ℕ = flat_map index is.blocks in
    let whole : bytes ≡ front ++ (first ++ entries all) = is.spelled ∙ append_assoc front first (entries all) in
    let size : length bytes ≡ length front + (length first + len) = ap length whole ∙ length-append front (first ++ entries all) ∙ ap (λ (n : ℕ). length front + n) (length-append first (entries all)) in
    let small : len < 2 ^ 32 = omega (arith, size, is.small) in
    let some : 0 < length all = omega (arith, ap length is.whole, is.some) in
    let few : length is.blocks ≤ length all = few_blocks is.target is.blocks is.cut in
    let sound : AreEntries all = subst AreEntries is.whole is.sound in
    let keys = keys_within all sound.each in
    let h : Header = record { version = version; target = is.target; count = length all; blocks = length is.blocks } in
    let counted : length all < 2 ^ 32 = omega (arith, small, as_long all) in
    let limited : ltb MAX_TABLE_BYTES (length (take n bytes)) ≡ false = le-ltb MAX_TABLE_BYTES (length (take n bytes)) (omega (arith, is.small, lt, length-take-le n bytes (omega (arith, lt)))) in
    let read : List ℕ → Result (List Entry) TableFault = λ (b : List ℕ). header_at b >>= λ x. sum_at (key_limit x.0.version) x.0.blocks 0 x.1 >>= λ sized. contents_at x.0 x.1 sized in
    let parted = cut_then Truncated header_at (λ x. sum_at (key_limit x.0.version) x.0.blocks 0 x.1 >>= λ sized. contents_at x.0 x.1 sized) front (first ++ entries all) (λ rest. (h, rest))
    (header_cut version is.target (length all) (length is.blocks) (version_range all) is.ranged some counted)
    (λ rest. header_again version is.target (length all) (length is.blocks) rest (version_range all) is.ranged some counted (some_blocks is.blocks some) (omega (arith, small, few, as_long all)))
    (λ m left. cut_then Truncated (sum_at limit (length is.blocks) 0) (contents_at h (take m (first ++ entries all))) first (entries all) (λ rest. (0 + len, rest))
    (sum_cut limit (limit_short version) is.target is.blocks 0 is.cut sound.each sound.sequences keys small) (λ rest. sum_again limit is.target is.blocks 0 rest is.cut sound.each sound.sequences keys small)
    (λ j less. contents_cut h (take m (first ++ entries all)) (0 + len) (take j (entries all)) (omega (arith, less, length-take-le j (entries all) (omega (arith, less))))) m left)
    n (subst (λ (t : List ℕ). n < length t) whole lt) in
    rw limited (ap (λ (t : List ℕ). read (take n t)) whole ∙ parted)

-- ---- other bytes

pub other_table : (bytes changed : List ℕ) (es : List Entry) → IsBytes changed → IsTable bytes es → (changed ≡ bytes → ⊥) → IfOk (read_table changed) (λ other. IsTable changed other × (other ≡ es → target_of changed ≡ target_of bytes → ⊥))
other_table bytes changed es fits is apart = by (read_table changed) refl
  where
    by : (r : Result (List Entry) TableFault) → read_table changed ≡ r → IfOk r (λ other. IsTable changed other × (other ≡ es → target_of changed ≡ target_of bytes → ⊥))
    by (Ok other) e =
        let own = table_takes changed other fits e in
        (own, λ same target. apart (one_encoding changed bytes es (subst (IsTable changed) same own) is target))
    by (Err f) e = tt
