-- A beginning of a block is the shorter block if it ends between two entries, and else too short; other bytes are no block, or another one.
use Rattle.std.proofs.Common.{inl, inr, ◌≡◌, ℕ, zero, suc, ◌+◌, ◌-◌, ◌^◌, ◌<◌, ◌≤◌, Bool, cond, ltb, List, [], ◌∷◌, ◌++◌, length, take, Result, Ok, Err, refl, sym, ap, subst, ◌∙◌, append_assoc, arith}
use Rattle.std.specs.Prelude.{IfOk}
use Rattle.std.specs.Int.{w32, to_be_bytes}
use Rattle.std.specs.List.{AllByRecursion}
use Rattle.std.proofs.Math.Seq.{take-append_seam}
use Rattle.std.proofs.lemmas.Bool.{cases_lt, le-ltb, ne_eqb}
use Rattle.std.proofs.lemmas.List.{length-append, length-take-le, take-append-le}
use Rattle.std.proofs.lemmas.List.Concat.{flat_map-append, flat_map-cons}
use Rattle.bytes.proofs.Ranges.{take-append_past}
use Rattle.lsm_key.specs.declared.entry.Entry.{Entry}
use Rattle.lsm_key.specs.declared.entry.Kind.{Kind}
use Rattle.lsm_key.specs.declared.limits.TheConstants.{MAX_KEY_BYTES}
use Rattle.lsm_key.specs.Entries.{longest, IsEntry}
use Rattle.lsm_key.specs.Reading.{◌>>=◌, number_at, piece_at, key_at, trailer_at}
use Rattle.lsm_key.specs.Spelling.{key, trailer}
use Rattle.lsm_key.proofs.Beginnings.{cut_then, number_cut, piece_cut, key_cut, trailer_cut}
use Rattle.lsm_key.proofs.FieldLaws.{IsBytes, wide32, number_again, key_again, trailer_again}
use Rattle.lsm_block.specs.declared.fault.BlockFault.{BlockFault}
use Rattle.lsm_block.specs.declared.fault.BlockFault.TheVariants.{Truncated, BadKind, BadLength}
use Rattle.lsm_block.specs.Blocks.{value, entry, entries, HasSequence, HasShortKey, AreEntries, IsBlock}
use Rattle.lsm_block.specs.BlockReading.{value_field_at, entry_within, next_at, entries_at, read_block}
use Rattle.lsm_block.proofs.BlockFields.{longest_fits, after_key, after_tag}
use Rattle.lsm_block.proofs.BlockRuns.{block_again, block_takes, entry_some, next_read_again}
use Rattle.lsm_block.proofs.BlocksInTurn.{each_front, sound_front}
use Rattle.lsm_block.proofs.EntriesGrow.{each_rest}
use Rattle.lsm_block.proofs.IndexedSoFar.{next_faulty}

-- ---- between two entries

pub shorter_block : (limit : ℕ) (bytes : List ℕ) (front back : List Entry) → IsBlock limit bytes (front ++ back) → 0 < length front → read_block limit (take (length (entries front)) bytes) ≡ Ok front
shorter_block limit bytes front back is some =
    let parts : take (length (entries front)) bytes ≡ entries front = ap (take (length (entries front))) (is.spelled ∙ flat_map-append entry front back) ∙ take-append_seam (entries front) (entries back) in
    block_again limit (take (length (entries front)) bytes) front
    (record { some = some; sound = sound_front front back is.sound; short = each_front (HasShortKey limit) front back is.short; spelled = parts })

-- ---- inside an entry

value_cut : (kind : Kind) (v : List ℕ) → length v ≤ longest kind → (n : ℕ) → n < length (value v) → value_field_at kind (take n (value v)) ≡ Err Truncated
unfolding value_field_at
value_cut kind v fits n lt =
    cut_then Truncated (number_at Truncated w32) (λ x. cond (ltb (longest kind) x.0) (Err BadLength) (piece_at Truncated x.0 x.1)) (to_be_bytes w32 (length v)) v (λ rest. (length v, rest))
    (number_cut Truncated w32 (2 ^ 32) wide32 (length v)) (λ rest. number_again Truncated w32 (2 ^ 32) wide32 (length v) rest (longest_fits kind (length v) fits))
    (λ m left. ap (λ (b : Bool). cond b (Err BadLength) (piece_at Truncated (length v) (take m v))) (le-ltb (longest kind) (length v) fits) ∙ piece_cut Truncated v m left) n lt

module _ (limit : ℕ) (low : limit ≤ MAX_KEY_BYTES) where
  entry_cut : (e : Entry) → IsEntry e → HasSequence e → HasShortKey limit e → (n : ℕ) → n < length (entry e) → entry_within limit (take n (entry e)) ≡ Err Truncated
  unfolding entry_within
  entry_cut e is sequence short n lt =
      let k = key e.ikey.key in
      let t = trailer e.ikey.seq e.ikey.kind in
      let v = value e.value in
      let regrouped : entry e ≡ k ++ (t ++ v) = append_assoc k t v in
      ap (λ (b : List ℕ). entry_within limit (take n b)) regrouped
      ∙ cut_then Truncated (key_at limit Truncated BadLength) after_key k (t ++ v) (λ rest. (e.ikey.key, rest))
      (key_cut Truncated BadLength limit (omega (arith, low)) e.ikey.key (is.key.0, short)) (λ rest. key_again Truncated BadLength limit e.ikey.key rest (is.key.0, short) (omega (arith, is.key.1)))
      (λ m left. cut_then Truncated (trailer_at Truncated BadKind) (after_tag e.ikey.key) t v (λ rest. ((e.ikey.seq, e.ikey.kind), rest))
      (trailer_cut Truncated BadKind e.ikey.seq e.ikey.kind) (λ rest. trailer_again Truncated BadKind e.ikey.seq e.ikey.kind rest is.written sequence)
      (λ j some. ap (λ (r : Result (List ℕ × List ℕ) BlockFault). r >>= λ value. Ok (record { ikey = record { key = e.ikey.key; seq = e.ikey.seq; kind = e.ikey.kind }; value = value.0 }, value.1)) (value_cut e.ikey.kind e.value is.value j some)) m left)
      n (subst (λ (b : List ℕ). n < length b) regrouped lt)

  -- ---- among the entries

  entries_stop : (fuel : ℕ) (es : List Entry) (bytes : List ℕ) (f : BlockFault) → next_at limit es bytes ≡ Err f → entries_at limit (suc fuel) es bytes ≡ Err f
  unfolding entries_at
  entries_stop fuel es bytes f h = rw h refl

  entries_go : (fuel : ℕ) (es : List Entry) (bytes : List ℕ) (x : Entry) (rest : List ℕ) → next_at limit es bytes ≡ Ok (x, rest) → (length rest ≡ 0 → ⊥) → entries_at limit (suc fuel) es bytes ≡ entries_at limit fuel (es ++ x ∷ []) rest
  unfolding entries_at
  entries_go fuel es bytes x rest h some = rw (h, ne_eqb (length rest) 0 some) refl

  -- so many bytes do not end between two of the entries
  abbrev pub EndsInside : List Entry → ℕ → Type 0
  EndsInside es n = (front back : List Entry) → es ≡ front ++ back → 0 < length front → n ≡ length (entries front) → ⊥

  entries_long : (x : Entry) (es : List Entry) → length (entries (x ∷ es)) ≡ length (entry x) + length (entries es)
  entries_long x es = ap length (flat_map-cons entry x es) ∙ length-append (entry x) (entries es)

  entries_cut : (fuel : ℕ) (es more : List Entry) (n : ℕ) → AreEntries (es ++ more) → AllByRecursion (HasShortKey limit) more → n < length (entries more) → n < fuel → EndsInside more n
      → entries_at limit fuel es (take n (entries more)) ≡ Err Truncated
  entries_cut zero es more n sound short lt enough inside = absurd (omega (arith, enough))
  entries_cut (suc fuel) es [] n sound short lt enough inside = absurd (omega (arith, lt))
  entries_cut (suc fuel) es (x ∷ more) n sound short lt enough inside =
      let parts : entries (x ∷ more) ≡ entry x ++ entries more = flat_map-cons entry x more in
      elim (cases_lt n (length (entry x))) [
        | inl less ↦
            let front : take n (entries (x ∷ more)) ≡ take n (entry x) = ap (take n) parts ∙ take-append-le n (entry x) (entries more) (omega (arith, less)) in
            let cut = entry_cut x (each_rest IsEntry es (x ∷ more) sound.each).0 (each_rest HasSequence es (x ∷ more) sound.sequences).0 short.0 n less in
            entries_stop fuel es (take n (entries (x ∷ more))) Truncated (next_faulty limit es (take n (entries (x ∷ more))) Truncated (ap (entry_within limit) front ∙ cut))
        | inr past ↦
            let m : ℕ = n - length (entry x) in
            let left : m < length (entries more) = omega (arith, lt, past, entries_long x more) in
            let some : m ≡ 0 → ⊥ = λ none. inside (x ∷ []) more refl (omega arith) (omega (arith, none, past, entries_long x [])) in
            let size : length (take m (entries more)) ≡ m = length-take-le m (entries more) (omega (arith, left)) in
            let split : take n (entries (x ∷ more)) ≡ entry x ++ take m (entries more) = ap (take n) parts ∙ take-append_past (entry x) (entries more) m n (omega (arith, past)) in
            let next = ap (next_at limit es) split ∙ next_read_again limit es x more (take m (entries more)) sound short.0 in
            let regrouped : (es ++ x ∷ []) ++ more ≡ es ++ x ∷ more = append_assoc es (x ∷ []) more in
            entries_go fuel es (take n (entries (x ∷ more))) x (take m (entries more)) next (λ none. some (sym size ∙ none))
            ∙ entries_cut fuel (es ++ x ∷ []) more m (subst AreEntries (sym regrouped) sound) short.1 left (omega (arith, enough, past, entry_some x))
            (λ front back apart one at. inside (x ∷ front) back (ap (λ (zs : List Entry). x ∷ zs) apart) (omega arith) (omega (arith, at, past, entries_long x front)))
      ]

  -- ---- a block

  pub block_cut : (bytes : List ℕ) (es : List Entry) (n : ℕ) → IsBlock limit bytes es → n < length bytes → EndsInside es n → read_block limit (take n bytes) ≡ Err Truncated
  unfolding read_block
  block_cut bytes es n is lt inside =
      let size : length (take n bytes) ≡ n = length-take-le n bytes (omega (arith, lt)) in
      ap (λ (b : List ℕ). entries_at limit (length (take n bytes) + 1) [] (take n b)) is.spelled
      ∙ entries_cut (length (take n bytes) + 1) [] es n is.sound is.short (omega (arith, lt, ap length is.spelled)) (omega (arith, size)) inside

  pub other_block : (bytes changed : List ℕ) (es : List Entry) → IsBytes changed → IsBlock limit bytes es → (changed ≡ bytes → ⊥) → IfOk (read_block limit changed) (λ other. IsBlock limit changed other × (other ≡ es → ⊥))
  other_block bytes changed es fits is apart = by (read_block limit changed) refl
    where
      by : (r : Result (List Entry) BlockFault) → read_block limit changed ≡ r → IfOk r (λ other. IsBlock limit changed other × (other ≡ es → ⊥))
      by (Ok other) e =
          let own = block_takes limit low changed other fits e in
          (own, λ same. apart (own.spelled ∙ ap (λ (zs : List Entry). entries zs) same ∙ sym is.spelled))
      by (Err f) e = tt
