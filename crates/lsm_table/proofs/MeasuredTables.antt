-- What one more entry makes of the blocks and of their measure, and what the whole measures.
use Rattle.std.proofs.Common.{◌≡◌, ℕ, ◌+◌, ◌<◌, ◌≤◌, true, false, leb, ltb, List, [], ◌∷◌, ◌++◌, length, get_or, Option, Some, refl, sym, ap, ◌∙◌, append_assoc, arith}
use Rattle.std.specs.List.{flat_map}
use Rattle.std.proofs.lemmas.Bool.{le-leb, lt-leb}
use Rattle.std.proofs.lemmas.List.{length-append, append-nil}
use Rattle.std.proofs.lemmas.List.Concat.{flat_map-append}
use Rattle.lsm_key.specs.declared.entry.Entry.{Entry}
use Rattle.lsm_key.specs.declared.limits.TheConstants.{MAX_SHORT_KEY_BYTES}
use Rattle.lsm_key.specs.Limits.{entry_weight}
use Rattle.lsm_key.specs.Places.{all_entries}
use Rattle.lsm_block.specs.Blocks.{entries}
use Rattle.lsm_block.specs.BlockReading.{last_of}
use Rattle.lsm_table.specs.declared.measuring.Measure.{Measure}
use Rattle.lsm_table.specs.Cuts.{cut_after, cut_of}
use Rattle.lsm_table.specs.Measuring.{IsCutInto, IsMeasured}
use Rattle.lsm_table.specs.Tables.{index, key_of_entry, table_of, version_of_entries}
use Rattle.lsm_block.proofs.EntriesGrow.{has_some, last_at, last_added}
use Rattle.lsm_table.proofs.TableCuts.{cut_all, after_more}
use Rattle.lsm_table.proofs.TableSizes.{weight_more, table_size}
use Rattle.lsm_table.proofs.TableVersions.{version_grows, with_one}
use Rattle.lsm_table.proofs.TableWeights.{index_size}

-- ---- the blocks

pub into_none : (target : ℕ) → IsCutInto target [] [] []
into_none target = record { cut = refl; ends = refl }

module _ (target : ℕ) (es : List Entry) (e : Entry) (closed : List (List Entry)) (last : List Entry) (parts : IsCutInto target es closed last) where
  pub into_full : target ≤ length (entries last) → IsCutInto target (es ++ e ∷ []) (closed ++ last ∷ []) (e ∷ [])
  into_full full =
      let test : leb target (length (entries last)) ≡ true = le-leb target (length (entries last)) full in
      let next : cut_after target last (e ∷ []) ≡ last ∷ (e ∷ []) ∷ [] = rw test refl in
      record {
        cut = after_more target [] es e closed last parts.cut ∙ ap (λ (blocks : List (List Entry)). closed ++ blocks) next ∙ sym (append_assoc closed (last ∷ []) ((e ∷ []) ∷ []));
        ends = sym (last_added es e);
      }

  pub into_room : length (entries last) < target → IsCutInto target (es ++ e ∷ []) closed (last ++ e ∷ [])
  into_room room =
      let test : leb target (length (entries last)) ≡ false = lt-leb target (length (entries last)) room in
      let next : cut_after target last (e ∷ []) ≡ (last ++ e ∷ []) ∷ [] = rw test refl in
      record {
        cut = after_more target [] es e closed last parts.cut ∙ ap (λ (blocks : List (List Entry)). closed ++ blocks) next;
        ends = last_added last e ∙ sym (last_added es e);
      }

pub into_is : (target : ℕ) (es : List Entry) (closed : List (List Entry)) (last : List Entry) → 1 ≤ target → 0 < length es → IsCutInto target es closed last → cut_of target es ≡ closed ++ last ∷ []
into_is target [] closed last low some parts = absurd (omega (arith, some))
into_is target (x ∷ es) closed last low some parts =
    let test : leb target 0 ≡ false = lt-leb target 0 low in
    let begins : cut_after target [] (x ∷ es) ≡ cut_after target (x ∷ []) es = rw test refl in
    sym begins ∙ parts.cut

-- ---- their index

pub index_added : (closed : List (List Entry)) (last : List Entry) → flat_map index (closed ++ last ∷ []) ≡ flat_map index closed ++ index last
index_added closed last = flat_map-append index closed (last ∷ []) ∙ ap (λ (b : List ℕ). flat_map index closed ++ b) (append-nil (index last))

last_some : (last : List Entry) (e : Entry) → last_of last ≡ Some e → 0 < length last
last_some [] e is = absurd cc
last_some (x ∷ xs) e is = omega arith

index_keyed : (last : List Entry) → 0 < length last → length (index last) ≡ 14 + length (key_of_entry (last_of last))
index_keyed [] some = absurd (omega (arith, some))
index_keyed (x ∷ xs) some =
    let is = last_at x xs x in
    index_size (x ∷ xs) (get_or (x ∷ xs) (length xs) x) is ∙ ap (λ (o : Option Entry). 14 + length (key_of_entry o)) (sym is)

as_some : (target : ℕ) (es : List Entry) (closed : List (List Entry)) (last : List Entry) → 0 < length es → IsCutInto target es closed last → 0 < length last
as_some target [] closed last some parts = absurd (omega (arith, some))
as_some target (x ∷ es) closed last some parts = last_some last (get_or (x ∷ es) (length es) x) (parts.ends ∙ last_at x es x)

-- ---- measures

pub measured_none : (target : ℕ) → IsMeasured target [] (record { closed = 0; index = 0; last = 0; last_key = 0; weight = 0; version = 1 })
measured_none target = record {
  closed = [];
  last = [];
  parts = into_none target;
  counted = refl;
  indexed = refl;
  sized = refl;
  keyed = refl;
  weighed = refl;
  versioned = refl;
  light = record { closed = omega arith; index = omega arith; key = omega arith; some = λ lt. absurd (omega (arith, lt)) };
}

key_added : (es : List Entry) (e : Entry) (k : ℕ) → k ≡ length e.ikey.key → k ≡ length (key_of_entry (last_of (es ++ e ∷ [])))
key_added es e k ks = ks ∙ ap (λ (o : Option Entry). length (key_of_entry o)) (sym (last_added es e))

module _ (target : ℕ) (es : List Entry) (e : Entry) (m : Measure) (len k v : ℕ) (lens : len ≡ entry_weight e) (ks : k ≡ length e.ikey.key) (vs : v ≡ with_one (ltb MAX_SHORT_KEY_BYTES k) m.version) (is : IsMeasured target es m) where
  version_added : v ≡ version_of_entries (es ++ e ∷ [])
  version_added = vs ∙ (λ i. with_one (ltb MAX_SHORT_KEY_BYTES (ks i)) (is.versioned i)) ∙ sym (version_grows es e)

  pub measured_room : m.last < target → IsMeasured target (es ++ e ∷ []) (record { closed = m.closed; index = m.index; last = m.last + len; last_key = k; weight = m.weight + len; version = v })
  measured_room room = record {
    closed = is.closed;
    last = is.last ++ e ∷ [];
    parts = into_room target es e is.closed is.last is.parts (omega (arith, room, is.sized));
    counted = is.counted;
    indexed = is.indexed;
    sized = omega (arith, lens, is.sized, weight_more is.last e);
    keyed = key_added es e k ks;
    weighed = omega (arith, lens, is.weighed, weight_more es e);
    versioned = version_added;
    light = record {
      closed = is.light.closed;
      index = omega (arith, is.light.index);
      key = omega (arith, lens, ks);
      some = λ _. omega (arith, lens, ks);
    };
  }

  pub measured_full : 1 ≤ target → target ≤ m.last → IsMeasured target (es ++ e ∷ []) (record { closed = m.closed + 1; index = m.index + (14 + m.last_key); last = len; last_key = k; weight = m.weight + len; version = v })
  measured_full low full =
      let one : length (entries (e ∷ [])) ≡ 14 + length e.ikey.key + length e.value = weight_more [] e in
      let ends = is.light.some (omega (arith, low, full)) in
      let key : length (index is.last) ≡ 14 + m.last_key = index_keyed is.last (has_some is.last (omega (arith, low, full, is.sized))) ∙ ap (λ (o : Option Entry). 14 + length (key_of_entry o)) is.parts.ends ∙ omega (arith, is.keyed) in
      let grown : length (flat_map index (is.closed ++ is.last ∷ [])) ≡ length (flat_map index is.closed) + length (index is.last) = ap length (index_added is.closed is.last) ∙ length-append (flat_map index is.closed) (index is.last) in
      record {
        closed = is.closed ++ is.last ∷ [];
        last = e ∷ [];
        parts = into_full target es e is.closed is.last is.parts (omega (arith, full, is.sized));
        counted = omega (arith, is.counted, length-append is.closed (is.last ∷ []));
        indexed = omega (arith, is.indexed, grown, key);
        sized = omega (arith, lens, one);
        keyed = key_added es e k ks;
        weighed = omega (arith, lens, is.weighed, weight_more es e);
        versioned = version_added;
        light = record {
          closed = omega (arith, is.light.closed);
          index = omega (arith, is.light.index, ends);
          key = omega (arith, lens, ks);
          some = λ _. omega (arith, lens, ks);
        };
      }

module _ (target : ℕ) (es : List Entry) (m : Measure) (low : 1 ≤ target) (some : 0 < length es) (is : IsMeasured target es m) where
  -- the whole has this many bytes
  pub measured_size : 17 + m.index + (14 + m.last_key) + m.weight ≡ length (table_of target es)
  measured_size =
      let blocks = cut_of target es in
      let key : length (index is.last) ≡ 14 + m.last_key = index_keyed is.last (as_some target es is.closed is.last some is.parts) ∙ ap (λ (o : Option Entry). 14 + length (key_of_entry o)) is.parts.ends ∙ omega (arith, is.keyed) in
      let grown : length (flat_map index blocks) ≡ length (flat_map index is.closed) + length (index is.last) =
      ap (λ (bs : List (List Entry)). length (flat_map index bs)) (into_is target es is.closed is.last low some is.parts) ∙ ap length (index_added is.closed is.last) ∙ length-append (flat_map index is.closed) (index is.last) in
      let all : length (entries (all_entries blocks)) ≡ length (entries es) = ap (λ (xs : List Entry). length (entries xs)) (cut_all target es) in
      omega (arith, table_size target blocks, key, grown, all, is.indexed, is.weighed)

  -- and this many blocks
  pub measured_blocks : m.closed + 1 ≡ length (cut_of target es)
  measured_blocks =
      let n : length (cut_of target es) ≡ length (is.closed ++ is.last ∷ []) = ap length (into_is target es is.closed is.last low some is.parts) in
      omega (arith, n, length-append is.closed (is.last ∷ []), is.counted)
