-- A loop over entries that writes the index of the blocks that they are cut into.
use Rattle.std.proofs.Common.{◌≡◌, ℕ, zero, suc, ◌+◌, ◌-◌, ◌<◌, ◌≤◌, List, [], ◌∷◌, ◌++◌, length, get_or, take, Option, Some, refl, sym, ap, subst, ◌∙◌, append_assoc, arith}
use Rattle.std.specs.List.{flat_map}
use Rattle.std.specs.Int.{w32, to_be_bytes}
use Rattle.std.proofs.lemmas.List.{append-nil, take_more, take_all}
use Rattle.lsm_key.specs.declared.entry.Entry.{Entry}
use Rattle.lsm_key.specs.Limits.{entry_weight}
use Rattle.lsm_block.specs.Blocks.{entries}
use Rattle.lsm_block.specs.BlockReading.{last_of}
use Rattle.lsm_table.specs.Cuts.{cut_of}
use Rattle.lsm_table.specs.Measuring.{IndexSoFar}
use Rattle.lsm_table.specs.Tables.{end_key, index}
use Rattle.lsm_block.proofs.EntriesGrow.{last_added}
use Rattle.lsm_table.proofs.MeasuredTables.{into_none, into_full, into_room, into_is, index_added}
use Rattle.lsm_table.proofs.TableSizes.{weight_more}

-- what is written of a block
abbrev pub end_of : ℕ → Entry → List ℕ
end_of len e = to_be_bytes w32 len ++ end_key (Some e)

pub index_none : (target : ℕ) (front : List ℕ) → IndexSoFar target [] front front 0
index_none target front = record { closed = []; last = []; parts = into_none target; written = sym (append-nil front); sized = refl; light = omega arith }

-- the entry before the place is the last one so far
last_before : (es : List Entry) (i : ℕ) (x : Entry) → 1 ≤ i → i ≤ length es → x ≡ get_or es (i - 1) x → last_of (take i es) ≡ Some x
last_before es i x low le is =
    let n : i ≡ i - 1 + 1 = omega (arith, low) in
    let next : take (i - 1 + 1) es ≡ take (i - 1) es ++ x ∷ [] = take_more es (i - 1) x (omega (arith, low, le)) ∙ ap (λ (y : Entry). take (i - 1) es ++ y ∷ []) (sym is) in
    ap (λ (k : ℕ). last_of (take k es)) n ∙ ap last_of next ∙ last_added (take (i - 1) es) x

module _ (target : ℕ) (es : List Entry) (front out : List ℕ) (len : ℕ) (so_far : IndexSoFar target es front out len) where
  end_written : (x : Entry) (new : List ℕ) → last_of es ≡ Some x → new ≡ out ++ end_of len x → new ≡ front ++ flat_map index (so_far.closed ++ so_far.last ∷ [])
  end_written x new ends grown =
      let same : end_of len x ≡ index so_far.last = ap (λ (n : ℕ). end_of n x) so_far.sized ∙ ap (λ (o : Option Entry). to_be_bytes w32 (length (entries so_far.last)) ++ end_key o) (sym (so_far.parts.ends ∙ ends)) in
      grown
      ∙ ap (λ (b : List ℕ). b ++ end_of len x) so_far.written
      ∙ append_assoc front (flat_map index so_far.closed) (end_of len x)
      ∙ ap (λ (b : List ℕ). front ++ (flat_map index so_far.closed ++ b)) same
      ∙ ap (λ (b : List ℕ). front ++ b) (sym (index_added so_far.closed so_far.last))

  pub so_far_room : (e : Entry) (n : ℕ) → n ≡ entry_weight e → len < target → IndexSoFar target (es ++ e ∷ []) front out (len + n)
  so_far_room e n ns room = record {
    closed = so_far.closed;
    last = so_far.last ++ e ∷ [];
    parts = into_room target es e so_far.closed so_far.last so_far.parts (omega (arith, room, so_far.sized));
    written = so_far.written;
    sized = omega (arith, ns, so_far.sized, weight_more so_far.last e);
    light = omega (arith, ns, so_far.light, weight_more es e);
  }

  pub so_far_full : (x e : Entry) (new : List ℕ) (n : ℕ) → n ≡ entry_weight e → target ≤ len → last_of es ≡ Some x → new ≡ out ++ end_of len x → IndexSoFar target (es ++ e ∷ []) front new n
  so_far_full x e new n ns full ends grown = record {
    closed = so_far.closed ++ so_far.last ∷ [];
    last = e ∷ [];
    parts = into_full target es e so_far.closed so_far.last so_far.parts (omega (arith, full, so_far.sized));
    written = end_written x new ends grown;
    sized = omega (arith, ns, weight_more [] e);
    light = omega (arith, ns, weight_more es e);
  }

  pub so_far_all : (x : Entry) (new : List ℕ) → 1 ≤ target → 0 < length es → last_of es ≡ Some x → new ≡ out ++ end_of len x → new ≡ front ++ flat_map index (cut_of target es)
  so_far_all x new low some ends grown = end_written x new ends grown ∙ ap (λ (bs : List (List Entry)). front ++ flat_map index bs) (sym (into_is target es so_far.closed so_far.last low some so_far.parts))

-- ---- the same by places

some_taken : (es : List Entry) (i : ℕ) → 0 < length (entries (take i es)) → 1 ≤ i
some_taken es zero some = absurd (omega (arith, some))
some_taken es (suc i) some = omega arith

module _ (target : ℕ) (es : List Entry) (front out : List ℕ) (len i : ℕ) (so_far : IndexSoFar target (take i es) front out len) where
  taken_more : (e : Entry) → i < length es → e ≡ get_or es i e → take i es ++ e ∷ [] ≡ take (i + 1) es
  taken_more e lt is = sym (take_more es i e lt ∙ ap (λ (x : Entry). take i es ++ x ∷ []) (sym is))

  pub index_room : (e : Entry) (n : ℕ) → i < length es → e ≡ get_or es i e → n ≡ entry_weight e → len < target → IndexSoFar target (take (i + 1) es) front out (len + n)
  index_room e n lt is ns room = subst (λ (xs : List Entry). IndexSoFar target xs front out (len + n)) (taken_more e lt is) (so_far_room target (take i es) front out len so_far e n ns room)

  -- a block that is full has an entry
  pub some_before : 1 ≤ len → 1 ≤ i
  some_before low = some_taken es i (omega (arith, so_far.light, low))

  pub index_full : (x e : Entry) (new : List ℕ) (n : ℕ) → i < length es → x ≡ get_or es (i - 1) x → e ≡ get_or es i e → n ≡ entry_weight e → 1 ≤ target → target ≤ len → new ≡ out ++ end_of len x → IndexSoFar target (take (i + 1) es) front new n
  index_full x e new n lt before is ns low full grown =
      let ends = last_before es i x (some_before (omega (arith, low, full))) (omega (arith, lt)) before in
      subst (λ (xs : List Entry). IndexSoFar target xs front new n) (taken_more e lt is) (so_far_full target (take i es) front out len so_far x e new n ns full ends grown)

  pub index_whole : (x : Entry) (new : List ℕ) → length es ≤ i → 0 < length es → 1 ≤ target → x ≡ get_or es (length es - 1) x → new ≡ out ++ end_of len x → new ≡ front ++ flat_map index (cut_of target es)
  index_whole x new past some low is grown =
      let all : take i es ≡ es = take_all i es past in
      let ends : last_of es ≡ Some x = ap last_of (sym (take_all (length es) es (omega arith))) ∙ last_before es (length es) x some (omega arith) is in
      so_far_all target es front out len (subst (λ (xs : List Entry). IndexSoFar target xs front out len) all so_far) x new low some ends grown
