-- Where the key and the value of an entry stand in the bytes of a block.
use Rattle.std.proofs.Common.{◌≡◌, ℕ, ◌+◌, ◌-◌, ◌≤◌, List, ◌++◌, length, take, drop, sym, ap, ◌∙◌, arith}
use Rattle.std.specs.Int.{w16, w32, to_be_bytes}
use Rattle.std.specs.List.{slice_range}
use Rattle.std.proofs.lemmas.List.{append_assoc, drop-append-le, drop_all, length-append, length-drop, length-take-le, take-append-drop, take-append-le, take_all}
use Rattle.std.proofs.lemmas.List.Folds.{drop_split}
use Rattle.lsm_key.specs.declared.entry.Entry.{Entry}
use Rattle.lsm_key.specs.Spelling.{key, trailer}
use Rattle.lsm_block.specs.Blocks.{entry, value}

middle : (pre mid post : List ℕ) → slice_range (pre ++ (mid ++ post)) (length pre) (length pre + length mid) ≡ mid
middle pre mid post =
    let behind : drop (length pre) (pre ++ (mid ++ post)) ≡ mid ++ post =
    drop-append-le (length pre) pre (mid ++ post) (omega arith) ∙ ap (λ (xs : List ℕ). xs ++ (mid ++ post)) (drop_all (length pre) pre (omega arith)) in
    let count : length pre + length mid - length pre ≡ length mid = omega arith in
    (λ i. take (count i) (behind i)) ∙ take-append-le (length mid) mid post (omega arith) ∙ take_all (length mid) mid (omega arith)

module _ (block : List ℕ) (place end : ℕ) (e : Entry) (order : place ≤ end) (within : end ≤ length block) (spelled : slice_range block place end ≡ entry e) where
  abbrev pre : List ℕ
  pre = take place block

  abbrev post : List ℕ
  post = drop end block

  whole : block ≡ pre ++ (entry e ++ post)
  whole = sym (take-append-drop place block) ∙ ap (λ (xs : List ℕ). pre ++ xs) (drop_split block place end order ∙ ap (λ (xs : List ℕ). xs ++ post) spelled)

  before : length pre ≡ place
  before = length-take-le place block (omega (arith, order, within))

  size : length (entry e) ≡ end - place
  size = ap length (sym spelled) ∙ length-take-le (end - place) (drop place block) (omega (arith, order, within, length-drop place block))

  abbrev lead : List ℕ
  lead = to_be_bytes w16 (length e.ikey.key)

  -- what stands before the value
  abbrev front : List ℕ
  front = key e.ikey.key ++ trailer e.ikey.seq e.ikey.kind ++ to_be_bytes w32 (length e.value)

  in_front : entry e ≡ front ++ e.value
  in_front = sym (append_assoc (key e.ikey.key ++ trailer e.ikey.seq e.ikey.kind) (to_be_bytes w32 (length e.value)) e.value)

  pub value_fits : length e.value ≤ end - place
  value_fits = omega (arith, size, ap length in_front, length-append front e.value)

  pub value_stands : slice_range block (end - length e.value) end ≡ e.value
  value_stands =
      let split : block ≡ (pre ++ front) ++ (e.value ++ post) =
      whole ∙ ap (λ (xs : List ℕ). pre ++ xs) (ap (λ (xs : List ℕ). xs ++ post) in_front ∙ append_assoc front e.value post) ∙ sym (append_assoc pre front (e.value ++ post)) in
      let start : end - length e.value ≡ length (pre ++ front) = omega (arith, order, value_fits, size, ap length in_front, length-append front e.value, length-append pre front, before) in
      let stop : end ≡ length (pre ++ front) + length e.value = omega (arith, order, start, value_fits) in
      (λ i. slice_range (split i) (start i) (stop i)) ∙ middle (pre ++ front) e.value post

  pub key_stands : slice_range block (place + 2) (place + 2 + length e.ikey.key) ≡ e.ikey.key
  key_stands =
      let k = e.ikey.key in
      let t = trailer e.ikey.seq e.ikey.kind in
      let v = value e.value in
      let split : block ≡ (pre ++ lead) ++ (k ++ (t ++ (v ++ post))) =
      whole
      ∙ ap (λ (xs : List ℕ). pre ++ xs) (append_assoc (lead ++ k ++ t) v post ∙ append_assoc (lead ++ k) t (v ++ post) ∙ append_assoc lead k (t ++ (v ++ post)))
      ∙ sym (append_assoc pre lead (k ++ (t ++ (v ++ post)))) in
      let start : place + 2 ≡ length (pre ++ lead) = omega (arith, length-append pre lead, before) in
      (λ i. slice_range (split i) (start i) (start i + length k)) ∙ middle (pre ++ lead) k (t ++ (v ++ post))
