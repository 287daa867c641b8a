-- What is read as a block of short keys is read as the same block with any greater limit.
use Rattle.std.proofs.Common.{◌≡◌, ℕ, zero, suc, ◌+◌, ◌≤◌, Bool, true, false, cond, eqb, List, [], ◌∷◌, ◌++◌, length, Result, Ok, Err, ap, ◌∙◌}
use Rattle.lsm_key.specs.declared.entry.Entry.{Entry}
use Rattle.lsm_key.specs.Reading.{◌>>=◌, key_at}
use Rattle.lsm_key.proofs.FieldLaws.{bind_ok, key_wider}
use Rattle.lsm_block.specs.declared.fault.BlockFault.{BlockFault}
use Rattle.lsm_block.specs.declared.fault.BlockFault.TheVariants.{Truncated, BadLength, OutOfOrder}
use Rattle.lsm_block.specs.BlockReading.{entry_within, last_of, may_follow, next_at, entries_at, read_block}
use Rattle.lsm_block.proofs.BlockFields.{after_key}

module _ (low high : ℕ) (le : low ≤ high) where
  pub entry_wider : (bytes : List ℕ) (x : Entry × List ℕ) → entry_within low bytes ≡ Ok x → entry_within high bytes ≡ Ok x
  unfolding entry_within
  entry_wider bytes x e =
      let a = bind_ok (key_at low Truncated BadLength bytes) after_key x e in
      ap (λ (r : Result (List ℕ × List ℕ) BlockFault). r >>= after_key) (key_wider Truncated BadLength low high le bytes a.0 a.1) ∙ a.2

  next_wider : (es : List Entry) (bytes : List ℕ) (x : Entry × List ℕ) → next_at low es bytes ≡ Ok x → next_at high es bytes ≡ Ok x
  unfolding next_at
  next_wider es bytes x e =
      let a = bind_ok (entry_within low bytes) (λ y. cond (may_follow (last_of es) y.0) (Ok y) (Err OutOfOrder)) x e in
      ap (λ (r : Result (Entry × List ℕ) BlockFault). r >>= λ y. cond (may_follow (last_of es) y.0) (Ok y) (Err OutOfOrder)) (entry_wider bytes a.0 a.1) ∙ a.2

  pub entries_wider : (n : ℕ) (es : List Entry) (bytes : List ℕ) (xs : List Entry) → entries_at low n es bytes ≡ Ok xs → entries_at high n es bytes ≡ Ok xs
  unfolding entries_at
  entries_wider zero es bytes xs e = absurd cc
  entries_wider (suc n) es bytes xs e =
      let a = bind_ok (next_at low es bytes) (λ x. cond (eqb (length x.1) 0) (Ok (es ++ x.0 ∷ [])) (entries_at low n (es ++ x.0 ∷ []) x.1)) xs e in
      ap (λ (r : Result (Entry × List ℕ) BlockFault). r >>= λ x. cond (eqb (length x.1) 0) (Ok (es ++ x.0 ∷ [])) (entries_at high n (es ++ x.0 ∷ []) x.1)) (next_wider es bytes a.0 a.1)
      ∙ more (eqb (length a.0.1) 0) a.0 (λ h. entries_wider n (es ++ a.0.0 ∷ []) a.0.1 xs h) a.2
    where
      more : (last : Bool) (x : Entry × List ℕ) → (entries_at low n (es ++ x.0 ∷ []) x.1 ≡ Ok xs → entries_at high n (es ++ x.0 ∷ []) x.1 ≡ Ok xs) → cond last (Ok (es ++ x.0 ∷ [])) (entries_at low n (es ++ x.0 ∷ []) x.1) ≡ Ok xs
          → cond last (Ok (es ++ x.0 ∷ [])) (entries_at high n (es ++ x.0 ∷ []) x.1) ≡ Ok xs
      more true x again h = h
      more false x again h = again h

  pub block_wider : (bytes : List ℕ) (xs : List Entry) → read_block low bytes ≡ Ok xs → read_block high bytes ≡ Ok xs
  unfolding read_block
  block_wider bytes xs e = entries_wider (length bytes + 1) [] bytes xs e
