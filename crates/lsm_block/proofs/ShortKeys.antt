-- What is read with a limit has no longer key, whatever the bytes.
use Rattle.std.proofs.Common.{◌≡◌, ℕ, zero, suc, ◌≤◌, ◌||◌, Bool, true, false, cond, eqb, ltb, List, [], ◌∷◌, ◌++◌, length, take, drop, Ok, Err, sym, ap, subst, arith}
use Rattle.std.specs.Int.{w16}
use Rattle.std.specs.List.{AllByRecursion}
use Rattle.std.proofs.lemmas.Bool.{or_parts, ltb-false}
use Rattle.std.proofs.lemmas.List.{length-take}
use Rattle.lsm_key.specs.declared.entry.Entry.{Entry}
use Rattle.lsm_key.specs.Reading.{◌>>=◌, number_at, piece_at, key_at, trailer_at}
use Rattle.lsm_key.proofs.FieldLaws.{bind_ok, guard_ok, guard_held, ok_is}
use Rattle.lsm_block.specs.declared.fault.BlockFault.{BlockFault}
use Rattle.lsm_block.specs.declared.fault.BlockFault.TheVariants.{Truncated, BadKind, BadLength, OutOfOrder}
use Rattle.lsm_block.specs.Blocks.{HasShortKey}
use Rattle.lsm_block.specs.BlockReading.{value_field_at, entry_within, may_follow, last_of, next_at, entries_at}
use Rattle.lsm_block.proofs.EntriesGrow.{each_push}

module _ (limit : ℕ) where
  key_short : (bytes : List ℕ) (x : List ℕ × List ℕ) → key_at limit Truncated BadLength bytes ≡ Ok x → length x.0 ≤ limit
  unfolding key_at
  key_short bytes x e =
      let n = bind_ok (number_at Truncated w16 bytes) (λ n. cond (eqb n.0 0 || ltb limit n.0) (Err BadLength) (piece_at Truncated n.0 n.1)) x e in
      let g = guard_ok (eqb n.0.0 0 || ltb limit n.0.0) BadLength (piece_at Truncated n.0.0 n.0.1) x n.2 in
      let made : List ℕ × List ℕ = (take n.0.0 n.0.1, drop n.0.0 n.0.1) in
      let p = guard_ok (ltb (length n.0.1) n.0.0) Truncated (Ok made) x g.1 in
      let most : n.0.0 ≤ limit = ltb-false limit n.0.0 (or_parts (eqb n.0.0 0) (ltb limit n.0.0) g.0).1 in
      let size : length x.0 ≡ length (take n.0.0 n.0.1) = ap (λ (y : List ℕ × List ℕ). length y.0) (sym (ok_is {F = BlockFault} made x p.1)) in
      omega (arith, size, most, length-take n.0.0 n.0.1)

  entry_short : (bytes : List ℕ) (x : Entry × List ℕ) → entry_within limit bytes ≡ Ok x → HasShortKey limit x.0
  unfolding entry_within
  entry_short bytes x e =
      let k = bind_ok (key_at limit Truncated BadLength bytes) (λ key. trailer_at Truncated BadKind key.1 >>= λ tag. value_field_at tag.0.1 tag.1 >>= λ value. Ok (record { ikey = record { key = key.0; seq = tag.0.0; kind = tag.0.1 }; value = value.0 }, value.1)) x e in
      let t = bind_ok (trailer_at Truncated BadKind k.0.1) (λ tag. value_field_at tag.0.1 tag.1 >>= λ value. Ok (record { ikey = record { key = k.0.0; seq = tag.0.0; kind = tag.0.1 }; value = value.0 }, value.1)) x k.2 in
      let v = bind_ok (value_field_at t.0.0.1 t.0.1) (λ value. Ok (record { ikey = record { key = k.0.0; seq = t.0.0.0; kind = t.0.0.1 }; value = value.0 }, value.1)) x t.2 in
      let made : Entry × List ℕ = (record { ikey = record { key = k.0.0; seq = t.0.0.0; kind = t.0.0.1 }; value = v.0.0 }, v.0.1) in
      subst (λ (y : Entry × List ℕ). HasShortKey limit y.0) (ok_is {F = BlockFault} made x v.2) (key_short bytes k.0 k.1)

  next_short : (es : List Entry) (bytes : List ℕ) (x : Entry × List ℕ) → next_at limit es bytes ≡ Ok x → HasShortKey limit x.0
  unfolding next_at
  next_short es bytes x e =
      let a = bind_ok (entry_within limit bytes) (λ y. cond (may_follow (last_of es) y.0) (Ok y) (Err OutOfOrder)) x e in
      let g = guard_held (may_follow (last_of es) a.0.0) OutOfOrder (Ok a.0) x a.2 in
      subst (λ (y : Entry × List ℕ). HasShortKey limit y.0) (ok_is {F = BlockFault} a.0 x g.1) (entry_short bytes a.0 a.1)

  pub entries_short : (n : ℕ) (es : List Entry) (bytes : List ℕ) (out : List Entry) → AllByRecursion (HasShortKey limit) es → entries_at limit n es bytes ≡ Ok out → AllByRecursion (HasShortKey limit) out
  unfolding entries_at
  entries_short zero es bytes out short e = absurd cc
  entries_short (suc n) es bytes out short e =
      let a = bind_ok (next_at limit es bytes) (λ x. cond (eqb (length x.1) 0) (Ok (es ++ x.0 ∷ [])) (entries_at limit n (es ++ x.0 ∷ []) x.1)) out e in
      let grown = each_push (HasShortKey limit) es a.0.0 short (next_short es bytes a.0 a.1) in
      by (eqb (length a.0.1) 0) (es ++ a.0.0 ∷ []) a.0.1 grown (λ h. entries_short n (es ++ a.0.0 ∷ []) a.0.1 out grown h) a.2
    where
      by : (last : Bool) (all : List Entry) (rest : List ℕ) → AllByRecursion (HasShortKey limit) all → (entries_at limit n all rest ≡ Ok out → AllByRecursion (HasShortKey limit) out) → cond last (Ok all) (entries_at limit n all rest) ≡ Ok out → AllByRecursion (HasShortKey limit) out
      by true all rest grown again h = subst (AllByRecursion (HasShortKey limit)) (ok_is {F = BlockFault} all out h) grown
      by false all rest grown again h = again h
