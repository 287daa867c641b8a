-- The chains in the buckets from a prefix on.
use Rattle.std.proofs.Common.{◌≡◌, ℕ, ◌<◌, ◌≤◌, Bool, true, false, cond, not, ◌&&◌, List, [], ◌∷◌, ◌++◌, refl, sym, ap, subst, ◌∙◌, inl, inr, arith}
use Rattle.std.specs.declared.cmp.Ordering.{Ordering}
use Rattle.std.specs.declared.cmp.Ordering.TheVariants.{Less, Equal, Greater}
use Rattle.std.specs.declared.ops.Bound.TheVariants.{Included, Unbounded}
use Rattle.std.specs.Ordering.{nat_cmp, is_le, is_gt, ordering_reverse}
use Rattle.std.specs.List.Sorted.{IsStrictlySortedBy}
use Rattle.std.specs.Map.{keys_of}
use Rattle.std.specs.BTreeMap.Range.{entries_between, range_contains}
use Rattle.std.proofs.lemmas.Cmp.{ranked, nat_list_cmp_total}
use Rattle.std.proofs.lemmas.List.Concat.{flat_map-append}
use Rattle.std.proofs.lemmas.List.Elements.{filter-append}
use Rattle.std.proofs.lemmas.List.Kept.{IsStrictlySortedBy-filter}
use Rattle.lsm_key.specs.Sets.{IsIn}
use Rattle.lsm_key.specs.Order.{key_le}
use Rattle.lsm_key.specs.Prefix.{prefix_of}
use Rattle.lsm_key.proofs.AscendingEntries.{IsIn-filter}
use Rattle.lsm_key.proofs.PrefixOrder.{prefix_before}
use Rattle.lsm_mem.specs.declared.bucket.Bucket.{Bucket}
use Rattle.lsm_mem.specs.Chains.{Chain, chains_from, entries_in}
use Rattle.lsm_mem.specs.Buckets.{chains_in, chains_of_buckets, HasPrefix, IsPlaced, ArePlaced}
use Rattle.lsm_mem.proofs.ChainsOfMap.{key_cmp}
use Rattle.lsm_mem.proofs.ChainsOfBuckets.{keys_after}
use Rattle.lsm_mem.proofs.EntriesFrom.{filter-map, filter_own}
use Rattle.lsm_mem.proofs.NumberedPairs.{AreAbove, head_below}

abbrev Pair : Type 0
Pair = ℕ × Bucket

-- the map's test of a prefix
abbrev is_at_least : ℕ → ℕ → Bool
is_at_least a k = range_contains nat_cmp (Included a) Unbounded k

-- what `range` of a map gives
abbrev pub onward : ℕ → List Pair → List Pair
onward a ps = entries_between nat_cmp (Included a) Unbounded ps

below_at : (a x : ℕ) (o : Ordering) → o ≡ nat_cmp a x → (is_le o && true) ≡ false → x < a
below_at a x Less is h = absurd cc
below_at a x Equal is h = absurd cc
below_at a x Greater is h = ranked a x Greater is

at_least : (a x : ℕ) (o : Ordering) → o ≡ nat_cmp a x → (is_le o && true) ≡ true → a ≤ x
at_least a x Less is h = let lt : a < x = ranked a x Less is in omega arith
at_least a x Equal is h = let same : a ≡ x = ranked a x Equal is in omega arith
at_least a x Greater is h = absurd cc

entries_append : (cs ds : List Chain) → entries_in (cs ++ ds) ≡ entries_in cs ++ entries_in ds
entries_append cs ds = flat_map-append _ cs ds

chains_append : (lo : List ℕ) (cs ds : List Chain) → chains_from lo (cs ++ ds) ≡ chains_from lo cs ++ chains_from lo ds
chains_append lo cs ds = filter-append (λ (c : Chain). key_le lo c.key) cs ds

module _ (front : List ℕ) (a : ℕ) (lo : List ℕ) (from : HasPrefix front a lo) where
  -- ---- the buckets of lesser prefixes have only lesser keys

  lesser : (k : ℕ) (key : List ℕ) → HasPrefix front k key → is_at_least a k ≡ false → key_le lo key ≡ false
  lesser k key own out =
      let lt : k < a = below_at a k (nat_cmp a k) refl out in
      let same : prefix_of front key ≡ k = own.same in
      let is : prefix_of front lo ≡ a = from.same in
      let less : key_cmp key lo ≡ Less = prefix_before front key lo from.bytes (omega (arith, lt, same, is)) in
      ap (λ (o : Ordering). not (is_gt o)) (nat_list_cmp_total.antisymm lo key ∙ ap ordering_reverse less)

  bucket_at : (p : Pair) (ps : List Pair) (in_range : Bool) → is_at_least a p.0 ≡ in_range → IsPlaced front p → chains_from lo (chains_of_buckets (onward a ps)) ≡ chains_from lo (chains_of_buckets ps)
      → chains_from lo (chains_of_buckets (cond in_range (p ∷ onward a ps) (onward a ps))) ≡ chains_from lo (chains_in p.1 ++ chains_of_buckets ps)
  bucket_at p ps true is own rest =
      chains_append lo (chains_in p.1) (chains_of_buckets (onward a ps))
      ∙ ap (λ (cs : List Chain). chains_from lo (chains_in p.1) ++ cs) rest
      ∙ sym (chains_append lo (chains_in p.1) (chains_of_buckets ps))
  bucket_at p ps false is own rest =
      rest
      ∙ ap (λ (cs : List Chain). cs ++ chains_from lo (chains_of_buckets ps)) (sym (filter_own (λ (c : Chain). key_le lo c.key) false (chains_in p.1) (λ c m. lesser p.0 c.key (own.own c m) is)))
      ∙ sym (chains_append lo (chains_in p.1) (chains_of_buckets ps))

  from_buckets : (ps : List Pair) → ArePlaced front ps → chains_from lo (chains_of_buckets (onward a ps)) ≡ chains_from lo (chains_of_buckets ps)
  from_buckets [] placed = refl
  from_buckets (p ∷ ps) placed = bucket_at p ps (is_at_least a p.0) refl (placed p (inl refl)) (from_buckets ps (λ q m. placed q (inr m)))

  -- ---- those after the first have only greater ones

  module _ (ps : List Pair) (placed : ArePlaced front ps) (up : IsStrictlySortedBy nat_cmp (keys_of ps)) (p : Pair) (rest : List Pair) (is : onward a ps ≡ p ∷ rest) where
    sorted : IsStrictlySortedBy nat_cmp (keys_of (p ∷ rest))
    sorted = subst (IsStrictlySortedBy nat_cmp) (sym (filter-map (λ (q : Pair). q.0) (λ q. is_at_least a q.0) (is_at_least a) (λ q. refl) ps) ∙ ap keys_of is) (IsStrictlySortedBy-filter nat_cmp (is_at_least a) (keys_of ps) up)

    of_range : (q : Pair) → IsIn q (p ∷ rest) → IsIn q ps × (is_at_least a q.0 ≡ true)
    of_range q m = IsIn-filter (λ (r : Pair). is_at_least a r.0) q ps (subst (IsIn q) (sym is) m)

    above : AreAbove a rest
    above q m =
        let first : a ≤ p.0 = at_least a p.0 (nat_cmp a p.0) refl (of_range p (inl refl)).1 in
        let later : p.0 < q.0 = head_below p rest sorted q m in
        omega arith

    greater : (c : Chain) → IsIn c (chains_of_buckets rest) → key_le lo c.key ≡ true
    greater c m = ap (λ (o : Ordering). not (is_gt o)) (keys_after front a lo from rest (λ q n. placed q (of_range q (inr n)).0) above c m)

    pub entries_of_range : entries_in (chains_from lo (chains_in p.1)) ++ entries_in (chains_of_buckets rest) ≡ entries_in (chains_from lo (chains_of_buckets ps))
    entries_of_range =
        sym (entries_append (chains_from lo (chains_in p.1)) (chains_of_buckets rest))
        ∙ ap (λ (cs : List Chain). entries_in (chains_from lo (chains_in p.1) ++ cs)) (sym (filter_own (λ (c : Chain). key_le lo c.key) true (chains_of_buckets rest) greater))
        ∙ ap entries_in (sym (chains_append lo (chains_in p.1) (chains_of_buckets rest)))
        ∙ ap (λ (qs : List Pair). entries_in (chains_from lo (chains_of_buckets qs))) (sym is)
        ∙ ap entries_in (from_buckets ps placed)

  pub entries_of_none : (ps : List Pair) → ArePlaced front ps → onward a ps ≡ [] → [] ≡ entries_in (chains_from lo (chains_of_buckets ps))
  entries_of_none ps placed none = ap (λ (qs : List Pair). entries_in (chains_from lo (chains_of_buckets qs))) (sym none) ∙ ap entries_in (from_buckets ps placed)
