-- The entries whose keys are at or after a key, and those of them that are before another.
use Rattle.std.proofs.Common.{◌≡◌, ℕ, Bool, true, false, cond, not, ◌&&◌, List, [], ◌∷◌, ◌++◌, map, refl, sym, ap, ◌∙◌, inl, inr, reverse}
use Rattle.std.specs.declared.cmp.Ordering.{Ordering}
use Rattle.std.specs.declared.cmp.Ordering.TheVariants.{Less, Equal, Greater}
use Rattle.std.specs.declared.ops.Bound.TheVariants.{Included, Unbounded}
use Rattle.std.specs.declared.vec.Vec.{Vec}
use Rattle.std.specs.Ordering.{is_le, is_lt, is_ge, is_gt}
use Rattle.std.specs.List.{filter}
use Rattle.std.specs.BTreeMap.Range.{entries_between, range_contains}
use Rattle.std.proofs.lemmas.Bool.{false_from_ne_true, true≢false}
use Rattle.std.proofs.lemmas.List.Elements.{filter-append}
use Rattle.lsm_key.specs.declared.entry.Entry.{Entry}
use Rattle.lsm_key.specs.Sets.{IsIn}
use Rattle.lsm_key.specs.Order.{is_between, key_le, key_lt}
use Rattle.lsm_key.proofs.AscendingEntries.{Falls}
use Rattle.lsm_key.proofs.RangeSlices.{before_smaller}
use Rattle.lsm_mem.specs.Chains.{Chain, AreChains, chain_of, chains_of, chains_from, entries_in}
use Rattle.lsm_mem.proofs.ChainsOfMap.{key_cmp, vec_cmp}
use Rattle.lsm_mem.proofs.ChainOrder.{from_reverse}

-- the map's test of a key
test_alike : (o : Ordering) → (is_le o && true) ≡ not (is_gt o)
test_alike Less = refl
test_alike Equal = refl
test_alike Greater = refl

kept_or : {A B : Type 0} (f : A → B) (x : A) (xs : List A) (ys : List B) (b c : Bool) → b ≡ c → map f xs ≡ ys → map f (cond b (x ∷ xs) xs) ≡ cond c (f x ∷ ys) ys
kept_or f x xs ys true true e rest = ap (λ zs. f x ∷ zs) rest
kept_or f x xs ys false false e rest = rest
kept_or f x xs ys true false e rest = absurd cc
kept_or f x xs ys false true e rest = absurd cc

pub filter-map : {A B : Type 0} (f : A → B) (p : A → Bool) (q : B → Bool) → ((a : A) → p a ≡ q (f a)) → (xs : List A) → map f (filter p xs) ≡ filter q (map f xs)
filter-map f p q same [] = refl
filter-map f p q same (x ∷ xs) = kept_or f x (filter p xs) (filter q (map f xs)) (p x) (q (f x)) (same x) (filter-map f p q same xs)

pub filter_own : {X : Type 0} (p : X → Bool) (b : Bool) (xs : List X) → ((x : X) → IsIn x xs → p x ≡ b) → filter p xs ≡ cond b xs []
filter_own p true [] h = refl
filter_own p false [] h = refl
filter_own p true (x ∷ xs) h = ap (λ (t : Bool). cond t (x ∷ filter p xs) (filter p xs)) (h x (inl refl)) ∙ ap (λ ys. x ∷ ys) (filter_own p true xs (λ y m. h y (inr m)))
filter_own p false (x ∷ xs) h = ap (λ (t : Bool). cond t (x ∷ filter p xs) (filter p xs)) (h x (inl refl)) ∙ filter_own p false xs (λ y m. h y (inr m))

-- ---- what `range` of a map gives

pub range_from : {Y Z : Type 0} (from : Vec ℕ Y) (ps : List (Vec ℕ Y × Vec Entry Z)) → chains_of (entries_between vec_cmp (Included from) Unbounded ps) ≡ chains_from from.items (chains_of ps)
range_from from ps = filter-map chain_of (λ p. range_contains vec_cmp (Included from) Unbounded p.0) (λ c. key_le from.items c.key) (λ p. test_alike (key_cmp from.items p.0.items)) ps

pub range_all : {Y Z : Type 0} (ps : List (Vec ℕ Y × Vec Entry Z)) → entries_between vec_cmp Unbounded Unbounded ps ≡ ps
range_all ps = filter_own (λ p. range_contains vec_cmp Unbounded Unbounded p.0) true ps (λ p m. refl)

-- ---- the entries of a chain stand where its key stands

-- the entry's key is at or after the key
abbrev pub is_from : List ℕ → Entry → Bool
is_from lo e = key_le lo e.ikey.key

front_or : (b : Bool) (c : Chain) (cs : List Chain) → cond b (reverse c.versions) [] ++ entries_in cs ≡ entries_in (cond b (c ∷ cs) cs)
front_or true c cs = refl
front_or false c cs = refl

pub from_chains : (lo : List ℕ) (cs : List Chain) → AreChains cs → filter (is_from lo) (entries_in cs) ≡ entries_in (chains_from lo cs)
from_chains lo [] up = refl
from_chains lo (c ∷ cs) up =
    filter-append (is_from lo) (reverse c.versions) (entries_in cs)
    ∙ ap (λ (es : List Entry). es ++ filter (is_from lo) (entries_in cs)) (filter_own (is_from lo) (key_le lo c.key) (reverse c.versions) (λ e m. ap (key_le lo) (up.0.own e (from_reverse e c.versions m))))
    ∙ ap (λ (es : List Entry). cond (key_le lo c.key) (reverse c.versions) [] ++ es) (from_chains lo cs up.2)
    ∙ front_or (key_le lo c.key) c (chains_from lo cs)

-- ---- those of them that are before another key

-- the entry's key is before the key
abbrev pub is_before : List ℕ → Entry → Bool
is_before hi e = key_lt e.ikey.key hi

both_at : (hi : List ℕ) (e : Entry) (xs ys : List Entry) (from : Bool) → filter (is_before hi) xs ≡ ys → filter (is_before hi) (cond from (e ∷ xs) xs) ≡ cond (from && is_before hi e) (e ∷ ys) ys
both_at hi e xs ys false rest = rest
both_at hi e xs ys true rest = ap (λ (zs : List Entry). cond (is_before hi e) (e ∷ zs) zs) rest

pub from_and_before : (lo hi : List ℕ) (es : List Entry) → filter (is_before hi) (filter (is_from lo) es) ≡ filter (is_between lo hi) es
from_and_before lo hi [] = refl
from_and_before lo hi (e ∷ es) = both_at hi e (filter (is_from lo) es) (filter (is_between lo hi) es) (is_from lo e) (from_and_before lo hi es)

pub not_lt : (o : Ordering) → is_ge o ≡ true → is_lt o ≡ false
not_lt Less h = absurd cc
not_lt Equal h = refl
not_lt Greater h = refl

-- after an entry that is not before the key none is
pub none_before : (hi : List ℕ) (e : Entry) (es : List Entry) → Falls (e ∷ es) → is_before hi e ≡ false → filter (is_before hi) (e ∷ es) ≡ []
none_before hi e es falls past = filter_own (is_before hi) false (e ∷ es) (λ f m. elim m [
  | inl same ↦ ap (is_before hi) same ∙ past
  | inr n ↦ false_from_ne_true (is_before hi f) (λ before.
      true≢false (sym (before_smaller e.ikey.key e.ikey.seq f.ikey.key f.ikey.seq hi (falls.0 f n) before) ∙ past))
])
