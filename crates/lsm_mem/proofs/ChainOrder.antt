-- Chains in order, and the entries in them.
use Rattle.std.proofs.Common.{◌≡◌, ℕ, ◌<◌, List, [], ◌∷◌, ◌++◌, length, Option, Some, None, refl, sym, ap, subst, ◌∙◌, inl, inr, arith, reverse, length-append}
use Rattle.std.specs.declared.cmp.Ordering.{Ordering}
use Rattle.std.specs.declared.cmp.Ordering.TheVariants.{Less, Equal}
use Rattle.std.specs.Ordering.{nat_cmp, ordering_then, is_lt}
use Rattle.std.proofs.lemmas.Bool.{lt-ltb}
use Rattle.std.proofs.lemmas.List.{reverse-append, length-reverse}
use Rattle.std.proofs.lemmas.List.Sorted.{IsPermutation-reverse}
use Rattle.lsm_key.specs.declared.entry.Entry.{Entry}
use Rattle.lsm_key.specs.Sets.{IsIn}
use Rattle.lsm_key.specs.Order.{Precedes, IsAscending}
use Rattle.lsm_key.specs.Visible.{visible, is_seen, Latest}
use Rattle.lsm_key.proofs.AscendingEntries.{Falls, falls-append, falls_ascend}
use Rattle.lsm_key.proofs.Membership.{IsIn-append_cases, IsIn-append_left, IsIn-append_right, IsIn-one, SameMembers-permutation}
use Rattle.lsm_key.proofs.EntryOrder.{of_one_key, ascending_unique}
use Rattle.lsm_key.proofs.LatestOfList.{visible_one, latest-is, is_seen-key}
use Rattle.lsm_mem.specs.Chains.{Chain, IsChain, AreChains, SequencesRise, entries_in}
use Rattle.lsm_mem.proofs.ChainsOfMap.{key_cmp, same_key}

-- ---- membership

pub from_reverse : (f : Entry) (es : List Entry) → IsIn f (reverse es) → IsIn f es
from_reverse f es h = (SameMembers-permutation es (reverse es) (IsPermutation-reverse es) f).1 h

pub to_reverse : (f : Entry) (es : List Entry) → IsIn f es → IsIn f (reverse es)
to_reverse f es h = (SameMembers-permutation es (reverse es) (IsPermutation-reverse es) f).0 h

-- an entry is in a chain
pub chain_with : (f : Entry) (cs : List Chain) → IsIn f (entries_in cs) → (c : Chain) × IsIn c cs × IsIn f c.versions
chain_with f [] h = absurd h
chain_with f (c ∷ cs) h = elim (IsIn-append_cases f (reverse c.versions) (entries_in cs) h) [
  | inl a ↦ (c, inl refl, from_reverse f c.versions a)
  | inr b ↦ let r = chain_with f cs b in (r.0, inr r.1, r.2)
]

pub entry_in : (f : Entry) (c : Chain) (cs : List Chain) → IsIn c cs → IsIn f c.versions → IsIn f (entries_in cs)
entry_in f c [] m h = absurd m
entry_in f c (d ∷ cs) m h = elim m [
  | inl e ↦ IsIn-append_left f (reverse d.versions) (entries_in cs) (to_reverse f d.versions (subst (λ (x : Chain). IsIn f x.versions) e h))
  | inr n ↦ IsIn-append_right f (reverse d.versions) (entries_in cs) (entry_in f c cs n h)
]

pub is_chain : (cs : List Chain) → AreChains cs → (c : Chain) → IsIn c cs → IsChain c
is_chain [] up c m = absurd m
is_chain (d ∷ cs) up c m = elim m [ inl e ↦ subst IsChain (sym e) up.0 | inr n ↦ is_chain cs up.2 c n ]

pub not_both : (a b : List ℕ) → key_cmp a b ≡ Less → a ≡ b → ⊥
not_both a b less same = let e : key_cmp a b ≡ Equal = subst (λ (x : List ℕ). key_cmp a x ≡ Equal) same (same_key a) in cc

-- a key has one chain
pub one_chain : (cs : List Chain) → AreChains cs → (c d : Chain) → IsIn c cs → IsIn d cs → c.key ≡ d.key → c ≡ d
one_chain [] up c d m n same = absurd m
one_chain (b ∷ cs) up c d m n same = elim m [
  | inl e ↦ elim n [
    | inl f ↦ e ∙ sym f
    | inr n ↦ absurd (not_both b.key d.key (up.1 d n) (sym (ap (λ (x : Chain). x.key) e) ∙ same))
  ]
  | inr m ↦ elim n [
    | inl f ↦ absurd (not_both b.key c.key (up.1 c m) (sym (ap (λ (x : Chain). x.key) f) ∙ sym same))
    | inr n ↦ one_chain cs up.2 c d m n same
  ]
]

-- the entries of a key are in its chain
pub own_chain : (cs : List Chain) → AreChains cs → (c : Chain) (f : Entry) → IsIn c cs → IsIn f (entries_in cs) → f.ikey.key ≡ c.key → IsIn f c.versions
own_chain cs up c f m h same =
    let r = chain_with f cs h in
    let d_is : r.0 ≡ c = one_chain cs up r.0 c r.1 m (sym ((is_chain cs up r.0 r.1).own f r.2) ∙ same) in
    subst (λ (x : Chain). IsIn f x.versions) d_is r.2

-- ---- the order of the entries

newer_precedes : (key : List ℕ) (e f : Entry) → e.ikey.key ≡ key → f.ikey.key ≡ key → f.ikey.seq < e.ikey.seq → Precedes e f
newer_precedes key e f ek fk lt = rw (ek, fk) (of_one_key key e.ikey.seq f.ikey.seq ∙ lt-ltb f.ikey.seq e.ikey.seq lt)

less_precedes : (e f : Entry) → key_cmp e.ikey.key f.ikey.key ≡ Less → Precedes e f
less_precedes e f less = ap (λ (o : Ordering). is_lt (ordering_then o (nat_cmp f.ikey.seq e.ikey.seq))) less

pub reverse-cons : (e : Entry) (es : List Entry) → reverse (e ∷ es) ≡ reverse es ++ e ∷ []
reverse-cons e es = reverse-append (e ∷ []) es

versions_fall : (key : List ℕ) (vs : List Entry) → ((e : Entry) → IsIn e vs → e.ikey.key ≡ key) → SequencesRise vs → Falls (reverse vs)
versions_fall key [] own up = tt
versions_fall key (v ∷ vs) own up =
    rw (reverse-cons v vs) (falls-append (reverse vs) (v ∷ []) (versions_fall key vs (λ e m. own e (inr m)) up.1) (λ f m. absurd m, tt) (λ e f i j.
    let m = from_reverse e vs i in
    let is : f ≡ v = IsIn-one f v j in
    newer_precedes key e f (own e (inr m)) (ap (λ (x : Entry). x.ikey.key) is ∙ own v (inl refl)) (let low : v.ikey.seq < e.ikey.seq = up.0 e m in let s : f.ikey.seq ≡ v.ikey.seq = ap (λ (x : Entry). x.ikey.seq) is in omega arith)))

chained_fall : (cs : List Chain) → AreChains cs → Falls (entries_in cs)
chained_fall [] up = tt
chained_fall (c ∷ cs) up =
    falls-append (reverse c.versions) (entries_in cs) (versions_fall c.key c.versions up.0.own up.0.rising) (chained_fall cs up.2) (λ e f i j.
    let r = chain_with f cs j in
    let ek : e.ikey.key ≡ c.key = up.0.own e (from_reverse e c.versions i) in
    let fk : f.ikey.key ≡ r.0.key = (is_chain cs up.2 r.0 r.1).own f r.2 in
    less_precedes e f (rw (ek, fk) (up.1 r.0 r.1)))

pub chained_ascend : (cs : List Chain) → AreChains cs → IsAscending (entries_in cs)
chained_ascend cs up = falls_ascend (entries_in cs) (chained_fall cs up)

-- ---- no chain, no entry

pub none_from_empty : (cs : List Chain) → AreChains cs → entries_in cs ≡ [] → cs ≡ []
none_from_empty [] up h = refl
none_from_empty (c ∷ cs) up h =
    let some = up.0.some in
    let none : length (reverse c.versions ++ entries_in cs) ≡ 0 = ap length h in
    absurd (omega (arith, length-append (reverse c.versions) (entries_in cs), length-reverse c.versions))

-- ---- what is visible of a key

module _ (cs : List Chain) (up : AreChains cs) (key : List ℕ) (at : ℕ) where
  -- of a key with no chain nothing shows
  pub visible_none : ((c : Chain) → IsIn c cs → c.key ≡ key → ⊥) → visible (entries_in cs) key at ≡ None
  visible_none h = visible_one (entries_in cs) key at (ascending_unique (entries_in cs) (chained_ascend cs up)) None (λ f m seen.
      let r = chain_with f cs m in
      h r.0 r.1 (sym ((is_chain cs up r.0 r.1).own f r.2) ∙ is_seen-key key at f seen))

  latest_in_chain : (c : Chain) → IsIn c cs → c.key ≡ key → (r : Option Entry) → Latest (is_seen key at) c.versions r → Latest (is_seen key at) (entries_in cs) r
  latest_in_chain c m own None h = λ f i seen. h f (own_chain cs up c f m i (is_seen-key key at f seen ∙ sym own)) seen
  latest_in_chain c m own (Some e) h = record {
    member = entry_in e c cs m h.member;
    satisfies = h.satisfies;
    greatest = λ f i seen. h.greatest f (own_chain cs up c f m i (is_seen-key key at f seen ∙ sym own)) seen;
  }

  -- of others what its chain shows
  pub visible_chain : (c : Chain) → IsIn c cs → c.key ≡ key → visible (entries_in cs) key at ≡ visible c.versions key at
  visible_chain c m own =
      visible_one (entries_in cs) key at (ascending_unique (entries_in cs) (chained_ascend cs up)) (visible c.versions key at) (latest_in_chain c m own (visible c.versions key at) (latest-is (is_seen key at) c.versions))
