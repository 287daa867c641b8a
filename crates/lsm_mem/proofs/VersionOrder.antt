-- Versions in the order of their sequences.
use Rattle.std.proofs.Common.{◌≡◌, ℕ, zero, suc, ◌-◌, ◌<◌, ◌≤◌, Bool, true, false, cond, ◌&&◌, List, [], ◌∷◌, length, get_or, Some, None, refl, sym, ap, subst, ◌∙◌, inl, inr, arith}
use Rattle.std.specs.Bool.{nat_le}
use Rattle.std.specs.List.Sorted.{IsNonDecreasingBy, IsPartitionPoint, IsPartitionedBy}
use Rattle.std.proofs.lemmas.Bool.{cases_order}
use Rattle.std.proofs.lemmas.List.{get_or_default}
use Rattle.std.proofs.lemmas.List.Sorted.{IsPartitionedBy-leb}
use Rattle.lsm_key.specs.declared.entry.Entry.{Entry}
use Rattle.lsm_key.specs.Sets.{IsIn}
use Rattle.lsm_key.specs.Visible.{latest, newer, visible, is_seen, has_key}
use Rattle.lsm_key.proofs.Membership.{IsIn-at, IsIn-place}
use Rattle.lsm_key.proofs.LatestOfList.{latest_one, latest-is, has_key-at, AreApart}
use Rattle.lsm_mem.specs.Chains.{Chain, AreChains, SequencesRise, entries_in, is_written}
use Rattle.lsm_mem.proofs.ChainOrder.{is_chain, visible_chain}

abbrev pub seq_of : Entry → ℕ
seq_of e = e.ikey.seq

-- sequences do not fall
pub never_falls : (vs : List Entry) → SequencesRise vs → IsNonDecreasingBy seq_of vs
never_falls [] up i j d le lt = absurd (omega arith)
never_falls (v ∷ vs) up zero zero d le lt = omega arith
never_falls (v ∷ vs) up zero (suc j) d le lt = let low : v.ikey.seq < (get_or vs j d).ikey.seq = up.0 (get_or vs j d) (IsIn-at vs j d (omega arith)) in omega arith
never_falls (v ∷ vs) up (suc i) zero d le lt = absurd (omega arith)
never_falls (v ∷ vs) up (suc i) (suc j) d le lt = never_falls vs up.1 i j d (omega arith) (omega arith)

-- a sequence has one version
pub rising_same : (vs : List Entry) → SequencesRise vs → (x y : Entry) → IsIn x vs → IsIn y vs → x.ikey.seq ≡ y.ikey.seq → x ≡ y
rising_same [] up x y mx my s = absurd mx
rising_same (v ∷ vs) up x y mx my s = elim mx [
  | inl e ↦ elim my [
    | inl f ↦ e ∙ sym f
    | inr n ↦ (let lt : v.ikey.seq < y.ikey.seq = up.0 y n in let q : x.ikey.seq ≡ v.ikey.seq = ap seq_of e in absurd (omega arith))
  ]
  | inr m ↦ elim my [
    | inl f ↦ (let lt : v.ikey.seq < x.ikey.seq = up.0 x m in let q : y.ikey.seq ≡ v.ikey.seq = ap seq_of f in absurd (omega arith))
    | inr n ↦ rising_same vs up.1 x y m n s
  ]
]

rising_apart : (test : Entry → Bool) (vs : List Entry) → SequencesRise vs → AreApart test vs
rising_apart test vs up x y mx my tx ty s = rising_same vs up x y mx my s

module _ (vs : List Entry) (at i : ℕ) (up : SequencesRise vs) (part : IsPartitionPoint (λ y. is_written at y ≡ true) (λ y. is_written at y ≡ false) vs i) where
  -- a version that was written stands before the place
  early : (f : Entry) (k : ℕ) → k < length vs → get_or vs k f ≡ f → is_written at f ≡ true → k < i
  early f k lt is t = elim (cases_order k i) [
    | inl same ↦ absurd (late (omega arith))
    | inr (inl less) ↦ less
    | inr (inr more) ↦ absurd (late (omega arith))
  ]
    where
      late : i ≤ k → ⊥
      late le = let h : is_written at (get_or vs k f) ≡ false = part.1 k f le lt in let g : is_written at (get_or vs k f) ≡ true = subst (λ (x : Entry). is_written at x ≡ true) (sym is) t in let bad : true ≡ false = sym g ∙ h in cc

  pub latest_none : i ≡ 0 → latest (is_written at) vs ≡ None
  latest_none none = latest_one (is_written at) vs (rising_apart (is_written at) vs up) (latest (is_written at) vs) None (latest-is (is_written at) vs) (λ f m t.
      let c = IsIn-place f vs m in
      let lt = early f c.0 c.1 c.2 t in
      omega (arith, lt, none))

  pub latest_at : (e : Entry) → 0 < i → i ≤ length vs → e ≡ get_or vs (i - 1) e → latest (is_written at) vs ≡ Some e
  latest_at e some le is = latest_one (is_written at) vs (rising_apart (is_written at) vs up) (latest (is_written at) vs) (Some e) (latest-is (is_written at) vs) (record {
    member = subst (λ (x : Entry). IsIn x vs) (sym is) (IsIn-at vs (i - 1) e (omega (arith, some, le)));
    satisfies = subst (λ (x : Entry). is_written at x ≡ true) (sym is) (part.0 (i - 1) e (omega (arith, some, le)) (omega (arith, some)));
    greatest = λ f m t.
        let c = IsIn-place f vs m in
        let lt : c.0 < i = early f c.0 c.1 c.2 t in
        let up_to : (get_or vs c.0 f).ikey.seq ≤ (get_or vs (i - 1) f).ikey.seq = never_falls vs up c.0 (i - 1) f (omega (arith, lt)) (omega (arith, some, le)) in
        let here : (get_or vs c.0 f).ikey.seq ≡ f.ikey.seq = ap seq_of c.2 in
        let there : e.ikey.seq ≡ (get_or vs (i - 1) f).ikey.seq = ap seq_of (is ∙ get_or_default vs (i - 1) e f (omega (arith, some, le))) in
        omega (arith, up_to, here, there);
  })

-- ---- tests that agree on members

latest_alike : (p q : Entry → Bool) (es : List Entry) → ((e : Entry) → IsIn e es → p e ≡ q e) → latest p es ≡ latest q es
latest_alike p q [] same = refl
latest_alike p q (e ∷ es) same =
    let rest : latest p es ≡ latest q es = latest_alike p q es (λ f m. same f (inr m)) in
    let own : p e ≡ q e = same e (inl refl) in
    (λ i. newer (cond (own i) (Some e) None) (rest i))

and-true : (b t : Bool) → b ≡ true → (b && t) ≡ t
and-true true t h = refl
and-true false t h = absurd cc

-- of a key's own versions those are seen that are written
pub seen_is_written : (key : List ℕ) (at : ℕ) (vs : List Entry) → ((e : Entry) → IsIn e vs → e.ikey.key ≡ key) → latest (is_seen key at) vs ≡ latest (is_written at) vs
seen_is_written key at vs own = latest_alike (is_seen key at) (is_written at) vs (λ e m. and-true (has_key key e) (nat_le e.ikey.seq at) (has_key-at key e (own e m)))

-- a search by sequence
pub written_first : (at : ℕ) (vs : List Entry) → SequencesRise vs → IsPartitionedBy (is_written at) vs
written_first at vs up = IsPartitionedBy-leb seq_of vs at (never_falls vs up)

-- of a key with a chain that version shows which is the last one written
pub visible_written : (cs : List Chain) (key : List ℕ) (vs : List Entry) (at : ℕ) → AreChains cs → IsIn (record { key = key; versions = vs }) cs → visible (entries_in cs) key at ≡ latest (is_written at) vs
visible_written cs key vs at up m =
    let chain : Chain = record { key = key; versions = vs } in
    visible_chain cs up key at chain m refl ∙ seen_is_written key at vs (is_chain cs up chain m).own
