-- The order of entries, and what stands where in a list that is in order.
use Rattle.std.proofs.Common.{◌≡◌, ℕ, zero, suc, ◌+◌, ◌-◌, ◌<◌, ◌≤◌, Bool, true, false, cond, ltb, eqb, List, [], ◌∷◌, length, get_or, Some, None, refl, sym, ap, subst, ◌∙◌, arith, inl, inr, ◌⊎◌}
use Rattle.std.specs.declared.cmp.Ordering.{Ordering}
use Rattle.std.specs.declared.cmp.Ordering.TheVariants.{Less, Equal, Greater}
use Rattle.std.specs.Ordering.{ordering_then, nat_cmp, is_lt, is_ne}
use Rattle.std.specs.Cmp.{IsTotalOrder}
use Rattle.std.specs.Cmp.Lexicographic.{slice_cmp}
use Rattle.std.specs.List.{Contains}
use Rattle.std.specs.List.Sorted.{IsPartitionedBy, IsPartitionPoint}
use Rattle.std.proofs.lemmas.List.{get_or_default}
use Rattle.std.proofs.lemmas.Bool.{cases_order, ltb-true, ltb-false, eqb-true}
use Rattle.std.proofs.lemmas.Cmp.{then_total, on_total, back_total, nat_cmp_total, nat_list_cmp_total, tied_itself}
use Rattle.lsm_key.specs.declared.entry.Entry.{Entry}
use Rattle.lsm_key.specs.Order.{place_cmp, Precedes, IsAscending, comes_before}
use Rattle.lsm_key.specs.Sets.{IsIn}
use Rattle.lsm_key.specs.Visible.{IsUnique, visible}
use Rattle.lsm_key.proofs.Membership.{IsIn-place, IsIn-at}
use Rattle.lsm_key.proofs.LatestOfList.{is_seen-key, is_seen-low, is_seen-from, visible_one}

-- ---- the order

abbrev pub pair_cmp : List ℕ × ℕ → List ℕ × ℕ → Ordering
pair_cmp a b = place_cmp a.0 a.1 b.0 b.1

pub pair_total : IsTotalOrder pair_cmp
pair_total = then_total (on_total (λ (p : List ℕ × ℕ). p.0) nat_list_cmp_total) (back_total (on_total (λ (p : List ℕ × ℕ). p.1) nat_cmp_total))

pub is_less : (o : Ordering) → is_lt o ≡ true → o ≡ Less
is_less Less e = refl
is_less Equal e = absurd cc
is_less Greater e = absurd cc

pub before_trans : (a : List ℕ) (s : ℕ) (b : List ℕ) (t : ℕ) (c : List ℕ) (u : ℕ) → is_lt (place_cmp a s b t) ≡ true → is_lt (place_cmp b t c u) ≡ true → is_lt (place_cmp a s c u) ≡ true
before_trans a s b t c u h k = ap is_lt (pair_total.trans (a, s) (b, t) (c, u) (is_less (place_cmp a s b t) h) (is_less (place_cmp b t c u) k))

is_lt_tests : (b c : Bool) → is_lt (cond b Less (cond c Equal Greater)) ≡ b
is_lt_tests true c = refl
is_lt_tests false true = refl
is_lt_tests false false = refl

-- of one key the greater sequence comes first
pub of_one_key : (k : List ℕ) (s t : ℕ) → is_lt (place_cmp k s k t) ≡ ltb t s
of_one_key k s t = rw (tied_itself nat_list_cmp_total k) (is_lt_tests (ltb t s) (eqb t s))

-- of one key the earlier entry is the newer
pub newer_first : (x y : Entry) → Precedes x y → x.ikey.key ≡ y.ikey.key → y.ikey.seq < x.ikey.seq
newer_first x y p e =
    let q : is_lt (place_cmp y.ikey.key x.ikey.seq y.ikey.key y.ikey.seq) ≡ true = subst (λ (k : List ℕ). is_lt (place_cmp k x.ikey.seq y.ikey.key y.ikey.seq) ≡ true) e p in
    ltb-true y.ikey.seq x.ikey.seq (sym (of_one_key y.ikey.key x.ikey.seq y.ikey.seq) ∙ q)

nat_equal : (x y : ℕ) → nat_cmp x y ≡ Equal → x ≡ y
nat_equal x y e = eqb-true x y (by (ltb x y) (eqb x y) e)
  where
    by : (b c : Bool) → cond b Less (cond c Equal Greater) ≡ Equal → c ≡ true
    by true c h = absurd cc
    by false true h = refl
    by false false h = absurd cc

then_equal : (o r : Ordering) → ordering_then o r ≡ Equal → (o ≡ Equal) × (r ≡ Equal)
then_equal Less r e = absurd cc
then_equal Equal r e = (refl, e)
then_equal Greater r e = absurd cc

pub keys_equal : (xs ys : List ℕ) → slice_cmp nat_cmp xs ys ≡ Equal → xs ≡ ys
keys_equal [] [] e = refl
keys_equal [] (y ∷ ys) e = absurd cc
keys_equal (x ∷ xs) [] e = absurd cc
keys_equal (x ∷ xs) (y ∷ ys) e =
    let h = then_equal (nat_cmp x y) (slice_cmp nat_cmp xs ys) e in
    let first = nat_equal x y h.0 in
    let others = keys_equal xs ys h.1 in
    cc

-- what comes before a key at one sequence does so at any, unless the keys are one
any_seq : (k : List ℕ) (s : ℕ) (l : List ℕ) (t u : ℕ) → is_lt (place_cmp k s l t) ≡ true → (is_lt (place_cmp k s l u) ≡ true) ⊎ (k ≡ l)
any_seq k s l t u h = by (slice_cmp nat_cmp k l) (nat_cmp t s) (nat_cmp u s) (keys_equal k l) h
  where
    by : (o p q : Ordering) → (o ≡ Equal → k ≡ l) → is_lt (ordering_then o p) ≡ true → (is_lt (ordering_then o q) ≡ true) ⊎ (k ≡ l)
    by Less p q f h = inl refl
    by Equal p q f h = inr (f refl)
    by Greater p q f h = absurd cc

-- ---- lists in order

pub far : (es : List Entry) (up : IsAscending es) (n i j : ℕ) (d : Entry) → j ≡ i + 1 + n → j < length es → Precedes (get_or es i d) (get_or es j d)
far es up zero i j d e lt = (let k : j ≡ i + 1 = omega (arith, e) in rw k (up i d (omega (arith, k, lt))))
far es up (suc n) i j d e lt =
    let m : ℕ = i + 1 + n in
    let k : j ≡ m + 1 = omega (arith, e) in
    let a = get_or es i d in
    let b = get_or es m d in
    let c = get_or es (m + 1) d in
    rw k (before_trans a.ikey.key a.ikey.seq b.ikey.key b.ikey.seq c.ikey.key c.ikey.seq (far es up n i m d refl (omega (arith, k, lt))) (up m d (omega (arith, k, lt))))

pub partitioned : (es : List Entry) (key : List ℕ) (at : ℕ) → IsAscending es → IsPartitionedBy (comes_before key at) es
partitioned es key at up i j d le lt h =
    elim (cases_order i j) [
      | inl same ↦ rw same h
      | inr (inl less) ↦
          let gap : j ≡ i + 1 + (j - (i + 1)) = omega (arith, less) in
          let a = get_or es i d in
          let b = get_or es j d in
          before_trans a.ikey.key a.ikey.seq b.ikey.key b.ikey.seq key at (far es up (j - (i + 1)) i j d gap lt) h
      | inr (inr more) ↦ absurd (omega (arith, more, le))
    ]

-- entries in order have their own places
pub ascending_unique : (es : List Entry) → IsAscending es → IsUnique es
ascending_unique es up e f me mf keys seqs =
    let a = IsIn-place e es me in
    let b = IsIn-place f es mf in
    elim (cases_order a.0 b.0) [
      | inl same ↦ sym a.2 ∙ get_or_default es a.0 e f a.1 ∙ ap (λ (n : ℕ). get_or es n f) same ∙ b.2
      | inr (inl less) ↦ absurd (none_both es up e f a.0 b.0 e less b.1 a.2 (get_or_default es b.0 e f b.1 ∙ b.2) keys seqs)
      | inr (inr more) ↦ absurd (none_both es up f e b.0 a.0 e more a.1 (get_or_default es b.0 e f b.1 ∙ b.2) a.2 (sym keys) (sym seqs))
    ]
  where
    none_both : (es : List Entry) → IsAscending es → (x y : Entry) (i j : ℕ) (d : Entry) → i < j → j < length es → get_or es i d ≡ x → get_or es j d ≡ y → x.ikey.key ≡ y.ikey.key → x.ikey.seq ≡ y.ikey.seq → ⊥
    none_both es up x y i j d lt h xi yj k s =
        let gap : j ≡ i + 1 + (j - (i + 1)) = omega (arith, lt) in
        let p : Precedes x y = subst (λ (z : Entry). Precedes z y) xi (subst (λ (z : Entry). Precedes (get_or es i d) z) yj (far es up (j - (i + 1)) i j d gap h)) in
        let q : is_lt (place_cmp y.ikey.key x.ikey.seq y.ikey.key y.ikey.seq) ≡ true = subst (λ (l : List ℕ). is_lt (place_cmp l x.ikey.seq y.ikey.key y.ikey.seq) ≡ true) k p in
        let r : y.ikey.seq < x.ikey.seq = ltb-true y.ikey.seq x.ikey.seq (sym (of_one_key y.ikey.key x.ikey.seq y.ikey.seq) ∙ q) in
        omega arith

module _ (es : List Entry) (key : List ℕ) (at i : ℕ) (up : IsAscending es) (part : IsPartitionPoint (λ y. comes_before key at y ≡ true) (λ y. comes_before key at y ≡ false) es i) where
  -- an entry that may be seen does not stand before the place
  at_or_after : (f : Entry) (c : Contains es f) → f.ikey.key ≡ key → f.ikey.seq ≤ at → i ≤ c.0
  at_or_after f c same_key low =
      elim (cases_order c.0 i) [
        | inl same ↦ omega (arith, same)
        | inr (inl less) ↦
            let h : comes_before key at (get_or es c.0 f) ≡ true = part.0 c.0 f (omega arith) less in
            let k : is_lt (place_cmp key f.ikey.seq key at) ≡ true = subst (λ (l : List ℕ). is_lt (place_cmp l f.ikey.seq key at) ≡ true) same_key (subst (λ (g : Entry). comes_before key at g ≡ true) c.2 h) in
            let lt : at < f.ikey.seq = ltb-true at f.ikey.seq (sym (of_one_key key f.ikey.seq at) ∙ k) in
            absurd (omega (arith, lt, low))
        | inr (inr more) ↦ omega (arith, more)
      ]

  pub none_past : length es ≤ i → visible es key at ≡ None
  none_past past = visible_one es key at (ascending_unique es up) None (λ f m seen.
      let c = IsIn-place f es m in
      omega (arith, past, c.1, at_or_after f c (is_seen-key key at f seen) (is_seen-low key at f seen)))

  -- what the entry at the place has to do with one that may be seen
  same_or_later : (e : Entry) → i < length es → e ≡ get_or es i e → (f : Entry) (c : Contains es f) → i ≤ c.0 → (e ≡ f) ⊎ Precedes e f
  same_or_later e within is f c le =
      elim (cases_order i c.0) [
        | inl same ↦ inl (is ∙ as_at ∙ ap (λ (n : ℕ). get_or es n f) same ∙ c.2)
        | inr (inl less) ↦
            let gap : c.0 ≡ i + 1 + (c.0 - (i + 1)) = omega (arith, less) in
            inr (subst (λ (g : Entry). Precedes e g) c.2 (subst (λ (g : Entry). Precedes g (get_or es c.0 f)) (sym (is ∙ as_at)) (far es up (c.0 - (i + 1)) i c.0 f gap c.1)))
        | inr (inr more) ↦ absurd (omega (arith, more, le))
      ]
    where
      as_at : get_or es i e ≡ get_or es i f
      as_at = get_or_default es i e f within

  pub none_there : (e : Entry) → i < length es → e ≡ get_or es i e → (e.ikey.key ≡ key → ⊥) → visible es key at ≡ None
  none_there e within is other = visible_one es key at (ascending_unique es up) None (λ f m seen.
      let c = IsIn-place f es m in
      let same_key = is_seen-key key at f seen in
      let stays : comes_before key at e ≡ false = subst (λ (g : Entry). comes_before key at g ≡ false) (sym is) (part.1 i e (omega arith) within) in
      elim (same_or_later e within is f c (at_or_after f c same_key (is_seen-low key at f seen))) [
        | inl same ↦ other (ap (λ (g : Entry). g.ikey.key) same ∙ same_key)
        | inr later ↦
            let h : is_lt (place_cmp e.ikey.key e.ikey.seq key f.ikey.seq) ≡ true = subst (λ (l : List ℕ). is_lt (place_cmp e.ikey.key e.ikey.seq l f.ikey.seq) ≡ true) same_key later in
            elim (any_seq e.ikey.key e.ikey.seq key f.ikey.seq at h) [
              | inl less ↦ (let bad : true ≡ false = sym less ∙ stays in absurd cc)
              | inr same ↦ other same
            ]
      ])

  pub there : (e : Entry) → i < length es → e ≡ get_or es i e → e.ikey.key ≡ key → visible es key at ≡ Some e
  there e within is own_key =
      let stays : comes_before key at e ≡ false = subst (λ (g : Entry). comes_before key at g ≡ false) (sym is) (part.1 i e (omega arith) within) in
      let ranks : is_lt (place_cmp key e.ikey.seq key at) ≡ false = subst (λ (l : List ℕ). is_lt (place_cmp l e.ikey.seq key at) ≡ false) own_key stays in
      let low : e.ikey.seq ≤ at = ltb-false at e.ikey.seq (sym (of_one_key key e.ikey.seq at) ∙ ranks) in
      visible_one es key at (ascending_unique es up) (Some e) (record {
        member = subst (λ (g : Entry). IsIn g es) (sym is) (IsIn-at es i e within);
        satisfies = is_seen-from key at e own_key low;
        greatest = λ f m seen.
            let c = IsIn-place f es m in
            let same_key = is_seen-key key at f seen in
            elim (same_or_later e within is f c (at_or_after f c same_key (is_seen-low key at f seen))) [
              | inl same ↦ (let s = ap (λ (g : Entry). g.ikey.seq) same in omega (arith, s))
              | inr later ↦
                  let h : is_lt (place_cmp key e.ikey.seq key f.ikey.seq) ≡ true = subst (λ (l : List ℕ). is_lt (place_cmp l e.ikey.seq key f.ikey.seq) ≡ true) own_key (subst (λ (l : List ℕ). is_lt (place_cmp e.ikey.key e.ikey.seq l f.ikey.seq) ≡ true) same_key later) in
                  let lt : f.ikey.seq < e.ikey.seq = ltb-true f.ikey.seq e.ikey.seq (sym (of_one_key key e.ikey.seq f.ikey.seq) ∙ h) in
                  omega (arith, lt)
            ];
      })

-- what a comparison for inequality says
pub keys_differ : (xs ys : List ℕ) → is_ne (slice_cmp nat_cmp xs ys) ≡ true → xs ≡ ys → ⊥
keys_differ xs ys h same =
    let tied : slice_cmp nat_cmp xs ys ≡ Equal = subst (λ (zs : List ℕ). slice_cmp nat_cmp xs zs ≡ Equal) same (tied_itself nat_list_cmp_total xs) in
    let bad : false ≡ true = sym (ap is_ne tied) ∙ h in absurd cc

pub keys_same : (xs ys : List ℕ) → is_ne (slice_cmp nat_cmp xs ys) ≡ false → xs ≡ ys
keys_same xs ys h = keys_equal xs ys (tied (slice_cmp nat_cmp xs ys) h)
  where
    tied : (o : Ordering) → is_ne o ≡ false → o ≡ Equal
    tied Less e = absurd cc
    tied Equal e = refl
    tied Greater e = absurd cc

-- places that tie have one sequence
pub place_equal : (a : List ℕ) (s : ℕ) (b : List ℕ) (t : ℕ) → place_cmp a s b t ≡ Equal → s ≡ t
place_equal a s b t e = sym (nat_equal t s (then_equal (slice_cmp nat_cmp a b) (nat_cmp t s) e).1)
