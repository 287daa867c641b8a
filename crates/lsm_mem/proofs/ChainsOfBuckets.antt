-- The chains of buckets, when one of them changes and when some of them are read.
use Rattle.std.proofs.Common.{◌≡◌, ℕ, ◌<◌, Bool, true, false, List, [], ◌∷◌, ◌++◌, length, slice_index, Option, Some, None, Result, Ok, Err, OnOk, OnErr, IfSome, IfNone, refl, sym, ap, subst, ◌∙◌, inl, inr, arith, length-append}
use Rattle.std.specs.Map.{set_value, remove_entry}
use Rattle.std.specs.BTreeMap.{insert_entry}
use Rattle.std.specs.Ordering.{nat_cmp}
use Rattle.std.proofs.lemmas.List.Concat.{flat_map-append}
use Rattle.lsm_key.specs.declared.entry.Entry.{Entry}
use Rattle.lsm_key.specs.Sets.{IsIn}
use Rattle.lsm_key.proofs.Membership.{IsIn-append_cases, IsIn-append_left, IsIn-append_right}
use Rattle.lsm_mem.specs.declared.bucket.Bucket.{Bucket}
use Rattle.lsm_key.specs.Prefix.{prefix_of}
use Rattle.lsm_mem.specs.Chains.{Chain, with_entry, without_newest}
use Rattle.lsm_mem.specs.Buckets.{chains_in, chains_of_buckets, HasPrefix, IsPlaced, ArePlaced}
use Rattle.lsm_mem.proofs.ChainOrder.{not_both}
use Rattle.lsm_mem.proofs.NumberedPairs.{is_number, AreBelow, AreAbove, Found, Absent}
use Rattle.lsm_key.proofs.PrefixOrder.{prefix_before}
use Rattle.lsm_mem.proofs.ChainsApart.{IsAfterChains, with_entry-after, with_entry-before, without_newest-after, without_newest-before, with_entry-keys, with_entry-some, without_newest-keys}
use Rattle.lsm_mem.specs.Chains.{IsBeforeChains}

abbrev Pair : Type 0
Pair = ℕ × Bucket

-- ---- membership

pub in_bucket : (ps : List Pair) (c : Chain) → IsIn c (chains_of_buckets ps) → (p : Pair) × IsIn p ps × IsIn c (chains_in p.1)
in_bucket [] c m = absurd m
in_bucket (p ∷ ps) c m = elim (IsIn-append_cases c (chains_in p.1) (chains_of_buckets ps) m) [
  | inl a ↦ (p, inl refl, a)
  | inr b ↦ let r = in_bucket ps c b in (r.0, inr r.1, r.2)
]

pub of_bucket : (ps : List Pair) (p : Pair) (c : Chain) → IsIn p ps → IsIn c (chains_in p.1) → IsIn c (chains_of_buckets ps)
of_bucket [] p c m n = absurd m
of_bucket (q ∷ ps) p c m n = elim m [
  | inl e ↦ IsIn-append_left c (chains_in q.1) (chains_of_buckets ps) (subst (λ (x : Pair). IsIn c (chains_in x.1)) e n)
  | inr o ↦ IsIn-append_right c (chains_in q.1) (chains_of_buckets ps) (of_bucket ps p c o n)
]

-- a bucket that is not empty
pub some_left : (cs : List Chain) (b : Bool) → (cs ≡ [] → b ≡ true) → b ≡ false → 0 < length cs
some_left [] b h other = let bad : true ≡ false = sym (h refl) ∙ other in cc
some_left (c ∷ cs) b h other = omega arith

pub some_weaker : {A : Type 0} {P Q : A → Type 0} (r : Option A) → ((x : A) → P x → Q x) → IfSome r P → IfSome r Q
some_weaker None f h = h
some_weaker (Some x) f h = f x h

pub none_weaker : {A : Type 0} {P Q : Type 0} (r : Option A) → (P → Q) → IfNone r P → IfNone r Q
none_weaker None f h = f h
none_weaker (Some x) f h = h

module _ (front : List ℕ) where
  -- ---- buckets of other prefixes

  module _ (k : ℕ) (key : List ℕ) (has : HasPrefix front k key) (ps : List Pair) (placed : ArePlaced front ps) where
    pub keys_before : AreBelow k ps → IsAfterChains key (chains_of_buckets ps)
    keys_before below c m =
        let r = in_bucket ps c m in
        let own = (placed r.0 r.1).own c r.2 in
        let low : r.0.0 < k = below r.0 r.1 in
        let same : prefix_of front c.key ≡ r.0.0 = own.same in
        let is : prefix_of front key ≡ k = has.same in
        prefix_before front c.key key has.bytes (omega (arith, low, same, is))

    pub keys_after : AreAbove k ps → IsBeforeChains key (chains_of_buckets ps)
    keys_after above c m =
        let r = in_bucket ps c m in
        let own = (placed r.0 r.1).own c r.2 in
        let high : k < r.0.0 = above r.0 r.1 in
        let same : prefix_of front c.key ≡ r.0.0 = own.same in
        let is : prefix_of front key ≡ k = has.same in
        prefix_before front key c.key own.bytes (omega (arith, high, same, is))

  -- ---- a prefix that has a bucket

  abbrev around : List Pair → List Chain → List Pair → List Chain
  around left cs right = chains_of_buckets left ++ (cs ++ chains_of_buckets right)

  joined : (left : List Pair) (p : Pair) (right : List Pair) → chains_of_buckets (left ++ p ∷ right) ≡ around left (chains_in p.1) right
  joined left p right = flat_map-append (λ (q : Pair). chains_in q.1) left (p ∷ right)

  with_around : (k : ℕ) (e : Entry) (left : List Pair) (cs : List Chain) (right : List Pair) → HasPrefix front k e.ikey.key → ArePlaced front left → ArePlaced front right → AreBelow k left → AreAbove k right → with_entry e (around left cs right) ≡ around left (with_entry e cs) right
  with_around k e left cs right has l r below above =
      with_entry-after e (chains_of_buckets left) (cs ++ chains_of_buckets right) (keys_before k e.ikey.key has left l below)
      ∙ ap (λ (ds : List Chain). chains_of_buckets left ++ ds) (with_entry-before e cs (chains_of_buckets right) (keys_after k e.ikey.key has right r above))

  module _ (k : ℕ) (ps : List Pair) (v : Bucket) (f : Found k ps v) (placed : ArePlaced front ps) where
    left_placed : ArePlaced front f.left
    left_placed p m = placed p (subst (IsIn p) (sym f.whole) (IsIn-append_left p f.left ((k, v) ∷ f.right) m))

    right_placed : ArePlaced front f.right
    right_placed p m = placed p (subst (IsIn p) (sym f.whole) (IsIn-append_right p f.left ((k, v) ∷ f.right) (inr m)))

    own_in : IsIn (k, v) ps
    own_in = subst (IsIn (k, v)) (sym f.whole) (IsIn-append_right (k, v) f.left ((k, v) ∷ f.right) (inl refl))

    pub own_placed : IsPlaced front (k, v)
    own_placed = placed (k, v) own_in

    whole_is : chains_of_buckets ps ≡ around f.left (chains_in v) f.right
    whole_is = ap chains_of_buckets f.whole ∙ joined f.left (k, v) f.right

    set_is : (w : Bucket) → chains_of_buckets (set_value (is_number k) ps w) ≡ around f.left (chains_in w) f.right
    set_is w = ap chains_of_buckets (f.set w) ∙ joined f.left (k, w) f.right

    pub put_in : (e : Entry) (w : Bucket) → HasPrefix front k e.ikey.key → chains_in w ≡ with_entry e (chains_in v) → chains_of_buckets (set_value (is_number k) ps w) ≡ with_entry e (chains_of_buckets ps)
    put_in e w has is =
        set_is w
        ∙ ap (λ (cs : List Chain). around f.left cs f.right) is
        ∙ sym (with_around k e f.left (chains_in v) f.right has left_placed right_placed f.below f.above)
        ∙ ap (with_entry e) (sym whole_is)

    pub same_in : (w : Bucket) → chains_in w ≡ chains_in v → chains_of_buckets (set_value (is_number k) ps w) ≡ chains_of_buckets ps
    same_in w is = set_is w ∙ ap (λ (cs : List Chain). around f.left cs f.right) is ∙ sym whole_is

    pub taken_in : (key : List ℕ) (w : Bucket) → HasPrefix front k key → chains_in w ≡ without_newest key (chains_in v) → chains_of_buckets (set_value (is_number k) ps w) ≡ without_newest key (chains_of_buckets ps)
    taken_in key w has is =
        set_is w
        ∙ ap (λ (cs : List Chain). around f.left cs f.right) is
        ∙ ap (λ (ds : List Chain). chains_of_buckets f.left ++ ds) (sym (without_newest-before key (chains_in v) (chains_of_buckets f.right) (keys_after k key has f.right right_placed f.above)))
        ∙ sym (without_newest-after key (chains_of_buckets f.left) (chains_in v ++ chains_of_buckets f.right) (keys_before k key has f.left left_placed f.below))
        ∙ ap (without_newest key) (sym whole_is)

    -- an empty bucket may go
    pub gone_same : (w : Bucket) → chains_in w ≡ [] → chains_of_buckets (remove_entry (is_number k) (set_value (is_number k) ps w)) ≡ chains_of_buckets (set_value (is_number k) ps w)
    gone_same w none =
        ap chains_of_buckets (f.gone w)
        ∙ flat_map-append (λ (q : Pair). chains_in q.1) f.left f.right
        ∙ ap (λ (cs : List Chain). around f.left cs f.right) (sym none)
        ∙ sym (set_is w)

    pub set_placed : (w : Bucket) → IsPlaced front (k, w) → ArePlaced front (set_value (is_number k) ps w)
    set_placed w own p m = elim (IsIn-append_cases p f.left ((k, w) ∷ f.right) (subst (IsIn p) (f.set w) m)) [
      | inl a ↦ left_placed p a
      | inr b ↦ elim b [ inl e ↦ subst (IsPlaced front) (sym e) own | inr n ↦ right_placed p n ]
    ]

    pub gone_placed : (w : Bucket) → ArePlaced front (remove_entry (is_number k) (set_value (is_number k) ps w))
    gone_placed w p m = elim (IsIn-append_cases p f.left f.right (subst (IsIn p) (f.gone w) m)) [
      | inl a ↦ left_placed p a
      | inr b ↦ right_placed p b
    ]

    pub put_placed : (e : Entry) (w : Bucket) → HasPrefix front k e.ikey.key → chains_in w ≡ with_entry e (chains_in v) → IsPlaced front (k, w)
    put_placed e w has is = record {
      some = subst (λ (cs : List Chain). 0 < length cs) (sym is) (with_entry-some e (chains_in v));
      own = λ c m. with_entry-keys (HasPrefix front k) e (chains_in v) has own_placed.own c (subst (IsIn c) is m);
    }

    pub taken_placed : (key : List ℕ) (w : Bucket) → 0 < length (chains_in w) → chains_in w ≡ without_newest key (chains_in v) → IsPlaced front (k, w)
    taken_placed key w some is = record {
      some = some;
      own = λ c m. without_newest-keys (HasPrefix front k) key (chains_in v) own_placed.own c (subst (IsIn c) is m);
    }

    pub same_placed : (w : Bucket) → chains_in w ≡ chains_in v → IsPlaced front (k, w)
    same_placed w is = record {
      some = subst (λ (cs : List Chain). 0 < length cs) (sym is) own_placed.some;
      own = λ c m. own_placed.own c (subst (IsIn c) is m);
    }

    -- the chain of a key with this prefix is in this bucket, if it is in one
    pub in_own : (key : List ℕ) → HasPrefix front k key → (c : Chain) → IsIn c (chains_of_buckets ps) → c.key ≡ key → IsIn c (chains_in v)
    in_own key has c m same = elim (IsIn-append_cases c (chains_of_buckets f.left) (chains_in v ++ chains_of_buckets f.right) (subst (IsIn c) whole_is m)) [
      | inl a ↦ absurd (not_both c.key key (keys_before k key has f.left left_placed f.below c a) same)
      | inr b ↦ elim (IsIn-append_cases c (chains_in v) (chains_of_buckets f.right) b) [
        | inl a ↦ a
        | inr n ↦ absurd (not_both key c.key (keys_after k key has f.right right_placed f.above c n) (sym same))
      ]
    ]

    pub in_all : (c : Chain) → IsIn c (chains_in v) → IsIn c (chains_of_buckets ps)
    in_all c m = of_bucket ps (k, v) c own_in m

  -- ---- a prefix that has none

  module _ (k : ℕ) (ps : List Pair) (f : Absent k ps) (placed : ArePlaced front ps) where
    low_placed : ArePlaced front f.left
    low_placed p m = placed p (subst (IsIn p) (sym f.whole) (IsIn-append_left p f.left f.right m))

    high_placed : ArePlaced front f.right
    high_placed p m = placed p (subst (IsIn p) (sym f.whole) (IsIn-append_right p f.left f.right m))

    all_is : chains_of_buckets ps ≡ around f.left [] f.right
    all_is = ap chains_of_buckets f.whole ∙ flat_map-append (λ (q : Pair). chains_in q.1) f.left f.right

    pub new_in : (e : Entry) (w : Bucket) → HasPrefix front k e.ikey.key → chains_in w ≡ with_entry e [] → chains_of_buckets (insert_entry nat_cmp ps k w) ≡ with_entry e (chains_of_buckets ps)
    new_in e w has is =
        ap chains_of_buckets (f.put w)
        ∙ joined f.left (k, w) f.right
        ∙ ap (λ (cs : List Chain). around f.left cs f.right) is
        ∙ sym (with_around k e f.left [] f.right has low_placed high_placed f.below f.above)
        ∙ ap (with_entry e) (sym all_is)

    pub new_placed : (w : Bucket) → IsPlaced front (k, w) → ArePlaced front (insert_entry nat_cmp ps k w)
    new_placed w own p m = elim (IsIn-append_cases p f.left ((k, w) ∷ f.right) (subst (IsIn p) (f.put w) m)) [
      | inl a ↦ low_placed p a
      | inr b ↦ elim b [ inl e ↦ subst (IsPlaced front) (sym e) own | inr n ↦ high_placed p n ]
    ]

    pub in_none : (key : List ℕ) → HasPrefix front k key → (c : Chain) → IsIn c (chains_of_buckets ps) → c.key ≡ key → ⊥
    in_none key has c m same = elim (IsIn-append_cases c (chains_of_buckets f.left) (chains_of_buckets f.right) (subst (IsIn c) all_is m)) [
      | inl a ↦ not_both c.key key (keys_before k key has f.left low_placed f.below c a) same
      | inr n ↦ not_both key c.key (keys_after k key has f.right high_placed f.above c n) (sym same)
    ]

    pub none_taken : (key : List ℕ) → HasPrefix front k key → without_newest key (chains_of_buckets ps) ≡ chains_of_buckets ps
    none_taken key has =
        ap (without_newest key) all_is
        ∙ without_newest-after key (chains_of_buckets f.left) (chains_of_buckets f.right) (keys_before k key has f.left low_placed f.below)
        ∙ ap (λ (ds : List Chain). chains_of_buckets f.left ++ ds) (without_newest-before key [] (chains_of_buckets f.right) (keys_after k key has f.right high_placed f.above))
        ∙ sym all_is

  -- ---- no bucket, no chain

  pub none_from_none : (ps : List Pair) → ArePlaced front ps → chains_of_buckets ps ≡ [] → ps ≡ []
  none_from_none [] placed h = refl
  none_from_none (p ∷ ps) placed h =
      let some = (placed p (inl refl)).some in
      let none : length (chains_in p.1 ++ chains_of_buckets ps) ≡ 0 = ap length h in
      absurd (omega (arith, length-append (chains_in p.1) (chains_of_buckets ps)))

  -- ---- what a map's calls leave

  -- the prefix that was computed of a key
  pub prefixed : (k : ℕ) (lent seen key : List ℕ) → lent ≡ front → seen ≡ key → k ≡ prefix_of lent seen → ((i : ℕ) → slice_index seen i < 256) → HasPrefix front k key
  prefixed k lent seen key own is same bytes = subst (HasPrefix front k) is (record { bytes = bytes; same = sym (same ∙ ap (λ (f : List ℕ). prefix_of f seen) own) })

  module _ {A E : Type 0} (k : ℕ) (e : Entry) (has : HasPrefix front k e.ikey.key) (ps : List Pair) (v w : Bucket) (f : Found k ps v) (placed : ArePlaced front ps) where
    pub put_placed_either : (r : Result A E) → OnOk r (chains_in w ≡ with_entry e (chains_in v)) → OnErr r (chains_in w ≡ chains_in v) → ArePlaced front (set_value (is_number k) ps w)
    put_placed_either (Ok x) ok err = set_placed k ps v f placed w (put_placed k ps v f placed e w has ok)
    put_placed_either (Err x) ok err = set_placed k ps v f placed w (same_placed k ps v f placed w err)

    pub put_if_ok : (r : Result A E) (set : List Pair) (before : List Chain) → set ≡ set_value (is_number k) ps w → chains_of_buckets ps ≡ before → OnOk r (chains_in w ≡ with_entry e (chains_in v)) → OnOk r (chains_of_buckets set ≡ with_entry e before)
    put_if_ok (Ok x) set before is was ok = ap chains_of_buckets is ∙ put_in k ps v f placed e w has ok ∙ ap (with_entry e) was
    put_if_ok (Err x) set before is was ok = ok

    pub same_if_err : (r : Result A E) (set : List Pair) (before : List Chain) → set ≡ set_value (is_number k) ps w → chains_of_buckets ps ≡ before → OnErr r (chains_in w ≡ chains_in v) → OnErr r (chains_of_buckets set ≡ before)
    same_if_err (Ok x) set before is was err = err
    same_if_err (Err x) set before is was err = ap chains_of_buckets is ∙ same_in k ps v f placed w err ∙ was

  -- a bucket of one entry
  pub one_placed : (k : ℕ) (e : Entry) (w : Bucket) → HasPrefix front k e.ikey.key → chains_in w ≡ with_entry e [] → IsPlaced front (k, w)
  one_placed k e w has is = record {
    some = subst (λ (cs : List Chain). 0 < length cs) (sym is) (with_entry-some e []);
    own = λ c m. with_entry-keys (HasPrefix front k) e [] has (λ d n. absurd n) c (subst (IsIn c) is m);
  }
