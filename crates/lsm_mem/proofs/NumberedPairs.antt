-- Pairs in the order of their numbers, split at a number.
use Rattle.std.proofs.Common.{◌≡◌, ℕ, ◌<◌, Bool, true, false, cond, List, [], ◌∷◌, ◌++◌, Some, None, refl, sym, ap, subst, ◌∙◌, inl, inr, arith}
use Rattle.std.specs.declared.cmp.Ordering.{Ordering}
use Rattle.std.specs.declared.cmp.Ordering.TheVariants.{Less, Equal, Greater}
use Rattle.std.specs.Ordering.{nat_cmp, is_eq, match_ordering}
use Rattle.std.specs.List.{AllByRecursion}
use Rattle.std.specs.List.Sorted.{IsStrictlySortedBy}
use Rattle.std.specs.Map.{lookup, set_value, remove_entry, keys_of}
use Rattle.std.specs.BTreeMap.{insert_entry}
use Rattle.std.proofs.lemmas.Cmp.{ranked}
use Rattle.std.proofs.lemmas.Map.Keys.{sorted_head, sorted_tail}
use Rattle.lsm_key.specs.Sets.{IsIn}
use Rattle.lsm_key.proofs.Membership.{IsIn-append_right}

-- the test of a look-up
abbrev pub is_number : ℕ → ℕ → Bool
is_number k x = is_eq (nat_cmp k x)

tied_at : (k x : ℕ) (o : Ordering) → o ≡ nat_cmp k x → is_eq o ≡ true → k ≡ x
tied_at k x Less is h = absurd cc
tied_at k x Equal is h = ranked k x Equal is
tied_at k x Greater is h = absurd cc

tied : (k x : ℕ) → is_number k x ≡ true → k ≡ x
tied k x h = tied_at k x (nat_cmp k x) refl h

less : (k x : ℕ) → nat_cmp k x ≡ Less → k < x
less k x h = ranked k x Less (sym h)

more : (k x : ℕ) → nat_cmp k x ≡ Greater → x < k
more k x h = ranked k x Greater (sym h)

module _ {B : Type 0} where
  abbrev pub AreBelow : ℕ → List (ℕ × B) → Type 0
  AreBelow k ps = (p : ℕ × B) → IsIn p ps → p.0 < k

  abbrev pub AreAbove : ℕ → List (ℕ × B) → Type 0
  AreAbove k ps = (p : ℕ × B) → IsIn p ps → k < p.0

  above_head : (k : ℕ) (ps : List (ℕ × B)) → AllByRecursion (λ y. nat_cmp k y ≡ Less) (keys_of ps) → AreAbove k ps
  above_head k [] h p m = absurd m
  above_head k (q ∷ ps) h p m = elim m [ inl e ↦ subst (λ (x : ℕ × B). k < x.0) (sym e) (less k q.0 h.0) | inr n ↦ above_head k ps h.1 p n ]

  pub head_below : (p : ℕ × B) (ps : List (ℕ × B)) → IsStrictlySortedBy nat_cmp (keys_of (p ∷ ps)) → AreAbove p.0 ps
  head_below p ps up = above_head p.0 ps (sorted_head nat_cmp p.0 (keys_of ps) up)

  -- ---- a number that has a pair

  pub record Found (k : ℕ) (ps : List (ℕ × B)) (v : B) : Type 0 where
    pub left : List (ℕ × B)
    pub right : List (ℕ × B)
    pub whole : ps ≡ left ++ (k, v) ∷ right
    pub below : AreBelow k left
    pub above : AreAbove k right
    pub set : (w : B) → set_value (is_number k) ps w ≡ left ++ (k, w) ∷ right
    pub gone : (w : B) → remove_entry (is_number k) (set_value (is_number k) ps w) ≡ left ++ right

  found_at : (k : ℕ) (p : ℕ × B) (ps : List (ℕ × B)) (v : B) (b : Bool) → is_number k p.0 ≡ b → AreAbove p.0 ps → cond b (Some p.1) (lookup (is_number k) ps) ≡ Some v → (lookup (is_number k) ps ≡ Some v → Found k ps v) → Found k (p ∷ ps) v
  found_at k p ps v true is up h rest =
      let same : p.0 ≡ k = sym (tied k p.0 is) in
      let own : p.1 ≡ v = cc in
      record {
        left = [];
        right = ps;
        whole = (λ i. (same i, own i) ∷ ps);
        below = λ q m. absurd m;
        above = λ q m. subst (λ (n : ℕ). n < q.0) same (up q m);
        set = λ w. ap (λ (t : Bool). cond t ((p.0, w) ∷ ps) (p ∷ set_value (is_number k) ps w)) is ∙ (λ i. (same i, w) ∷ ps);
        gone = λ w. ap (λ (t : Bool). remove_entry (is_number k) (cond t ((p.0, w) ∷ ps) (p ∷ set_value (is_number k) ps w))) is ∙ ap (λ (t : Bool). cond t ps ((p.0, w) ∷ remove_entry (is_number k) ps)) is;
      }
  found_at k p ps v false is up h rest =
      let r = rest h in
      record {
        left = p ∷ r.left;
        right = r.right;
        whole = ap (λ qs. p ∷ qs) r.whole;
        below = λ q m. elim m [
          | inl e ↦ subst (λ (x : ℕ × B). x.0 < k) (sym e) (up (k, v) (subst (IsIn (k, v)) (sym r.whole) (IsIn-append_right (k, v) r.left ((k, v) ∷ r.right) (inl refl))))
          | inr n ↦ r.below q n
        ];
        above = r.above;
        set = λ w. ap (λ (t : Bool). cond t ((p.0, w) ∷ ps) (p ∷ set_value (is_number k) ps w)) is ∙ ap (λ qs. p ∷ qs) (r.set w);
        gone = λ w. ap (λ (t : Bool). remove_entry (is_number k) (cond t ((p.0, w) ∷ ps) (p ∷ set_value (is_number k) ps w))) is ∙ ap (λ (t : Bool). cond t (set_value (is_number k) ps w) (p ∷ remove_entry (is_number k) (set_value (is_number k) ps w))) is ∙ ap (λ qs. p ∷ qs) (r.gone w);
      }

  pub found : (k : ℕ) (ps : List (ℕ × B)) (v : B) → IsStrictlySortedBy nat_cmp (keys_of ps) → lookup (is_number k) ps ≡ Some v → Found k ps v
  found k [] v up h = absurd cc
  found k (p ∷ ps) v up h = found_at k p ps v (is_number k p.0) refl (head_below p ps up) h (found k ps v (sorted_tail nat_cmp p.0 (keys_of ps) up))

  -- ---- a number that has none

  pub record Absent (k : ℕ) (ps : List (ℕ × B)) : Type 0 where
    pub left : List (ℕ × B)
    pub right : List (ℕ × B)
    pub whole : ps ≡ left ++ right
    pub below : AreBelow k left
    pub above : AreAbove k right
    pub put : (w : B) → insert_entry nat_cmp ps k w ≡ left ++ (k, w) ∷ right

  absent_at : (k : ℕ) (p : ℕ × B) (ps : List (ℕ × B)) (o : Ordering) → nat_cmp k p.0 ≡ o → AreAbove p.0 ps → cond (is_eq o) (Some p.1) (lookup (is_number k) ps) ≡ None → (lookup (is_number k) ps ≡ None → Absent k ps) → Absent k (p ∷ ps)
  absent_at k p ps Less is up h rest =
      let low = less k p.0 is in
      record {
        left = [];
        right = p ∷ ps;
        whole = refl;
        below = λ q m. absurd m;
        above = λ q m. elim m [ inl e ↦ subst (λ (x : ℕ × B). k < x.0) (sym e) low | inr n ↦ (let high = up q n in omega arith) ];
        put = λ w. ap (λ (o : Ordering). match_ordering o ((k, w) ∷ p ∷ ps) ((p.0, w) ∷ ps) (p ∷ insert_entry nat_cmp ps k w)) is;
      }
  absent_at k p ps Equal is up h rest = absurd cc
  absent_at k p ps Greater is up h rest =
      let r = rest h in
      record {
        left = p ∷ r.left;
        right = r.right;
        whole = ap (λ qs. p ∷ qs) r.whole;
        below = λ q m. elim m [ inl e ↦ subst (λ (x : ℕ × B). x.0 < k) (sym e) (more k p.0 is) | inr n ↦ r.below q n ];
        above = r.above;
        put = λ w. ap (λ (o : Ordering). match_ordering o ((k, w) ∷ p ∷ ps) ((p.0, w) ∷ ps) (p ∷ insert_entry nat_cmp ps k w)) is ∙ ap (λ qs. p ∷ qs) (r.put w);
      }

  pub absent : (k : ℕ) (ps : List (ℕ × B)) → IsStrictlySortedBy nat_cmp (keys_of ps) → lookup (is_number k) ps ≡ None → Absent k ps
  absent k [] up h = record { left = []; right = []; whole = refl; below = λ q m. absurd m; above = λ q m. absurd m; put = λ w. refl }
  absent k (p ∷ ps) up h = absent_at k p ps (nat_cmp k p.0) refl (head_below p ps up) h (absent k ps (sorted_tail nat_cmp p.0 (keys_of ps) up))
