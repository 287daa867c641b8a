-- Entries in order, each before all that follow.
use Rattle.std.proofs.Common.{◌≡◌, ℕ, zero, suc, ◌+◌, ◌<◌, Bool, true, false, cond, List, [], ◌∷◌, ◌++◌, length, get_or, refl, sym, ap, ◌∙◌, subst, arith, inl, inr}
use Rattle.std.specs.List.{filter}
use Rattle.lsm_key.specs.declared.entry.Entry.{Entry}
use Rattle.lsm_key.specs.Order.{Precedes, precedes, IsAscending, IsInOrder}
use Rattle.lsm_key.specs.Sets.{IsIn}
use Rattle.lsm_key.proofs.Membership.{IsIn-append_cases, IsIn-at, IsIn-place}
use Rattle.lsm_key.proofs.EntryOrder.{far}
use Rattle.lsm_key.proofs.WeakOrder.{entries_weak}

-- each entry stands before all that follow
abbrev pub Falls : List Entry → Type 0
Falls [] = Unit {0}
Falls (e ∷ es) = ((f : Entry) → IsIn f es → Precedes e f) × Falls es

pub falls-append : (xs ys : List Entry) → Falls xs → Falls ys → ((e f : Entry) → IsIn e xs → IsIn f ys → Precedes e f) → Falls (xs ++ ys)
falls-append [] ys a b apart = b
falls-append (x ∷ xs) ys a b apart = (
  λ f m. elim (IsIn-append_cases f xs ys m) [ inl i ↦ a.0 f i | inr j ↦ apart x f (inl refl) j ],
  falls-append xs ys a.1 b (λ e f i j. apart e f (inr i) j),
)

falls_next : (es : List Entry) → Falls es → (k : ℕ) (d : Entry) → suc k < length es → Precedes (get_or es k d) (get_or es (suc k) d)
falls_next [] h k d lt = absurd (omega arith)
falls_next (e ∷ es) h zero d lt = h.0 (get_or es 0 d) (IsIn-at es 0 d (omega arith))
falls_next (e ∷ es) h (suc k) d lt = falls_next es h.1 k d (omega arith)

next : (k : ℕ) → k + 1 ≡ suc k
next k = omega arith

more : (k : ℕ) → suc k + 1 ≡ suc (k + 1)
more k = omega arith

pub falls_ascend : (es : List Entry) → Falls es → IsAscending es
falls_ascend es h k d lt = subst (λ (n : ℕ). Precedes (get_or es k d) (get_or es n d)) (sym (next k)) (falls_next es h k d (omega arith))

-- the other way round
pub ascending_falls : (es : List Entry) → IsAscending es → Falls es
ascending_falls [] up = tt
ascending_falls (e ∷ es) up = (
  λ f m.
      let c = IsIn-place f es m in
      let p : Precedes e (get_or es c.0 f) = far (e ∷ es) up c.0 0 (suc c.0) f (omega arith) (omega (arith, c.1)) in
      subst (λ (g : Entry). Precedes e g) c.2 p,
  ascending_falls es (λ k d lt. subst (λ (n : ℕ). Precedes (get_or es k d) (get_or (e ∷ es) n d)) (more k) (up (suc k) d (omega (arith, lt)))),
)

-- ---- some of the entries

module _ {X : Type 0} (p : X → Bool) where
  in_kept : (x y : X) (ys : List X) (b : Bool) → p y ≡ b → (zs : List X) → (IsIn x zs → IsIn x ys × (p x ≡ true)) → IsIn x (cond b (y ∷ zs) zs) → IsIn x (y ∷ ys) × (p x ≡ true)
  in_kept x y ys true e zs g m = elim m [ inl s ↦ (inl s, ap p s ∙ e) | inr n ↦ let r = g n in (inr r.0, r.1) ]
  in_kept x y ys false e zs g m = let r = g m in (inr r.0, r.1)

  pub IsIn-filter : (x : X) (xs : List X) → IsIn x (filter p xs) → IsIn x xs × (p x ≡ true)
  IsIn-filter x [] m = absurd m
  IsIn-filter x (y ∷ ys) m = in_kept x y ys (p y) refl (filter p ys) (IsIn-filter x ys) m

falls_if : (b : Bool) (e : Entry) (es kept : List Entry) → ((f : Entry) → IsIn f es → Precedes e f) → ((f : Entry) → IsIn f kept → IsIn f es) → Falls kept → Falls (cond b (e ∷ kept) kept)
falls_if true e es kept first among h = (λ f m. first f (among f m), h)
falls_if false e es kept first among h = h

pub falls-filter : (p : Entry → Bool) (es : List Entry) → Falls es → Falls (filter p es)
falls-filter p [] h = tt
falls-filter p (e ∷ es) h = falls_if (p e) e es (filter p es) h.0 (λ f m. (IsIn-filter p f es m).0) (falls-filter p es h.1)

-- ---- entries of which some may have one key and sequence

pub falls_in_order : (es : List Entry) → Falls es → IsInOrder es
falls_in_order es h k d low lt = entries_weak.one_way (get_or es k d) (get_or es (k + 1) d) (falls_ascend es h k d lt)

-- none stands before the first
after_first : (e : Entry) (es : List Entry) → IsInOrder (e ∷ es) → (k : ℕ) (d : Entry) → k < length es → precedes (get_or es k d) e ≡ false
after_first e es h zero d lt = h 0 d (omega arith) (omega arith)
after_first e es h (suc k) d lt =
    let step : precedes (get_or es (suc k) d) (get_or es k d) ≡ false = subst (λ (n : ℕ). precedes (get_or (e ∷ es) n d) (get_or es k d) ≡ false) (next (suc k)) (h (suc k) d (omega arith) (omega (arith, lt))) in
    entries_weak.chain (get_or es (suc k) d) (get_or es k d) e step (after_first e es h k d (omega arith))

pub first_in_order : (e : Entry) (es : List Entry) → IsInOrder (e ∷ es) → (f : Entry) → IsIn f es → precedes f e ≡ false
first_in_order e es h f m =
    let c = IsIn-place f es m in
    subst (λ (g : Entry). precedes g e ≡ false) c.2 (after_first e es h c.0 f c.1)

pub rest_in_order : (e : Entry) (es : List Entry) → IsInOrder (e ∷ es) → IsInOrder es
rest_in_order e es h k d low lt = subst (λ (n : ℕ). precedes (get_or (e ∷ es) n d) (get_or es k d) ≡ false) (more k) (h (suc k) d (omega arith) (omega (arith, lt)))
