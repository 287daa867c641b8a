-- The spot where a place is put, found by a binary search among places in order.
use Rattle.std.proofs.Common.{◌≡◌, ℕ, zero, suc, ◌<◌, ◌≤◌, Bool, true, false, not, cond, List, [], ◌∷◌, ◌++◌, length, take, drop, get_or, refl, sym, ap, ◌∙◌, arith, inr}
use Rattle.std.specs.List.Sorted.{IsPartitionedBy, IsPartitionPoint}
use Rattle.std.proofs.lemmas.Bool.{true≢false, not-true, not-false}
use Rattle.lsm_key.specs.Sets.{IsIn}
use Rattle.lsm_key.proofs.Membership.{IsIn-at}
use Rattle.lsm_edit.specs.declared.served.Placed.{Placed}
use Rattle.lsm_edit.specs.Served.{AreInSearchOrder, is_before, put_in_order, put_all}
use Rattle.lsm_edit.proofs.PlacesInOrder.{put_members}

-- ---- what is left without a place is in order

rest-if : (b : Bool) (p q : Placed) (qs rs : List Placed) → (AreInSearchOrder rs → AreInSearchOrder qs) → ((r : Placed) → IsIn r qs → IsIn r rs) → AreInSearchOrder (cond b (p ∷ q ∷ qs) (q ∷ rs)) → AreInSearchOrder (q ∷ qs)
rest-if true p q qs rs less among up = up.1
rest-if false p q qs rs less among up = (λ r m. up.0 r (among r m), less up.1)

pub rest_ordered : (p : Placed) (qs : List Placed) → AreInSearchOrder (put_in_order p qs) → AreInSearchOrder qs
rest_ordered p [] up = tt
rest_ordered p (q ∷ qs) up = rest-if (is_before p.meta q.meta) p q qs (put_in_order p qs) (rest_ordered p qs) (λ r m. (put_members p qs r).1 (inr m)) up

pub rest_of_all : (ps qs : List Placed) → AreInSearchOrder (put_all ps qs) → AreInSearchOrder qs
rest_of_all [] qs up = up
rest_of_all (p ∷ ps) qs up = rest_of_all ps qs (rest_ordered p (put_all ps qs) up)

-- ---- the spot

-- p is not searched before the place
abbrev pub stays_left : Placed → Placed → Bool
stays_left p q = not (is_before p.meta q.meta)

never_left : (p : Placed) (qs : List Placed) → ((r : Placed) → IsIn r qs → is_before p.meta r.meta ≡ true) → (j : ℕ) (d : Placed) → j < length qs → stays_left p (get_or qs j d) ≡ true → ⊥
never_left p qs first j d lt h = true≢false (sym (first (get_or qs j d) (IsIn-at qs j d lt)) ∙ not-true (is_before p.meta (get_or qs j d).meta) h)

parted-if : (b : Bool) (p q : Placed) (qs rs : List Placed) → is_before p.meta q.meta ≡ b → (AreInSearchOrder rs → IsPartitionedBy (stays_left p) qs) → AreInSearchOrder (cond b (p ∷ q ∷ qs) (q ∷ rs)) → IsPartitionedBy (stays_left p) (q ∷ qs)
parted-if true p q qs rs e less up i j d le lt h = absurd (never_left p (q ∷ qs) up.0 j d lt h)
parted-if false p q qs rs e less up zero j d le lt h = ap not e
parted-if false p q qs rs e less up (suc i) zero d le lt h = absurd (omega (arith, le))
parted-if false p q qs rs e less up (suc i) (suc j) d le lt h = less up.1 i j d (omega (arith, le)) (omega (arith, lt)) h

pub parted : (p : Placed) (qs : List Placed) → AreInSearchOrder (put_in_order p qs) → IsPartitionedBy (stays_left p) qs
parted p [] up i j d le lt h = absurd (omega (arith, lt))
parted p (q ∷ qs) up i j d le lt h = parted-if (is_before p.meta q.meta) p q qs (put_in_order p qs) refl (parted p qs) up i j d le lt h

-- a place is put where those end that it is not searched before
pub put_there : (p : Placed) (qs : List Placed) (i : ℕ) → i ≤ length qs → IsPartitionPoint (λ q. stays_left p q ≡ true) (λ q. stays_left p q ≡ false) qs i → put_in_order p qs ≡ take i qs ++ p ∷ drop i qs
put_there p [] zero le part = refl
put_there p [] (suc i) le part = absurd (omega (arith, le))
put_there p (q ∷ qs) zero le part = ap (λ (b : Bool). cond b (p ∷ q ∷ qs) (q ∷ put_in_order p qs)) (not-false (is_before p.meta q.meta) (part.1 0 q (omega arith) (omega arith)))
put_there p (q ∷ qs) (suc i) le part =
    ap (λ (b : Bool). cond b (p ∷ q ∷ qs) (q ∷ put_in_order p qs)) (not-true (is_before p.meta q.meta) (part.0 0 q (omega arith) (omega arith)))
    ∙ ap (λ (rs : List Placed). q ∷ rs) (put_there p qs i (omega (arith, le)) (
      λ k d low high. part.0 (suc k) d (omega arith) (omega (arith, high)),
      λ k d low high. part.1 (suc k) d (omega (arith, low)) (omega (arith, high)),
    ))
