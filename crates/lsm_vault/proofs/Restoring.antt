-- A put that is undone leaves the tables as they were.
use Rattle.std.specs.Prelude.{◌≡◌, ℕ, Bool, true, false, cond, List, Option, Some, None}
use Rattle.std.specs.Ordering.{nat_cmp, eq_by_cmp}
use Rattle.std.specs.FinMap.{FinMap, get, insert, remove, get-insert, get-remove, same_map, nat_cmp-IsAntisymmetric}
use Rattle.std.specs.Cmp.{nat_cmp_total, eq_by_cmp_equiv}
use Rattle.std.proofs.Common.{sym, ap, ◌∙◌, subst, inl, inr, ◌⊎◌, arith}
use Rattle.std.proofs.lemmas.Bool.Decides.{nat_tests}
use Rattle.std.proofs.lemmas.Bool.{cases_eq}
use Rattle.lsm_vault.specs.Restored.{restored}

-- two numbers that differ are told apart
pub tied-not : (q k : ℕ) → (q ≡ k → ⊥) → eq_by_cmp nat_cmp q k ≡ false
tied-not q k ne = grind (arith, nat_tests)

-- and a number is itself
tied-self : (k : ℕ) → eq_by_cmp nat_cmp k k ≡ true
tied-self k = (eq_by_cmp_equiv nat_cmp_total).refl k

-- a put changes no other number
put_other : (m : FinMap nat_cmp (List ℕ)) (k : ℕ) (v : List ℕ) (q : ℕ) → (q ≡ k → ⊥) → get (insert m k v) q ≡ get m q
put_other m k v q ne = get-insert nat_cmp_total m k v q ∙ ap (λ (b : Bool). cond b (Some v) (get m q)) (tied-not q k ne)

-- what was put is there
pub put_same : (m : FinMap nat_cmp (List ℕ)) (k : ℕ) (v : List ℕ) → get (insert m k v) k ≡ Some v
put_same m k v = get-insert nat_cmp_total m k v k ∙ ap (λ (b : Bool). cond b (Some v) (get m k)) (tied-self k)

-- a put of a new number is undone by a removal
put_removed : (m : FinMap nat_cmp (List ℕ)) (k : ℕ) (v : List ℕ) → get m k ≡ None → remove (insert m k v) k ≡ m
put_removed m k v none = same_map nat_cmp_total nat_cmp-IsAntisymmetric _ _ (λ q.
    get-remove nat_cmp_total (insert m k v) k q ∙ by_key q (cases_eq q k))
  where
    by_key : (q : ℕ) → (q ≡ k) ⊎ (q ≡ k → ⊥) → cond (eq_by_cmp nat_cmp q k) None (get (insert m k v) q) ≡ get m q
    by_key q (inl e) = ap (λ (b : Bool). cond b None (get (insert m k v) q)) (subst (λ (n : ℕ). eq_by_cmp nat_cmp n k ≡ true) (sym e) (tied-self k)) ∙ subst (λ (n : ℕ). None ≡ get m n) (sym e) (sym none)
    by_key q (inr n) = ap (λ (b : Bool). cond b None (get (insert m k v) q)) (tied-not q k n) ∙ put_other m k v q n

-- a put is undone by what was there before it
pub put_restored : (m : FinMap nat_cmp (List ℕ)) (k : ℕ) (v : List ℕ) (before : Option (List ℕ)) → before ≡ get m k → restored (insert m k v) k before ≡ m
put_restored m k v None had = put_removed m k v (sym had)
put_restored m k v (Some v0) had = same_map nat_cmp_total nat_cmp-IsAntisymmetric _ _ (λ q. by_key q (cases_eq q k))
  where
    by_key : (q : ℕ) → (q ≡ k) ⊎ (q ≡ k → ⊥) → get (insert (insert m k v) k v0) q ≡ get m q
    by_key q (inl e) = subst (λ (n : ℕ). get (insert (insert m k v) k v0) n ≡ get m n) (sym e) (put_same (insert m k v) k v0 ∙ had)
    by_key q (inr n) = put_other (insert m k v) k v0 q n ∙ put_other m k v q n
