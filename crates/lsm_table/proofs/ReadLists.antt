-- Lists of entries in order, of which some are empty and one is taken from after another.
use Rattle.std.proofs.Common.{◌≡◌, ℕ, zero, suc, ◌+◌, false, List, [], ◌∷◌, ◌++◌, get_or, refl, ap, subst, inl, inr, arith, All}
use Rattle.std.specs.List.{filter}
use Rattle.lsm_key.specs.declared.entry.Entry.{Entry}
use Rattle.lsm_key.specs.Order.{IsInOrder, precedes}
use Rattle.lsm_key.specs.Places.{all_entries}
use Rattle.lsm_key.specs.Sets.{IsIn}
use Rattle.lsm_key.proofs.Membership.{IsIn-at, IsIn-place}
use Rattle.lsm_table.specs.Heads.{AllInOrder, has_entry}

-- those that have an entry have all entries
pub entries_of_some : (lists : List (List Entry)) → all_entries (filter has_entry lists) ≡ all_entries lists
entries_of_some [] = refl
entries_of_some ([] ∷ lists) = entries_of_some lists
entries_of_some ((e ∷ es) ∷ lists) = ap (λ (rest : List Entry). (e ∷ es) ++ rest) (entries_of_some lists)

pub some_among : (list : List Entry) (lists : List (List Entry)) → IsIn list (filter has_entry lists) → IsIn list lists
some_among list [] m = absurd m
some_among list ([] ∷ lists) m = inr (some_among list lists m)
some_among list ((e ∷ es) ∷ lists) m = elim m [ inl same ↦ inl same | inr later ↦ inr (some_among list lists later) ]

pub some_in_order : (lists : List (List Entry)) → AllInOrder lists → AllInOrder (filter has_entry lists)
some_in_order lists all list m = all list (some_among list lists m)

-- in order by index
pub all_in_order : (lists : List (List Entry)) → All IsInOrder lists → AllInOrder lists
all_in_order lists all list m = (let at = IsIn-place list lists m in subst IsInOrder at.2 (all at.0 list at.1))

-- one entry more in front
pub cons_in_order : (e : Entry) (es : List Entry) → ((f : Entry) → IsIn f es → precedes f e ≡ false) → IsInOrder es → IsInOrder (e ∷ es)
cons_in_order e es first up zero d low lt = first (get_or es 0 d) (IsIn-at es 0 d (omega (arith, lt)))
cons_in_order e es first up (suc k) d low lt = subst (λ (n : ℕ). precedes (get_or (e ∷ es) n d) (get_or es k d) ≡ false) (let same : suc (k + 1) ≡ suc k + 1 = omega arith in same) (up k d (omega arith) (omega (arith, lt)))
