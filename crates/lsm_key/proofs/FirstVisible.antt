-- A search that stops at its first find.
use Rattle.std.proofs.Common.{◌≡◌, ℕ, ◌<◌, ◌≤◌, List, [], ◌∷◌, ◌++◌, Option, Some, None, refl, sym, ap, ◌∙◌, arith, is_some, if◌then◌else◌, inl, inr}
use Rattle.std.proofs.lemmas.Bool.{le-ltb}
use Rattle.lsm_key.specs.declared.entry.Entry.{Entry}
use Rattle.lsm_key.specs.Sets.{SameMembers}
use Rattle.lsm_key.specs.Visible.{newer, visible, IsUnique}
use Rattle.lsm_key.specs.Places.{IsAbove, AreOrdered, all_entries, first_visible}
use Rattle.lsm_key.proofs.Membership.{IsIn-append_cases}
use Rattle.lsm_key.proofs.LatestOfList.{visible-append, at_visible, is_seen-key}

pub newer-first : (r s : Option Entry) → ((x y : Entry) → r ≡ Some x → s ≡ Some y → y.ikey.seq < x.ikey.seq) → newer r s ≡ (if is_some r then r else s)
newer-first None s h = refl
newer-first (Some x) None h = refl
newer-first (Some x) (Some y) h = let lt : y.ikey.seq < x.ikey.seq = h x y refl refl in let le : y.ikey.seq ≤ x.ikey.seq = omega arith in rw (le-ltb x.ikey.seq y.ikey.seq le) refl

-- where the above shows something, it is what both show
pub visible_above : (above below : List Entry) (key : List ℕ) (point : ℕ) → IsAbove above below → visible (above ++ below) key point ≡ (if is_some (visible above key point) then visible above key point else visible below key point)
visible_above above below key point up = visible-append above below key point ∙ newer-first (visible above key point) (visible below key point) (λ x y ex ey.
    let a = at_visible above key point x ex in
    let b = at_visible below key point y ey in
    up x y a.member b.member (is_seen-key key point x a.satisfies ∙ sym (is_seen-key key point y b.satisfies)))

pub first_visible-is : (places : List (List Entry)) (key : List ℕ) (point : ℕ) → AreOrdered places → first_visible places key point ≡ visible (all_entries places) key point
first_visible-is [] key point ordered = refl
first_visible-is (place ∷ places) key point ordered =
    ap (λ (s : Option Entry). if is_some (visible place key point) then visible place key point else s) (first_visible-is places key point ordered.1)
    ∙ sym (visible_above place (all_entries places) key point ordered.0)

pub IsAbove-same : (xs ys below : List Entry) → SameMembers xs ys → IsAbove xs below → IsAbove ys below
IsAbove-same xs ys below same up e f a b keys = up e f ((same e).1 a) b keys

-- unique entries over older ones
pub IsUnique-above : (above below : List Entry) → IsUnique above → IsUnique below → IsAbove above below → IsUnique (above ++ below)
IsUnique-above above below ua ub up e f me mf keys seqs =
    elim (IsIn-append_cases e above below me) [
      | inl a ↦ elim (IsIn-append_cases f above below mf) [
        | inl b ↦ ua e f a b keys seqs
        | inr b ↦ let lt : f.ikey.seq < e.ikey.seq = up e f a b keys in absurd (omega arith)
      ]
      | inr a ↦ elim (IsIn-append_cases f above below mf) [
        | inl b ↦ let lt : e.ikey.seq < f.ikey.seq = up f e b a (sym keys) in absurd (omega arith)
        | inr b ↦ ub e f a b keys seqs
      ]
    ]
