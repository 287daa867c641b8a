-- Recent writes over what is stored, at any point.
use Rattle.std.proofs.Common.{◌≡◌, ℕ, zero, suc, ◌+◌, ◌<◌, ◌≤◌, List, [], ◌∷◌, ◌++◌, None, refl, sym, ap, ◌∙◌, arith, false, inl, inr, length, take, drop, length-drop, append_assoc}
use Rattle.std.specs.Bool.{nat_le}
use Rattle.std.specs.Option.{option_and_then}
use Rattle.std.specs.Str.{bytes_eq}
use Rattle.std.proofs.lemmas.Bool.{and_right, lt-leb}
use Rattle.std.proofs.lemmas.List.{take-append-drop, take-append-le, length-take, take-take}
use Rattle.lsm_key.specs.declared.op.Op.{Op}
use Rattle.lsm_key.specs.declared.entry.Entry.{Entry}
use Rattle.lsm_key.specs.Sets.{IsIn}
use Rattle.lsm_key.specs.Writes.{last_write, value_of, answer}
use Rattle.lsm_key.specs.Visible.{visible, newer, is_seen, value_at, entry_value}
use Rattle.lsm_key.specs.Places.{entries_after}
use Rattle.lsm_key.proofs.LatestOfList.{visible-append}
use Rattle.lsm_key.proofs.WritesOverStored.{present, entries_after-range, entries_after-append}

pub drop-append_le : {X : Type 0} (n : ℕ) (xs ys : List X) → n ≤ length xs → drop n (xs ++ ys) ≡ drop n xs ++ ys
drop-append_le zero xs ys h = refl
drop-append_le (suc n) [] ys h = absurd (omega arith)
drop-append_le (suc n) (x ∷ xs) ys h = drop-append_le n xs ys (omega arith)

-- entries after the point do not show
pub visible-none : (xs : List Entry) (key : List ℕ) (point : ℕ) → ((f : Entry) → IsIn f xs → point < f.ikey.seq) → visible xs key point ≡ None
visible-none [] key point h = refl
visible-none (x ∷ xs) key point h =
    let own : is_seen key point x ≡ false = and_right (bytes_eq x.ikey.key key) (nat_le x.ikey.seq point) (lt-leb x.ikey.seq point (h x (inl refl))) in
    rw (own, visible-none xs key point (λ f a. h f (inr a))) refl

-- later entries in front of others change nothing at an earlier point
pub visible-skip : (front xs : List Entry) (key : List ℕ) (point : ℕ) → ((f : Entry) → IsIn f front → point < f.ikey.seq) → visible (front ++ xs) key point ≡ visible xs key point
visible-skip front xs key point h = rw (visible-append front xs key point, visible-none front key point h) refl

-- at a point before the last flush only what is stored counts
pub value_at-stored : (writes : List Op) (flushed : ℕ) (stored : List Entry) (key : List ℕ) (point : ℕ) → point ≤ flushed → value_at (entries_after flushed (drop flushed writes) ++ stored) key point ≡ value_at stored key point
value_at-stored writes flushed stored key point h =
    ap (option_and_then entry_value) (visible-skip (entries_after flushed (drop flushed writes)) stored key point (λ f a. let r = entries_after-range flushed (drop flushed writes) f a in omega arith))

-- at any point from the last flush on, recent writes over what is stored give what the list of writes gives
pub at_point : (writes : List Op) (flushed : ℕ) (stored : List Entry) (key : List ℕ) (point : ℕ) → flushed ≤ point → point ≤ length writes → ((f : Entry) → IsIn f stored → f.ikey.seq ≤ flushed) → value_at stored key flushed ≡ answer writes flushed key → value_at (entries_after flushed (drop flushed writes) ++ stored) key point ≡ answer writes point key
at_point writes flushed stored key point low high old h =
    let early = take point writes in
    let late = drop point writes in
    let long : length early ≡ point = omega (arith, length-take point writes) in
    let whole : drop flushed writes ≡ drop flushed early ++ late = ap (drop flushed) (sym (take-append-drop point writes)) ∙ drop-append_le flushed early late (omega arith) in
    let seam : flushed + length (drop flushed early) ≡ point = omega (arith, length-drop flushed early) in
    let parts : entries_after flushed (drop flushed writes) ≡ entries_after flushed (drop flushed early) ++ entries_after point late = ap (entries_after flushed) whole ∙ entries_after-append flushed (drop flushed early) late ∙ ap (λ n. entries_after flushed (drop flushed early) ++ entries_after n late) seam in
    let e = entries_after flushed (drop flushed early) in
    let skip : visible ((e ++ entries_after point late) ++ stored) key point ≡ visible (e ++ stored) key point =
    ap (λ l. visible l key point) (append_assoc e (entries_after point late) stored)
    ∙ visible-append e (entries_after point late ++ stored) key point
    ∙ ap (newer (visible e key point)) (visible-skip (entries_after point late) stored key point (λ f a. (entries_after-range point late f a).0))
    ∙ sym (visible-append e stored key point) in
    let cut : answer early flushed key ≡ answer writes flushed key = ap (λ ws. option_and_then value_of (last_write ws key)) (sym (take-append-le flushed early late (omega arith)) ∙ ap (take flushed) (take-append-drop point writes)) in
    let end : answer early (length early) key ≡ answer writes point key = ap (λ n. answer early n key) long ∙ ap (λ ws. option_and_then value_of (last_write ws key)) (take-take point point writes (omega arith)) in
    ap (λ l. value_at (l ++ stored) key point) parts
    ∙ ap (option_and_then entry_value) skip
    ∙ ap (λ n. value_at (e ++ stored) key n) (sym long)
    ∙ present early flushed stored key (omega arith) old (h ∙ sym cut)
    ∙ end
