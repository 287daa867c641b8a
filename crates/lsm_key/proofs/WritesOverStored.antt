-- Recent writes over what is stored give what the list of writes gives.
use Rattle.std.proofs.Common.{◌≡◌, ℕ, ◌+◌, ◌<◌, ◌≤◌, List, [], ◌∷◌, ◌++◌, Option, None, Some, refl, sym, ap, ◌∙◌, arith, Bool, true, false, inl, inr, ◌&&◌, length, take, drop, is_some, length-drop, add-zero}
use Rattle.std.specs.Bool.{if◌then◌else◌, nat_le}
use Rattle.std.specs.Option.{option_map, option_and_then}
use Rattle.std.specs.Str.{bytes_eq}
use Rattle.std.proofs.lemmas.Bool.{lt-ltb, le-leb}
use Rattle.std.proofs.lemmas.List.{take-append-drop, take_all}
use Rattle.lsm_key.specs.declared.op.Op.{Op}
use Rattle.lsm_key.specs.declared.op.Op.TheVariants.{Put, Delete}
use Rattle.lsm_key.specs.declared.entry.Entry.{Entry}
use Rattle.lsm_key.specs.Sets.{IsIn}
use Rattle.lsm_key.specs.Limits.{entry_weight, weight_of, total_weight}
use Rattle.lsm_key.specs.Writes.{last_write, value_of, key_of, answer}
use Rattle.lsm_key.specs.Visible.{visible, newer, is_seen, value_at, entry_value, IsUnique}
use Rattle.lsm_key.specs.Places.{entry_of, entries_after}
use Rattle.std.specs.List.{sum_by}
use Rattle.std.proofs.lemmas.List.Sums.{sum_by-cons}
use Rattle.lsm_key.proofs.LatestOfList.{at_visible}
use Rattle.lsm_key.proofs.FirstVisible.{visible_above}

later-assoc : (a b c : Option Op) → (if is_some (if is_some a then a else b) then (if is_some a then a else b) else c) ≡ (if is_some a then a else (if is_some b then b else c))
later-assoc None b c = refl
later-assoc (Some a) b c = refl

later-none : (a : Option Op) → (if is_some a then a else None) ≡ a
later-none None = refl
later-none (Some a) = refl

pub last_write-append : (xs ys : List Op) (key : List ℕ) → last_write (xs ++ ys) key ≡ (if is_some (last_write ys key) then last_write ys key else last_write xs key)
last_write-append [] ys key = sym (later-none (last_write ys key))
last_write-append (w ∷ ws) ys key = rw (last_write-append ws ys key) (later-assoc (last_write ys key) (last_write ws key) (if bytes_eq (key_of w) key then Some w else None))

-- ---- the entry of a write

pub entry_seq : (n : ℕ) (w : Op) → (entry_of n w).ikey.seq ≡ n
entry_seq n (Put key value) = refl
entry_seq n (Delete key) = refl

pub entry_key : (n : ℕ) (w : Op) → (entry_of n w).ikey.key ≡ key_of w
entry_key n (Put key value) = refl
entry_key n (Delete key) = refl

entry_gives : (n : ℕ) (w : Op) → entry_value (entry_of n w) ≡ value_of w
entry_gives n (Put key value) = refl
entry_gives n (Delete key) = refl

entry_weighs : (n : ℕ) (w : Op) → entry_weight (entry_of n w) ≡ weight_of w
entry_weighs n (Put key value) = refl
entry_weighs n (Delete key) = refl

and-true : (b t : Bool) → t ≡ true → (b && t) ≡ b
and-true true t h = h
and-true false t h = refl

entry_seen : (n : ℕ) (w : Op) (key : List ℕ) (point : ℕ) → n ≤ point → is_seen key point (entry_of n w) ≡ bytes_eq (key_of w) key
entry_seen n (Put k value) key point h = and-true (bytes_eq k key) (nat_le n point) (le-leb n point h)
entry_seen n (Delete k) key point h = and-true (bytes_eq k key) (nat_le n point) (le-leb n point h)

-- ---- the entries of writes

-- they have the sequences after n
pub entries_after-range : (n : ℕ) (ws : List Op) (e : Entry) → IsIn e (entries_after n ws) → (n < e.ikey.seq) × (e.ikey.seq ≤ n + length ws)
entries_after-range n [] e h = absurd h
entries_after-range n (w ∷ ws) e h =
    elim h [
      | inl a ↦ let s : e.ikey.seq ≡ n + 1 = ap (λ (x : Entry). x.ikey.seq) a ∙ entry_seq (n + 1) w in (omega arith, omega arith)
      | inr b ↦ let r = entries_after-range (n + 1) ws e b in (omega arith, omega arith)
    ]

pub entries_after-unique : (n : ℕ) (ws : List Op) → IsUnique (entries_after n ws)
entries_after-unique n [] e f a b keys seqs = absurd a
entries_after-unique n (w ∷ ws) e f a b keys seqs =
    let head = entry_seq (n + 1) w in
    elim a [
      | inl x ↦ elim b [
        | inl y ↦ x ∙ sym y
        | inr y ↦ let s = ap (λ (r : Entry). r.ikey.seq) x in let r = entries_after-range (n + 1) ws f y in absurd (omega arith)
      ]
      | inr x ↦ elim b [
        | inl y ↦ let s = ap (λ (r : Entry). r.ikey.seq) y in let r = entries_after-range (n + 1) ws e x in absurd (omega arith)
        | inr y ↦ entries_after-unique (n + 1) ws e f x y keys seqs
      ]
    ]

pub length-entries_after : (n : ℕ) (ws : List Op) → length (entries_after n ws) ≡ length ws
length-entries_after n [] = refl
length-entries_after n (w ∷ ws) = let e = length-entries_after (n + 1) ws in omega (arith, e)

pub weight-entries_after : (n : ℕ) (ws : List Op) → sum_by entry_weight (entries_after n ws) ≡ total_weight ws
weight-entries_after n [] = refl
weight-entries_after n (w ∷ ws) =
    sum_by-cons entry_weight (entry_of (n + 1) w) (entries_after (n + 1) ws)
    ∙ ap (λ a. a + sum_by entry_weight (entries_after (n + 1) ws)) (entry_weighs (n + 1) w)
    ∙ ap (λ b. weight_of w + b) (weight-entries_after (n + 1) ws)
    ∙ sym (sum_by-cons weight_of w ws)

-- later writes follow the earlier ones
pub entries_after-append : (n : ℕ) (ws vs : List Op) → entries_after n (ws ++ vs) ≡ entries_after n ws ++ entries_after (n + length ws) vs
entries_after-append n [] vs = ap (λ m. entries_after m vs) (sym (add-zero n))
entries_after-append n (w ∷ ws) vs =
    let e : n + 1 + length ws ≡ n + length (w ∷ ws) = omega arith in
    ap (λ r. entry_of (n + 1) w ∷ r) (entries_after-append (n + 1) ws vs ∙ ap (λ m. entries_after (n + 1) ws ++ entries_after m vs) e)

last_step : (x : Entry) (w : Op) (t : Bool) (r : Option Entry) (l : Option Op) → entry_value x ≡ value_of w → ((b : Entry) → r ≡ Some b → x.ikey.seq < b.ikey.seq) → option_map entry_value r ≡ option_map value_of l → option_map entry_value (newer (if t then Some x else None) r) ≡ option_map value_of (if is_some l then l else (if t then Some w else None))
last_step x w true None None own above h = ap Some own
last_step x w false None None own above h = refl
last_step x w t None (Some l) own above h = absurd cc
last_step x w t (Some b) None own above h = absurd cc
last_step x w false (Some b) (Some l) own above h = h
last_step x w true (Some b) (Some l) own above h = rw (lt-ltb x.ikey.seq b.ikey.seq (above b refl)) h

-- what they show is what the last write of the key gives
pub entries_after-shown : (n : ℕ) (ws : List Op) (key : List ℕ) (point : ℕ) → n + length ws ≤ point → option_map entry_value (visible (entries_after n ws) key point) ≡ option_map value_of (last_write ws key)
entries_after-shown n [] key point h = refl
entries_after-shown n (w ∷ ws) key point h =
    rw (entry_seen (n + 1) w key point (omega arith))
    (last_step (entry_of (n + 1) w) w (bytes_eq (key_of w) key) (visible (entries_after (n + 1) ws) key point) (last_write ws key) (entry_gives (n + 1) w)
    (λ b e. let f = at_visible (entries_after (n + 1) ws) key point b e in let r = entries_after-range (n + 1) ws b f.member in rw (entry_seq (n + 1) w) r.0)
    (entries_after-shown (n + 1) ws key point (omega arith)))

shown_first : (r : Option Entry) (l : Option Op) (s : Option Entry) → option_map entry_value r ≡ option_map value_of l → option_and_then entry_value (if is_some r then r else s) ≡ (if is_some l then option_and_then value_of l else option_and_then entry_value s)
shown_first None None s h = refl
shown_first None (Some l) s h = absurd cc
shown_first (Some a) None s h = absurd cc
shown_first (Some a) (Some l) s h = cc

-- ---- recent writes over entries that are older

recent_value : (n : ℕ) (ws : List Op) (stored : List Entry) (key : List ℕ) (point : ℕ) → n + length ws ≤ point → ((f : Entry) → IsIn f stored → f.ikey.seq ≤ n) → value_at (entries_after n ws ++ stored) key point ≡ (if is_some (last_write ws key) then option_and_then value_of (last_write ws key) else value_at stored key point)
recent_value n ws stored key point h old =
    ap (option_and_then entry_value) (visible_above (entries_after n ws) stored key point (λ e f a b _. let r = entries_after-range n ws e a in let o = old f b in omega arith))
    ∙ shown_first (visible (entries_after n ws) key point) (last_write ws key) (visible stored key point) (entries_after-shown n ws key point h)

and-le : (b s t : Bool) → s ≡ true → t ≡ true → (b && s) ≡ (b && t)
and-le true s t p q = p ∙ sym q
and-le false s t p q = refl

-- at a point past all of them, entries show what they show at any earlier such point
pub visible-later : (xs : List Entry) (key : List ℕ) (p q : ℕ) → p ≤ q → ((f : Entry) → IsIn f xs → f.ikey.seq ≤ p) → visible xs key q ≡ visible xs key p
visible-later [] key p q le old = refl
visible-later (x ∷ xs) key p q le old =
    let low : x.ikey.seq ≤ p = old x (inl refl) in
    let high : x.ikey.seq ≤ q = omega arith in
    let own : is_seen key q x ≡ is_seen key p x = and-le (bytes_eq x.ikey.key key) (nat_le x.ikey.seq q) (nat_le x.ikey.seq p) (le-leb x.ikey.seq q high) (le-leb x.ikey.seq p low) in
    rw (own, visible-later xs key p q le (λ f h. old f (inr h))) refl

option_if : (a b : Option Op) → option_and_then value_of (if is_some a then a else b) ≡ (if is_some a then option_and_then value_of a else option_and_then value_of b)
option_if None b = refl
option_if (Some a) b = refl

-- the writes after those that are stored, over what is stored, give the answer at the present
pub present : (writes : List Op) (flushed : ℕ) (stored : List Entry) (key : List ℕ) → flushed ≤ length writes → ((f : Entry) → IsIn f stored → f.ikey.seq ≤ flushed) → value_at stored key flushed ≡ answer writes flushed key → value_at (entries_after flushed (drop flushed writes) ++ stored) key (length writes) ≡ answer writes (length writes) key
present writes flushed stored key le old h =
    let recent = drop flushed writes in
    let parts : take flushed writes ++ recent ≡ writes = take-append-drop flushed writes in
    let whole : take (length writes) writes ≡ take flushed writes ++ recent = take_all (length writes) writes (omega arith) ∙ sym parts in
    let fits : flushed + length recent ≤ length writes = omega (arith, length-drop flushed writes) in
    let below : value_at stored key (length writes) ≡ answer writes flushed key = rw (visible-later stored key flushed (length writes) le old) h in
    recent_value flushed recent stored key (length writes) fits old
    ∙ ap (λ r. if is_some (last_write recent key) then option_and_then value_of (last_write recent key) else r) below
    ∙ sym (ap (λ ws. option_and_then value_of (last_write ws key)) whole ∙ ap (λ o. option_and_then value_of o) (last_write-append (take flushed writes) recent key) ∙ option_if (last_write recent key) (last_write (take flushed writes) key))
