-- What a cursor over the tables of a level has left, from a key on.
use Rattle.std.proofs.Common.{◌≡◌, ℕ, ◌+◌, ◌-◌, ◌<◌, ◌≤◌, Bool, true, false, List, [], ◌∷◌, ◌++◌, length, get_or, take, drop, refl, sym, ap, subst, ◌∙◌, arith, inl, inr}
use Rattle.std.specs.List.{filter, AllWithin}
use Rattle.std.proofs.lemmas.Bool.{cases_lt, eqb-true, eq-eqb, true≢false}
use Rattle.std.proofs.lemmas.List.{append-nil, drop-drop, get_or-drop, get_or-take, length-drop, length-take-le, map-append, take-append-drop}
use Rattle.std.proofs.lemmas.List.Elements.{filter-append}
use Rattle.lsm_key.specs.declared.entry.Entry.{Entry}
use Rattle.lsm_key.specs.Order.{key_le}
use Rattle.lsm_key.specs.Places.{all_entries}
use Rattle.lsm_key.specs.Sets.{IsIn}
use Rattle.lsm_key.proofs.AscendingEntries.{IsIn-filter}
use Rattle.lsm_key.proofs.KeyRanges.{key_le_or, key_le_trans}
use Rattle.lsm_key.proofs.Membership.{IsIn-append_left, IsIn-append_right, IsIn-place}
use Rattle.lsm_edit.specs.declared.served.Placed.{Placed}
use Rattle.lsm_edit.specs.Served.{AllRecorded, AreInSearchOrder, IsAsRecorded, comes_left, tables_of}
use Rattle.lsm_edit.proofs.AllEntries.{all_entries-append}
use Rattle.lsm_edit.proofs.LevelEntries.{filter-all, filter-none, is_of, key_from, key_to, not_of, order_left}
use Rattle.lsm_edit.proofs.LevelSearch.{Left, above, beside, left_of, not_left}
use Rattle.lsm_edit.proofs.SearchOrder.{Before, above_le, before_of, lesser, newer, upper}

module _ (lo : List ℕ) where
  -- the entry's key is at or after the key
  abbrev pub is_from : Entry → Bool
  is_from e = key_le lo e.ikey.key

  -- the entries of all places from the key on
  abbrev pub onward : List Placed → List Entry
  onward ps = filter is_from (all_entries (tables_of ps))

  pub onward-append : (ps qs : List Placed) → onward (ps ++ qs) ≡ onward ps ++ onward qs
  onward-append ps qs =
      ap (λ (xss : List (List Entry)). filter is_from (all_entries xss)) (map-append (λ p. p.table.entries) ps qs)
      ∙ ap (filter is_from) (all_entries-append (tables_of ps) (tables_of qs))
      ∙ filter-append is_from (all_entries (tables_of ps)) (all_entries (tables_of qs))

  none_onward : (ps : List Placed) → ((p : Placed) → IsIn p ps → (e : Entry) → IsIn e p.table.entries → is_from e ≡ false) → onward ps ≡ []
  none_onward [] h = refl
  none_onward (p ∷ ps) h =
      filter-append is_from p.table.entries (all_entries (tables_of ps))
      ∙ ap (λ (es : List Entry). es ++ onward ps) (filter-none is_from p.table.entries (h p (inl refl)))
      ∙ none_onward ps (λ q m. h q (inr m))

  all_onward : (ps : List Placed) → ((p : Placed) → IsIn p ps → (e : Entry) → IsIn e p.table.entries → is_from e ≡ true) → onward ps ≡ all_entries (tables_of ps)
  all_onward [] h = refl
  all_onward (p ∷ ps) h =
      filter-append is_from p.table.entries (all_entries (tables_of ps))
      ∙ ap (λ (es : List Entry). es ++ onward ps) (filter-all is_from p.table.entries (h p (inl refl)))
      ∙ ap (λ (es : List Entry). p.table.entries ++ es) (all_onward ps (λ q m. h q (inr m)))

-- ---- what holds at each place of a part holds of its members

in_take : (P : Placed → Type 0) (ps : List Placed) (i : ℕ) → i ≤ length ps → AllWithin P ps 0 i → (p : Placed) → IsIn p (take i ps) → P p
in_take P ps i le h p m =
    let at = IsIn-place p (take i ps) m in
    let lt : at.0 < i = omega (arith, at.1, length-take-le i ps le) in
    subst P (sym (get_or-take i ps at.0 p lt) ∙ at.2) (h at.0 p (omega arith) lt)

in_drop : (P : Placed → Type 0) (ps : List Placed) (i : ℕ) → AllWithin P ps i (length ps) → (p : Placed) → IsIn p (drop i ps) → P p
in_drop P ps i h p m =
    let at = IsIn-place p (drop i ps) m in
    let lt : i + at.0 < length ps = omega (arith, at.1, length-drop i ps) in
    subst P (sym (get_or-drop i ps at.0 p) ∙ at.2) (h (i + at.0) p (omega arith) lt)

-- ---- the tables of a level

module _ (lo : List ℕ) (level : ℕ) (deeper : 1 ≤ level) where
  -- those before it in the level have no entry from it on
  misses : (p : Placed) → IsAsRecorded p.meta p.table → Left level lo p.meta → p.meta.level ≡ level → (e : Entry) → IsIn e p.table.entries → is_from lo e ≡ false
  misses p is (above lt) at e m = absurd (omega (arith, lt, at))
  misses p is (beside d k) at e m = above_le lo p.meta.largest e.ikey.key k (key_to p is e m)

  past : (p q : Placed) → Before p.meta q.meta → p.meta.level ≡ level → q.meta.level ≡ level → key_le lo p.meta.largest ≡ true → key_le lo q.meta.smallest ≡ true
  past p q (upper lt) one other k = absurd (omega (arith, lt, one, other))
  past p q (newer a z n) one other k = absurd (omega (arith, deeper, one, z))
  past p q (lesser a n d) one other k = key_le_trans lo p.meta.largest q.meta.smallest k (key_le_or q.meta.smallest p.meta.largest d)

  -- those after the first one that reaches it have only such entries
  later_all : (p : Placed) (later : List Placed) → AllRecorded (p ∷ later) → AreInSearchOrder (p ∷ later) → ((q : Placed) → IsIn q (p ∷ later) → q.meta.level ≡ level) → key_le lo p.meta.largest ≡ true → onward lo later ≡ all_entries (tables_of later)
  later_all p later rec up here reaches = all_onward lo later (λ q m e n.
      let begins = past p q (before_of p.meta q.meta (up.0 q m)) (here p (inl refl)) (here q (inr m)) reaches in
      key_le_trans lo q.meta.smallest e.ikey.key begins (key_from q (rec q (inr m)) e n))

-- ---- a part of the places

order_front : (xs ys : List Placed) → AreInSearchOrder (xs ++ ys) → AreInSearchOrder xs
order_front [] ys up = tt
order_front (x ∷ xs) ys up = (λ q m. up.0 q (IsIn-append_left q xs ys m), order_front xs ys up.1)

least_key : (k : List ℕ) → key_le [] k ≡ true
least_key [] = refl
least_key (x ∷ k) = refl

module _ (lo : List ℕ) (level : ℕ) (deeper : 1 ≤ level) (ps : List Placed) (start end : ℕ) (rec : AllRecorded ps) (up : AreInSearchOrder ps) (within : start ≤ length ps) (bound : end ≤ length ps)
    (front : AllWithin (λ p. comes_left level lo p ≡ true) ps 0 start) (mid : AllWithin (λ p. comes_left level lo p ≡ false) ps start (length ps))
    (low : AllWithin (λ p. comes_left (level + 1) [] p ≡ true) ps 0 end) (high : AllWithin (λ p. comes_left (level + 1) [] p ≡ false) ps end (length ps)) where
  -- a place can't be left of the key in the level, and not left of the next level
  crossed : (q : Placed) → Left level lo q.meta → (level + 1 ≤ q.meta.level) → ⊥
  crossed q (above lt) far = absurd (omega (arith, lt, far))
  crossed q (beside e k) far = absurd (omega (arith, e, far))

  pub ordered : start ≤ end
  ordered = by ps within front high
    where
      by : (qs : List Placed) → start ≤ length qs → AllWithin (λ p. comes_left level lo p ≡ true) qs 0 start → AllWithin (λ p. comes_left (level + 1) [] p ≡ false) qs end (length qs) → start ≤ end
      by [] le left right = omega (arith, le)
      by (q ∷ qs) le left right = elim (cases_lt end start) [
        | inl lt ↦
            let p = get_or (q ∷ qs) end q in
            absurd (crossed p (left_of level lo p (left end q (omega arith) lt)) (not_left (level + 1) [] p (right end q (omega arith) (omega (arith, lt, le)))).0)
        | inr le2 ↦ le2
      ]

  parts : take start ps ++ (take (end - start) (drop start ps) ++ drop end ps) ≡ ps
  parts =
      let n : start + (end - start) ≡ end = omega (arith, ordered) in
      let behind : drop (end - start) (drop start ps) ≡ drop end ps = drop-drop (end - start) start ps ∙ ap (λ (k : ℕ). drop k ps) n in
      ap (λ (qs : List Placed). take start ps ++ (take (end - start) (drop start ps) ++ qs)) (sym behind)
      ∙ ap (λ (qs : List Placed). take start ps ++ qs) (take-append-drop (end - start) (drop start ps))
      ∙ take-append-drop start ps

  level_by : (q : Placed) → Left (level + 1) [] q.meta → level ≤ q.meta.level → q.meta.level ≡ level
  level_by q (above lt) le = omega (arith, lt, le)
  level_by q (beside e k) le = absurd (true≢false (sym (least_key q.meta.largest) ∙ k))

  here : (q : Placed) → IsIn q (take (end - start) (drop start ps)) → (q.meta.level ≡ level) × (key_le lo q.meta.largest ≡ true)
  here q m =
      let at = IsIn-place q (take (end - start) (drop start ps)) m in
      let room : end - start ≤ length (drop start ps) = omega (arith, length-drop start ps, bound) in
      let lt : at.0 < end - start = omega (arith, at.1, length-take-le (end - start) (drop start ps) room) in
      let same : get_or ps (start + at.0) q ≡ q = sym (get_or-drop start ps at.0 q) ∙ sym (get_or-take (end - start) (drop start ps) at.0 q lt) ∙ at.2 in
      let a = not_left level lo q (subst (λ (p : Placed). comes_left level lo p ≡ false) same (mid (start + at.0) q (omega arith) (omega (arith, lt, bound)))) in
      let b = left_of (level + 1) [] q (subst (λ (p : Placed). comes_left (level + 1) [] p ≡ true) same (low (start + at.0) q (omega arith) (omega (arith, lt)))) in
      let own = level_by q b a.0 in
      (own, a.1 own)

  no_more : filter (is_of level) (drop end ps) ≡ []
  no_more = filter-none (is_of level) (drop end ps) (λ q m.
      let far = (not_left (level + 1) [] q (in_drop (λ p. comes_left (level + 1) [] p ≡ false) ps end high q m)).0 in
      not_of level q.meta.level (λ e. absurd (omega (arith, e, far))))

  pub of_part : onward lo (filter (is_of level) ps) ≡ onward lo (take (end - start) (drop start ps))
  of_part =
      let before = filter (is_of level) (take start ps) in
      let own : filter (is_of level) (take (end - start) (drop start ps)) ≡ take (end - start) (drop start ps) = filter-all (is_of level) (take (end - start) (drop start ps)) (λ q m. eq-eqb q.meta.level level (here q m).0) in
      let split : filter (is_of level) ps ≡ before ++ take (end - start) (drop start ps) =
      ap (filter (is_of level)) (sym parts)
      ∙ filter-append (is_of level) (take start ps) (take (end - start) (drop start ps) ++ drop end ps)
      ∙ ap (λ (qs : List Placed). before ++ qs) (filter-append (is_of level) (take (end - start) (drop start ps)) (drop end ps) ∙ (λ i. own i ++ no_more i) ∙ append-nil (take (end - start) (drop start ps))) in
      let gone : onward lo before ≡ [] = none_onward lo before (λ q m e n.
      let s = IsIn-filter (is_of level) q (take start ps) m in
      let whole : IsIn q ps = subst (IsIn q) parts (IsIn-append_left q (take start ps) (take (end - start) (drop start ps) ++ drop end ps) s.0) in
      misses lo level deeper q (rec q whole) (left_of level lo q (in_take (λ p. comes_left level lo p ≡ true) ps start within front q s.0)) (eqb-true q.meta.level level s.1) e n) in
      ap (onward lo) split ∙ onward-append lo before (take (end - start) (drop start ps)) ∙ ap (λ (es : List Entry). es ++ onward lo (take (end - start) (drop start ps))) gone

  pub of_first : (first : Placed) (later : List Placed) → take (end - start) (drop start ps) ≡ first ∷ later → onward lo (filter (is_of level) ps) ≡ filter (is_from lo) first.table.entries ++ all_entries (tables_of later)
  of_first first later is =
      let in_part : (q : Placed) → IsIn q (first ∷ later) → IsIn q (take (end - start) (drop start ps)) = λ q m. subst (IsIn q) (sym is) m in
      let whole : (q : Placed) → IsIn q (take (end - start) (drop start ps)) → IsIn q ps = λ q m. subst (IsIn q) parts (IsIn-append_right q (take start ps) (take (end - start) (drop start ps) ++ drop end ps) (IsIn-append_left q (take (end - start) (drop start ps)) (drop end ps) m)) in
      let order = subst AreInSearchOrder is (order_front (take (end - start) (drop start ps)) (drop end ps) (subst AreInSearchOrder back (order_left start ps up))) in
      of_part ∙ ap (onward lo) is
      ∙ filter-append (is_from lo) first.table.entries (all_entries (tables_of later))
      ∙ ap (λ (es : List Entry). filter (is_from lo) first.table.entries ++ es) (later_all lo level deeper first later (λ q m. rec q (whole q (in_part q m))) order (λ q m. (here q (in_part q m)).0) (here first (in_part first (inl refl))).1)
    where
      back : drop start ps ≡ take (end - start) (drop start ps) ++ drop end ps
      back =
          let n : start + (end - start) ≡ end = omega (arith, ordered) in
          sym (take-append-drop (end - start) (drop start ps)) ∙ ap (λ (qs : List Placed). take (end - start) (drop start ps) ++ qs) (drop-drop (end - start) start ps ∙ ap (λ (k : ℕ). drop k ps) n)
