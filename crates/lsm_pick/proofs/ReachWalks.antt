-- A walk over places widens a reach by the files that it meets.
use Rattle.std.proofs.Common.{◌≡◌, ℕ, ◌+◌, ◌<◌, ◌≤◌, Bool, true, false, cond, not, filter, ◌&&◌, List, [], ◌∷◌, ◌⊎◌, inl, inr, refl, sym, ap, ◌∙◌, subst, arith, eqb, length, take, drop, get_or}
use Rattle.std.proofs.lemmas.Bool.{true≢false, not-true, and_parts, and_from, and_cases, eqb-true, eq-eqb, eqb-false}
use Rattle.std.proofs.lemmas.List.{take-append-drop, take_more, drop_more, drop_all}
use Rattle.lsm_key.specs.Sets.{IsIn}
use Rattle.lsm_key.specs.Order.{key_le}
use Rattle.lsm_key.proofs.Membership.{IsIn-append_cases, IsIn-append_left, IsIn-append_right, IsIn-at}
use Rattle.lsm_key.proofs.AscendingEntries.{IsIn-filter}
use Rattle.lsm_key.proofs.Lists.{IsIn-kept}
use Rattle.lsm_key.proofs.KeyRanges.{key_le_refl, key_le_trans, key_le_total}
use Rattle.lsm_edit.specs.declared.file.FileMeta.{FileMeta}
use Rattle.lsm_edit.specs.declared.served.Placed.{Placed}
use Rattle.lsm_edit.specs.Served.{AllRecorded, AreInSearchOrder, IsAsRecorded, comes_left}
use Rattle.lsm_edit.proofs.SearchOrder.{Before, upper, newer, lesser, before_of}
use Rattle.lsm_edit.proofs.LevelSearch.{Left, above, beside, left_of, level_up, not_left, whole_of}
use Rattle.lsm_edit.proofs.ServedAfterEdit.{ordered-filter}
use Rattle.lsm_edit.proofs.LevelEntries.{order_left}
use Rattle.lsm_pick.specs.Closure.{Candidate}
use Rattle.lsm_key.specs.KeyRanges.{lower, higher}
use Rattle.lsm_pick.specs.Reach.{IsReach, Grows, is_inside, is_met, joins_at, may_join}
use Rattle.lsm_pick.proofs.ReachGrows.{lower_low, lower_key, higher_high, higher_key, met_parts, met_from, met_more, inside_from, inside_more, reach_more}

-- ---- parts of a list

module _ {X : Type 0} (xs : List X) (i : ℕ) where
  pub in_parts : (x : X) → IsIn x xs → IsIn x (take i xs) ⊎ IsIn x (drop i xs)
  in_parts x m = IsIn-append_cases x (take i xs) (drop i xs) (subst (IsIn x) (sym (take-append-drop i xs)) m)

  pub in_front : (x : X) → IsIn x (take i xs) → IsIn x xs
  in_front x m = subst (IsIn x) (take-append-drop i xs) (IsIn-append_left x (take i xs) (drop i xs) m)

  pub in_back : (x : X) → IsIn x (drop i xs) → IsIn x xs
  in_back x m = subst (IsIn x) (take-append-drop i xs) (IsIn-append_right x (take i xs) (drop i xs) m)

  pub in_next : (x : X) → i < length xs → x ≡ get_or xs i x → (y : X) → IsIn y (take (i + 1) xs) → IsIn y (take i xs) ⊎ (y ≡ x)
  in_next x lt is y m = elim (IsIn-append_cases y (take i xs) (get_or xs i x ∷ []) (subst (IsIn y) (take_more xs i x lt) m)) [
    | inl a ↦ inl a
    | inr b ↦ elim b [ inl e ↦ inr (e ∙ sym is) | inr none ↦ absurd none ]
  ]

  pub rest_is : (x : X) → i < length xs → x ≡ get_or xs i x → drop i xs ≡ x ∷ drop (i + 1) xs
  rest_is x lt is = drop_more xs i x lt ∙ ap (λ (y : X). y ∷ drop (i + 1) xs) (sym is)

-- ---- the walk

-- the first places have been walked over
pub record Walk (t : Candidate) (places rest : List Placed) (level : ℕ) (lo hi new_lo new_hi : List ℕ) (i : ℕ) : Type 0 where
  pub low : key_le new_lo lo ≡ true
  pub high : key_le hi new_hi ≡ true
  pub taken : (p : Placed) → IsIn p (take i rest) → joins_at t level p.meta ≡ true → is_met lo hi p.meta ≡ true → is_inside new_lo new_hi p.meta ≡ true
  pub sound : (files : List FileMeta) → ((p : Placed) → IsIn p places → IsIn p.meta files) → IsReach files t lo hi → IsReach files t new_lo new_hi

module _ (t : Candidate) (places rest : List Placed) (level : ℕ) (lo hi : List ℕ) where
  pub walk_none : Walk t places rest level lo hi lo hi 0
  walk_none = record { low = key_le_refl lo; high = key_le_refl hi; taken = λ p m. absurd m; sound = λ files up r. r }

  module _ (new_lo new_hi : List ℕ) (i : ℕ) (p : Placed) (lt : i < length rest) (is : p ≡ get_or rest i p) (w : Walk t places rest level lo hi new_lo new_hi i) where
    pub walk_more : IsIn p places → may_join t p.meta ≡ true → is_met new_lo new_hi p.meta ≡ true
        → Walk t places rest level lo hi (lower new_lo p.meta.smallest) (higher new_hi p.meta.largest) (i + 1)
    walk_more m j met = record {
      low = key_le_trans (lower new_lo p.meta.smallest) new_lo lo (lower_low new_lo p.meta.smallest) w.low;
      high = key_le_trans hi new_hi (higher new_hi p.meta.largest) w.high (higher_high new_hi p.meta.largest);
      taken = λ q n join here. elim (in_next rest i p lt is q n) [
        | inl before ↦ inside_more new_lo new_hi (lower new_lo p.meta.smallest) (higher new_hi p.meta.largest) q.meta (lower_low new_lo p.meta.smallest) (higher_high new_hi p.meta.largest) (w.taken q before join here)
        | inr same ↦ subst (λ (x : Placed). is_inside (lower new_lo p.meta.smallest) (higher new_hi p.meta.largest) x.meta ≡ true) (sym same)
            (inside_from (lower new_lo p.meta.smallest) (higher new_hi p.meta.largest) p.meta (lower_key new_lo p.meta.smallest) (higher_key new_hi p.meta.largest))
      ];
      sound = λ files up r. reach_more files t new_lo new_hi p.meta (w.sound files up r) (up p m) j met;
    }

    pub walk_past : (joins_at t level p.meta ≡ true → is_met lo hi p.meta ≡ true → ⊥) → Walk t places rest level lo hi new_lo new_hi (i + 1)
    walk_past never = record {
      low = w.low;
      high = w.high;
      taken = λ q n join here. elim (in_next rest i p lt is q n) [
        | inl before ↦ w.taken q before join here
        | inr same ↦ absurd (never (subst (λ (x : Placed). joins_at t level x.meta ≡ true) same join) (subst (λ (x : Placed). is_met lo hi x.meta ≡ true) same here))
      ];
      sound = w.sound;
    }

    pub walk_by : IsIn p places → (b : Bool) → (may_join t p.meta && is_met new_lo new_hi p.meta) ≡ b
        → Walk t places rest level lo hi (cond b (lower new_lo p.meta.smallest) new_lo) (cond b (higher new_hi p.meta.largest) new_hi) (i + 1)
    walk_by m true e = let parts = and_parts (may_join t p.meta) (is_met new_lo new_hi p.meta) e in walk_more m parts.0 parts.1
    walk_by m false e = walk_past (λ j met.
        true≢false (sym (and_from (may_join t p.meta) (is_met new_lo new_hi p.meta) (and_parts (eqb p.meta.level level) (may_join t p.meta) j).1 (met_more lo hi new_lo new_hi p.meta w.low w.high met)) ∙ e))

  -- no place that joins and is met is left
  pub walk_done : (new_lo new_hi : List ℕ) (i : ℕ) → Walk t places rest level lo hi new_lo new_hi i
      → ((p : Placed) → IsIn p places → joins_at t level p.meta ≡ true → is_met lo hi p.meta ≡ true → IsIn p (take i rest)) → Grows t places (joins_at t level) lo hi new_lo new_hi
  walk_done new_lo new_hi i w all = record {
    low = w.low;
    high = w.high;
    taken = λ p m j met. w.taken p (all p m j met) j met;
    sound = w.sound;
  }

-- ---- the next level

joins_level : (t : Candidate) (level : ℕ) (f : FileMeta) → joins_at t level f ≡ true → f.level ≡ level
joins_level t level f j = eqb-true f.level level (and_parts (eqb f.level level) (may_join t f) j).0

-- a file whose keys all stand below the least one is not met
pub left_missed : (level : ℕ) (lo hi : List ℕ) (p : Placed) → comes_left level lo p ≡ true → p.meta.level ≡ level → is_met lo hi p.meta ≡ true → ⊥
left_missed level lo hi p left at met = by (left_of_here (left_of level lo p left))
  where
    left_of_here : Left level lo p.meta → key_le lo p.meta.largest ≡ false
    left_of_here (above lt) = absurd (omega (arith, lt, at))
    left_of_here (beside e k) = k

    by : key_le lo p.meta.largest ≡ false → ⊥
    by e = true≢false (sym (met_parts lo hi p.meta met).0 ∙ e)

-- of the level, and with a key up to the greatest one
abbrev pub begins : ℕ → List ℕ → Placed → Bool
begins level hi p = eqb p.meta.level level && key_le p.meta.smallest hi

-- where a file begins too late, so do all after it
pub later_missed : (level : ℕ) (lo hi : List ℕ) (q p : Placed) → AllRecorded (q ∷ p ∷ []) → 1 ≤ level → level ≤ q.meta.level → begins level hi q ≡ false → Before q.meta p.meta → p.meta.level ≡ level → is_met lo hi p.meta ≡ true → ⊥
later_missed level lo hi q p rec some ge late (upper lt) at met = omega (arith, lt, ge, at)
later_missed level lo hi q p rec some ge late (newer e z n) at met = omega (arith, z, ge, some)
later_missed level lo hi q p rec some ge late (lesser e n k) at met =
    let own : q.meta.level ≡ level = e ∙ at in
    let after : key_le q.meta.smallest hi ≡ false = elim (and_cases (eqb q.meta.level level) (key_le q.meta.smallest hi) late) [ inl x ↦ absurd (eqb-false q.meta.level level x own) | inr y ↦ y ] in
    let whole = whole_of q.meta q.table (rec q (inl refl)) in
    let up : key_le q.meta.largest p.meta.smallest ≡ true = elim (key_le_total q.meta.largest p.meta.smallest) [ inl x ↦ x | inr y ↦ absurd (true≢false (sym y ∙ k)) ] in
    true≢false (sym (key_le_trans q.meta.smallest q.meta.largest hi whole (key_le_trans q.meta.largest p.meta.smallest hi up (met_parts lo hi p.meta met).1)) ∙ after)

-- the walk over the places of the next level from the first whose keys don't all stand below the least one
module _ (places rest : List Placed) (level : ℕ) (lo hi : List ℕ) (some : 1 ≤ level) (rec : AllRecorded places) (up : AreInSearchOrder places) (rest_is_from : rest ≡ filter (λ p. not (comes_left level lo p)) places) (t : Candidate) where
  from_here : (p : Placed) → IsIn p rest → IsIn p places × (not (comes_left level lo p) ≡ true)
  from_here p m = IsIn-filter (λ p. not (comes_left level lo p)) p places (subst (IsIn p) rest_is_from m)

  pub rest_in : (p : Placed) → IsIn p rest → IsIn p places
  rest_in p m = (from_here p m).0

  -- what joins and is met stands in the rest
  in_rest : (p : Placed) → IsIn p places → joins_at t level p.meta ≡ true → is_met lo hi p.meta ≡ true → IsIn p rest
  in_rest p m j met = by (comes_left level lo p) refl
    where
      by : (b : Bool) → comes_left level lo p ≡ b → IsIn p rest
      by true left = absurd (left_missed level lo hi p left (joins_level t level p.meta j) met)
      by false right = subst (IsIn p) (sym rest_is_from) (IsIn-kept (λ p. not (comes_left level lo p)) p places m (ap not right))

  pub all_walked : (i : ℕ) → length rest ≤ i → (p : Placed) → IsIn p places → joins_at t level p.meta ≡ true → is_met lo hi p.meta ≡ true → IsIn p (take i rest)
  all_walked i le p m j met = elim (in_parts rest i p (in_rest p m j met)) [
    | inl a ↦ a
    | inr b ↦ absurd (subst (IsIn p) (drop_all i rest le) b)
  ]

  ahead : (p : Placed) → IsIn p rest → comes_left level lo p ≡ false
  ahead p m = not-true (comes_left level lo p) (from_here p m).1

  pub stopped_at : (i : ℕ) (q : Placed) → i < length rest → q ≡ get_or rest i q → begins level hi q ≡ false
      → (p : Placed) → IsIn p places → joins_at t level p.meta ≡ true → is_met lo hi p.meta ≡ true → IsIn p (take i rest)
  stopped_at i q lt is late p m j met = elim (in_parts rest i p (in_rest p m j met)) [
    | inl a ↦ a
    | inr b ↦
        let at = joins_level t level p.meta j in
        let here : IsIn q rest = subst (λ (x : Placed). IsIn x rest) (sym is) (IsIn-at rest i q lt) in
        elim (subst (IsIn p) (rest_is rest i q lt is) b) [
          | inl same ↦ absurd (true≢false (sym (and_from (eqb p.meta.level level) (key_le p.meta.smallest hi) (eq-eqb p.meta.level level at) (met_parts lo hi p.meta met).1) ∙ ap (begins level hi) same ∙ late))
          | inr after ↦
              let order : AreInSearchOrder (q ∷ drop (i + 1) rest) = subst AreInSearchOrder (rest_is rest i q lt is) (order_left i rest (subst AreInSearchOrder (sym rest_is_from) (ordered-filter (λ p. not (comes_left level lo p)) places up))) in
              absurd (later_missed level lo hi q p (both q p (rec q (rest_in q here)) (rec p m)) some (not_left level lo q (ahead q here)).0 late (before_of q.meta p.meta (order.0 p after)) at met)
        ]
  ]
    where
      both : (q p : Placed) → IsAsRecorded q.meta q.table → IsAsRecorded p.meta p.table → AllRecorded (q ∷ p ∷ [])
      both q p a b x n = elim n [
        | inl e ↦ subst (λ (y : Placed). IsAsRecorded y.meta y.table) (sym e) a
        | inr more ↦ elim more [ inl e ↦ subst (λ (y : Placed). IsAsRecorded y.meta y.table) (sym e) b | inr none ↦ absurd none ]
      ]

  -- a file that begins by the greatest key is met
  pub begun_met : (q : Placed) → IsIn q rest → begins level hi q ≡ true → is_met lo hi q.meta ≡ true
  begun_met q m b =
      let parts = and_parts (eqb q.meta.level level) (key_le q.meta.smallest hi) b in
      met_from lo hi q.meta ((not_left level lo q (ahead q m)).1 (eqb-true q.meta.level level parts.0)) parts.1

-- ---- level 0

-- every file of level 0 stands before the first of a deeper level
pub zero_walked : (places : List Placed) (t : Candidate) (lo hi : List ℕ) (i : ℕ) (q : Placed) → AreInSearchOrder places → i < length places → q ≡ get_or places i q → 0 < q.meta.level
    → (p : Placed) → IsIn p places → joins_at t 0 p.meta ≡ true → is_met lo hi p.meta ≡ true → IsIn p (take i places)
zero_walked places t lo hi i q up lt is deep p m j met = elim (in_parts places i p m) [
  | inl a ↦ a
  | inr b ↦
      let at : p.meta.level ≡ 0 = joins_level t 0 p.meta j in
      elim (subst (IsIn p) (rest_is places i q lt is) b) [
        | inl same ↦ let e : p.meta.level ≡ q.meta.level = ap (λ (x : Placed). x.meta.level) same in absurd (omega (arith, e, at, deep))
        | inr after ↦
            let order : AreInSearchOrder (q ∷ drop (i + 1) places) = subst AreInSearchOrder (rest_is places i q lt is) (order_left i places up) in
            let more = level_up q.meta p.meta (before_of q.meta p.meta (order.0 p after)) deep in
            absurd (omega (arith, more, at))
      ]
]

pub zero_all : (places : List Placed) (t : Candidate) (lo hi : List ℕ) (i : ℕ) → length places ≤ i → (p : Placed) → IsIn p places → joins_at t 0 p.meta ≡ true → is_met lo hi p.meta ≡ true → IsIn p (take i places)
zero_all places t lo hi i le p m j met = elim (in_parts places i p m) [ inl a ↦ a | inr b ↦ absurd (subst (IsIn p) (drop_all i places le) b) ]
