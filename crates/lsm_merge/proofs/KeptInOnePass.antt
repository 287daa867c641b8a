-- One pass over entries in order keeps just what is kept.
use Rattle.std.proofs.Common.{◌≡◌, ℕ, ◌<◌, ◌≤◌, Bool, true, false, cond, ◌&&◌, not, ◌⊎◌, ◌↔◌, List, [], ◌∷◌, Option, Some, None, refl, sym, ap, ◌∙◌, subst, inl, inr, arith, ltb, leb}
use Rattle.std.specs.declared.cmp.Ordering.{Ordering}
use Rattle.std.specs.declared.cmp.Ordering.TheVariants.{Less, Equal, Greater}
use Rattle.std.specs.Ordering.{nat_cmp, is_lt, ordering_then}
use Rattle.std.specs.Cmp.Lexicographic.{slice_cmp}
use Rattle.std.proofs.lemmas.Bool.{false≢true, true≢false, and_parts, and_from, or_cases, or_left, or_right, leb-true, le-leb, ltb-true, lt-ltb, cases_lt, not-true, not_from_false}
use Rattle.std.proofs.lemmas.Cmp.{nat_list_cmp_total, tied_itself}
use Rattle.lsm_key.specs.declared.entry.Entry.{Entry}
use Rattle.lsm_key.specs.Order.{Precedes, key_lt}
use Rattle.lsm_key.specs.Sets.{IsIn, SameMembers}
use Rattle.lsm_key.specs.Visible.{Latest, IsUnique, has_key, is_seen, latest}
use Rattle.lsm_key.proofs.AscendingEntries.{Falls}
use Rattle.lsm_key.proofs.EntryOrder.{before_trans, keys_equal, is_less, newer_first}
use Rattle.lsm_key.proofs.LatestOfList.{AreApart, latest-is, latest_one, at_visible, has_key-is, has_key-at, is_seen-key, is_seen-low, is_seen-from}
use Rattle.lsm_key.specs.declared.range.KeyRange.{KeyRange}
use Rattle.lsm_msg.specs.Merge.{IsNeeded, IsKept, HoldsKept, may_go}
use Rattle.lsm_msg.proofs.KeptEntries.{at_newest, kept_input}
use Rattle.lsm_merge.specs.Keeping.{is_seen_alone, is_needed, stays, kept_list}

-- ---- the order, by key and then by sequence

abbrev pub KeyLess : List ℕ → List ℕ → Type 0
KeyLess a b = key_lt a b ≡ true

pub less-trans : (a b c : List ℕ) → KeyLess a b → KeyLess b c → KeyLess a c
less-trans a b c p q = ap is_lt (nat_list_cmp_total.trans a b c (is_less (slice_cmp nat_cmp a b) p) (is_less (slice_cmp nat_cmp b c) q))

pub less-irrefl : (a b : List ℕ) → a ≡ b → KeyLess a b → ⊥
less-irrefl a b e h =
    let same : KeyLess a a = subst (λ (c : List ℕ). KeyLess a c) (sym e) h in
    true≢false (sym same ∙ ap is_lt (tied_itself nat_list_cmp_total a))

first_decides : (a b : List ℕ) (o r : Ordering) → slice_cmp nat_cmp a b ≡ o → is_lt (ordering_then o r) ≡ true → KeyLess a b ⊎ (a ≡ b)
first_decides a b Less r e h = inl (ap is_lt e)
first_decides a b Equal r e h = inr (keys_equal a b e)
first_decides a b Greater r e h = absurd (false≢true h)

-- an entry that stands before another has a lesser key, or its key
pub by_key : (x y : Entry) → Precedes x y → KeyLess x.ikey.key y.ikey.key ⊎ (x.ikey.key ≡ y.ikey.key)
by_key x y p = first_decides x.ikey.key y.ikey.key (slice_cmp nat_cmp x.ikey.key y.ikey.key) (nat_cmp y.ikey.seq x.ikey.seq) refl p

pub precedes-trans : (x y z : Entry) → Precedes x y → Precedes y z → Precedes x z
precedes-trans x y z p q = before_trans x.ikey.key x.ikey.seq y.ikey.key y.ikey.seq z.ikey.key z.ikey.seq p q

-- a key that was passed does not come again
pub key_gone : (k : List ℕ) (y x z : Entry) → y.ikey.key ≡ k → Precedes y x → (x.ikey.key ≡ k → ⊥) → (z ≡ x) ⊎ Precedes x z → z.ikey.key ≡ k → ⊥
key_gone k y x z e p other q h =
    let less : KeyLess y.ikey.key x.ikey.key = elim (by_key y x p) [ inl a ↦ a | inr b ↦ absurd (other (sym b ∙ e)) ] in
    elim q [
      | inl same ↦ other (ap (λ (r : Entry). r.ikey.key) (sym same) ∙ h)
      | inr later ↦ elim (by_key x z later) [
        | inl a ↦ less-irrefl y.ikey.key z.ikey.key (e ∙ sym h) (less-trans y.ikey.key x.ikey.key z.ikey.key less a)
        | inr b ↦ other (b ∙ h)
      ]
    ]

-- ---- a point between two sequences

pub alone_from : (ps : List ℕ) (newer s p : ℕ) → IsIn p ps → s ≤ p → p < newer → is_seen_alone ps newer s ≡ true
alone_from [] newer s p m a b = absurd m
alone_from (q ∷ ps) newer s p m a b = elim m [
  | inl e ↦
      let c : s ≤ q = omega arith in
      let d : q < newer = omega arith in
      or_left (leb s q && ltb q newer) (is_seen_alone ps newer s) (and_from (leb s q) (ltb q newer) (le-leb s q c) (lt-ltb q newer d))
  | inr n ↦ or_right (leb s q && ltb q newer) (is_seen_alone ps newer s) (alone_from ps newer s p n a b)
]

pub alone_is : (ps : List ℕ) (newer s : ℕ) → is_seen_alone ps newer s ≡ true → (p : ℕ) × IsIn p ps × (s ≤ p) × (p < newer)
alone_is [] newer s h = absurd (false≢true h)
alone_is (q ∷ ps) newer s h = elim (or_cases (leb s q && ltb q newer) (is_seen_alone ps newer s) h) [
  | inl a ↦ let b = and_parts (leb s q) (ltb q newer) a in (q, inl refl, leb-true s q b.0, ltb-true q newer b.1)
  | inr a ↦ let r = alone_is ps newer s a in (r.0, inr r.1, r.2, r.3)
]

-- ---- the pass

-- the entries before, of which last is the last
abbrev IsLast : List Entry → Option Entry → Type 0
IsLast a None = (z : Entry) → IsIn z a → ⊥
IsLast a (Some y) = IsIn y a × ((z : Entry) → IsIn z a → (z ≡ y) ⊎ Precedes z y)

module _ (points : List ℕ) (deeper : List KeyRange) (whole : List Entry) (unique : IsUnique whole) where
  -- x between the entries before it and those behind it
  record Stands (a : List Entry) (x : Entry) (b : List Entry) : Type 0 where
    cut : (z : Entry) → IsIn z whole → IsIn z a ⊎ ((z ≡ x) ⊎ IsIn z b)
    has : IsIn x whole
    early : (z : Entry) → IsIn z a → IsIn z whole
    earlier : (z : Entry) → IsIn z a → Precedes z x
    later : (z : Entry) → IsIn z b → Precedes x z

  -- seen by a test of its key that no entry before it satisfies
  seen_by : (a b : List Entry) (x : Entry) → Stands a x b → (test : Entry → Bool) → ((z : Entry) → test z ≡ true → z.ikey.key ≡ x.ikey.key) → test x ≡ true
      → ((z : Entry) → IsIn z a → test z ≡ true → ⊥) → latest test whole ≡ Some x
  seen_by a b x s test of_key passes none =
      let apart : AreApart test whole = λ y z my mz ty tz q. unique y z my mz (of_key y ty ∙ sym (of_key z tz)) q in
      latest_one test whole apart (latest test whole) (Some x) (latest-is test whole) (record {
        member = s.has;
        satisfies = passes;
        greatest = λ z m t. elim (s.cut z m) [
          | inl n ↦ absurd (none z n t)
          | inr w ↦ elim w [
            | inl e ↦ let q : z.ikey.seq ≡ x.ikey.seq = ap (λ (r : Entry). r.ikey.seq) e in omega arith
            | inr n ↦ let lt : z.ikey.seq < x.ikey.seq = newer_first x z (s.later z n) (sym (of_key z t)) in omega arith
          ]
        ];
      })

  -- an entry of another key just before: no entry before has x's key
  other_key : (a b : List Entry) (x y : Entry) → Stands a x b → IsLast a (Some y) → has_key y.ikey.key x ≡ false → (z : Entry) → IsIn z a → z.ikey.key ≡ x.ikey.key → ⊥
  other_key a b x y s l f z m k =
      let less : KeyLess y.ikey.key x.ikey.key = elim (by_key y x (s.earlier y l.0)) [ inl h ↦ h | inr h ↦ absurd (true≢false (sym (has_key-at y.ikey.key x (sym h)) ∙ f)) ] in
      elim (l.1 z m) [
        | inl e ↦ less-irrefl y.ikey.key x.ikey.key (ap (λ (r : Entry). r.ikey.key) (sym e) ∙ k) less
        | inr w ↦ elim (by_key z y w) [
          | inl h ↦ less-irrefl z.ikey.key x.ikey.key k (less-trans z.ikey.key y.ikey.key x.ikey.key h less)
          | inr h ↦ less-irrefl y.ikey.key x.ikey.key (sym h ∙ k) less
        ]
      ]

  needed_from : (a b : List Entry) (x : Entry) → Stands a x b → (last : Option Entry) → IsLast a last → is_needed points last x ≡ true → IsNeeded whole points x
  needed_from a b x s None l h = inl (seen_by a b x s (has_key x.ikey.key) (has_key-is x.ikey.key) (has_key-at x.ikey.key x refl) (λ z m t. l z m))
  needed_from a b x s (Some y) l h = by (has_key y.ikey.key x) refl h
    where
      by : (c : Bool) → has_key y.ikey.key x ≡ c → cond c (is_seen_alone points y.ikey.seq x.ikey.seq) true ≡ true → IsNeeded whole points x
      by false e h = inl (seen_by a b x s (has_key x.ikey.key) (has_key-is x.ikey.key) (has_key-at x.ikey.key x refl) (λ z m t. other_key a b x y s l e z m (has_key-is x.ikey.key z t)))
      by true e h =
          let q = alone_is points y.ikey.seq x.ikey.seq h in
          inr (
            q.0,
            q.1,
            seen_by a b x s (is_seen x.ikey.key q.0) (is_seen-key x.ikey.key q.0) (is_seen-from x.ikey.key q.0 x refl q.2) (λ z m t.
                let low : z.ikey.seq ≤ q.0 = is_seen-low x.ikey.key q.0 z t in
                let below : q.0 < y.ikey.seq = q.3 in
                elim (l.1 z m) [
                  | inl w ↦ let g : z.ikey.seq ≡ y.ikey.seq = ap (λ (r : Entry). r.ikey.seq) w in absurd (omega arith)
                  | inr w ↦ let lt : y.ikey.seq < z.ikey.seq = newer_first z y w (is_seen-key x.ikey.key q.0 z t ∙ has_key-is y.ikey.key x e) in absurd (omega arith)
                ]),
          )

  needed_is : (a b : List Entry) (x : Entry) → Stands a x b → (last : Option Entry) → IsLast a last → IsNeeded whole points x → is_needed points last x ≡ true
  needed_is a b x s None l n = refl
  needed_is a b x s (Some y) l n = by (has_key y.ikey.key x) refl
    where
      by : (c : Bool) → has_key y.ikey.key x ≡ c → cond c (is_seen_alone points y.ikey.seq x.ikey.seq) true ≡ true
      by false e = refl
      by true e =
          let k : x.ikey.key ≡ y.ikey.key = has_key-is y.ikey.key x e in
          let lt : x.ikey.seq < y.ikey.seq = newer_first y x (s.earlier y l.0) (sym k) in
          elim n [
            | inl v ↦ let le : y.ikey.seq ≤ x.ikey.seq = (at_newest whole x.ikey.key x v).greatest y (s.early y l.0) (has_key-at x.ikey.key y (sym k)) in absurd (omega arith)
            | inr w ↦
                let top = at_visible whole x.ikey.key w.0 x w.2 in
                let at : x.ikey.seq ≤ w.0 = is_seen-low x.ikey.key w.0 x top.satisfies in
                elim (cases_lt w.0 y.ikey.seq) [
                  | inl below ↦ alone_from points y.ikey.seq x.ikey.seq w.0 w.1 at below
                  | inr over ↦ let le : y.ikey.seq ≤ x.ikey.seq = top.greatest y (s.early y l.0) (is_seen-from x.ikey.key w.0 y (sym k) over) in absurd (omega arith)
                ]
          ]

  in_cond : (c : Bool) (y x : Entry) (rest : List Entry) → IsIn y (cond c (x ∷ rest) rest) → ((c ≡ true) × (y ≡ x)) ⊎ IsIn y rest
  in_cond true y x rest m = elim m [ inl e ↦ inl (refl, e) | inr n ↦ inr n ]
  in_cond false y x rest m = inr m

  cond_in : (c : Bool) (y x : Entry) (rest : List Entry) → ((c ≡ true) × (y ≡ x)) ⊎ IsIn y rest → IsIn y (cond c (x ∷ rest) rest)
  cond_in true y x rest m = elim m [ inl e ↦ inl e.1 | inr n ↦ inr n ]
  cond_in false y x rest m = elim m [ inl e ↦ absurd (false≢true e.0) | inr n ↦ n ]

  -- the whole is the entries before and those that follow
  abbrev IsJoin : List Entry → List Entry → Type 0
  IsJoin a xs = (z : Entry) → IsIn z whole ↔ (IsIn z a ⊎ IsIn z xs)

  abbrev Passes : Option Entry → List Entry → Entry → Type 0
  Passes last xs y = (IsIn y (kept_list points deeper last xs) → IsIn y xs × IsKept whole points deeper y) × (IsIn y xs → IsKept whole points deeper y → IsIn y (kept_list points deeper last xs))

  pass : (a : List Entry) (last : Option Entry) (xs : List Entry) → IsJoin a xs → IsLast a last → ((z w : Entry) → IsIn z a → IsIn w xs → Precedes z w) → Falls xs → (y : Entry) → Passes last xs y
  pass a last [] j l before falls y = (λ m. absurd m, λ m k. absurd m)
  pass a last (x ∷ xs) j l before falls y =
      let next : Passes (Some x) xs y =
      pass (x ∷ a) (Some x) xs
      (λ z. (
        λ m. elim ((j z).0 m) [ inl n ↦ inl (inr n) | inr n ↦ elim n [ inl e ↦ inl (inl e) | inr q ↦ inr q ] ],
        λ m. (j z).1 (elim m [ inl n ↦ elim n [ inl e ↦ inr (inl e) | inr q ↦ inl q ] | inr n ↦ inr (inr n) ]),
      ))
      (inl refl, λ z m. elim m [ inl e ↦ inl e | inr n ↦ inr (before z x n (inl refl)) ])
      (λ z w m n. elim m [ inl e ↦ subst (λ (r : Entry). Precedes r w) (sym e) (falls.0 w n) | inr q ↦ before z w q (inr n) ])
      falls.1 y in
      let stands : Stands a x xs = record {
        cut = λ z m. elim ((j z).0 m) [ inl n ↦ inl n | inr n ↦ inr n ];
        has = (j x).1 (inr (inl refl));
        early = λ z m. (j z).1 (inl m);
        earlier = λ z m. before z x m (inl refl);
        later = falls.0;
      } in (
        λ m. elim (in_cond (stays points deeper last x) y x (kept_list points deeper (Some x) xs) m) [
          | inl e ↦
              let p = and_parts (is_needed points last x) (not (may_go points deeper x)) e.0 in
              let k : IsKept whole points deeper x = record { needed = needed_from a xs x stands last l p.0; stays = not-true (may_go points deeper x) p.1 } in
              (inl e.1, subst (IsKept whole points deeper) (sym e.1) k)
          | inr n ↦ let r = next.0 n in (inr r.0, r.1)
        ],
        λ m k. cond_in (stays points deeper last x) y x (kept_list points deeper (Some x) xs) (elim m [
          | inl e ↦
              let h : IsKept whole points deeper x = subst (IsKept whole points deeper) e k in
              inl (and_from (is_needed points last x) (not (may_go points deeper x)) (needed_is a xs x stands last l h.needed) (not_from_false (may_go points deeper x) h.stays), e)
          | inr n ↦ inr (next.1 n k)
        ]),
      )

-- the pass keeps what a merge keeps
pub kept_list_holds : (points : List ℕ) (deeper : List KeyRange) (es : List Entry) → IsUnique es → Falls es → HoldsKept es points deeper (kept_list points deeper None es)
kept_list_holds points deeper es unique falls x =
    let p = pass points deeper es unique [] None es (λ z. (λ m. inr m, λ m. elim m [ inl e ↦ absurd e | inr n ↦ n ])) (λ z m. m) (λ z w m n. absurd m) falls x in
    (λ m. (p.0 m).1, λ k. p.1 (kept_input es points deeper x k) k)

-- ---- what is kept is some of the entries, in order

cond_cases : (c : Bool) (y x : Entry) (xs : List Entry) → IsIn y (cond c (x ∷ xs) xs) → (y ≡ x) ⊎ IsIn y xs
cond_cases true y x xs m = m
cond_cases false y x xs m = inr m

pub kept_list-in : (points : List ℕ) (deeper : List KeyRange) (last : Option Entry) (es : List Entry) (y : Entry) → IsIn y (kept_list points deeper last es) → IsIn y es
kept_list-in points deeper last [] y m = m
kept_list-in points deeper last (x ∷ es) y m = elim (cond_cases (stays points deeper last x) y x (kept_list points deeper (Some x) es) m) [ inl e ↦ inl e | inr n ↦ inr (kept_list-in points deeper (Some x) es y n) ]

falls_cond : (c : Bool) (x : Entry) (xs : List Entry) → ((y : Entry) → IsIn y xs → Precedes x y) → Falls xs → Falls (cond c (x ∷ xs) xs)
falls_cond true x xs h s = (h, s)
falls_cond false x xs h s = s

pub kept_list_falls : (points : List ℕ) (deeper : List KeyRange) (last : Option Entry) (es : List Entry) → Falls es → Falls (kept_list points deeper last es)
kept_list_falls points deeper last [] falls = falls
kept_list_falls points deeper last (x ∷ es) falls =
    falls_cond (stays points deeper last x) x (kept_list points deeper (Some x) es) (λ y m. falls.0 y (kept_list-in points deeper (Some x) es y m)) (kept_list_falls points deeper (Some x) es falls.1)

-- ---- which entries there are decides, and not their order

module _ (one other : List Entry) (unique : IsUnique other) (same : SameMembers one other) where
  latest_moved : (test : Entry → Bool) (r : Option Entry) → Latest test one r → Latest test other r
  latest_moved test None h = λ y m t. h y ((same y).1 m) t
  latest_moved test (Some x) h = record { member = (same x).0 h.member; satisfies = h.satisfies; greatest = λ y m t. h.greatest y ((same y).1 m) t }

  latest_stays : (k : List ℕ) (test : Entry → Bool) → ((z : Entry) → test z ≡ true → z.ikey.key ≡ k) → latest test one ≡ latest test other
  latest_stays k test of_key =
      let apart : AreApart test other = λ y z my mz ty tz q. unique y z my mz (of_key y ty ∙ sym (of_key z tz)) q in
      latest_one test other apart (latest test one) (latest test other) (latest_moved test (latest test one) (latest-is test one)) (latest-is test other)

  needed_stays : (points : List ℕ) (x : Entry) → IsNeeded one points x ↔ IsNeeded other points x
  needed_stays points x = (
    λ n. elim n [
      | inl e ↦ inl (sym (latest_stays x.ikey.key (has_key x.ikey.key) (has_key-is x.ikey.key)) ∙ e)
      | inr w ↦ inr (w.0, w.1, sym (latest_stays x.ikey.key (is_seen x.ikey.key w.0) (is_seen-key x.ikey.key w.0)) ∙ w.2)
    ],
    λ n. elim n [
      | inl e ↦ inl (latest_stays x.ikey.key (has_key x.ikey.key) (has_key-is x.ikey.key) ∙ e)
      | inr w ↦ inr (w.0, w.1, latest_stays x.ikey.key (is_seen x.ikey.key w.0) (is_seen-key x.ikey.key w.0) ∙ w.2)
    ],
  )

  pub kept_stays : (points : List ℕ) (deeper : List KeyRange) (out : List Entry) → HoldsKept other points deeper out → HoldsKept one points deeper out
  kept_stays points deeper out h x = (
    λ m. let k = (h x).0 m in record { needed = (needed_stays points x).1 k.needed; stays = k.stays },
    λ k. (h x).1 (record { needed = (needed_stays points x).0 k.needed; stays = k.stays }),
  )
