-- The entries of the places of a level, and the places level by level.
use Rattle.std.proofs.Common.{◌≡◌, refl, ℕ, zero, suc, ◌+◌, ◌<◌, ◌≤◌, Bool, true, false, not, cond, List, [], ◌∷◌, ◌++◌, drop, sym, ap, ◌∙◌, arith, inl, inr, eqb, ltb}
use Rattle.std.specs.List.{filter}
use Rattle.std.specs.declared.cmp.Ordering.{Ordering}
use Rattle.std.specs.Ordering.{ordering_then, nat_cmp, is_lt}
use Rattle.std.proofs.lemmas.Bool.{true≢false, eq-eqb, eqb-true, lt-ltb, le-ltb, cases_order, cases_lt}
use Rattle.std.proofs.lemmas.List.Elements.{filter_agree}
use Rattle.lsm_key.specs.declared.entry.Entry.{Entry}
use Rattle.lsm_key.specs.Sets.{IsIn}
use Rattle.lsm_key.specs.Order.{Precedes, key_le}
use Rattle.lsm_key.specs.Places.{all_entries}
use Rattle.lsm_key.proofs.Membership.{IsIn-append_cases}
use Rattle.lsm_key.proofs.AscendingEntries.{Falls, falls-append, ascending_falls, IsIn-filter}
use Rattle.lsm_table.proofs.TableContents.{table_ascending, table_range}
use Rattle.lsm_edit.specs.declared.file.FileMeta.{FileMeta}
use Rattle.lsm_edit.specs.declared.served.Placed.{Placed}
use Rattle.lsm_edit.specs.Served.{IsAsRecorded, AllRecorded, AreInSearchOrder, tables_of}
use Rattle.lsm_edit.proofs.SearchOrder.{Before, upper, newer, lesser, before_of, above_le, level_rises, turned}
use Rattle.lsm_edit.proofs.LevelSearch.{level_up}

-- a place of the level, and one of a level above it
abbrev pub is_of : ℕ → Placed → Bool
is_of level p = eqb p.meta.level level

abbrev pub is_over : ℕ → Placed → Bool
is_over level p = ltb p.meta.level level

-- ---- keys

at_least : (a b c : List ℕ) → key_le a b ≡ false → key_le a c ≡ true → key_le c b ≡ false
at_least a b c h k = by (key_le c b) refl
  where
    by : (r : Bool) → key_le c b ≡ r → key_le c b ≡ false
    by true e = absurd (true≢false (sym k ∙ above_le a b c h e))
    by false e = e

-- ---- filters

module _ {X : Type 0} (t : X → Bool) where
  pub filter-none : (xs : List X) → ((x : X) → IsIn x xs → t x ≡ false) → filter t xs ≡ []
  filter-none [] h = refl
  filter-none (x ∷ xs) h = ap (λ (b : Bool). cond b (x ∷ filter t xs) (filter t xs)) (h x (inl refl)) ∙ filter-none xs (λ y m. h y (inr m))

  pub filter-all : (xs : List X) → ((x : X) → IsIn x xs → t x ≡ true) → filter t xs ≡ xs
  filter-all [] h = refl
  filter-all (x ∷ xs) h = ap (λ (b : Bool). cond b (x ∷ filter t xs) (filter t xs)) (h x (inl refl)) ∙ ap (λ (ys : List X). x ∷ ys) (filter-all xs (λ y m. h y (inr m)))

-- ---- a table's keys

pub key_from : (p : Placed) → IsAsRecorded p.meta p.table → (e : Entry) → IsIn e p.table.entries → key_le p.meta.smallest e.ikey.key ≡ true
key_from p is e m = rw is.smallest (ap not (table_range p.table.bytes p.table.entries is.table e m).0)

pub key_to : (p : Placed) → IsAsRecorded p.meta p.table → (e : Entry) → IsIn e p.table.entries → key_le e.ikey.key p.meta.largest ≡ true
key_to p is e m = rw is.largest (ap not (table_range p.table.bytes p.table.entries is.table e m).1)

-- ---- the order of a level's entries

pub in_tables : (f : Entry) (ps : List Placed) → IsIn f (all_entries (tables_of ps)) → (q : Placed) × IsIn q ps × IsIn f q.table.entries
in_tables f [] m = absurd m
in_tables f (p ∷ ps) m = elim (IsIn-append_cases f p.table.entries (all_entries (tables_of ps)) m) [
  | inl a ↦ (p, inl refl, a)
  | inr b ↦ let r = in_tables f ps b in (r.0, inr r.1, r.2)
]

rises : (p q : Placed) → IsAsRecorded p.meta p.table → IsAsRecorded q.meta q.table → key_le q.meta.smallest p.meta.largest ≡ false → (e f : Entry) → IsIn e p.table.entries → IsIn f q.table.entries → Precedes e f
rises p q one other gap e f me mf =
    let over : key_le q.meta.smallest e.ikey.key ≡ false = above_le q.meta.smallest p.meta.largest e.ikey.key gap (key_to p one e me) in
    let last : key_le f.ikey.key e.ikey.key ≡ false = at_least q.meta.smallest e.ikey.key f.ikey.key over (key_from q other f mf) in
    ap (λ (o : Ordering). is_lt (ordering_then o (nat_cmp f.ikey.seq e.ikey.seq))) (turned e.ikey.key f.ikey.key last)

apart : (level : ℕ) (f g : FileMeta) → 1 ≤ level → f.level ≡ level → g.level ≡ level → Before f g → key_le g.smallest f.largest ≡ false
apart level f g deeper e d (upper lt) = absurd (omega arith)
apart level f g deeper e d (newer a z n) = absurd (omega arith)
apart level f g deeper e d (lesser a n k) = k

falls_more : (level : ℕ) (p : Placed) (ps : List Placed) → 1 ≤ level → AllRecorded (p ∷ ps) → AreInSearchOrder (p ∷ ps) → (b : Bool) → is_of level p ≡ b
    → Falls (all_entries (tables_of (filter (is_of level) ps))) → Falls (all_entries (tables_of (cond b (p ∷ filter (is_of level) ps) (filter (is_of level) ps))))
falls_more level p ps deeper rec up true e h =
    falls-append p.table.entries (all_entries (tables_of (filter (is_of level) ps))) (ascending_falls p.table.entries (table_ascending p.table.bytes p.table.entries (rec p (inl refl)).table)) h (λ a f ma mf.
    let t = in_tables f (filter (is_of level) ps) mf in
    let s = IsIn-filter (is_of level) t.0 ps t.1 in
    let gap = apart level p.meta t.0.meta deeper (eqb-true p.meta.level level e) (eqb-true t.0.meta.level level s.1) (before_of p.meta t.0.meta (up.0 t.0 s.0)) in
    rises p t.0 (rec p (inl refl)) (rec t.0 (inr s.0)) gap a f ma t.2)
falls_more level p ps deeper rec up false e h = h

pub level_falls : (level : ℕ) (ps : List Placed) → 1 ≤ level → AllRecorded ps → AreInSearchOrder ps → Falls (all_entries (tables_of (filter (is_of level) ps)))
level_falls level [] deeper rec up = tt
level_falls level (p ∷ ps) deeper rec up = falls_more level p ps deeper rec up (is_of level p) refl (level_falls level ps deeper (λ q m. rec q (inr m)) up.1)

-- ---- one level after another

pub not_of : (level n : ℕ) → (n ≡ level → ⊥) → eqb n level ≡ false
not_of level n h = by (eqb n level) refl
  where
    by : (b : Bool) → eqb n level ≡ b → eqb n level ≡ false
    by true e = absurd (h (eqb-true n level e))
    by false e = e

pub next_level : (level : ℕ) (ps : List Placed) → AreInSearchOrder ps → filter (is_over (level + 1)) ps ≡ filter (is_over level) ps ++ filter (is_of level) ps
next_level level [] up = refl
next_level level (p ∷ ps) up =
    let all = filter (is_over (level + 1)) ps in
    let over = filter (is_over level) ps in
    let here = filter (is_of level) ps in
    let rest : all ≡ over ++ here = next_level level ps up.1 in
    elim (cases_order p.meta.level level) [
      | inl same ↦
          let none : over ≡ [] = filter-none (is_over level) ps (λ q m. let le = level_rises p.meta q.meta (before_of p.meta q.meta (up.0 q m)) in le-ltb q.meta.level level (omega (arith, le, same))) in
          let x : ltb p.meta.level (level + 1) ≡ true = lt-ltb p.meta.level (level + 1) (omega (arith, same)) in
          let y : ltb p.meta.level level ≡ false = le-ltb p.meta.level level (omega (arith, same)) in
          let z : eqb p.meta.level level ≡ true = eq-eqb p.meta.level level same in
          ap (λ (b : Bool). cond b (p ∷ all) all) x
          ∙ ap (λ (qs : List Placed). p ∷ qs) (rest ∙ ap (λ (qs : List Placed). qs ++ here) none)
          ∙ sym ((λ i. cond (y i) (p ∷ over) over ++ cond (z i) (p ∷ here) here) ∙ ap (λ (qs : List Placed). qs ++ p ∷ here) none)
      | inr (inl less) ↦
          let x : ltb p.meta.level (level + 1) ≡ true = lt-ltb p.meta.level (level + 1) (omega (arith, less)) in
          let y : ltb p.meta.level level ≡ true = lt-ltb p.meta.level level less in
          let z : eqb p.meta.level level ≡ false = not_of level p.meta.level (λ e. absurd (omega (arith, e, less))) in
          ap (λ (b : Bool). cond b (p ∷ all) all) x
          ∙ ap (λ (qs : List Placed). p ∷ qs) rest
          ∙ sym (λ i. cond (y i) (p ∷ over) over ++ cond (z i) (p ∷ here) here)
      | inr (inr more) ↦
          let x : ltb p.meta.level (level + 1) ≡ false = le-ltb p.meta.level (level + 1) (omega (arith, more)) in
          let y : ltb p.meta.level level ≡ false = le-ltb p.meta.level level (omega (arith, more)) in
          let z : eqb p.meta.level level ≡ false = not_of level p.meta.level (λ e. absurd (omega (arith, e, more))) in
          ap (λ (b : Bool). cond b (p ∷ all) all) x ∙ rest ∙ sym (λ i. cond (y i) (p ∷ over) over ++ cond (z i) (p ∷ here) here)
    ]

zero_is : (n : ℕ) → eqb n 0 ≡ ltb n 1
zero_is n = elim (cases_lt n 1) [
  | inl lt ↦ eq-eqb n 0 (omega (arith, lt)) ∙ sym (lt-ltb n 1 lt)
  | inr ge ↦ not_of 0 n (λ e. omega (arith, e, ge)) ∙ sym (le-ltb n 1 ge)
]

pub level_zero : (ps : List Placed) → filter (is_of 0) ps ≡ filter (is_over 1) ps
level_zero ps = filter_agree (is_of 0) (is_over 1) (λ p. zero_is p.meta.level) ps

pub all_levels : (level : ℕ) (ps : List Placed) → ((p : Placed) → IsIn p ps → p.meta.level < level) → filter (is_over level) ps ≡ ps
all_levels level ps h = filter-all (is_over level) ps (λ p m. lt-ltb p.meta.level level (h p m))

-- ---- places of level 0

pub zero_here : (p : Placed) (ps : List Placed) → p.meta.level ≡ 0 → filter (is_of 0) (p ∷ ps) ≡ p ∷ filter (is_of 0) ps
zero_here p ps e = ap (λ (b : Bool). cond b (p ∷ filter (is_of 0) ps) (filter (is_of 0) ps)) (eq-eqb p.meta.level 0 e)

-- the first place of a deeper level
pub zero_stopped : (p : Placed) (ps : List Placed) → AreInSearchOrder (p ∷ ps) → 0 < p.meta.level → filter (is_of 0) (p ∷ ps) ≡ []
zero_stopped p ps up deep = filter-none (is_of 0) (p ∷ ps) (λ q m. elim m [
  | inl same ↦ not_of 0 q.meta.level (λ e. let d : p.meta.level ≡ 0 = ap (λ (x : Placed). x.meta.level) (sym same) ∙ e in absurd (omega (arith, d, deep)))
  | inr after ↦ let far = level_up p.meta q.meta (before_of p.meta q.meta (up.0 q after)) deep in not_of 0 q.meta.level (λ e. absurd (omega (arith, e, far)))
])

-- ---- what is left of places

pub order_left : (i : ℕ) (ps : List Placed) → AreInSearchOrder ps → AreInSearchOrder (drop i ps)
order_left zero ps up = up
order_left (suc i) [] up = tt
order_left (suc i) (p ∷ ps) up = order_left i ps up.1
