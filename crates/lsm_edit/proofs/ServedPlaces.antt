-- What the places of a served version keep: a file has one place, files of a deeper level have no key in common, and of two
-- places the one that is searched first has the newer entries.
use Rattle.std.proofs.Common.{◌≡◌, ℕ, ◌<◌, ◌≤◌, true, false, ◌⊎◌, List, [], ◌∷◌, refl, sym, ap, subst, ◌∙◌, arith, inl, inr}
use Rattle.std.proofs.lemmas.Bool.{true≢false, and_parts}
use Rattle.lsm_key.specs.declared.entry.Entry.{Entry}
use Rattle.lsm_key.specs.declared.limits.TheConstants.{MAX_LEVEL}
use Rattle.lsm_key.specs.Sets.{IsIn}
use Rattle.lsm_key.specs.Order.{key_le}
use Rattle.lsm_key.specs.Visible.{IsUnique}
use Rattle.lsm_key.specs.Places.{IsAbove, AreOrdered, all_entries}
use Rattle.lsm_key.proofs.Membership.{IsIn-map, IsIn-mapped, IsIn-append_left, IsIn-append_right}
use Rattle.lsm_key.proofs.FirstVisible.{IsUnique-above}
use Rattle.lsm_table.proofs.TableContents.{table_unique}
use Rattle.lsm_edit.specs.declared.file.FileMeta.{FileMeta}
use Rattle.lsm_edit.specs.declared.served.Placed.{Placed}
use Rattle.lsm_edit.specs.Version.{IsVersion, FileNumbersRise}
use Rattle.lsm_edit.specs.Served.{AllRecorded, AreInSearchOrder, ServedValue, IsServed, is_covered, tables_of}
use Rattle.lsm_edit.proofs.LevelEntries.{in_tables}
use Rattle.lsm_edit.proofs.KeysOutOfRange.{key_covered}
use Rattle.lsm_edit.proofs.SearchOrder.{Before, upper, newer, lesser, before_of, before_trans, above_le}

-- ---- entries of places

pub tables_in : (ps : List Placed) (p : Placed) (e : Entry) → IsIn p ps → IsIn e p.table.entries → IsIn e (all_entries (tables_of ps))
tables_in [] p e m n = absurd m
tables_in (q ∷ ps) p e m n = elim m [
  | inl same ↦ IsIn-append_left e q.table.entries (all_entries (tables_of ps)) (subst (λ (x : Placed). IsIn e x.table.entries) same n)
  | inr later ↦ IsIn-append_right e q.table.entries (all_entries (tables_of ps)) (tables_in ps p e later n)
]

-- places in order have no two entries of one key and sequence
pub stored_unique : (ps : List Placed) → AllRecorded ps → AreOrdered (tables_of ps) → IsUnique (all_entries (tables_of ps))
stored_unique [] rec up = λ e f me mf keys seqs. absurd me
stored_unique (p ∷ ps) rec up = IsUnique-above p.table.entries (all_entries (tables_of ps)) (table_unique p.table.bytes p.table.entries (rec p (inl refl)).table) (stored_unique ps (λ q m. rec q (inr m)) up.1) up.0

-- a file's level is in range
pub levels_in_range : (s : ServedValue) (ps : List Placed) → ps ≡ s.places → IsServed s → IsVersion s.version → (p : Placed) → IsIn p ps → p.meta.level ≤ MAX_LEVEL
levels_in_range s ps is served version p m = (version.files p.meta ((served.listed p.meta).0 (IsIn-map (λ (q : Placed). q.meta) p s.places (subst (IsIn p) is m)))).level

-- ---- the order of two places

-- no file is searched before itself
pub not_itself : (f : FileMeta) → key_le f.smallest f.largest ≡ true → Before f f → ⊥
not_itself f whole (upper lt) = omega arith
not_itself f whole (newer e z lt) = omega arith
not_itself f whole (lesser e n k) = true≢false (sym whole ∙ k)

-- one is searched before the other, unless they are one
pub one_first : (ps : List Placed) → AreInSearchOrder ps → (p q : Placed) → IsIn p ps → IsIn q ps → (p ≡ q) ⊎ (Before p.meta q.meta ⊎ Before q.meta p.meta)
one_first [] up p q mp mq = absurd mp
one_first (r ∷ ps) up p q mp mq = elim mp [
  | inl first ↦ elim mq [
    | inl both ↦ inl (first ∙ sym both)
    | inr later ↦ inr (inl (subst (λ (x : Placed). Before x.meta q.meta) (sym first) (before_of r.meta q.meta (up.0 q later))))
  ]
  | inr rest ↦ elim mq [
    | inl first ↦ inr (inr (subst (λ (x : Placed). Before x.meta p.meta) (sym first) (before_of r.meta p.meta (up.0 p rest))))
    | inr later ↦ one_first ps up.1 p q rest later
  ]
]

-- files of a level from 1 up, of which one is searched first for its keys, share none
pub no_shared : (f g : FileMeta) (key : List ℕ) → key_le g.smallest f.largest ≡ false → is_covered f key ≡ true → is_covered g key ≡ true → ⊥
no_shared f g key gap cf cg =
    let a = and_parts (key_le f.smallest key) (key_le key f.largest) cf in
    let b = and_parts (key_le g.smallest key) (key_le key g.largest) cg in
    true≢false (sym b.0 ∙ above_le g.smallest f.largest key gap a.1)

-- of two places the one that is searched first has the newer entries
abbrev pub AreNewer : List Placed → Type 0
AreNewer ps = (p q : Placed) → IsIn p ps → IsIn q ps → Before p.meta q.meta → IsAbove p.table.entries q.table.entries

pub newer_from : (ps : List Placed) → ((p : Placed) → IsIn p ps → key_le p.meta.smallest p.meta.largest ≡ true) → AreInSearchOrder ps → AreOrdered (tables_of ps) → AreNewer ps
newer_from [] whole up order p q mp mq b = absurd mp
newer_from (r ∷ ps) whole up order p q mp mq b = elim mp [
  | inl first ↦ elim mq [
    | inl both ↦ absurd (not_itself p.meta (whole p (inl first)) (subst (λ (x : Placed). Before p.meta x.meta) (both ∙ sym first) b))
    | inr later ↦ λ e f me mf keys. order.0 e f (subst (λ (x : Placed). IsIn e x.table.entries) first me) (tables_in ps q f later mf) keys
  ]
  | inr rest ↦ elim mq [
    | inl first ↦
        let back : Before p.meta r.meta = subst (λ (x : Placed). Before p.meta x.meta) first b in
        absurd (not_itself p.meta (whole p (inr rest)) (before_trans p.meta r.meta p.meta (whole r (inl refl)) back (before_of r.meta p.meta (up.0 p rest))))
    | inr later ↦ newer_from ps (λ x m. whole x (inr m)) up.1 order.1 p q rest later b
  ]
]

pub ordered_from : (ps : List Placed) → AreInSearchOrder ps → AreNewer ps → AreOrdered (tables_of ps)
ordered_from [] up new = tt
ordered_from (p ∷ ps) up new = (
  λ e f me mf keys.
      let t = in_tables f ps mf in
      new p t.0 (inl refl) (inr t.1) (before_of p.meta t.0.meta (up.0 t.0 t.1)) e f me t.2 keys,
  ordered_from ps up.1 (λ q r mq mr b. new q r (inr mq) (inr mr) b),
)

-- ---- files of a version

-- a number is of one file
pub one_number : (fs : List FileMeta) → FileNumbersRise fs → (f g : FileMeta) → IsIn f fs → IsIn g fs → f.number ≡ g.number → f ≡ g
one_number [] up f g mf mg e = absurd mf
one_number (x ∷ fs) up f g mf mg e = elim mf [
  | inl first ↦ elim mg [
    | inl both ↦ first ∙ sym both
    | inr later ↦ let more = up.0 g later in let same = ap (λ (h : FileMeta). h.number) first in absurd (omega arith)
  ]
  | inr rest ↦ elim mg [
    | inl first ↦ let more = up.0 f rest in let same = ap (λ (h : FileMeta). h.number) first in absurd (omega arith)
    | inr later ↦ one_number fs up.1 f g rest later e
  ]
]

module _ (s : ServedValue) (ver : IsVersion s.version) (is : IsServed s) where
  -- the file of a place is the version's
  pub file_of : (p : Placed) → IsIn p s.places → IsIn p.meta s.version.files
  file_of p m = (is.listed p.meta).0 (IsIn-map (λ (x : Placed). x.meta) p s.places m)

  -- a file of the version has a place
  pub place_of : (f : FileMeta) → IsIn f s.version.files → (p : Placed) × IsIn p s.places × (f ≡ p.meta)
  place_of f m = IsIn-mapped (λ (x : Placed). x.meta) f s.places ((is.listed f).1 m)

  pub whole_file : (f : FileMeta) → IsIn f s.version.files → key_le f.smallest f.largest ≡ true
  whole_file f m = (ver.files f m).ordered

  pub whole_place : (p : Placed) → IsIn p s.places → key_le p.meta.smallest p.meta.largest ≡ true
  whole_place p m = whole_file p.meta (file_of p m)

  -- a number is of one place
  pub one_place : (p q : Placed) → IsIn p s.places → IsIn q s.places → p.meta.number ≡ q.meta.number → p ≡ q
  one_place p q mp mq e =
      let same : p.meta ≡ q.meta = one_number s.version.files ver.rising p.meta q.meta (file_of p mp) (file_of q mq) e in
      elim (one_first s.places is.ordered p q mp mq) [
        | inl one ↦ one
        | inr (inl b) ↦ absurd (not_itself q.meta (whole_place q mq) (subst (λ (f : FileMeta). Before f q.meta) same b))
        | inr (inr b) ↦ absurd (not_itself q.meta (whole_place q mq) (subst (λ (f : FileMeta). Before q.meta f) same b))
      ]

  -- the key of an entry is in the range of its file
  pub covered : (p : Placed) → IsIn p s.places → (e : Entry) → IsIn e p.table.entries → is_covered p.meta e.ikey.key ≡ true
  covered p m e n = key_covered p.meta p.table (is.recorded p m) e n

  split : (p q : Placed) → p.meta.level ≡ q.meta.level → 0 < p.meta.level → (key : List ℕ) → is_covered p.meta key ≡ true → is_covered q.meta key ≡ true → Before p.meta q.meta → ⊥
  split p q e pos key cp cq (upper lt) = omega arith
  split p q e pos key cp cq (newer d z lt) = omega arith
  split p q e pos key cp cq (lesser d n gap) = no_shared p.meta q.meta key gap cp cq

  -- files of one level from 1 up have no key in common
  pub one_of_level : (p q : Placed) → IsIn p s.places → IsIn q s.places → p.meta.level ≡ q.meta.level → 0 < p.meta.level → (key : List ℕ) → is_covered p.meta key ≡ true → is_covered q.meta key ≡ true → p ≡ q
  one_of_level p q mp mq e pos key cp cq = elim (one_first s.places is.ordered p q mp mq) [
    | inl one ↦ one
    | inr (inl b) ↦ absurd (split p q e pos key cp cq b)
    | inr (inr b) ↦ absurd (split q p (sym e) (subst (λ (n : ℕ). 0 < n) e pos) key cq cp b)
  ]

  pub newer_places : AreOrdered (tables_of s.places) → AreNewer s.places
  newer_places order = newer_from s.places whole_place is.ordered order
