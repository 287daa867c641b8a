-- The inputs of a legal want: what stays beside them has nothing older of their keys.
use Rattle.std.proofs.Common.{◌≡◌, ℕ, ◌+◌, ◌<◌, ◌≤◌, true, false, ◌⊎◌, List, [], ◌∷◌, sym, subst, ◌∙◌, arith, inl, inr, eqb}
use Rattle.std.specs.List.{list_any}
use Rattle.std.proofs.lemmas.Bool.{true≢false, and_parts, and_from, or_cases, or_left, or_right, eqb-true, eq-eqb, cases_order}
use Rattle.lsm_key.specs.declared.entry.Entry.{Entry}
use Rattle.lsm_key.specs.Sets.{IsIn}
use Rattle.lsm_key.specs.Order.{key_le}
use Rattle.lsm_claim.specs.declared.job.Want.{Want}
use Rattle.lsm_claim.specs.Levels.{uses_level}
use Rattle.lsm_claim.specs.Conflicts.{covers}
use Rattle.lsm_key.proofs.KeyRanges.{key_le_refl, key_le_trans, ranges_meet_from}
use Rattle.lsm_edit.specs.declared.file.FileMeta.{FileMeta}
use Rattle.lsm_edit.specs.declared.served.Placed.{Placed}
use Rattle.lsm_edit.specs.Version.{IsVersion, has_number}
use Rattle.lsm_edit.specs.Served.{ServedValue, IsServed, is_covered}
use Rattle.lsm_edit.proofs.SearchOrder.{Before, upper, newer}
use Rattle.lsm_edit.proofs.ServedPlaces.{AreNewer, file_of, one_place, one_of_level, covered}
use Rattle.lsm_msg.specs.declared.job.JobParts.{JobParts}
use Rattle.lsm_msg.specs.Merge.{is_in_ranges}
use Rattle.lsm_msg.specs.Legal.{IsLegal, KnowsDeeper, Takes, touches, encloses}
use Rattle.lsm_msg.specs.Installs.{IsJobOf}

-- ---- numbers of files

pub listed_is : (numbers : List ℕ) (f : FileMeta) → list_any (λ n. has_number n f) numbers ≡ true → IsIn f.number numbers
listed_is [] f h = absurd (true≢false (sym h))
listed_is (n ∷ numbers) f h = elim (or_cases (eqb f.number n) (list_any (λ n. has_number n f) numbers) h) [ inl e ↦ inl (eqb-true f.number n e) | inr r ↦ inr (listed_is numbers f r) ]

pub is_listed : (numbers : List ℕ) (f : FileMeta) → IsIn f.number numbers → list_any (λ n. has_number n f) numbers ≡ true
is_listed [] f m = absurd m
is_listed (n ∷ numbers) f m = elim m [
  | inl e ↦ or_left (eqb f.number n) (list_any (λ n. has_number n f) numbers) (eq-eqb f.number n e)
  | inr r ↦ or_right (eqb f.number n) (list_any (λ n. has_number n f) numbers) (is_listed numbers f r)
]

-- ---- levels and keys

pub level_cases : (job level : ℕ) → uses_level job level ≡ true → (level ≡ job) ⊎ (level ≡ job + 1)
level_cases job level h = elim (or_cases (eqb level job) (eqb level (job + 1)) h) [ inl e ↦ inl (eqb-true level job e) | inr e ↦ inr (eqb-true level (job + 1) e) ]

pub uses_own : (job level : ℕ) → level ≡ job → uses_level job level ≡ true
uses_own job level e = or_left (eqb level job) (eqb level (job + 1)) (eq-eqb level job e)

pub uses_next : (job level : ℕ) → level ≡ job + 1 → uses_level job level ≡ true
uses_next job level e = or_right (eqb level job) (eqb level (job + 1)) (eq-eqb level (job + 1) e)

-- the keys of a file whose ends are in a hull
pub within_hull : (want : Want) (f : FileMeta) (key : List ℕ) → encloses want.hull f ≡ true → is_covered f key ≡ true → covers want.hull key ≡ true
within_hull want f key e c =
    let ends = and_parts (key_le want.hull.lo f.smallest) (key_le f.largest want.hull.hi) e in
    let own = and_parts (key_le f.smallest key) (key_le key f.largest) c in
    and_from (key_le want.hull.lo key) (key_le key want.hull.hi) (key_le_trans want.hull.lo f.smallest key ends.0 own.0) (key_le_trans key f.largest want.hull.hi own.1 ends.1)

-- a file with a key of the hull touches it
pub touched : (want : Want) (f : FileMeta) (key : List ℕ) → covers want.hull key ≡ true → is_covered f key ≡ true → touches want.hull f ≡ true
touched want f key h c = ranges_meet_from want.hull.lo want.hull.hi f.smallest f.largest key h c

-- its least key is a file's own
pub own_key : (f : FileMeta) → key_le f.smallest f.largest ≡ true → is_covered f f.smallest ≡ true
own_key f whole = and_from (key_le f.smallest f.smallest) (key_le f.smallest f.largest) (key_le_refl f.smallest) whole

-- ---- what stays beside the inputs

module _ (s : ServedValue) (want : Want) (ver : IsVersion s.version) (is : IsServed s) (legal : IsLegal s.version.files want) where
  pub taken : (p : Placed) → IsIn p s.places → IsIn p.meta.number want.files → Takes s.version.files want p.meta
  taken p m n = (file_of s ver is p m, n)

  -- an entry of an input has a key of the hull
  pub input_key : (p : Placed) → IsIn p s.places → IsIn p.meta.number want.files → (e : Entry) → IsIn e p.table.entries → covers want.hull e.ikey.key ≡ true
  input_key p m n e me = within_hull want p.meta e.ikey.key (legal.inside p.meta (taken p m n)) (covered s ver is p m e me)

  -- A file that stays, at most one level below the want's, is searched before each input that has a key in common with it.
  module _ (p h : Placed) (mp : IsIn p s.places) (out : IsIn p.meta.number want.files → ⊥) (mh : IsIn h s.places) (input : IsIn h.meta.number want.files) (key : List ℕ) (cp : is_covered p.meta key ≡ true) (ch : is_covered h.meta key ≡ true) where
    meets_hull : touches want.hull p.meta ≡ true
    meets_hull = touched want p.meta key (within_hull want h.meta key (legal.inside h.meta (taken h mh input)) ch) cp

    not_one : p ≡ h → ⊥
    not_one e = out (subst (λ (x : Placed). IsIn x.meta.number want.files) (sym e) input)

    at_zero : want.level ≡ 0 → p.meta.level ≡ want.level → h.meta.level ≡ want.level → Before p.meta h.meta
    at_zero zero_level lp lh = elim (cases_order p.meta.number h.meta.number) [
      | inl n ↦ absurd (not_one (one_place s ver is p h mp mh n))
      | inr (inl old) ↦ absurd (out (legal.older p.meta h.meta (file_of s ver is p mp) (taken h mh input) zero_level (lp ∙ zero_level) (lh ∙ zero_level) meets_hull old))
      | inr (inr young) ↦ newer (lp ∙ sym lh) (lp ∙ zero_level) young
    ]

    at_level : p.meta.level ≡ want.level → h.meta.level ≡ want.level → Before p.meta h.meta
    at_level lp lh = elim (cases_order want.level 0) [
      | inl zero_level ↦ at_zero zero_level lp lh
      | inr (inl never) ↦ absurd (omega arith)
      | inr (inr some) ↦ absurd (not_one (one_of_level s ver is p h mp mh (lp ∙ sym lh) (omega arith) key cp ch))
    ]

    of_own : h.meta.level ≡ want.level → p.meta.level < want.level + 1 → Before p.meta h.meta
    of_own lh small = elim (cases_order p.meta.level want.level) [
      | inl lp ↦ at_level lp lh
      | inr (inl less) ↦ upper (omega arith)
      | inr (inr more) ↦ absurd (omega arith)
    ]

    pub stays_before : p.meta.level ≤ want.level + 1 → Before p.meta h.meta
    stays_before at = elim (cases_order p.meta.level (want.level + 1)) [
      | inl deep ↦ absurd (out (legal.next p.meta (file_of s ver is p mp) deep meets_hull))
      | inr (inr above) ↦ absurd (omega arith)
      | inr (inl small) ↦ elim (level_cases want.level h.meta.level (legal.levels h.meta (taken h mh input))) [
        | inl own ↦ of_own own small
        | inr next ↦ upper (omega arith)
      ]
    ]

  -- An entry that stays is newer than one of its key in an input, where no deeper range has the key.
  pub stays_newer : (job : JobParts) → IsJobOf s.version.files want job → KnowsDeeper s.places job → AreNewer s.places
      → (h p : Placed) → IsIn h s.places → IsIn h.meta.number want.files → IsIn p s.places → (IsIn p.meta.number want.files → ⊥)
      → (e d : Entry) → IsIn e h.table.entries → IsIn d p.table.entries → is_in_ranges job.deeper e.ikey.key ≡ false → e.ikey.key ≡ d.ikey.key → e.ikey.seq < d.ikey.seq
  stays_newer job of_want knows new h p mh input mp out e d me md outside same =
      let deep : p.meta.level ≤ job.level + 1 = knows h p mh mp ((of_want.inputs h.meta).1 (taken h mh input)) e d me md outside (sym same) in
      let at : p.meta.level ≤ want.level + 1 = subst (λ (n : ℕ). p.meta.level ≤ n + 1) of_want.level deep in
      let cp : is_covered p.meta e.ikey.key ≡ true = subst (λ (key : List ℕ). is_covered p.meta key ≡ true) (sym same) (covered s ver is p mp d md) in
      new p h mp mh (stays_before p h mp out mh input e.ikey.key cp (covered s ver is h mh e me) at) d e md me (sym same)
