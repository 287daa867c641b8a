-- A reach grows by files that every closed set has.
use Rattle.std.proofs.Common.{◌≡◌, ℕ, ◌+◌, ◌<◌, Bool, true, false, not, cond, List, ◌⊎◌, inl, inr, refl, sym, subst, eqb, ltb}
use Rattle.std.proofs.lemmas.Bool.{or_cases, and_parts, and_from, not-true, eqb-true, ltb-true}
use Rattle.lsm_key.specs.Sets.{IsIn}
use Rattle.lsm_key.specs.Order.{key_le}
use Rattle.lsm_key.proofs.KeyRanges.{key_le_or, key_le_refl, key_le_trans}
use Rattle.lsm_edit.specs.declared.file.FileMeta.{FileMeta}
use Rattle.lsm_edit.specs.declared.served.Placed.{Placed}
use Rattle.lsm_pick.specs.Closure.{Candidate, IsClosed}
use Rattle.lsm_key.specs.KeyRanges.{lower, higher}
use Rattle.lsm_pick.specs.Reach.{IsReach, MayBeInput, Grows, is_inside, is_met, joins_at, may_join}

-- ---- keys

pub lower_low : (lo key : List ℕ) → key_le (lower lo key) lo ≡ true
lower_low lo key = by (key_le lo key) refl
  where
    by : (b : Bool) → key_le lo key ≡ b → key_le (cond b lo key) lo ≡ true
    by true e = key_le_refl lo
    by false e = key_le_or lo key e

pub lower_key : (lo key : List ℕ) → key_le (lower lo key) key ≡ true
lower_key lo key = by (key_le lo key) refl
  where
    by : (b : Bool) → key_le lo key ≡ b → key_le (cond b lo key) key ≡ true
    by true e = e
    by false e = key_le_refl key

pub higher_high : (hi key : List ℕ) → key_le hi (higher hi key) ≡ true
higher_high hi key = by (key_le key hi) refl
  where
    by : (b : Bool) → key_le key hi ≡ b → key_le hi (cond b hi key) ≡ true
    by true e = key_le_refl hi
    by false e = key_le_or key hi e

pub higher_key : (hi key : List ℕ) → key_le key (higher hi key) ≡ true
higher_key hi key = by (key_le key hi) refl
  where
    by : (b : Bool) → key_le key hi ≡ b → key_le key (cond b hi key) ≡ true
    by true e = e
    by false e = key_le_refl key

-- ---- files

pub met_parts : (lo hi : List ℕ) (f : FileMeta) → is_met lo hi f ≡ true → (key_le lo f.largest ≡ true) × (key_le f.smallest hi ≡ true)
met_parts lo hi f h = and_parts (key_le lo f.largest) (key_le f.smallest hi) h

pub met_from : (lo hi : List ℕ) (f : FileMeta) → key_le lo f.largest ≡ true → key_le f.smallest hi ≡ true → is_met lo hi f ≡ true
met_from lo hi f a b = and_from (key_le lo f.largest) (key_le f.smallest hi) a b

pub inside_parts : (lo hi : List ℕ) (f : FileMeta) → is_inside lo hi f ≡ true → (key_le lo f.smallest ≡ true) × (key_le f.largest hi ≡ true)
inside_parts lo hi f h = and_parts (key_le lo f.smallest) (key_le f.largest hi) h

pub inside_from : (lo hi : List ℕ) (f : FileMeta) → key_le lo f.smallest ≡ true → key_le f.largest hi ≡ true → is_inside lo hi f ≡ true
inside_from lo hi f a b = and_from (key_le lo f.smallest) (key_le f.largest hi) a b

pub met_more : (lo hi new_lo new_hi : List ℕ) (f : FileMeta) → key_le new_lo lo ≡ true → key_le hi new_hi ≡ true → is_met lo hi f ≡ true → is_met new_lo new_hi f ≡ true
met_more lo hi new_lo new_hi f a b h =
    let m = met_parts lo hi f h in
    met_from new_lo new_hi f (key_le_trans new_lo lo f.largest a m.0) (key_le_trans f.smallest hi new_hi m.1 b)

pub inside_more : (lo hi new_lo new_hi : List ℕ) (f : FileMeta) → key_le new_lo lo ≡ true → key_le hi new_hi ≡ true → is_inside lo hi f ≡ true → is_inside new_lo new_hi f ≡ true
inside_more lo hi new_lo new_hi f a b h =
    let m = inside_parts lo hi f h in
    inside_from new_lo new_hi f (key_le_trans new_lo lo f.smallest a m.0) (key_le_trans f.largest hi new_hi m.1 b)

-- why a file may join
pub join_cases : (t : Candidate) (g : FileMeta) → may_join t g ≡ true → (g.level ≡ t.first.level + 1) ⊎ ((t.first.level ≡ 0) × (g.level ≡ 0) × ((t.older_only ≡ false) ⊎ (g.number < t.first.number)))
join_cases t g h = elim (or_cases (eqb g.level (t.first.level + 1)) _ h) [
  | inl a ↦ inl (eqb-true g.level (t.first.level + 1) a)
  | inr b ↦
      let p = and_parts (eqb t.first.level 0) _ b in
      let q = and_parts (eqb g.level 0) _ p.1 in
      inr (
        eqb-true t.first.level 0 p.0,
        eqb-true g.level 0 q.0,
        elim (or_cases (not t.older_only) (ltb g.number t.first.number) q.1) [
          | inl n ↦ inl (not-true t.older_only n)
          | inr l ↦ inr (ltb-true g.number t.first.number l)
        ],
      )
]

-- a file that may join, and meets a hull whose ends a closed set has, is in the set
pub joins_set : (files : List FileMeta) (t : Candidate) (set : List FileMeta) (lo hi : List ℕ) (g : FileMeta) → IsIn t.first set → IsClosed files t set
    → ((a : FileMeta) × IsIn a set × (a.smallest ≡ lo)) → ((b : FileMeta) × IsIn b set × (b.largest ≡ hi))
    → IsIn g files → may_join t g ≡ true → is_met lo hi g ≡ true → IsIn g set
joins_set files t set lo hi g has closed a b m j met =
    let parts = met_parts lo hi g met in
    closed g m (
      ((a.0, a.1, subst (λ (k : List ℕ). key_le k g.largest ≡ true) (sym a.2) parts.0), (b.0, b.1, subst (λ (k : List ℕ). key_le g.smallest k ≡ true) (sym b.2) parts.1)),
      elim (join_cases t g j) [
        | inl next ↦ inl next
        | inr zero ↦ inr (zero.0, zero.1, elim zero.2 [ inl wide ↦ inl wide | inr older ↦ inr (t.first, has, zero.0, older) ])
      ],
    )

-- ---- one file more

module _ (files : List FileMeta) (t : Candidate) (lo hi : List ℕ) (g : FileMeta) (r : IsReach files t lo hi) (m : IsIn g files) (j : may_join t g ≡ true) (met : is_met lo hi g ≡ true) where
  least_by : (b : Bool) → key_le lo g.smallest ≡ b → (a : FileMeta) × IsIn a files × MayBeInput t a × (a.smallest ≡ cond b lo g.smallest) × (key_le a.largest (higher hi g.largest) ≡ true)
  least_by true e = let a = r.least in (a.0, a.1, a.2, a.3, key_le_trans a.0.largest hi (higher hi g.largest) a.4 (higher_high hi g.largest))
  least_by false e = (g, m, inr j, refl, higher_key hi g.largest)

  greatest_by : (b : Bool) → key_le g.largest hi ≡ b → (a : FileMeta) × IsIn a files × MayBeInput t a × (a.largest ≡ cond b hi g.largest) × (key_le (lower lo g.smallest) a.smallest ≡ true)
  greatest_by true e = let a = r.greatest in (a.0, a.1, a.2, a.3, key_le_trans (lower lo g.smallest) lo a.0.smallest (lower_low lo g.smallest) a.4)
  greatest_by false e = (g, m, inr j, refl, lower_key lo g.smallest)

  pub reach_more : IsReach files t (lower lo g.smallest) (higher hi g.largest)
  reach_more = record {
    first_low = key_le_trans (lower lo g.smallest) lo t.first.smallest (lower_low lo g.smallest) r.first_low;
    first_high = key_le_trans t.first.largest hi (higher hi g.largest) r.first_high (higher_high hi g.largest);
    least = least_by (key_le lo g.smallest) refl;
    greatest = greatest_by (key_le g.largest hi) refl;
    forced = λ set has closed.
        let ends = r.forced set has closed in
        let own : IsIn g set = joins_set files t set lo hi g has closed ends.0 ends.1 m j met in
        (low_by set ends.0 own (key_le lo g.smallest), high_by set ends.1 own (key_le g.largest hi));
  }
    where
      low_by : (set : List FileMeta) → ((a : FileMeta) × IsIn a set × (a.smallest ≡ lo)) → IsIn g set → (b : Bool) → (a : FileMeta) × IsIn a set × (a.smallest ≡ cond b lo g.smallest)
      low_by set a own true = a
      low_by set a own false = (g, own, refl)

      high_by : (set : List FileMeta) → ((a : FileMeta) × IsIn a set × (a.largest ≡ hi)) → IsIn g set → (b : Bool) → (a : FileMeta) × IsIn a set × (a.largest ≡ cond b hi g.largest)
      high_by set a own true = a
      high_by set a own false = (g, own, refl)

-- ---- the start

pub reach_first : (files : List FileMeta) (t : Candidate) → IsIn t.first files → IsReach files t t.first.smallest t.first.largest
reach_first files t m = record {
  first_low = key_le_refl t.first.smallest;
  first_high = key_le_refl t.first.largest;
  least = (t.first, m, inl refl, refl, key_le_refl t.first.largest);
  greatest = (t.first, m, inl refl, refl, key_le_refl t.first.smallest);
  forced = λ set has closed. ((t.first, has, refl), (t.first, has, refl));
}

-- ---- one growth after another

either_level : (t : Candidate) (g : FileMeta) → may_join t g ≡ true → (joins_at t (t.first.level + 1) g ≡ true) ⊎ ((t.first.level ≡ 0) × (joins_at t 0 g ≡ true))
either_level t g h = elim (or_cases (eqb g.level (t.first.level + 1)) _ h) [
  | inl a ↦ inl (and_from (eqb g.level (t.first.level + 1)) (may_join t g) a h)
  | inr b ↦ let p = and_parts (eqb t.first.level 0) _ b in inr (eqb-true t.first.level 0 p.0, and_from (eqb g.level 0) (may_join t g) (and_parts (eqb g.level 0) _ p.1).0 h)
]

-- above level 0 only files of the next level join
pub grows_deep : (t : Candidate) (places : List Placed) (lo hi new_lo new_hi : List ℕ) → (t.first.level ≡ 0 → ⊥) → Grows t places (joins_at t (t.first.level + 1)) lo hi new_lo new_hi → Grows t places (may_join t) lo hi new_lo new_hi
grows_deep t places lo hi new_lo new_hi deep g = record {
  low = g.low;
  high = g.high;
  taken = λ p m j met. elim (either_level t p.meta j) [ inl next ↦ g.taken p m next met | inr zero ↦ absurd (deep zero.0) ];
  sound = g.sound;
}

pub grows_both : (t : Candidate) (places : List Placed) (lo hi mid_lo mid_hi new_lo new_hi : List ℕ) → Grows t places (joins_at t (t.first.level + 1)) lo hi mid_lo mid_hi → Grows t places (joins_at t 0) mid_lo mid_hi new_lo new_hi → Grows t places (may_join t) lo hi new_lo new_hi
grows_both t places lo hi mid_lo mid_hi new_lo new_hi one two = record {
  low = key_le_trans new_lo mid_lo lo two.low one.low;
  high = key_le_trans hi mid_hi new_hi one.high two.high;
  taken = λ p m j met. elim (either_level t p.meta j) [
    | inl next ↦ inside_more mid_lo mid_hi new_lo new_hi p.meta two.low two.high (one.taken p m next met)
    | inr zero ↦ two.taken p m zero.1 (met_more lo hi mid_lo mid_hi p.meta one.low one.high met)
  ];
  sound = λ files up r. two.sound files up (one.sound files up r);
}
