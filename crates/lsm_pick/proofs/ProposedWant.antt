-- What a candidate proposes, once its closure's hull is known.
use Rattle.std.proofs.Common.{◌≡◌, ℕ, ◌+◌, ◌≤◌, Bool, true, false, not, cond, ◌&&◌, ◌||◌, List, [], ◌∷◌, ◌⊎◌, inl, inr, refl, sym, ap, ◌∙◌, subst, arith, map, eqb, ltb, leb, length}
use Rattle.std.specs.Cmp.{both_ways}
use Rattle.std.specs.List.{filter, list_any, sum_by}
use Rattle.std.proofs.lemmas.Bool.{true≢false, or_cases, or_left, or_right, and_parts, and_from, eq-eqb, eqb-true, lt-ltb}
use Rattle.lsm_key.specs.Sets.{IsIn}
use Rattle.lsm_key.specs.Order.{key_le}
use Rattle.lsm_key.proofs.Lists.{IsIn-kept, any_from, any_is}
use Rattle.lsm_key.proofs.Membership.{IsIn-map, IsIn-mapped}
use Rattle.lsm_key.proofs.AscendingEntries.{IsIn-filter}
use Rattle.lsm_claim.specs.declared.job.LiveJob.{LiveJob}
use Rattle.lsm_claim.specs.declared.job.Want.{Want}
use Rattle.lsm_claim.specs.Levels.{shares_level}
use Rattle.lsm_key.specs.KeyRanges.{ranges_meet}
use Rattle.lsm_key.proofs.KeyRanges.{key_le_trans}
use Rattle.lsm_edit.specs.declared.file.FileMeta.{FileMeta}
use Rattle.lsm_edit.specs.File.{IsFile}
use Rattle.lsm_edit.proofs.ServedPlaces.{one_number}
use Rattle.lsm_edit.specs.Version.{FileNumbersRise}
use Rattle.lsm_key.specs.declared.limits.TheConstants.{MAX_DEEPER, MAX_INPUTS, MAX_INPUT_BYTES}
use Rattle.lsm_pick.specs.Closure.{Candidate, HasNewer, IsClosure}
use Rattle.lsm_pick.specs.Reach.{IsFull, is_inside, is_met, is_taken, may_join}
use Rattle.lsm_pick.specs.Counted.{deeper_than, fits_job}
use Rattle.lsm_pick.specs.Rule.{Proposes, inputs_of, is_deeper, is_free, fits_limits}
use Rattle.lsm_pick.proofs.ReachGrows.{inside_from, inside_parts, join_cases, joins_set, met_from}

-- ---- lists

module _ {X : Type 0} (p : X → Bool) where
  pub filter_same : (q : X → Bool) (xs : List X) → ((x : X) → IsIn x xs → p x ≡ q x) → filter p xs ≡ filter q xs
  filter_same q [] h = refl
  filter_same q (x ∷ xs) h = (λ i. cond (h x (inl refl) i) (x ∷ filter p xs) (filter p xs)) ∙ ap (λ (ys : List X). cond (q x) (x ∷ ys) ys) (filter_same q xs (λ y m. h y (inr m)))

-- ---- files by their numbers

-- the files of the numbers of those that pass a test are these
pub numbered : (files : List FileMeta) → FileNumbersRise files → (test : FileMeta → Bool) → filter (λ f. list_any (eqb f.number) (map (λ (g : FileMeta). g.number) (filter test files))) files ≡ filter test files
numbered files rise test =
    let numbers = map (λ (g : FileMeta). g.number) (filter test files) in
    filter_same (λ f. list_any (eqb f.number) numbers) test files (λ f m. both_ways (list_any (eqb f.number) numbers) (test f)
    (λ h.
    let n = any_is (eqb f.number) numbers h in
    let g = IsIn-mapped (λ (x : FileMeta). x.number) n.0 (filter test files) n.1 in
    let into = IsIn-filter test g.0 files g.1 in
    subst (λ (x : FileMeta). test x ≡ true) (sym (one_number files rise f g.0 m into.0 (eqb-true f.number n.0 n.2 ∙ g.2))) into.1)
    (λ h. any_from (eqb f.number) numbers f.number (IsIn-map (λ (x : FileMeta). x.number) f (filter test files) (IsIn-kept test f files m h)) (eq-eqb f.number f.number refl)))

-- ---- the closure

module _ (files : List FileMeta) (rise : FileNumbersRise files) (each : (f : FileMeta) → IsIn f files → IsFile f) (t : Candidate) (listed : IsIn t.first files) (lo hi : List ℕ) (full : IsFull files t lo hi) where
  abbrev set : List FileMeta
  set = filter (is_taken t lo hi) files

  first_in : IsIn t.first set
  first_in = IsIn-kept (is_taken t lo hi) t.first files listed (or_left (eqb t.first.number t.first.number) _ (eq-eqb t.first.number t.first.number refl))

  joined_in : (f : FileMeta) → IsIn f files → may_join t f ≡ true → is_met lo hi f ≡ true → IsIn f set
  joined_in f m j met = IsIn-kept (is_taken t lo hi) f files m (or_right (eqb f.number t.first.number) _ (and_from (may_join t f) (is_met lo hi f) j met))

  set_cases : (f : FileMeta) → IsIn f set → IsIn f files × ((f ≡ t.first) ⊎ ((may_join t f ≡ true) × (is_met lo hi f ≡ true)))
  set_cases f m =
      let parts = IsIn-filter (is_taken t lo hi) f files m in (
        parts.0,
        elim (or_cases (eqb f.number t.first.number) _ parts.1) [
          | inl a ↦ inl (one_number files rise f t.first parts.0 listed (eqb-true f.number t.first.number a))
          | inr b ↦ inr (and_parts (may_join t f) (is_met lo hi f) b)
        ],
      )

  pub all_inside : (f : FileMeta) → IsIn f set → is_inside lo hi f ≡ true
  all_inside f m =
      let parts = set_cases f m in
      elim parts.1 [
        | inl same ↦ subst (λ (g : FileMeta). is_inside lo hi g ≡ true) (sym same) (inside_from lo hi t.first (full.reach).first_low (full.reach).first_high)
        | inr joined ↦ full.full f parts.0 joined.0 joined.1
      ]

  -- a file of level 0 in a closure of older files only is no newer than the first
  no_newer : t.first.level ≡ 0 → t.older_only ≡ true → (h : FileMeta) → IsIn h set → h.level ≡ 0 → h.number ≤ t.first.number
  no_newer zero older_only h m level = elim (set_cases h m).1 [
    | inl same ↦ let e : h.number ≡ t.first.number = ap (λ (f : FileMeta). f.number) same in omega (arith, e)
    | inr joined ↦ elim (join_cases t h joined.0) [
      | inl next ↦ absurd (omega (arith, next, level))
      | inr here ↦ elim here.2 [ inl wide ↦ absurd (true≢false (sym older_only ∙ wide)) | inr older ↦ omega (arith, older) ]
    ]
  ]

  join_zero : (g : FileMeta) → t.first.level ≡ 0 → g.level ≡ 0 → (not t.older_only || ltb g.number t.first.number) ≡ true → may_join t g ≡ true
  join_zero g zero level h =
      or_right (eqb g.level (t.first.level + 1)) _ (and_from (eqb t.first.level 0) _ (eq-eqb t.first.level 0 zero) (and_from (eqb g.level 0) _ (eq-eqb g.level 0 level) h))

  may_from : (g : FileMeta) → ((g.level ≡ t.first.level + 1) ⊎ ((t.first.level ≡ 0) × (g.level ≡ 0) × ((t.older_only ≡ false) ⊎ HasNewer set g))) → may_join t g ≡ true
  may_from g h = elim h [
    | inl next ↦ or_left (eqb g.level (t.first.level + 1)) _ (eq-eqb g.level (t.first.level + 1) next)
    | inr zero ↦ join_zero g zero.0 zero.1 (elim zero.2 [
      | inl wide ↦ or_left (not t.older_only) _ (ap not wide)
      | inr newer ↦ by_older_only t.older_only refl zero.0 newer
    ])
  ]
    where
      by_older_only : (b : Bool) → t.older_only ≡ b → t.first.level ≡ 0 → HasNewer set g → (not t.older_only || ltb g.number t.first.number) ≡ true
      by_older_only false e zero newer = or_left (not t.older_only) _ (ap not e)
      by_older_only true e zero newer =
          let le = no_newer zero e newer.0 newer.1 newer.2 in
          or_right (not t.older_only) _ (lt-ltb g.number t.first.number (omega (arith, le, newer.3)))

  pub closure_is : IsClosure files t set
  closure_is = record {
    has = first_in;
    among = λ g m. (set_cases g m).0;
    closed = λ g m j.
        let a = (j.0).0 in
        let b = (j.0).1 in
        let low = inside_parts lo hi a.0 (all_inside a.0 a.1) in
        let high = inside_parts lo hi b.0 (all_inside b.0 b.1) in
        joined_in g m (may_from g j.1) (met_from lo hi g (key_le_trans lo a.0.smallest g.largest low.0 a.2) (key_le_trans g.smallest b.0.largest hi b.2 high.1));
    least = λ other has closed g m.
        let parts = set_cases g m in
        elim parts.1 [
          | inl same ↦ subst (λ (f : FileMeta). IsIn f other) (sym same) has
          | inr joined ↦ let ends = (full.reach).forced other has closed in joins_set files t other lo hi g has closed ends.0 ends.1 parts.0 joined.0 joined.1
        ];
  }

  pub least_in : (f : FileMeta) × IsIn f set × (f.smallest ≡ lo)
  least_in =
      let f = (full.reach).least in (
        f.0,
        elim f.2 [
          | inl same ↦ subst (λ (g : FileMeta). IsIn g set) (sym same) first_in
          | inr joins ↦
              let own = (each f.0 f.1).ordered in
              joined_in f.0 f.1 joins (met_from lo hi f.0 (subst (λ (k : List ℕ). key_le k f.0.largest ≡ true) f.3 own) (key_le_trans f.0.smallest f.0.largest hi own f.4))
        ],
        f.3,
      )

  pub greatest_in : (f : FileMeta) × IsIn f set × (f.largest ≡ hi)
  greatest_in =
      let f = (full.reach).greatest in (
        f.0,
        elim f.2 [
          | inl same ↦ subst (λ (g : FileMeta). IsIn g set) (sym same) first_in
          | inr joins ↦
              let own = (each f.0 f.1).ordered in
              joined_in f.0 f.1 joins (met_from lo hi f.0 (key_le_trans lo f.0.smallest f.0.largest f.4 own) (subst (λ (k : List ℕ). key_le f.0.smallest k ≡ true) f.3 own))
        ],
        f.3,
      )

  pub proper : key_le lo hi ≡ true
  proper = key_le_trans lo t.first.smallest hi (full.reach).first_low (key_le_trans t.first.smallest t.first.largest hi (each t.first listed).ordered (full.reach).first_high)

  -- ---- its want

  module _ (want : Want) (level : want.level ≡ t.first.level) (numbers : want.files ≡ map (λ (f : FileMeta). f.number) set) (at_lo : want.hull.lo ≡ lo) (at_hi : want.hull.hi ≡ hi) where
    pub inputs_are : inputs_of files want ≡ set
    inputs_are = ap (λ (ns : List ℕ). filter (λ f. list_any (eqb f.number) ns) files) numbers ∙ numbered files rise (is_taken t lo hi)

    pub asks : Proposes files t want
    asks = record {
      level = level;
      files_are = numbers ∙ ap (map (λ (f : FileMeta). f.number)) (sym inputs_are);
      closure = subst (IsClosure files t) (sym inputs_are) closure_is;
      inside = λ f m. subst (λ (k : List ℕ). is_inside k want.hull.hi f ≡ true) (sym at_lo) (subst (λ (k : List ℕ). is_inside lo k f ≡ true) (sym at_hi) (all_inside f (subst (IsIn f) inputs_are m)));
      least = let f = least_in in (f.0, subst (IsIn f.0) (sym inputs_are) f.1, f.2 ∙ sym at_lo);
      greatest = let f = greatest_in in (f.0, subst (IsIn f.0) (sym inputs_are) f.1, f.2 ∙ sym at_hi);
    }

    pub free_is : (live : List LiveJob) → is_free live want ≡ not (list_any (λ j. shares_level j.want.level t.first.level && ranges_meet j.want.hull.lo j.want.hull.hi lo hi) live)
    free_is live =
        ap (λ (n : ℕ). not (list_any (λ (j : LiveJob). shares_level j.want.level n && ranges_meet j.want.hull.lo j.want.hull.hi want.hull.lo want.hull.hi) live)) level
        ∙ ap (λ (k : List ℕ). not (list_any (λ (j : LiveJob). shares_level j.want.level t.first.level && ranges_meet j.want.hull.lo j.want.hull.hi k want.hull.hi) live)) at_lo
        ∙ ap (λ (k : List ℕ). not (list_any (λ (j : LiveJob). shares_level j.want.level t.first.level && ranges_meet j.want.hull.lo j.want.hull.hi lo k) live)) at_hi

    pub deeper_are : filter (is_deeper want) files ≡ deeper_than t.first.level lo hi files
    deeper_are =
        ap (λ (n : ℕ). filter (λ (f : FileMeta). ltb (n + 1) f.level && ranges_meet want.hull.lo want.hull.hi f.smallest f.largest) files) level
        ∙ ap (λ (k : List ℕ). filter (λ (f : FileMeta). ltb (t.first.level + 1) f.level && ranges_meet k want.hull.hi f.smallest f.largest) files) at_lo
        ∙ ap (λ (k : List ℕ). filter (λ (f : FileMeta). ltb (t.first.level + 1) f.level && ranges_meet lo k f.smallest f.largest) files) at_hi

    pub within_is : fits_limits files want ≡ fits_job t lo hi files
    within_is =
        ap (λ (fs : List FileMeta). leb (length fs) MAX_INPUTS && (leb (sum_by (λ (f : FileMeta). f.bytes) fs) MAX_INPUT_BYTES && leb (length (filter (is_deeper want) files)) MAX_DEEPER)) inputs_are
        ∙ ap (λ (fs : List FileMeta). leb (length set) MAX_INPUTS && (leb (sum_by (λ (f : FileMeta). f.bytes) set) MAX_INPUT_BYTES && leb (length fs) MAX_DEEPER)) deeper_are

  -- the want, without its memory
  abbrev pub ghost_want : Want
  ghost_want = record { level = t.first.level; files = map (λ (f : FileMeta). f.number) set; hull = record { lo = lo; hi = hi; proper = proper } }
