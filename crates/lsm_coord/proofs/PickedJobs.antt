-- The job of a want is within the rules of a job, and sound.
use Rattle.std.proofs.Common.{◌≡◌, ℕ, zero, suc, ◌+◌, ◌-◌, ◌<◌, ◌≤◌, Bool, true, false, cond, ◌&&◌, ◌⊎◌, List, [], ◌∷◌, length, get_or, filter, map, Option, None, refl, sym, subst, ◌∙◌, arith, inl, inr, All, AllPairs, Result, Ok, Err, IfOk, OnErr}
use Rattle.std.specs.Prelude.{◌↔◌, flat_map, nat_eq, nat_lt, nat_le, sum_by}
use Rattle.std.specs.List.{range_with_len, list_any}
use Rattle.std.proofs.lemmas.Bool.{and_parts, and_from, cases_eq, cases_lt, eqb-true, eq-eqb, ltb-true, lt-ltb, leb-true}
use Rattle.std.proofs.lemmas.List.{length-append, length-map}
use Rattle.std.proofs.lemmas.List.Elements.{All-map}
use Rattle.std.proofs.lemmas.List.Kept.{AllPairs-cons, AllPairs-filter}
use Rattle.lsm_key.specs.declared.limits.TheConstants.{MAX_NUMBER, MAX_TABLE_BYTES, MAX_DEEPER, MAX_INPUTS, MAX_JOB_LEVEL, MAX_POINTS, MAX_INPUT_BYTES}
use Rattle.lsm_key.specs.Order.{key_le}
use Rattle.lsm_key.specs.Sets.{IsIn}
use Rattle.lsm_key.proofs.AscendingEntries.{IsIn-filter}
use Rattle.lsm_key.proofs.KeyRanges.{key_le_trans}
use Rattle.lsm_key.proofs.Lists.{IsIn-kept, any_from}
use Rattle.lsm_key.proofs.Membership.{IsIn-append_left, IsIn-append_right, IsIn-append_cases, IsIn-at, IsIn-map, IsIn-one, IsIn-place}
use Rattle.lsm_claim.specs.declared.error.ClaimError.{ClaimError}
use Rattle.lsm_claim.specs.declared.hull.Hull.{Hull}
use Rattle.lsm_claim.specs.declared.job.LiveJob.{LiveJob}
use Rattle.lsm_claim.specs.declared.job.Want.{Want}
use Rattle.lsm_claim.specs.Book.{BookValue, after_claim, next_job}
use Rattle.lsm_key.specs.KeyRanges.{in_closed_range}
use Rattle.lsm_edit.specs.declared.file.FileMeta.{FileMeta}
use Rattle.lsm_edit.specs.declared.served.Placed.{Placed}
use Rattle.lsm_edit.specs.Served.{IsServed, ServedValue, is_covered}
use Rattle.lsm_edit.specs.Version.{VersionValue, IsVersion, FileNumbersRise}
use Rattle.lsm_edit.proofs.KeysOutOfRange.{key_covered}
use Rattle.lsm_table.specs.Tables.{IsTarget}
use Rattle.lsm_msg.specs.declared.job.JobParts.{JobParts}
use Rattle.lsm_key.specs.declared.range.KeyRange.{KeyRange}
use Rattle.lsm_msg.specs.Jobs.{IsJob}
use Rattle.lsm_msg.specs.Legal.{IsLegal, KnowsDeeper, Takes, touches}
use Rattle.lsm_msg.specs.Merge.{is_in_ranges}
use Rattle.lsm_edit.specs.File.{AreKeys}
use Rattle.lsm_msg.specs.Rules.{AreDeeper, AreInputs, IsInput, IsJobId}
use Rattle.lsm_pick.specs.After.{CompactPointersValue}
use Rattle.lsm_pick.specs.Rule.{inputs_of, is_deeper}
use Rattle.lsm_pick.proofs.ProposedIsLegal.{input_taken, taken_input}
use Rattle.lsm_coord.specs.declared.error.CoordError.TheVariants.{OutOfMemory}
use Rattle.lsm_coord.specs.declared.snapshot.Snapshot.{Snapshot}
use Rattle.lsm_coord.specs.Contract.Value.{CoordValue}
use Rattle.lsm_coord.specs.Contract.Memory.{AreLegal, AreJobWants, IsJobWant}
use Rattle.lsm_coord.specs.Contract.Sound.{IsSound, KeepsSound}
use Rattle.lsm_coord.specs.Contract.Picking.{IsJobFor, IsPickedAfter, MayClaim, PickRefuses, deeper_files, deeper_levels, range_of, touches_at}

all_from : {X : Type 0} (P : X → Type 0) (xs : List X) → ((x : X) → IsIn x xs → P x) → All P xs
all_from P xs h k d lt = h (get_or xs k d) (IsIn-at xs k d lt)

-- ---- lists of lists

flat_in : {X Y : Type 0} (f : X → List Y) (y : Y) (xs : List X) → IsIn y (flat_map f xs) → (x : X) × IsIn x xs × IsIn y (f x)
flat_in f y [] m = absurd m
flat_in f y (x ∷ xs) m = elim (IsIn-append_cases y (f x) (flat_map f xs) m) [
  | inl here ↦ (x, inl refl, here)
  | inr there ↦ let r = flat_in f y xs there in (r.0, inr r.1, r.2)
]

in_flat : {X Y : Type 0} (f : X → List Y) (x : X) (y : Y) (xs : List X) → IsIn x xs → IsIn y (f x) → IsIn y (flat_map f xs)
in_flat f x y [] m here = absurd m
in_flat f x y (z ∷ xs) m here = elim m [
  | inl same ↦ IsIn-append_left y (f z) (flat_map f xs) (subst (λ v. IsIn y (f v)) same here)
  | inr rest ↦ IsIn-append_right y (f z) (flat_map f xs) (in_flat f x y xs rest here)
]

in_range : (a n x : ℕ) → a ≤ x → x < a + n → IsIn x (range_with_len a n)
in_range a zero x low high = absurd (omega arith)
in_range a (suc n) x low high = elim (cases_eq a x) [
  | inl same ↦ inl (sym same)
  | inr other ↦ inr (in_range (a + 1) n x (omega arith) (omega arith))
]

-- ---- its inputs

rising_pairs : (files : List FileMeta) → FileNumbersRise files → AllPairs (λ f g. f.number < g.number) files
rising_pairs [] up = λ i j d lt within. absurd (omega arith)
rising_pairs (f ∷ files) up = AllPairs-cons (λ x y. x.number < y.number) f files (all_from (λ (g : FileMeta). f.number < g.number) files up.0) (rising_pairs files up.1)

-- the inputs are what the want takes of the files
pub inputs_taken : (files : List FileMeta) (want : Want) (inputs : List FileMeta) → inputs ≡ inputs_of files want → (f : FileMeta) → IsIn f inputs ↔ Takes files want f
inputs_taken files want inputs are f = (λ m. input_taken files want f (subst (IsIn f) are m), λ t. subst (IsIn f) (sym are) (taken_input files want f t))

inputs_are : (v : VersionValue) (want : Want) → IsVersion v → IsLegal v.files want → length (inputs_of v.files want) ≤ MAX_INPUTS → AreInputs want.level (inputs_of v.files want)
inputs_are v want is legal few = record {
  few = few;
  each = all_from (IsInput want.level) (inputs_of v.files want) (λ f m. let t = input_taken v.files want f m in record { level = legal.levels f t; file = is.files f t.0 });
  rising = AllPairs-filter (λ f g. f.number < g.number) (λ f. list_any (nat_eq f.number) want.files) v.files (rising_pairs v.files is.rising);
  own =
      let o = legal.own in
      let p = IsIn-place o.0 (inputs_of v.files want) (taken_input v.files want o.0 o.1) in
      (p.0, o.0, p.1, p.2, o.2);
}

-- ---- the deeper files

module _ (hull : Hull) where
  fewer_by : (f : FileMeta) (rest : List FileMeta) (level : ℕ) (t here deeper deep : Bool) → (here ≡ true → deep ≡ true) → (deeper ≡ true → deep ≡ true) → (here ≡ true → deeper ≡ true → ⊥) → (a b d : List FileMeta)
      → length a + length b ≤ length d
      → length (cond (here && t) (f ∷ a) a) + length (cond (deeper && t) (f ∷ b) b) ≤ length (cond (deep && t) (f ∷ d) d)
  fewer_by f rest level t true true deep h k apart a b d le = absurd (apart refl refl)
  fewer_by f rest level true true false true h k apart a b d le = omega arith
  fewer_by f rest level false true false true h k apart a b d le = omega arith
  fewer_by f rest level t true false false h k apart a b d le = absurd (let bad = h refl in cc)
  fewer_by f rest level true false true true h k apart a b d le = omega arith
  fewer_by f rest level false false true true h k apart a b d le = omega arith
  fewer_by f rest level t false true false h k apart a b d le = absurd (let bad = k refl in cc)
  fewer_by f rest level true false false true h k apart a b d le = omega arith
  fewer_by f rest level false false false true h k apart a b d le = omega arith
  fewer_by f rest level t false false false h k apart a b d le = omega arith

  -- those of a level and those below it are some of those below the one above
  fewer : (level : ℕ) (files : List FileMeta)
      → length (filter (touches_at hull (level + 1)) files) + length (filter (λ f. nat_lt (level + 1) f.level && touches hull f) files) ≤ length (filter (λ f. nat_lt level f.level && touches hull f) files)
  fewer level [] = omega arith
  fewer level (f ∷ files) =
      fewer_by f files level (touches hull f) (nat_eq f.level (level + 1)) (nat_lt (level + 1) f.level) (nat_lt level f.level)
      (λ h. let e = eqb-true f.level (level + 1) h in lt-ltb level f.level (omega arith))
      (λ h. let lt = ltb-true (level + 1) f.level h in lt-ltb level f.level (omega arith))
      (λ h k. let e = eqb-true f.level (level + 1) h in let lt = ltb-true (level + 1) f.level k in absurd (omega arith))
      (filter (touches_at hull (level + 1)) files) (filter (λ g. nat_lt (level + 1) g.level && touches hull g) files) (filter (λ g. nat_lt level g.level && touches hull g) files) (fewer level files)

  few_deeper : (n level : ℕ) (files : List FileMeta) → length (flat_map (λ l. filter (touches_at hull l) files) (range_with_len (level + 1) n)) ≤ length (filter (λ f. nat_lt level f.level && touches hull f) files)
  few_deeper zero level files = omega arith
  few_deeper (suc n) level files =
      let first = fewer level files in
      let rest = few_deeper n (level + 1) files in
      let parts = length-append (filter (touches_at hull (level + 1)) files) (flat_map (λ l. filter (touches_at hull l) files) (range_with_len (level + 1 + 1) n)) in
      omega arith

-- each is one of the version's
deeper_listed : (files : List FileMeta) (want : Want) (f : FileMeta) → IsIn f (deeper_files files want) → IsIn f files
deeper_listed files want f m = let r = flat_in (λ level. filter (touches_at want.hull level) files) f (deeper_levels want) m in (IsIn-filter (touches_at want.hull r.0) f files r.2).0

deeper_are : (v : VersionValue) (want : Want) → IsVersion v → length (filter (is_deeper want) v.files) ≤ MAX_DEEPER → AreDeeper (map range_of (deeper_files v.files want))
deeper_are v want is few = record {
  few =
      let most : length (deeper_files v.files want) ≤ length (filter (is_deeper want) v.files) = (
      let two : want.level + 1 + 1 ≡ want.level + 2 = omega arith in
      subst (λ (n : ℕ). length (flat_map (λ l. filter (touches_at want.hull l) v.files) (range_with_len n (MAX_JOB_LEVEL - want.level))) ≤ length (filter (is_deeper want) v.files)) two (few_deeper want.hull (MAX_JOB_LEVEL - want.level) (want.level + 1) v.files)) in
      omega (arith, length-map (deeper_files v.files want) range_of);
  each = All-map (λ (r : KeyRange). AreKeys r.lo r.hi) range_of (deeper_files v.files want)
      (all_from (λ (f : FileMeta). AreKeys f.smallest f.largest) (deeper_files v.files want) (λ f m. let file = is.files f (deeper_listed v.files want f m) in record { first = file.smallest; last = file.largest; ordered = file.ordered }));
}

-- ---- the job

pub within_rules : {pointers : Option CompactPointersValue} (c : CoordValue) (want : Want) (job : JobParts) → IsVersion c.served.version → 1 ≤ c.served.version.epoch → c.book.epoch ≡ c.served.version.epoch → IsTarget c.limits.block → MayClaim pointers c want → IsJobFor c want job → length job.points ≤ MAX_POINTS → IsJob job
within_rules c want job is opened epoch target may of few =
    let v : VersionValue = c.served.version in
    let limits = and_parts (nat_le (length (inputs_of v.files want)) MAX_INPUTS) _ may.next.taken.within in
    let others = and_parts (nat_le (sum_by (λ f. f.bytes) (inputs_of v.files want)) MAX_INPUT_BYTES) _ limits.1 in
    let fits = may.fits in
    record {
      id = subst IsJobId (sym of.id) (let most : v.epoch ≤ MAX_NUMBER = is.epoch in record { some_epoch = omega arith; epoch = omega arith; some_number = omega arith; number = omega arith });
      level = subst (λ (l : ℕ). l ≤ MAX_JOB_LEVEL) (sym of.level) may.orderly.level;
      some_block = subst (λ (b : ℕ). 1 ≤ b) (sym of.block) target.0;
      most_block = subst (λ (b : ℕ). b ≤ MAX_TABLE_BYTES) (sym of.block) target.1;
      points = record { few = few; rising = of.points.rising };
      inputs = rw (of.inputs, of.level) (inputs_are v want is may.legal (leb-true (length (inputs_of v.files want)) MAX_INPUTS limits.0));
      deeper = rw of.deeper (deeper_are v want is (leb-true (length (filter (is_deeper want) v.files)) MAX_DEEPER others.1));
    }

-- ---- it is sound

-- a place that has a key of an input lies among the deeper files, or not deeper than the next level
deeper_known : (served : ServedValue) (want : Want) (job : JobParts) → IsServed served → IsVersion served.version → IsLegal served.version.files want → job.level ≡ want.level
    → job.inputs ≡ inputs_of served.version.files want → job.deeper ≡ map range_of (deeper_files served.version.files want) → KnowsDeeper served.places job
deeper_known served want job is version legal level inputs deeper p q mp mq input e d me md clear same = elim (cases_lt (want.level + 1) q.meta.level) [
  | inr near ↦ omega arith
  | inl far ↦
      let files : List FileMeta = served.version.files in
      let key : List ℕ = e.ikey.key in
      let hull : Hull = want.hull in
      let taken = input_taken files want p.meta (subst (λ (fs : List FileMeta). IsIn p.meta fs) inputs input) in
      let inside = and_parts (key_le hull.lo p.meta.smallest) (key_le p.meta.largest hull.hi) (legal.inside p.meta taken) in
      let at_p = and_parts (key_le p.meta.smallest key) (key_le key p.meta.largest) (key_covered p.meta p.table (is.recorded p mp) e me) in
      let covered_q : is_covered q.meta key ≡ true = subst (λ (k : List ℕ). is_covered q.meta k ≡ true) same (key_covered q.meta q.table (is.recorded q mq) d md) in
      let at_q = and_parts (key_le q.meta.smallest key) (key_le key q.meta.largest) covered_q in
      let from : key_le hull.lo key ≡ true = key_le_trans hull.lo p.meta.smallest key inside.0 at_p.0 in
      let to : key_le key hull.hi ≡ true = key_le_trans key p.meta.largest hull.hi at_p.1 inside.1 in
      let met : touches hull q.meta ≡ true = and_from (key_le hull.lo q.meta.largest) (key_le q.meta.smallest hull.hi) (key_le_trans hull.lo key q.meta.largest from at_q.1) (key_le_trans q.meta.smallest key hull.hi at_q.0 to) in
      let listed : IsIn q.meta files = (is.listed q.meta).0 (IsIn-map (λ (x : Placed). x.meta) q served.places mq) in
      let deepest : q.meta.level ≤ 6 = (version.files q.meta listed).level in
      let kept : IsIn q.meta (filter (touches_at hull q.meta.level) files) = IsIn-kept (touches_at hull q.meta.level) q.meta files listed (and_from (nat_eq q.meta.level q.meta.level) (touches hull q.meta) (eq-eqb q.meta.level q.meta.level refl) met) in
      let among : IsIn q.meta (deeper_files files want) = in_flat (λ l. filter (touches_at hull l) files) q.meta.level q.meta (deeper_levels want) (in_range (want.level + 2) (MAX_JOB_LEVEL - want.level) q.meta.level (omega arith) (omega arith)) kept in
      let found : is_in_ranges job.deeper key ≡ true = subst (λ (rs : List KeyRange). is_in_ranges rs key ≡ true) (sym deeper)
      (any_from (λ r. in_closed_range r.lo r.hi key) (map range_of (deeper_files files want)) (range_of q.meta) (IsIn-map range_of q.meta (deeper_files files want) among) covered_q) in
      absurd (let bad : true ≡ false = sym found ∙ clear in cc)
]

pub picked_sound : {pointers : Option CompactPointersValue} (old new : CoordValue) (claim : LiveJob) (job : JobParts) → IsServed old.served → IsVersion old.served.version → IsPickedAfter pointers old claim job new → IsSound new job
picked_sound old new claim job is version picked =
    let want : Want = picked.want in
    let files : List FileMeta = old.served.version.files in
    let of = picked.job_is in
    let may = picked.may in
    subst (λ (c : CoordValue). IsSound c job) (sym picked.new_is) (record {
      claimed = record {
        live = next_job old.book want;
        member = IsIn-append_right (next_job old.book want) old.book.live (next_job old.book want ∷ []) (inl refl);
        named = sym of.id;
        of_want = record {
          level = of.level;
          inputs = inputs_taken files want job.inputs of.inputs;
        };
      };
      snapshots = λ x live. inl ((of.points.all x.at).1 (IsIn-map (λ (y : Snapshot). y.at) x old.snapshots live));
      block = of.block;
      deeper = deeper_known old.served want job is version may.legal of.level of.inputs of.deeper;
    })

-- a claim leaves the others
pub claim_keeps : (c : CoordValue) (want : Want) → KeepsSound c (record c { book = after_claim c.book want })
claim_keeps c want job sound held =
    let claimed_before = sound.claimed in
    record {
      claimed = record {
        live = claimed_before.live;
        member = IsIn-append_left claimed_before.live c.book.live (next_job c.book want ∷ []) claimed_before.member;
        named = claimed_before.named;
        of_want = claimed_before.of_want;
      };
      snapshots = sound.snapshots;
      block = sound.block;
      deeper = sound.deeper;
    }

pub legal_claimed : (files : List FileMeta) (b : BookValue) (want : Want) → AreLegal files b.live → IsLegal files want → AreLegal files (after_claim b want).live
legal_claimed files b want all legal j m = elim (IsIn-append_cases j b.live (next_job b want ∷ []) m) [
  | inl old ↦ all j old
  | inr one ↦ subst (λ (x : LiveJob). IsLegal files x.want) (sym (IsIn-one j (next_job b want) one)) legal
]

pub orderly_claimed : (b : BookValue) (want : Want) → AreJobWants b.live → IsJobWant want → AreJobWants (after_claim b want).live
orderly_claimed b want all one j m = elim (IsIn-append_cases j b.live (next_job b want ∷ []) m) [
  | inl old ↦ all j old
  | inr new ↦ subst (λ (x : LiveJob). IsJobWant x.want) (sym (IsIn-one j (next_job b want) new)) one
]

-- a claim is in the book, or was refused and left it
pub claimed_or_not : (r : Result LiveJob ClaimError) (old new : BookValue) (want : Want) → IfOk r (λ claim. new ≡ after_claim old want) → OnErr r (new ≡ old) → (new ≡ after_claim old want) ⊎ (new ≡ old)
claimed_or_not (Ok claim) old new want ok err = inl ok
claimed_or_not (Err e) old new want ok err = inr err

-- the reason why memory may run out
pub wants_memory : (c : CoordValue) (want : Want) → MayClaim None c want → PickRefuses c OutOfMemory
wants_memory c want may = (may.free, (want, may.next), may.fits)
