-- The edit by which outputs take the place of a job's inputs applies.
use Rattle.std.proofs.Common.{◌≡◌, ℕ, ◌+◌, ◌<◌, ◌≤◌, ◌^◌, Bool, true, false, not, ◌&&◌, ◌||◌, List, [], ◌∷◌, ◌++◌, inl, inr, refl, sym, ap, subst, ◌∙◌, arith, length, eqb, ltb}
use Rattle.std.specs.List.{list_any}
use Rattle.std.proofs.lemmas.Bool.{true≢false, and_parts, and_from, eq-eqb, eqb-true, false_from_ne_true}
use Rattle.lsm_key.specs.declared.limits.TheConstants.{MAX_NUMBER}
use Rattle.lsm_key.specs.Sets.{IsIn}
use Rattle.lsm_key.specs.Order.{key_le, key_lt}
use Rattle.lsm_claim.specs.declared.job.Want.{Want}
use Rattle.lsm_key.proofs.KeyRanges.{key_le_trans}
use Rattle.lsm_key.proofs.Lists.{any_from, any_is, none_from}
use Rattle.lsm_table.specs.Tables.{IsTable, Opened, largest_key, smallest_key}
use Rattle.lsm_table.proofs.TableContents.{table_small, table_ends, smallest_fits, largest_fits}
use Rattle.lsm_table.proofs.TableSizes.{few_entries}
use Rattle.lsm_edit.specs.declared.edit.EditKind.TheVariants.{Install}
use Rattle.lsm_edit.specs.declared.file.FileMeta.{FileMeta}
use Rattle.lsm_edit.specs.Edit.{AreAdded, after_file}
use Rattle.lsm_edit.specs.File.{IsFile}
use Rattle.lsm_edit.specs.Next.{number_after}
use Rattle.lsm_edit.specs.Served.{AreAsRecorded}
use Rattle.lsm_edit.specs.Version.{VersionValue, IsVersion, clashes, has_number, has_overlap, files_meet, files_without}
use Rattle.lsm_edit.proofs.Ascending.{IsFileFrom, added_of_turn}
use Rattle.lsm_edit.proofs.ItemsInTurn.{AreInTurn}
use Rattle.lsm_edit.proofs.VersionLaws.{overlap-after, stays}
use Rattle.lsm_msg.specs.Legal.{IsLegal, encloses}
use Rattle.lsm_msg.proofs.LegalInputs.{is_listed}
use Rattle.lsm_coord.specs.Contract.Installing.{AreAscending, is_table_inside, record_of, records}
use Rattle.lsm_coord.proofs.KeyIntervals.{not_below_upto}

-- ---- records

pub record_file : (level number : ℕ) (t : Opened) → level ≤ 6 → 1 ≤ number → number ≤ MAX_NUMBER → IsTable t.bytes t.entries → IsFile (record_of level number t)
record_file level number t deep some most is =
    let small = table_small t.bytes t.entries is in
    let count = few_entries t.bytes t.entries is in
    record {
      first = some;
      last = most;
      level = deep;
      smallest = smallest_fits t.bytes t.entries is;
      largest = largest_fits t.bytes t.entries is;
      ordered = ap not (table_ends t.bytes t.entries is);
      some_bytes = omega (arith, small.0);
      most_bytes = small.1;
      some_entries = count.0;
      most_entries = omega (arith, count.1);
    }

pub records_length : (level number : ℕ) (ts : List Opened) → length (records level number ts) ≡ length ts
records_length level number [] = refl
records_length level number (t ∷ ts) = let e = records_length level (number + 1) ts in omega (arith, e)

pub records_recorded : (level number : ℕ) (ts : List Opened) → ((t : Opened) → IsIn t ts → IsTable t.bytes t.entries) → AreAsRecorded (records level number ts) ts
records_recorded level number [] each = tt
records_recorded level number (t ∷ ts) each =
    (record { table = each t (inl refl); smallest = refl; largest = refl; bytes = refl; entries = refl }, records_recorded level (number + 1) ts (λ u m. each u (inr m)))

-- a record is that of one of the tables
pub recorded_of : (level number : ℕ) (ts : List Opened) (f : FileMeta) → IsIn f (records level number ts) → (t : Opened) × IsIn t ts × (f.level ≡ level) × (f.smallest ≡ smallest_key t.entries) × (f.largest ≡ largest_key t.entries) × (number ≤ f.number)
recorded_of level number [] f m = absurd m
recorded_of level number (t ∷ ts) f m = elim m [
  | inl e ↦ (t, inl refl, ap (λ (g : FileMeta). g.level) e, ap (λ (g : FileMeta). g.smallest) e, ap (λ (g : FileMeta). g.largest) e, (let n : f.number ≡ number = ap (λ (g : FileMeta). g.number) e in omega (arith, n)))
  | inr k ↦ let r = recorded_of level (number + 1) ts f k in (r.0, inr r.1, r.2, r.3, r.4, (let le = r.5 in omega (arith, le)))
]

pub records_end : (level number : ℕ) (ts : List Opened) → number_after number (records level number ts) ≡ number + length ts
records_end level number [] = omega arith
records_end level number (t ∷ ts) = let e = records_end level (number + 1) ts in omega (arith, e)

in_turn : (level number least low high : ℕ) (ts : List Opened) → level ≤ 6 → 1 ≤ number → number + length ts ≤ MAX_NUMBER → least ≤ number → low ≤ level → level ≤ high → ((t : Opened) → IsIn t ts → IsTable t.bytes t.entries)
    → AreInTurn IsFileFrom after_file (record { least = least; most = MAX_NUMBER; lowest = low; deepest = high }) (records level number ts)
in_turn level number least low high [] deep some room le a b each = tt
in_turn level number least low high (t ∷ ts) deep some room le a b each = (
  (record_file level number t deep some (omega (arith, room)) (each t (inl refl)), le, omega (arith, room), a, b),
  in_turn level (number + 1) (number + 1) level level ts deep (omega arith) (omega (arith, room)) (omega arith) (omega arith) (omega arith) (λ u m. each u (inr m)),
)

pub records_added : (level number : ℕ) (ts : List Opened) → 1 ≤ level → level ≤ 6 → 1 ≤ number → number + length ts ≤ MAX_NUMBER → length ts < 2 ^ 32 → ((t : Opened) → IsIn t ts → IsTable t.bytes t.entries) → AreAdded Install (records level number ts)
records_added level number ts upper deep some room few each =
    let e = records_length level number ts in
    added_of_turn Install (records level number ts) (omega arith) (omega (arith, e, few)) (in_turn level number 1 1 6 ts deep some room some upper deep each)

-- ---- no overlap

-- keys that stand before others share none with them
apart : (f g : FileMeta) → key_lt f.largest g.smallest ≡ true → clashes f g ≡ false
apart f g before = false_from_ne_true (clashes f g) (λ h.
    let parts = and_parts (eqb f.level g.level) (ltb 0 f.level && files_meet f g) h in
    let met = (and_parts (ltb 0 f.level) (files_meet f g) parts.1).1 in
    not_below_upto g.smallest f.largest (and_parts (key_le f.smallest g.largest) (key_le g.smallest f.largest) met).1 before)

pub records_apart : (level number : ℕ) (ts : List Opened) → AreAscending ts → has_overlap (records level number ts) ≡ false
records_apart level number [] pairs = refl
records_apart level number (t ∷ ts) pairs =
    let none = none_from (clashes (record_of level number t)) (records level (number + 1) ts) (λ g m.
    let r = recorded_of level (number + 1) ts g m in
    apart (record_of level number t) g (subst (λ (k : List ℕ). key_lt (largest_key t.entries) k ≡ true) (sym r.3) (pairs.0 r.0 r.1))) in
    rw none (records_apart level (number + 1) ts pairs.1)

module _ (v : VersionValue) (want : Want) (legal : IsLegal v.files want) (ts : List Opened) (inside : (t : Opened) → IsIn t ts → is_table_inside want.hull t ≡ true) where
  -- a file of the next level that shares a key with an output is an input
  meets_input : (f g : FileMeta) → IsIn f v.files → IsIn g (records (want.level + 1) v.next_file ts) → clashes f g ≡ true → IsIn f.number want.files
  meets_input f g m n h =
      let r = recorded_of (want.level + 1) v.next_file ts g n in
      let parts = and_parts (eqb f.level g.level) (ltb 0 f.level && files_meet f g) h in
      let met = and_parts (key_le f.smallest g.largest) (key_le g.smallest f.largest) (and_parts (ltb 0 f.level) (files_meet f g) parts.1).1 in
      let own = and_parts (key_le want.hull.lo (smallest_key (r.0).entries)) (key_le (largest_key (r.0).entries) want.hull.hi) (inside r.0 r.1) in
      let low : key_le want.hull.lo g.smallest ≡ true = subst (λ (k : List ℕ). key_le want.hull.lo k ≡ true) (sym r.3) own.0 in
      let high : key_le g.largest want.hull.hi ≡ true = subst (λ (k : List ℕ). key_le k want.hull.hi ≡ true) (sym r.4) own.1 in
      legal.next f m (eqb-true f.level g.level parts.0 ∙ r.2)
      (and_from (key_le want.hull.lo f.largest) (key_le f.smallest want.hull.hi) (key_le_trans want.hull.lo g.smallest f.largest low met.1) (key_le_trans f.smallest g.largest want.hull.hi met.0 high))

  stays_clear : (f : FileMeta) → IsIn f v.files → (stays want.files f && list_any (clashes f) (records (want.level + 1) v.next_file ts)) ≡ false
  stays_clear f m =
      let added = records (want.level + 1) v.next_file ts in
      false_from_ne_true (stays want.files f && list_any (clashes f) added) (λ h.
      let parts = and_parts (stays want.files f) (list_any (clashes f) added) h in
      let g = any_is (clashes f) added parts.1 in
      let input = is_listed want.files f (meets_input f g.0 m g.1 g.2) in
      true≢false (sym parts.0 ∙ ap not input))

  pub none_overlaps : IsVersion v → AreAscending ts → has_overlap (files_without want.files v.files ++ records (want.level + 1) v.next_file ts) ≡ false
  none_overlaps is pairs =
      let added = records (want.level + 1) v.next_file ts in
      overlap-after want.files v.files added is.disjoint
      ∙ ap (λ (b : Bool). b || has_overlap added) (none_from (λ f. stays want.files f && list_any (clashes f) added) v.files stays_clear)
      ∙ records_apart (want.level + 1) v.next_file ts pairs

  pub inputs_there : (n : ℕ) → IsIn n want.files → list_any (has_number n) v.files ≡ true
  inputs_there n m =
      let f = legal.known n m in
      any_from (has_number n) v.files f.0 f.1 (eq-eqb (f.0).number n f.2)

  -- the records' keys are in the hull
  pub records_inside : (f : FileMeta) → IsIn f (records (want.level + 1) v.next_file ts) → encloses want.hull f ≡ true
  records_inside f m =
      let r = recorded_of (want.level + 1) v.next_file ts f m in
      let own = and_parts (key_le want.hull.lo (smallest_key (r.0).entries)) (key_le (largest_key (r.0).entries) want.hull.hi) (inside r.0 r.1) in
      and_from (key_le want.hull.lo f.smallest) (key_le f.largest want.hull.hi)
      (subst (λ (k : List ℕ). key_le want.hull.lo k ≡ true) (sym r.3) own.0) (subst (λ (k : List ℕ). key_le k want.hull.hi ≡ true) (sym r.4) own.1)
