-- A decoded job encodes to the bytes, and what encodes to the bytes is decoded.
use Rattle.std.proofs.Common.{◌≡◌, ℕ, ◌+◌, ◌-◌, ◌^◌, ◌≤◌, ◌&&◌, Bool, false, not, cond, eqb, List, [], ◌++◌, length, Result, Ok, refl, sym, ap, subst, ◌∙◌, append_assoc, arith, inl, inr}
use Rattle.std.specs.Int.{w8, w16, w32, w64, to_be_bytes}
use Rattle.std.specs.List.{All, flat_map}
use Rattle.std.proofs.lemmas.List.{append-nil}
use Rattle.std.proofs.lemmas.Bool.{cases_Bool, not-false}
use Rattle.lsm_key.specs.declared.limits.TheConstants.{MAX_DEEPER, MAX_INPUTS, MAX_JOB_LEVEL, MAX_KEY_BYTES, MAX_NUMBER, MAX_POINTS, MAX_TABLE_BYTES}
use Rattle.lsm_key.specs.declared.range.KeyRange.{KeyRange}
use Rattle.lsm_key.specs.Order.{key_le}
use Rattle.lsm_key.specs.Spelling.{IsKey}
use Rattle.lsm_key.specs.Reading.{◌>>=◌, ranged_number_at}
use Rattle.lsm_key.proofs.Beginnings.{cut_then}
use Rattle.lsm_key.proofs.FieldLaws.{Takes, Takes-then, bind_ok, wide8, wide16, wide32, wide64}
use Rattle.lsm_key.proofs.ReaderLaws.{Reads, Goes, field, field_as, unless, done, whole, within_reads, key_reads, reads_as}
use Rattle.lsm_claim.specs.declared.job.JobId.{JobId}
use Rattle.lsm_edit.specs.declared.file.FileMeta.{FileMeta}
use Rattle.lsm_edit.specs.File.{AreKeys, file, file_at}
use Rattle.lsm_edit.specs.Edit.{after_number}
use Rattle.lsm_edit.proofs.Ascending.{IsFileFrom, IsNumberFrom, numbers_each, numbers_ascend, numbers_in_turn}
use Rattle.lsm_edit.proofs.FileLaws.{HasKeysWithin, file_reads}
use Rattle.lsm_edit.proofs.ItemsInTurn.{AreInTurn, counted_reads, items_again, items_cuts, items_takes, turn_both, turn_parts}
use Rattle.lsm_msg.specs.declared.fault.MsgFault.{MsgFault}
use Rattle.lsm_msg.specs.declared.fault.MsgFault.TheVariants.{Truncated, BadField}
use Rattle.lsm_msg.specs.declared.job.JobParts.{JobParts}
use Rattle.lsm_msg.specs.declared.reading.inputs.InputsLeft.{InputsLeft}
use Rattle.lsm_msg.specs.Jobs.{IsJob}
use Rattle.lsm_msg.specs.Messages.{AreSequences, job, job_id, points, range, ranges}
use Rattle.lsm_msg.specs.MessageReading.{after_input, each_input_at, input_bounds, inputs_at, job_at, job_id_at, points_at, range_at, ranges_at}
use Rattle.lsm_msg.specs.Rules.{AreDeeper, AreInputs, ArePoints, IsJobId}
use Rattle.lsm_msg.proofs.InputsInTurn.{AreNextInputs, inputs_of_turn, turn_of_inputs}
use Rattle.lsm_msg.proofs.EachInTurn.{counted_each}

-- ---- names

abbrev IdRules : JobId → Type 0
IdRules id = ((1 ≤ id.epoch) × (id.epoch ≤ MAX_NUMBER)) × (((1 ≤ id.number) × (id.number ≤ MAX_NUMBER)) × Unit {0})

pub job_id_reads : Reads Truncated job_id_at job_id IsJobId
unfolding job_id_at
job_id_reads = whole job_id IsJobId (λ id is. simp (append_assoc, append-nil) refl)
    (λ id r. record { some_epoch = r.0.0; epoch = r.0.1; some_number = r.1.0.0; number = r.1.0.1 })
    (λ id is. ((is.some_epoch, is.epoch), ((is.some_number, is.number), tt)))
    (field _ (λ (id : JobId). id.epoch) (within_reads Truncated BadField w64 (2 ^ 64) wide64 1 MAX_NUMBER (omega arith)) (λ epoch _.
    field _ (λ (id : JobId). id.number) (within_reads Truncated BadField w64 (2 ^ 64) wide64 1 MAX_NUMBER (omega arith)) (λ number _.
    done (λ id. Unit {0}) (record { epoch = epoch; number = number }) ((tt, refl), refl) tt (λ id known is i. record { epoch = known.0.1 i; number = known.1 i }))))

-- ---- points

abbrev pub AreSentPoints : List ℕ → Type 0
AreSentPoints ps = ArePoints ps × AreSequences ps

points_reads : Reads Truncated points_at points AreSentPoints
unfolding points_at
points_reads = reads_as
    (λ ps is. (record { few = is.1; rising = numbers_ascend (2 ^ 56 - 1) 0 ps is.2 }, λ k d lt. (let each = (numbers_each (2 ^ 56 - 1) 0 ps is.2 k d lt).1 in omega (arith, each))))
    (λ ps is. (omega arith, is.0.few, numbers_in_turn (2 ^ 56 - 1) 0 ps (λ k d lt. (omega arith, (let each = is.1 k d lt in omega (arith, each)))) is.0.rising))
    (counted_reads (λ (from : ℕ). Unit {0}) (IsNumberFrom (2 ^ 56 - 1)) (λ from. ranged_number_at Truncated BadField w64 from (2 ^ 56 - 1)) after_number (to_be_bytes w64) (λ from good. within_reads Truncated BadField w64 (2 ^ 64) wide64 from (2 ^ 56 - 1) (omega arith)) (λ from n good is. tt)
    BadField w8 (2 ^ 8) wide8 0 MAX_POINTS 0 (omega arith) tt)

-- ---- inputs

abbrev spelled_inputs : List FileMeta → List ℕ
spelled_inputs files = to_be_bytes w16 (length files) ++ flat_map file files

-- where the inputs of a job begin
abbrev first_left : ℕ → ℕ → InputsLeft
first_left level count = record { least = 1; level = level; left = count; own = false }

-- bounds of inputs that a file record can meet
record AreInputBounds (s : InputsLeft) : Type 0 where
  some : 1 ≤ s.least
  level : s.level ≤ MAX_JOB_LEVEL

first_good : (level count : ℕ) → level ≤ MAX_JOB_LEVEL → AreInputBounds (first_left level count)
first_good level count low = record { some = omega arith; level = low }

deepest_small : (s : InputsLeft) → s.level ≤ MAX_JOB_LEVEL → (input_bounds s).deepest ≤ 6
deepest_small s low = elim (cases_Bool (not s.own && eqb s.left 1)) [
  | inl last ↦ subst (λ (b : Bool). cond b s.level (s.level + 1) ≤ 6) (sym last) (omega (arith, low))
  | inr more ↦ subst (λ (b : Bool). cond b s.level (s.level + 1) ≤ 6) (sym more) (omega (arith, low))
]

-- an input with keys within a limit
abbrev IsInputWithin : ℕ → InputsLeft → FileMeta → Type 0
IsInputWithin limit s f = IsFileFrom (input_bounds s) f × HasKeysWithin limit f

-- the inputs of a job, with keys within a limit
abbrev AreInputsWithin : ℕ → ℕ → List FileMeta → Type 0
AreInputsWithin limit level files = AreInputs level files × All (HasKeysWithin limit) files

module _ (limit : ℕ) (low : limit ≤ MAX_KEY_BYTES) where
  input_reads : (s : InputsLeft) → AreInputBounds s → Reads Truncated (file_at limit Truncated BadField (input_bounds s) []) file (IsInputWithin limit s)
  input_reads s good =
      reads_as (λ f is. (is.0.0, is.1)) (λ f is. ((is.0, refl), is.1))
      (file_reads limit Truncated BadField (input_bounds s) [] low (record { some = good.some; most = omega arith; deepest = deepest_small s good.level }))

  input_goes_on : (s : InputsLeft) (f : FileMeta) → AreInputBounds s → IsInputWithin limit s f → AreInputBounds (after_input s f)
  input_goes_on s f good is = record { some = omega arith; level = good.level }

  module _ (level : ℕ) (upper : level ≤ MAX_JOB_LEVEL) where
    counts : Reads Truncated (ranged_number_at Truncated BadField w16 1 MAX_INPUTS) (to_be_bytes w16) (λ n. (1 ≤ n) × (n ≤ MAX_INPUTS))
    counts = within_reads Truncated BadField w16 (2 ^ 16) wide16 1 MAX_INPUTS (omega arith)

    some_input : (files : List FileMeta) → AreInputs level files → 1 ≤ length files
    some_input files is = let own = is.own.2 in omega (arith, own)

    inputs_turn : (files : List FileMeta) → AreInputsWithin limit level files → AreInTurn (IsInputWithin limit) after_input (first_left level (length files)) files
    inputs_turn files is =
        turn_both (λ s. IsFileFrom (input_bounds s)) after_input (HasKeysWithin limit) (first_left level (length files)) files
        (turn_of_inputs (first_left level (length files)) files refl (λ k d lt. (is.0.each k d lt, (is.0.each k d lt).file.first)) is.0.rising (λ none more. is.0.own)) is.1

    inputs_reads : Reads Truncated (inputs_at limit level) spelled_inputs (AreInputsWithin limit level)
    unfolding inputs_at
    inputs_reads = record {
      takes = λ bytes z fits e.
          let a = bind_ok (ranged_number_at Truncated BadField w16 1 MAX_INPUTS bytes) (λ count. each_input_at limit count.0 (record { least = 1; level = level; left = count.0; own = false }) count.1) z e in
          let n = a.0.0 in
          let t = counts.takes bytes a.0 fits a.1 in
          let u = items_takes AreInputBounds (IsInputWithin limit) (λ s. file_at limit Truncated BadField (input_bounds s) []) after_input file input_reads input_goes_on n (first_left level n) a.0.1 z (first_good level n upper) t.0.rest_fits a.2 in
          let parts = turn_parts (λ s. IsFileFrom (input_bounds s)) after_input (HasKeysWithin limit) (first_left level n) z.0 u.1 in
          let few : length z.0 ≤ MAX_INPUTS = (let h = t.1.1 in omega (arith, h, u.2)) in
          let some : 1 ≤ length z.0 = (let h = t.1.0 in omega (arith, h, u.2)) in (
            subst (λ (m : ℕ). Takes bytes (to_be_bytes w16 m ++ flat_map file z.0) z.1) (sym u.2) (Takes-then bytes (to_be_bytes w16 n) a.0.1 (flat_map file z.0) z.1 t.0 u.0),
            (inputs_of_turn level z.0 some few (subst (λ (m : ℕ). AreNextInputs (first_left level m) z.0) (sym u.2) parts.0), parts.1),
          );
      again = λ files rest is.
          let n = length files in
          let a : ranged_number_at Truncated BadField w16 1 MAX_INPUTS (to_be_bytes w16 n ++ (flat_map file files ++ rest)) ≡ Ok (n, flat_map file files ++ rest) = counts.again n (flat_map file files ++ rest) (some_input files is.0, is.0.few) in
          let b = items_again AreInputBounds (IsInputWithin limit) (λ s. file_at limit Truncated BadField (input_bounds s) []) after_input file input_reads input_goes_on files (first_left level n) rest (first_good level n upper) (inputs_turn files is) in
          ap (λ (z : List ℕ). ranged_number_at Truncated BadField w16 1 MAX_INPUTS z >>= λ count. each_input_at limit count.0 (first_left level count.0) count.1) (append_assoc (to_be_bytes w16 n) (flat_map file files) rest)
          ∙ ap (λ (r : Result (ℕ × List ℕ) MsgFault). r >>= λ count. each_input_at limit count.0 (first_left level count.0) count.1) a
          ∙ b;
      cuts = λ files is m lt.
          let n = length files in
          let own : (1 ≤ n) × (n ≤ MAX_INPUTS) = (some_input files is.0, is.0.few) in
          cut_then Truncated (ranged_number_at Truncated BadField w16 1 MAX_INPUTS) (λ count. each_input_at limit count.0 (first_left level count.0) count.1) (to_be_bytes w16 n) (flat_map file files) (λ rest. (n, rest))
          (counts.cuts n own) (λ rest. counts.again n rest own)
          (λ k left. items_cuts AreInputBounds (IsInputWithin limit) (λ s. file_at limit Truncated BadField (input_bounds s) []) after_input file input_reads input_goes_on files (first_left level n) (first_good level n upper) (inputs_turn files is) k left) m lt;
    }

-- ---- ranges

-- both keys are within a limit
abbrev pub HasEndsWithin : ℕ → KeyRange → Type 0
HasEndsWithin limit r = IsKey limit r.lo × IsKey limit r.hi

abbrev AreDeeperWithin : ℕ → List KeyRange → Type 0
AreDeeperWithin limit rs = AreDeeper rs × All (HasEndsWithin limit) rs

module _ (limit : ℕ) (low : limit ≤ MAX_KEY_BYTES) where
  range_reads : Reads Truncated (range_at limit) range (λ r. AreKeys r.lo r.hi × HasEndsWithin limit r)
  unfolding range_at
  range_reads = whole range (λ r. AreKeys r.lo r.hi × HasEndsWithin limit r) (λ r is. simp (append_assoc, append-nil) refl)
      (λ r rules.
      let first : IsKey limit r.lo = rules.0 in
      let last : IsKey limit r.hi = rules.1.0 in (
        record {
          first = (first.0, (let h = first.1 in omega (arith, h, low)));
          last = (last.0, (let h = last.1 in omega (arith, h, low)));
          ordered = not-false (key_le r.lo r.hi) rules.1.1.0;
        },
        (first, last),
      ))
      (λ r is. (is.1.0, (is.1.1, (ap not is.0.ordered, tt))))
      (field _ (λ (r : KeyRange). r.lo) (key_reads Truncated BadField limit (omega (arith, low))) (λ lo _.
      field _ (λ (r : KeyRange). r.hi) (key_reads Truncated BadField limit (omega (arith, low))) (λ hi _.
      unless _ BadField (not (key_le lo hi)) (λ (r : KeyRange). not (key_le r.lo r.hi)) (λ r known i. not (key_le (known.0.1 i) (known.1 i))) (
      done (λ r. Unit {0}) (record { lo = lo; hi = hi }) ((tt, refl), refl) tt (λ r known is i. record { lo = known.0.1 i; hi = known.1 i })))))

  ranges_reads : Reads Truncated (ranges_at limit) ranges (AreDeeperWithin limit)
  unfolding ranges_at
  ranges_reads = reads_as (λ rs is. (record { few = is.1; each = λ k d lt. (is.2 k d lt).0 }, λ k d lt. (is.2 k d lt).1)) (λ rs is. (omega arith, is.0.few, λ k d lt. (is.0.each k d lt, is.1 k d lt)))
      (counted_each (λ r. AreKeys r.lo r.hi × HasEndsWithin limit r) (range_at limit) range range_reads 0 MAX_DEEPER (omega arith))

-- ---- jobs

abbrev fields_spelled : JobParts → List ℕ
fields_spelled j = job_id j.id ++ (to_be_bytes w8 j.level ++ (to_be_bytes w32 j.block ++ (points j.points ++ (spelled_inputs j.inputs ++ (ranges j.deeper ++ [])))))

abbrev FieldRules : ℕ → JobParts → Type 0
FieldRules limit j =
    IsJobId j.id × (((0 ≤ j.level) × (j.level ≤ MAX_JOB_LEVEL)) × (((1 ≤ j.block) × (j.block ≤ MAX_TABLE_BYTES)) × (AreSentPoints j.points × (AreInputsWithin limit j.level j.inputs × (AreDeeperWithin limit j.deeper × Unit {0})))))

-- the keys of a job are within a limit
abbrev pub JobHasKeysWithin : ℕ → JobParts → Type 0
JobHasKeysWithin limit j = All (HasKeysWithin limit) j.inputs × All (HasEndsWithin limit) j.deeper

-- the keys of any job are within the greatest limit
pub job_within : (j : JobParts) → IsJob j → JobHasKeysWithin MAX_KEY_BYTES j
job_within j is = (λ k d lt. let f = (is.inputs.each k d lt).file in (f.smallest, f.largest), λ k d lt. let r = is.deeper.each k d lt in (r.first, r.last))

module _ (limit : ℕ) (low : limit ≤ MAX_KEY_BYTES) where
  job_goes : Goes Truncated (λ j. Unit {0}) (job_at limit) fields_spelled (FieldRules limit)
  unfolding job_at
  job_goes =
      field _ (λ (j : JobParts). j.id) job_id_reads (λ id _.
      field _ (λ (j : JobParts). j.level) (within_reads Truncated BadField w8 (2 ^ 8) wide8 0 MAX_JOB_LEVEL (omega arith)) (λ level upper.
      field _ (λ (j : JobParts). j.block) (within_reads Truncated BadField w32 (2 ^ 32) wide32 1 MAX_TABLE_BYTES (omega arith)) (λ block _.
      field _ (λ (j : JobParts). j.points) points_reads (λ ps _.
      field_as _ (λ (j : JobParts). j.inputs) (λ j. AreInputsWithin limit j.level j.inputs) (λ j known is. subst (λ (n : ℕ). AreInputsWithin limit n j.inputs) (sym known.0.0.1) is) (λ j known is. subst (λ (n : ℕ). AreInputsWithin limit n j.inputs) known.0.0.1 is) (inputs_reads limit low level upper.1) (λ inputs _.
      field _ (λ (j : JobParts). j.deeper) (ranges_reads limit low) (λ deeper _.
      done (λ j. Unit {0}) (record { id = id; level = level; block = block; points = ps; inputs = inputs; deeper = deeper })
      ((((((tt, refl), refl), refl), refl), refl), refl) tt
      (λ j known is i. record { id = known.0.0.0.0.0.1 i; level = known.0.0.0.0.1 i; block = known.0.0.0.1 i; points = known.0.0.1 i; inputs = known.0.1 i; deeper = known.1 i })))))))

  pub job_reads : Reads Truncated (job_at limit) job (λ j. (IsJob j × AreSequences j.points) × JobHasKeysWithin limit j)
  job_reads = whole job (λ j. (IsJob j × AreSequences j.points) × JobHasKeysWithin limit j) (λ j is. simp (append_assoc, append-nil) refl)
      (λ j r. ((record { id = r.0; level = r.1.0.1; some_block = r.1.1.0.0; most_block = r.1.1.0.1; points = r.1.1.1.0.0; inputs = r.1.1.1.1.0.0; deeper = r.1.1.1.1.1.0.0 }, r.1.1.1.0.1), (r.1.1.1.1.0.1, r.1.1.1.1.1.0.1)))
      (λ j is. let own = is.0.0 in (own.id, ((omega arith, own.level), ((own.some_block, own.most_block), ((own.points, is.0.1), ((own.inputs, is.1.0), ((own.deeper, is.1.1), tt)))))))
      job_goes
