-- The inputs that a worker holds: how many are missing, and one more of them.
use Rattle.std.proofs.Common.{◌≡◌, ℕ, zero, suc, ◌+◌, ◌<◌, ◌≤◌, Bool, true, false, not, cond, List, [], ◌∷◌, ◌++◌, AllPairs, length, map, take, drop, get_or, Result, Err, is_ok, refl, sym, ap, ◌∙◌, subst, inl, inr, arith}
use Rattle.std.specs.Prelude.{filter, nat_eq, nat_lt, ◌||◌}
use Rattle.std.specs.List.{list_any}
use Rattle.std.specs.List.Sorted.{IsBinarySearchResult, IsNonDecreasing, IsNonDecreasingBy, IsSearchInRange}
use Rattle.std.specs.Ordering.{nat_cmp, ordering_index}
use Rattle.std.proofs.lemmas.Bool.{lt-ltb, le-ltb, ne_eqb, eq-eqb, eqb-true, false_from_ne_true, not-true}
use Rattle.std.proofs.lemmas.Bool.Decides.{nat_tests}
use Rattle.std.proofs.lemmas.Cmp.{ranked}
use Rattle.std.proofs.lemmas.List.Filters.{length-filter_both}
use Rattle.std.proofs.lemmas.List.Kept.{AllPairs-filter}
use Rattle.lsm_key.specs.Sets.{IsIn, is_among}
use Rattle.lsm_key.proofs.AscendingEntries.{IsIn-filter}
use Rattle.lsm_key.proofs.Lists.{IsIn-kept, some_in}
use Rattle.lsm_key.proofs.Membership.{IsIn-at, IsIn-place, IsIn-map, IsIn-mapped}
use Rattle.lsm_table.specs.Tables.{Opened}
use Rattle.lsm_edit.specs.declared.file.FileMeta.{FileMeta}
use Rattle.lsm_edit.specs.declared.served.Placed.{Placed}
use Rattle.lsm_edit.specs.Served.{IsAsRecorded, AreAsRecorded, placed_of}
use Rattle.lsm_edit.specs.Version.{FileNumbersRise}
use Rattle.lsm_edit.proofs.NumberSearch.{searched, files_rise}
use Rattle.lsm_edit.proofs.PlacesInOrder.{as_many}
use Rattle.lsm_msg.specs.declared.job.JobParts.{JobParts}
use Rattle.lsm_msg.specs.Jobs.{IsJob}
use Rattle.lsm_work.specs.Workers.{TaskValue, new_task, numbers_of, missing, received_tables, with_input, IsComplete}
use Rattle.lsm_work.specs.Held.{files_of, task_of, AreHeld, IsSpot, BelongsAt}

-- ---- files with their tables

pub numbers_placed : (fs : List FileMeta) (ts : List Opened) → AreAsRecorded fs ts → numbers_of (placed_of fs ts) ≡ map (λ f. f.number) fs
numbers_placed [] ts h = refl
numbers_placed (f ∷ fs) [] h = absurd h
numbers_placed (f ∷ fs) (t ∷ ts) h = ap (λ (ns : List ℕ). f.number ∷ ns) (numbers_placed fs ts h.1)

pub metas_placed : (fs : List FileMeta) (ts : List Opened) → AreAsRecorded fs ts → map (λ p. p.meta) (placed_of fs ts) ≡ fs
metas_placed [] ts h = refl
metas_placed (f ∷ fs) [] h = absurd h
metas_placed (f ∷ fs) (t ∷ ts) h = ap (λ (gs : List FileMeta). f ∷ gs) (metas_placed fs ts h.1)

pub tables_placed : (fs : List FileMeta) (ts : List Opened) → AreAsRecorded fs ts → map (λ p. p.table) (placed_of fs ts) ≡ ts
tables_placed [] [] h = refl
tables_placed [] (t ∷ ts) h = absurd h
tables_placed (f ∷ fs) [] h = absurd h
tables_placed (f ∷ fs) (t ∷ ts) h = ap (λ (us : List Opened). t ∷ us) (tables_placed fs ts h.1)

pub as_many_numbers : (fs : List FileMeta) → length (map (λ f. f.number) fs) ≡ length fs
as_many_numbers [] = refl
as_many_numbers (f ∷ fs) = omega (arith, as_many_numbers fs)

-- ---- those of a task

module _ (job : JobParts) (ns : List ℕ) (ts : List Opened) (held : AreHeld job ns ts) where
  pub numbers_held : numbers_of (task_of job ns ts).received ≡ ns
  numbers_held = numbers_placed (files_of ns job.inputs) ts held.recorded ∙ held.numbers

  pub missing_is : missing (task_of job ns ts) ≡ filter (λ f. not (is_among ns f.number)) job.inputs
  missing_is = ap (λ (ms : List ℕ). filter (λ f. not (is_among ms f.number)) job.inputs) numbers_held

  pub missing_count : length (missing (task_of job ns ts)) + length ns ≡ length job.inputs
  missing_count =
      let both = length-filter_both (λ (f : FileMeta). is_among ns f.number) (λ f. not (is_among ns f.number)) (λ f. refl) job.inputs in
      let left = ap (λ (fs : List FileMeta). length fs) missing_is in
      let own = ap (λ (ms : List ℕ). length ms) (sym held.numbers) ∙ as_many_numbers (files_of ns job.inputs) in
      omega (arith, both, left, own)

-- ---- a search among numbers

comparisons_rise : (ns : List ℕ) (n : ℕ) → IsNonDecreasing ns → IsNonDecreasingBy (λ m. ordering_index (nat_cmp m n)) ns
comparisons_rise ns n up i j d le lt = (let rises = up i j d le lt in grind (arith, nat_tests))

pub spot_found : (ns : List ℕ) (n place : ℕ) → IsNonDecreasing ns → place ≤ length ns → IsBinarySearchResult (λ m. nat_cmp m n) ns (Err place) → IsSpot ns n place
spot_found ns n place up within parted =
    let halves = parted (comparisons_rise ns n up) in
    record { within = within; parted = (λ k d low lt. ranked (get_or ns k d) n _ (sym (halves.0 k d low lt)), λ k d low lt. ranked (get_or ns k d) n _ (sym (halves.1 k d low lt))) }

-- ---- one more among those in order

module _ {X : Type 0} (number : X → ℕ) (n : ℕ) where
  none_below : (xs : List X) → ((x : X) → IsIn x xs → n < number x) → filter (λ x. nat_lt (number x) n) xs ≡ []
  none_below [] above = refl
  none_below (x ∷ xs) above = (let more = above x (inl refl) in let rest = none_below xs (λ y m. above y (inr m)) in ap (λ (b : Bool). cond b (x ∷ filter (λ y. nat_lt (number y) n) xs) (filter (λ y. nat_lt (number y) n) xs)) (le-ltb (number x) n (omega (arith, more))) ∙ rest)

  all_above : (xs : List X) → ((x : X) → IsIn x xs → n < number x) → filter (λ x. nat_lt n (number x)) xs ≡ xs
  all_above [] above = refl
  all_above (x ∷ xs) above = (let more = above x (inl refl) in let rest = all_above xs (λ y m. above y (inr m)) in ap (λ (b : Bool). cond b (x ∷ filter (λ y. nat_lt n (number y)) xs) (filter (λ y. nat_lt n (number y)) xs)) (lt-ltb n (number x) more) ∙ ap (λ (ys : List X). x ∷ ys) rest)

  spot_above : (xs : List X) → IsSpot (map number xs) n 0 → (x : X) → IsIn x xs → n < number x
  spot_above xs spot x m =
      let at = IsIn-place (number x) (map number xs) (IsIn-map number x xs m) in
      subst (λ (k : ℕ). n < k) at.2 (spot.parted.1 at.0 (number x) (omega arith) at.1)

  spot_later : (x : X) (xs : List X) (place : ℕ) → IsSpot (map number (x ∷ xs)) n (suc place) → IsSpot (map number xs) n place
  spot_later x xs place spot = (let w = spot.within in record {
    within = omega (arith, w);
    parted = (λ k d low lt. spot.parted.0 (suc k) d (omega arith) (omega (arith, lt)), λ k d low lt. spot.parted.1 (suc k) d (omega (arith, low)) (omega (arith, lt)));
  })

  -- the lower ones come before the place, and the upper ones after it
  pub lower_part : (xs : List X) (place : ℕ) → IsSpot (map number xs) n place → filter (λ x. nat_lt (number x) n) xs ≡ take place xs
  lower_part xs zero spot = none_below xs (spot_above xs spot)
  lower_part [] (suc place) spot = refl
  lower_part (x ∷ xs) (suc place) spot = (let low = spot.parted.0 0 0 (omega arith) (omega arith) in ap (λ (b : Bool). cond b (x ∷ filter (λ y. nat_lt (number y) n) xs) (filter (λ y. nat_lt (number y) n) xs)) (lt-ltb (number x) n low) ∙ ap (λ (ys : List X). x ∷ ys) (lower_part xs place (spot_later x xs place spot)))

  pub upper_part : (xs : List X) (place : ℕ) → IsSpot (map number xs) n place → filter (λ x. nat_lt n (number x)) xs ≡ drop place xs
  upper_part xs zero spot = all_above xs (spot_above xs spot)
  upper_part [] (suc place) spot = refl
  upper_part (x ∷ xs) (suc place) spot = (let low = spot.parted.0 0 0 (omega arith) (omega arith) in ap (λ (b : Bool). cond b (x ∷ filter (λ y. nat_lt n (number y)) xs) (filter (λ y. nat_lt n (number y)) xs)) (le-ltb n (number x) (omega (arith, low))) ∙ upper_part xs place (spot_later x xs place spot))

-- a file and its table put among others
module _ (f : FileMeta) (t : Opened) where
  pub placed_insert : (fs : List FileMeta) (ts : List Opened) (k : ℕ) → AreAsRecorded fs ts → placed_of (take k fs ++ f ∷ drop k fs) (take k ts ++ t ∷ drop k ts) ≡ take k (placed_of fs ts) ++ record { meta = f; table = t } ∷ drop k (placed_of fs ts)
  placed_insert fs ts zero h = refl
  placed_insert [] [] (suc k) h = refl
  placed_insert [] (u ∷ ts) (suc k) h = absurd h
  placed_insert (g ∷ fs) [] (suc k) h = absurd h
  placed_insert (g ∷ fs) (u ∷ ts) (suc k) h = ap (λ (ps : List Placed). record { meta = g; table = u } ∷ ps) (placed_insert fs ts k h.1)

  pub recorded_insert : (fs : List FileMeta) (ts : List Opened) (k : ℕ) → AreAsRecorded fs ts → IsAsRecorded f t → AreAsRecorded (take k fs ++ f ∷ drop k fs) (take k ts ++ t ∷ drop k ts)
  recorded_insert fs ts zero h own = (own, h)
  recorded_insert [] [] (suc k) h own = (own, tt)
  recorded_insert [] (u ∷ ts) (suc k) h own = absurd h
  recorded_insert (g ∷ fs) [] (suc k) h own = absurd h
  recorded_insert (g ∷ fs) (u ∷ ts) (suc k) h own = (h.0, recorded_insert fs ts k h.1 own)

pub numbers_insert : (f : FileMeta) (fs : List FileMeta) (k : ℕ) → map (λ g. g.number) (take k fs ++ f ∷ drop k fs) ≡ take k (map (λ g. g.number) fs) ++ f.number ∷ drop k (map (λ g. g.number) fs)
numbers_insert f fs zero = refl
numbers_insert f [] (suc k) = refl
numbers_insert f (g ∷ fs) (suc k) = ap (λ (ns : List ℕ). g.number ∷ ns) (numbers_insert f fs k)

insert_length : (ns : List ℕ) (n k : ℕ) → length (take k ns ++ n ∷ drop k ns) ≡ length ns + 1
insert_length ns n zero = omega arith
insert_length [] n (suc k) = refl
insert_length (m ∷ ns) n (suc k) = omega (arith, insert_length ns n k)

or_turn : (a b c : Bool) → (a || (b || c)) ≡ (b || (a || c))
or_turn true true c = refl
or_turn true false c = refl
or_turn false b c = refl

-- a number put among others is one of them
insert_among : (ns : List ℕ) (n k m : ℕ) → is_among (take k ns ++ n ∷ drop k ns) m ≡ (nat_eq m n || is_among ns m)
insert_among ns n zero m = refl
insert_among [] n (suc k) m = refl
insert_among (x ∷ ns) n (suc k) m = ap (λ (b : Bool). nat_eq m x || b) (insert_among ns n k m) ∙ or_turn (nat_eq m x) (nat_eq m n) (is_among ns m)

-- ---- one input more

abbrev pub lower : ℕ → List FileMeta → List FileMeta
lower n files = filter (λ g. nat_lt g.number n) files

abbrev pub upper : ℕ → List FileMeta → List FileMeta
upper n files = filter (λ g. nat_lt n g.number) files

module _ (ns more : List ℕ) (f : FileMeta) (adds : (m : ℕ) → is_among more m ≡ (nat_eq m f.number || is_among ns m)) (fresh : is_among ns f.number ≡ false) where
  other_same : (g : FileMeta) → (g.number ≡ f.number → ⊥) → is_among more g.number ≡ is_among ns g.number
  other_same g differ = adds g.number ∙ ap (λ (b : Bool). b || is_among ns g.number) (ne_eqb g.number f.number differ)

  later_same : (gs : List FileMeta) → ((g : FileMeta) → IsIn g gs → f.number < g.number) → files_of more gs ≡ files_of ns gs
  later_same [] up = refl
  later_same (g ∷ gs) up =
      let above = up g (inl refl) in
      ap (λ (b : Bool). cond b (g ∷ files_of more gs) (files_of more gs)) (other_same g (λ e. omega (arith, e, above)))
      ∙ ap (λ (hs : List FileMeta). cond (is_among ns g.number) (g ∷ hs) hs) (later_same gs (λ h m. up h (inr m)))

  first_of : (gs : List FileMeta) → ((g : FileMeta) → IsIn g gs → f.number < g.number) → files_of more (f ∷ gs) ≡ lower f.number (files_of ns (f ∷ gs)) ++ f ∷ upper f.number (files_of ns (f ∷ gs))
  first_of gs up =
      let above : (g : FileMeta) → IsIn g (files_of ns gs) → f.number < g.number = λ g m. up g (IsIn-filter (λ (h : FileMeta). is_among ns h.number) g gs m).0 in
      let own : is_among more f.number ≡ true = adds f.number ∙ ap (λ (b : Bool). b || is_among ns f.number) (eq-eqb f.number f.number refl) in
      let without : files_of ns (f ∷ gs) ≡ files_of ns gs = ap (λ (b : Bool). cond b (f ∷ files_of ns gs) (files_of ns gs)) fresh in
      ap (λ (b : Bool). cond b (f ∷ files_of more gs) (files_of more gs)) own
      ∙ ap (λ (hs : List FileMeta). f ∷ hs) (later_same gs up)
      ∙ sym (
      ap (λ (hs : List FileMeta). lower f.number hs ++ f ∷ upper f.number hs) without
      ∙ ap (λ (hs : List FileMeta). hs ++ f ∷ upper f.number (files_of ns gs)) (none_below (λ (h : FileMeta). h.number) f.number (files_of ns gs) above)
      ∙ ap (λ (hs : List FileMeta). f ∷ hs) (all_above (λ (h : FileMeta). h.number) f.number (files_of ns gs) above)
      )

  below-if : (b : Bool) (g : FileMeta) (xs ys : List FileMeta) → g.number < f.number → xs ≡ lower f.number ys ++ f ∷ upper f.number ys
      → cond b (g ∷ xs) xs ≡ lower f.number (cond b (g ∷ ys) ys) ++ f ∷ upper f.number (cond b (g ∷ ys) ys)
  below-if true g xs ys lt e =
      ap (λ (zs : List FileMeta). g ∷ zs) e
      ∙ sym (
      ap (λ (b : Bool). cond b (g ∷ lower f.number ys) (lower f.number ys) ++ f ∷ upper f.number (g ∷ ys)) (lt-ltb g.number f.number lt)
      ∙ ap (λ (b : Bool). g ∷ lower f.number ys ++ f ∷ cond b (g ∷ upper f.number ys) (upper f.number ys)) (le-ltb f.number g.number (omega (arith, lt)))
      )
  below-if false g xs ys lt e = e

  -- the files of one number more
  pub files_more : (gs : List FileMeta) → FileNumbersRise gs → IsIn f gs → files_of more gs ≡ lower f.number (files_of ns gs) ++ f ∷ upper f.number (files_of ns gs)
  files_more [] up m = absurd m
  files_more (g ∷ gs) up m = elim m [
    | inl e ↦ subst (λ (x : FileMeta). files_of more (x ∷ gs) ≡ lower f.number (files_of ns (x ∷ gs)) ++ f ∷ upper f.number (files_of ns (x ∷ gs))) e (first_of gs (λ h n. subst (λ (x : FileMeta). x.number < h.number) (sym e) (up.0 h n)))
    | inr n ↦
        let lt = up.0 f n in
        ap (λ (b : Bool). cond b (g ∷ files_of more gs) (files_of more gs)) (other_same g (λ e. omega (arith, e, lt)))
        ∙ below-if (is_among ns g.number) g (files_of more gs) (files_of ns gs) lt (files_more gs up.1 n)
  ]

rises : (files : List FileMeta) → AllPairs (λ f g. f.number < g.number) files → FileNumbersRise files
rises [] up = tt
rises (f ∷ fs) up = (
  λ g m. let at = IsIn-place g fs m in subst (λ (h : FileMeta). f.number < h.number) at.2 (up 0 (suc at.0) g (omega arith) (omega (arith, at.1))),
  rises fs (λ i j d lt within. up (suc i) (suc j) d (omega (arith, lt)) (omega (arith, within))),
)

full-if : (b : Bool) (x : FileMeta) (xs ys : List FileMeta) → length ys ≤ length xs → length xs + 1 ≤ length (cond b (x ∷ ys) ys) → (length xs ≤ length ys → ys ≡ xs) → cond b (x ∷ ys) ys ≡ x ∷ xs
full-if true x xs ys less full all = ap (λ (zs : List FileMeta). x ∷ zs) (all (omega (arith, full)))
full-if false x xs ys less full all = absurd (omega (arith, less, full))

-- what keeps as many keeps all
filter_full : (p : FileMeta → Bool) (xs : List FileMeta) → length xs ≤ length (filter p xs) → filter p xs ≡ xs
filter_full p [] h = refl
filter_full p (x ∷ xs) h = (let both = length-filter_both p (λ y. not (p y)) (λ y. refl) xs in full-if (p x) x xs (filter p xs) (omega (arith, both)) (omega (arith, h)) (filter_full p xs))

empty_is : (xs : List FileMeta) → length xs ≤ 0 → xs ≡ []
empty_is [] h = refl
empty_is (x ∷ xs) h = absurd (omega (arith, h))

module _ (job : JobParts) (ns : List ℕ) (ts : List Opened) (held : AreHeld job ns ts) (p : Placed) (place : ℕ) (at : BelongsAt (task_of job ns ts) p place) where
  abbrev pub own_files : List FileMeta
  own_files = files_of ns job.inputs

  abbrev pub more_numbers : List ℕ
  more_numbers = take place ns ++ p.meta.number ∷ drop place ns

  abbrev pub more_tables : List Opened
  more_tables = take place ts ++ p.table ∷ drop place ts

  missing_file : IsIn p.meta job.inputs × (not (is_among ns p.meta.number) ≡ true)
  missing_file = IsIn-filter (λ (f : FileMeta). not (is_among ns f.number)) p.meta job.inputs (subst (λ (fs : List FileMeta). IsIn p.meta fs) (missing_is job ns ts held) at.input)

  own_spot : IsSpot (map (λ (f : FileMeta). f.number) own_files) p.meta.number place
  own_spot = subst (λ (ms : List ℕ). IsSpot ms p.meta.number place) (numbers_held job ns ts held ∙ sym held.numbers) at.spot

  files_now : files_of more_numbers job.inputs ≡ take place own_files ++ p.meta ∷ drop place own_files
  files_now =
      files_more ns more_numbers p.meta (insert_among ns p.meta.number place) (not-true (is_among ns p.meta.number) missing_file.1) job.inputs (rises job.inputs held.job.inputs.rising) missing_file.0
      ∙ ap (λ (fs : List FileMeta). fs ++ p.meta ∷ upper p.meta.number own_files) (lower_part (λ (f : FileMeta). f.number) p.meta.number own_files place own_spot)
      ∙ ap (λ (fs : List FileMeta). take place own_files ++ p.meta ∷ fs) (upper_part (λ (f : FileMeta). f.number) p.meta.number own_files place own_spot)

  pub held_more : AreHeld job more_numbers more_tables
  held_more = record {
    job = held.job;
    numbers = ap (λ (fs : List FileMeta). map (λ f. f.number) fs) files_now ∙ numbers_insert p.meta own_files place ∙ ap (λ (ms : List ℕ). take place ms ++ p.meta.number ∷ drop place ms) held.numbers;
    recorded = subst (λ (fs : List FileMeta). AreAsRecorded fs more_tables) (sym files_now) (recorded_insert p.meta p.table own_files ts place held.recorded at.recorded);
  }

  received_more : placed_of (files_of more_numbers job.inputs) more_tables ≡ (with_input p (task_of job ns ts)).received
  received_more =
      let places = placed_of own_files ts in
      ap (λ (fs : List FileMeta). placed_of fs more_tables) files_now ∙ placed_insert p.meta p.table own_files ts place held.recorded
      ∙ sym (
      ap (λ (ps : List Placed). ps ++ p ∷ filter (λ q. nat_lt p.meta.number q.meta.number) places) (lower_part (λ (q : Placed). q.meta.number) p.meta.number places place at.spot)
      ∙ ap (λ (ps : List Placed). take place places ++ p ∷ ps) (upper_part (λ (q : Placed). q.meta.number) p.meta.number places place at.spot)
      )

  pub task_more : task_of job more_numbers more_tables ≡ with_input p (task_of job ns ts)
  task_more = ap (λ (ps : List Placed). record { job = job; received = ps }) received_more

  pub tables_more : received_tables (with_input p (task_of job ns ts)) ≡ more_tables
  tables_more = ap (λ (t : TaskValue). received_tables t) (sym task_more) ∙ tables_placed (files_of more_numbers job.inputs) more_tables held_more.recorded

  pub one_less : length (missing (with_input p (task_of job ns ts))) + 1 ≡ length (missing (task_of job ns ts))
  one_less =
      let before = missing_count job ns ts held in
      let after = missing_count job more_numbers more_tables held_more in
      let same = ap (λ (t : TaskValue). length (missing t)) task_more in
      let long = insert_length ns p.meta.number place in
      omega (arith, before, after, same, long)

  module _ (last : length (missing (task_of job ns ts)) ≤ 1) where
    pub none_missing : missing (with_input p (task_of job ns ts)) ≡ []
    none_missing = empty_is (missing (with_input p (task_of job ns ts))) (omega (arith, last, one_less))

    files_all : files_of more_numbers job.inputs ≡ job.inputs
    files_all =
        let after = missing_count job more_numbers more_tables held_more in
        let same = ap (λ (t : TaskValue). length (missing t)) task_more in
        let numbers = ap (λ (ms : List ℕ). length ms) (sym held_more.numbers) ∙ as_many_numbers (files_of more_numbers job.inputs) in
        filter_full (λ f. is_among more_numbers f.number) job.inputs (omega (arith, after, same, numbers, last, one_less))

    pub complete_more : IsComplete (with_input p (task_of job ns ts))
    complete_more = ap (λ (t : TaskValue). map (λ q. q.meta) t.received) (sym task_more) ∙ metas_placed (files_of more_numbers job.inputs) more_tables held_more.recorded ∙ files_all

    pub recorded_all : AreAsRecorded job.inputs (received_tables (with_input p (task_of job ns ts)))
    recorded_all = subst (λ (us : List Opened). AreAsRecorded job.inputs us) (sym tables_more) (subst (λ (fs : List FileMeta). AreAsRecorded fs more_tables) files_all held_more.recorded)

-- ---- no input yet

no_files : (fs : List FileMeta) → files_of [] fs ≡ []
no_files [] = refl
no_files (f ∷ fs) = no_files fs

pub held_none : (job : JobParts) → IsJob job → AreHeld job [] []
held_none job sound = record {
  job = sound;
  numbers = ap (λ (fs : List FileMeta). map (λ f. f.number) fs) (no_files job.inputs);
  recorded = subst (λ (fs : List FileMeta). AreAsRecorded fs []) (sym (no_files job.inputs)) tt;
}

pub task_none : (job : JobParts) → task_of job [] [] ≡ new_task job
task_none job = ap (λ (fs : List FileMeta). record { job = job; received = placed_of fs [] }) (no_files job.inputs)

-- ---- what searches tell

rise_numbers : (fs : List FileMeta) → FileNumbersRise fs → IsNonDecreasing (map (λ f. f.number) fs)
rise_numbers [] up i j d le lt = absurd (omega (arith, lt))
rise_numbers (f ∷ fs) up zero zero d le lt = omega arith
rise_numbers (f ∷ fs) up zero (suc j) d le lt =
    let at = IsIn-mapped (λ (g : FileMeta). g.number) (get_or (map (λ g. g.number) fs) j d) fs (IsIn-at (map (λ g. g.number) fs) j d (omega (arith, lt))) in
    omega (arith, up.0 at.0 at.1, at.2)
rise_numbers (f ∷ fs) up (suc i) zero d le lt = absurd (omega (arith, le))
rise_numbers (f ∷ fs) up (suc i) (suc j) d le lt = rise_numbers fs up.1 i j d (omega (arith, le)) (omega (arith, lt))

module _ (job : JobParts) (ns : List ℕ) (ts : List Opened) (held : AreHeld job ns ts) where
  pub inputs_rise : FileNumbersRise job.inputs
  inputs_rise = rises job.inputs held.job.inputs.rising

  pub numbers_ascend : IsNonDecreasing ns
  numbers_ascend =
      subst IsNonDecreasing held.numbers (rise_numbers (files_of ns job.inputs) (rises (files_of ns job.inputs) (AllPairs-filter (λ f g. f.number < g.number) (λ f. is_among ns f.number) job.inputs held.job.inputs.rising)))

  pub missing_from : (f : FileMeta) → IsIn f (missing (task_of job ns ts)) → IsIn f job.inputs × (is_among ns f.number ≡ false)
  missing_from f m =
      let both = IsIn-filter (λ (g : FileMeta). not (is_among ns g.number)) f job.inputs (subst (λ (fs : List FileMeta). IsIn f fs) (missing_is job ns ts held) m) in
      (both.0, not-true (is_among ns f.number) both.1)

  pub missing_if : (f : FileMeta) → IsIn f job.inputs → is_among ns f.number ≡ false → IsIn f (missing (task_of job ns ts))
  missing_if f m new = subst (λ (fs : List FileMeta). IsIn f fs) (sym (missing_is job ns ts held)) (IsIn-kept (λ (g : FileMeta). not (is_among ns g.number)) f job.inputs m (ap not new))

  pub tables_many : length ts ≡ length ns
  tables_many =
      let numbers = ap (λ (ms : List ℕ). length ms) (sym held.numbers) ∙ as_many_numbers (files_of ns job.inputs) in
      omega (arith, numbers, as_many (files_of ns job.inputs) ts held.recorded)

-- a search among the numbers
pub among_found : (ns : List ℕ) (n : ℕ) (r : Result ℕ ℕ) → IsNonDecreasing ns → IsSearchInRange r (length ns) → IsBinarySearchResult (λ m. nat_cmp m n) ns r → is_ok r ≡ is_among ns n
among_found ns n r up within position = searched (λ (x : ℕ). x) n (λ x. nat_eq n x) (λ x e. eq-eqb n x (sym e)) (λ x differ. false_from_ne_true (nat_eq n x) (λ h. differ (sym (eqb-true n x h)))) ns r up within position

-- a search among the files
pub file_found : (files : List FileMeta) (n : ℕ) (r : Result ℕ ℕ) → FileNumbersRise files → IsSearchInRange r (length files) → IsBinarySearchResult (λ f. nat_cmp f.number n) files r → is_ok r ≡ list_any (λ f. nat_eq f.number n) files
file_found files n r up within position = searched (λ (f : FileMeta). f.number) n (λ f. nat_eq f.number n) (λ f e. eq-eqb f.number n e) (λ f differ. false_from_ne_true (nat_eq f.number n) (λ h. differ (eqb-true f.number n h))) files r (files_rise files up) within position

module _ (job : JobParts) (ns : List ℕ) (ts : List Opened) (held : AreHeld job ns ts) (p : Placed) (place : ℕ) (at : BelongsAt (task_of job ns ts) p place) where
  pub place_within : place ≤ length ns
  place_within = let within = at.spot.within in let same = ap (λ (ms : List ℕ). length ms) (numbers_held job ns ts held) in omega (arith, within, same)

  pub has_room : length ns + 1 ≤ length job.inputs
  has_room = let some = some_in p.meta (missing (task_of job ns ts)) at.input in let many = missing_count job ns ts held in omega (arith, some, many)

-- what is put in and taken out again leaves the list
remove_inserted : {X : Type 0} (xs : List X) (x : X) (k : ℕ) → k ≤ length xs → take k (take k xs ++ x ∷ drop k xs) ++ drop (suc k) (take k xs ++ x ∷ drop k xs) ≡ xs
remove_inserted xs x zero le = refl
remove_inserted [] x (suc k) le = absurd (omega (arith, le))
remove_inserted {X} (y ∷ xs) x (suc k) le = ap (λ (ys : List X). y ∷ ys) (remove_inserted xs x k (omega (arith, le)))

pub remove_insert : {X : Type 0} (xs : List X) (x : X) (k : ℕ) → k ≤ length xs → take k (take k xs ++ x ∷ drop k xs) ++ drop (k + 1) (take k xs ++ x ∷ drop k xs) ≡ xs
remove_insert xs x k le = let next : k + 1 ≡ suc k = omega arith in ap (λ (j : ℕ). take k (take k xs ++ x ∷ drop k xs) ++ drop j (take k xs ++ x ∷ drop k xs)) next ∙ remove_inserted xs x k le
