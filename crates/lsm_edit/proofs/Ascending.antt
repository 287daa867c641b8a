-- Numbers and files that are read in turn are those that ascend.
use Rattle.std.proofs.Common.{◌≡◌, ℕ, zero, suc, ◌+◌, ◌<◌, ◌≤◌, List, [], ◌∷◌, length, arith}
use Rattle.std.specs.List.{All, AllPairs}
use Rattle.lsm_key.specs.declared.limits.TheConstants.{MAX_NUMBER}
use Rattle.lsm_edit.specs.declared.edit.EditKind.{EditKind}
use Rattle.lsm_edit.specs.declared.file.FileBounds.{FileBounds}
use Rattle.lsm_edit.specs.declared.file.FileMeta.{FileMeta}
use Rattle.lsm_edit.specs.Edit.{AreAdded, AreRemoved, after_file, after_number, shape}
use Rattle.lsm_edit.specs.File.{IsFile}
use Rattle.lsm_edit.proofs.ItemsInTurn.{AreInTurn}

-- ---- numbers

-- a number of a range
abbrev pub IsNumberFrom : ℕ → ℕ → ℕ → Type 0
IsNumberFrom most least n = (least ≤ n) × (n ≤ most)

module _ (most : ℕ) where
  pub numbers_each : (least : ℕ) (ns : List ℕ) → AreInTurn (IsNumberFrom most) after_number least ns → All (IsNumberFrom most least) ns
  numbers_each least [] is k d lt = absurd (omega (arith, lt))
  numbers_each least (n ∷ ns) is zero d lt = is.0
  numbers_each least (n ∷ ns) is (suc k) d lt =
      let low = is.0.0 in
      let later = numbers_each (n + 1) ns is.1 k d (omega (arith, lt)) in
      ((let more = later.0 in omega (arith, low, more)), later.1)

  pub numbers_ascend : (least : ℕ) (ns : List ℕ) → AreInTurn (IsNumberFrom most) after_number least ns → AllPairs (λ m n. m < n) ns
  numbers_ascend least [] is i j d lt within = absurd (omega (arith, within))
  numbers_ascend least (n ∷ ns) is i zero d lt within = absurd (omega (arith, lt))
  numbers_ascend least (n ∷ ns) is zero (suc j) d lt within = let more = (numbers_each (n + 1) ns is.1 j d (omega (arith, within))).0 in omega (arith, more)
  numbers_ascend least (n ∷ ns) is (suc i) (suc j) d lt within = numbers_ascend (n + 1) ns is.1 i j d (omega (arith, lt)) (omega (arith, within))

  pub numbers_in_turn : (least : ℕ) (ns : List ℕ) → All (IsNumberFrom most least) ns → AllPairs (λ m n. m < n) ns → AreInTurn (IsNumberFrom most) after_number least ns
  numbers_in_turn least [] each ascend = tt
  numbers_in_turn least (n ∷ ns) each ascend = (
    each zero n (omega arith),
    numbers_in_turn (n + 1) ns
        (λ k d lt. ((let more = ascend zero (suc k) d (omega arith) (omega (arith, lt)) in omega (arith, more)), (each (suc k) d (omega (arith, lt))).1))
        (λ i j d lt within. ascend (suc i) (suc j) d (omega (arith, lt)) (omega (arith, within))),
  )

pub removed_of_turn : (kind : EditKind) (ns : List ℕ) → (shape kind).least_removed ≤ length ns → length ns ≤ (shape kind).most_removed → AreInTurn (IsNumberFrom MAX_NUMBER) after_number 1 ns → AreRemoved kind ns
removed_of_turn kind ns least most is = (least, most, numbers_each MAX_NUMBER 1 ns is, numbers_ascend MAX_NUMBER 1 ns is)

pub turn_of_removed : (kind : EditKind) (ns : List ℕ) → AreRemoved kind ns → AreInTurn (IsNumberFrom MAX_NUMBER) after_number 1 ns
turn_of_removed kind ns is = numbers_in_turn MAX_NUMBER 1 ns is.2 is.3

-- ---- files

-- a file within bounds
abbrev pub IsFileFrom : FileBounds → FileMeta → Type 0
IsFileFrom from f = IsFile f × (from.least ≤ f.number) × (f.number ≤ from.most) × (from.lowest ≤ f.level) × (f.level ≤ from.deepest)

abbrev IsNextFile : FileMeta → FileMeta → Type 0
IsNextFile f g = (f.number < g.number) × (f.level ≡ g.level)

files_each : (from : FileBounds) (files : List FileMeta) → AreInTurn IsFileFrom after_file from files → All (IsFileFrom from) files
files_each from [] is k d lt = absurd (omega (arith, lt))
files_each from (f ∷ files) is zero d lt = is.0
files_each from (f ∷ files) is (suc k) d lt =
    let own = is.0 in
    let later = files_each (after_file from f) files is.1 k d (omega (arith, lt)) in
    (later.0, (let a = later.1 in let b = own.1 in omega (arith, a, b)), later.2, (let a = later.3 in let b = own.3 in omega (arith, a, b)), (let a = later.4 in let b = own.4 in omega (arith, a, b)))

files_ascend : (from : FileBounds) (files : List FileMeta) → AreInTurn IsFileFrom after_file from files → AllPairs IsNextFile files
files_ascend from [] is i j d lt within = absurd (omega (arith, within))
files_ascend from (f ∷ files) is i zero d lt within = absurd (omega (arith, lt))
files_ascend from (f ∷ files) is zero (suc j) d lt within =
    let later = files_each (after_file from f) files is.1 j d (omega (arith, within)) in
    ((let a = later.1 in omega (arith, a)), (let a = later.3 in let b = later.4 in omega (arith, a, b)))
files_ascend from (f ∷ files) is (suc i) (suc j) d lt within = files_ascend (after_file from f) files is.1 i j d (omega (arith, lt)) (omega (arith, within))

files_in_turn : (from : FileBounds) (files : List FileMeta) → All (IsFileFrom from) files → AllPairs IsNextFile files → AreInTurn IsFileFrom after_file from files
files_in_turn from [] each ascend = tt
files_in_turn from (f ∷ files) each ascend = (
  each zero f (omega arith),
  files_in_turn (after_file from f) files
      (λ k d lt.
      let next = ascend zero (suc k) d (omega arith) (omega (arith, lt)) in
      let own = each (suc k) d (omega (arith, lt)) in
      (own.0, (let a = next.0 in omega (arith, a)), own.2, (let b = next.1 in omega (arith, b)), (let b = next.1 in omega (arith, b))))
      (λ i j d lt within. ascend (suc i) (suc j) d (omega (arith, lt)) (omega (arith, within))),
)

-- where the added files of an edit begin
abbrev pub added_bounds : EditKind → FileBounds
added_bounds kind = record { least = 1; most = MAX_NUMBER; lowest = (shape kind).lowest; deepest = (shape kind).deepest }

pub added_of_turn : (kind : EditKind) (files : List FileMeta) → (shape kind).least_added ≤ length files → length files ≤ (shape kind).most_added
    → AreInTurn IsFileFrom after_file (added_bounds kind) files → AreAdded kind files
added_of_turn kind files least most is =
    let each = files_each (added_bounds kind) files is in
    let ascend = files_ascend (added_bounds kind) files is in
    (least, most, (λ k d lt. (each k d lt).0), (λ k d lt. let own = each k d lt in (own.3, own.4)), (λ i j d lt within. (ascend i j d lt within).0), (λ i j d lt within. (ascend i j d lt within).1))

pub turn_of_added : (kind : EditKind) (files : List FileMeta) → AreAdded kind files → AreInTurn IsFileFrom after_file (added_bounds kind) files
turn_of_added kind files is =
    files_in_turn (added_bounds kind) files
    (λ k d lt. (is.2 k d lt, (is.2 k d lt).first, (is.2 k d lt).last, (is.3 k d lt).0, (is.3 k d lt).1))
    (λ i j d lt within. (is.4 i j d lt within, is.5 i j d lt within))
