-- A decoded file record encodes to the bytes, and what encodes to the bytes is decoded.
use Rattle.std.proofs.Common.{◌≡◌, ℕ, ◌^◌, ◌≤◌, ◌||◌, Bool, true, false, not, List, [], ◌++◌, Ok, refl, ap, subst, append_assoc, arith}
use Rattle.std.specs.Int.{w8, w32, w64, to_be_bytes}
use Rattle.std.specs.List.{All, list_any}
use Rattle.std.proofs.lemmas.Bool.{not-false, or_parts, or_from}
use Rattle.lsm_key.specs.declared.limits.TheConstants.{MAX_KEY_BYTES, MAX_NUMBER, MAX_TABLE_BYTES}
use Rattle.lsm_key.specs.Order.{key_le}
use Rattle.lsm_key.specs.Spelling.{key, IsKey}
use Rattle.lsm_key.specs.Reading.{ranged_number_at, key_at}
use Rattle.lsm_key.proofs.FieldLaws.{bind_ok, guard_ok, within_range, ok_is, wide8, wide32, wide64}
use Rattle.lsm_key.proofs.ReaderLaws.{Reads, Goes, field, unless, done, whole, within_reads, key_reads}
use Rattle.lsm_edit.specs.declared.file.FileBounds.{FileBounds}
use Rattle.lsm_edit.specs.declared.file.FileMeta.{FileMeta}
use Rattle.lsm_edit.specs.File.{IsFile, file, file_at, meets_file}
use Rattle.lsm_edit.proofs.Ascending.{IsFileFrom}

abbrev spelled : FileMeta → List ℕ
spelled f = to_be_bytes w64 f.number ++ (to_be_bytes w8 f.level ++ (key f.smallest ++ (key f.largest ++ (to_be_bytes w32 f.bytes ++ (to_be_bytes w32 f.entries ++ [])))))

-- the file overlaps an earlier one of its level
abbrev pub meets_earlier : List FileMeta → FileMeta → Bool
meets_earlier earlier f = list_any (meets_file f.level f.smallest f.largest) earlier

abbrev Rules : ℕ → FileBounds → List FileMeta → FileMeta → Type 0
Rules limit within earlier f =
    ((within.least ≤ f.number) × (f.number ≤ within.most)) × (((within.lowest ≤ f.level) × (f.level ≤ within.deepest)) × (IsKey limit f.smallest × (IsKey limit f.largest
    × (((not (key_le f.smallest f.largest) || meets_earlier earlier f) ≡ false) × (((1 ≤ f.bytes) × (f.bytes ≤ MAX_TABLE_BYTES)) × (((1 ≤ f.entries) × (f.entries ≤ 4294967295)) × Unit {0}))))))

-- bounds that a file record can meet
pub record AreBounds (within : FileBounds) : Type 0 where
  pub some : 1 ≤ within.least
  pub most : within.most ≤ MAX_NUMBER
  pub deepest : within.deepest ≤ 6

-- both keys are within a limit
abbrev pub HasKeysWithin : ℕ → FileMeta → Type 0
HasKeysWithin limit f = IsKey limit f.smallest × IsKey limit f.largest

-- the keys of any file are within the greatest limit
pub all_within : (files : List FileMeta) → All IsFile files → All (HasKeysWithin MAX_KEY_BYTES) files
all_within files are k d lt = ((are k d lt).smallest, (are k d lt).largest)

-- a file within bounds that overlaps no earlier one
abbrev pub IsNextFile : FileBounds → List FileMeta → FileMeta → Type 0
IsNextFile within earlier f = IsFileFrom within f × (meets_earlier earlier f ≡ false)

module _ {F : Type 0} (limit : ℕ) (short bad : F) (within : FileBounds) (earlier : List FileMeta) where
  goes : limit ≤ MAX_KEY_BYTES → AreBounds within → Goes short (λ f. Unit {0}) (file_at limit short bad within earlier) spelled (Rules limit within earlier)
  unfolding file_at
  goes low are =
      field _ (λ (f : FileMeta). f.number) (within_reads short bad w64 (2 ^ 64) wide64 within.least within.most (let m = are.most in omega (arith, m))) (λ number _.
      field _ (λ (f : FileMeta). f.level) (within_reads short bad w8 (2 ^ 8) wide8 within.lowest within.deepest (let d = are.deepest in omega (arith, d))) (λ level _.
      field _ (λ (f : FileMeta). f.smallest) (key_reads short bad limit (omega (arith, low))) (λ smallest _.
      field _ (λ (f : FileMeta). f.largest) (key_reads short bad limit (omega (arith, low))) (λ largest _.
      unless _ bad (not (key_le smallest largest) || list_any (meets_file level smallest largest) earlier) (λ (f : FileMeta). not (key_le f.smallest f.largest) || meets_earlier earlier f)
      (λ f known i. not (key_le (known.0.1 i) (known.1 i)) || list_any (meets_file (known.0.0.1 i) (known.0.1 i) (known.1 i)) earlier) (
      field _ (λ (f : FileMeta). f.bytes) (within_reads short bad w32 (2 ^ 32) wide32 1 MAX_TABLE_BYTES (omega arith)) (λ size _.
      field _ (λ (f : FileMeta). f.entries) (within_reads short bad w32 (2 ^ 32) wide32 1 4294967295 (omega arith)) (λ entries _.
      done (λ f. Unit {0}) (record { number = number; level = level; smallest = smallest; largest = largest; bytes = size; entries = entries })
      ((((((tt, refl), refl), refl), refl), refl), refl) tt
      (λ f known is i. record { number = known.0.0.0.0.0.1 i; level = known.0.0.0.0.1 i; smallest = known.0.0.0.1 i; largest = known.0.0.1 i; bytes = known.0.1 i; entries = known.1 i }))))))))

  pub file_reads : limit ≤ MAX_KEY_BYTES → AreBounds within → Reads short (file_at limit short bad within earlier) file (λ f. IsNextFile within earlier f × HasKeysWithin limit f)
  file_reads low are = whole file (λ f. IsNextFile within earlier f × HasKeysWithin limit f) (λ f is. simp append_assoc refl)
      (λ f r.
      let parts = or_parts (not (key_le f.smallest f.largest)) (meets_earlier earlier f) r.1.1.1.1.0 in
      let least : IsKey limit f.smallest = r.1.1.0 in
      let greatest : IsKey limit f.largest = r.1.1.1.0 in (
        (
          (
            record {
              first = (let h = r.0.0 in let s = are.some in omega (arith, h, s));
              last = (let h = r.0.1 in let m = are.most in omega (arith, h, m));
              level = (let h = r.1.0.1 in let d = are.deepest in omega (arith, h, d));
              smallest = (least.0, (let h = least.1 in omega (arith, h, low)));
              largest = (greatest.0, (let h = greatest.1 in omega (arith, h, low)));
              ordered = not-false (key_le f.smallest f.largest) parts.0;
              some_bytes = r.1.1.1.1.1.0.0;
              most_bytes = r.1.1.1.1.1.0.1;
              some_entries = r.1.1.1.1.1.1.0.0;
              most_entries = (let h = r.1.1.1.1.1.1.0.1 in omega (arith, h));
            },
            r.0.0,
            r.0.1,
            r.1.0.0,
            r.1.0.1,
          ),
          parts.1,
        ),
        (least, greatest),
      ))
      (λ f is.
      let own = is.0.0 in
      ((own.1, own.2), ((own.3, own.4), (is.1.0, (is.1.1, (or_from (not (key_le f.smallest f.largest)) (meets_earlier earlier f) (ap not own.0.ordered) is.0.1, ((own.0.some_bytes, own.0.most_bytes), ((own.0.some_entries, (let h = own.0.most_entries in omega (arith, h))), tt))))))))
      (goes low are)

  -- the number of a record that was read, whatever the bytes
  pub file_number : (bytes : List ℕ) (z : FileMeta × List ℕ) → file_at limit short bad within earlier bytes ≡ Ok z → z.0.number ≤ within.most
  unfolding file_at
  file_number bytes z e =
      let a = bind_ok (ranged_number_at short bad w64 within.least within.most bytes) _ z e in
      let b = bind_ok (ranged_number_at short bad w8 within.lowest within.deepest a.0.1) _ z a.2 in
      let k = bind_ok (key_at limit short bad b.0.1) _ z b.2 in
      let l = bind_ok (key_at limit short bad k.0.1) _ z k.2 in
      let o = guard_ok (not (key_le k.0.0 l.0.0) || list_any (meets_file b.0.0 k.0.0 l.0.0) earlier) bad _ z l.2 in
      let s = bind_ok (ranged_number_at short bad w32 1 MAX_TABLE_BYTES l.0.1) _ z o.1 in
      let n = bind_ok (ranged_number_at short bad w32 1 4294967295 s.0.1) _ z s.2 in
      let same = ok_is {F = F} _ z n.2 in
      subst (λ (p : FileMeta × List ℕ). p.0.number ≤ within.most) same (within_range short bad w64 within.least within.most bytes a.0 a.1).1

  -- its keys are in order, and it overlaps no earlier file, whatever the bytes
  pub file_apart : (bytes : List ℕ) (z : FileMeta × List ℕ) → file_at limit short bad within earlier bytes ≡ Ok z → (key_le z.0.smallest z.0.largest ≡ true) × (meets_earlier earlier z.0 ≡ false)
  unfolding file_at
  file_apart bytes z e =
      let a = bind_ok (ranged_number_at short bad w64 within.least within.most bytes) _ z e in
      let b = bind_ok (ranged_number_at short bad w8 within.lowest within.deepest a.0.1) _ z a.2 in
      let k = bind_ok (key_at limit short bad b.0.1) _ z b.2 in
      let l = bind_ok (key_at limit short bad k.0.1) _ z k.2 in
      let o = guard_ok (not (key_le k.0.0 l.0.0) || list_any (meets_file b.0.0 k.0.0 l.0.0) earlier) bad _ z l.2 in
      let s = bind_ok (ranged_number_at short bad w32 1 MAX_TABLE_BYTES l.0.1) _ z o.1 in
      let n = bind_ok (ranged_number_at short bad w32 1 4294967295 s.0.1) _ z s.2 in
      let same = ok_is {F = F} _ z n.2 in
      let parts = or_parts (not (key_le k.0.0 l.0.0)) (list_any (meets_file b.0.0 k.0.0 l.0.0) earlier) o.0 in
      subst (λ (p : FileMeta × List ℕ). (key_le p.0.smallest p.0.largest ≡ true) × (meets_earlier earlier p.0 ≡ false)) same (not-false (key_le k.0.0 l.0.0) parts.0, parts.1)
