-- A decoded base encodes to the bytes, and what encodes to the bytes is decoded.
use Rattle.std.proofs.Common.{◌≡◌, ℕ, ◌-◌, ◌^◌, ◌<◌, ◌≤◌, cond, eqb, List, [], ◌++◌, length, take, Result, Ok, Err, refl, sym, ap, subst, ◌∙◌, append_assoc, arith}
use Rattle.std.specs.Int.{w32, w64, to_be_bytes}
use Rattle.std.specs.List.{All}
use Rattle.std.specs.Prelude.{IfOk}
use Rattle.std.proofs.lemmas.List.{append-nil, nil_from_length}
use Rattle.std.proofs.lemmas.Bool.{eqb-true}
use Rattle.lsm_key.specs.declared.limits.TheConstants.{MAX_KEY_BYTES, MAX_NUMBER}
use Rattle.lsm_key.specs.declared.refused.Refused.{Refused}
use Rattle.lsm_key.specs.Reading.{Gives}
use Rattle.lsm_key.proofs.FieldLaws.{IsBytes, bind_ok, guard_held, ok_is, wide32, wide64}
use Rattle.lsm_key.proofs.ReaderLaws.{Reads, Goes, field, field_as, done, reads_as, whole, within_reads}
use Rattle.lsm_edit.specs.declared.file.FileBounds.{FileBounds}
use Rattle.lsm_edit.specs.declared.file.FileMeta.{FileMeta}
use Rattle.lsm_edit.specs.declared.format.FormatFault.{FormatFault}
use Rattle.lsm_edit.specs.declared.format.FormatFault.TheVariants.{Truncated, BadField, TrailingBytes}
use Rattle.lsm_edit.specs.File.{file, file_at}
use Rattle.lsm_edit.specs.Edit.{added_bytes}
use Rattle.lsm_edit.specs.Base.{IsBase, IsSpelledBase, base, base_at, listed_at, read_base, after_version_file}
use Rattle.lsm_edit.specs.Version.{VersionValue}
use Rattle.lsm_edit.proofs.FileLaws.{AreBounds, HasKeysWithin, IsNextFile, all_within, file_reads}
use Rattle.lsm_edit.proofs.ItemsInTurn.{counted_reads, turn_both, turn_parts}
use Rattle.lsm_edit.proofs.VersionFiles.{AreVersionFiles, all_files, version_each, version_rises, version_apart, version_in_turn}

-- the bounds of the files of a version
abbrev pub version_bounds : ℕ → FileBounds
version_bounds next_file = record { least = 1; most = next_file - 1; lowest = 0; deepest = 6 }

-- as many files as four bytes count, with keys within a limit
abbrev AreCounted : ℕ → ℕ → List FileMeta → Type 0
AreCounted limit next_file files = (0 ≤ length files) × (length files ≤ 4294967295) × AreVersionFiles (version_bounds next_file, []) files × All (HasKeysWithin limit) files

abbrev fields_spelled : VersionValue → List ℕ
fields_spelled v =
    to_be_bytes w64 v.number ++ (to_be_bytes w64 v.flushed ++ (to_be_bytes w64 v.epoch ++ (to_be_bytes w64 v.next_file ++ (added_bytes v.files ++ []))))

abbrev FieldRules : ℕ → VersionValue → Type 0
FieldRules limit v =
    ((1 ≤ v.number) × (v.number ≤ MAX_NUMBER)) × (((0 ≤ v.flushed) × (v.flushed ≤ 2 ^ 56 - 1)) × (((1 ≤ v.epoch) × (v.epoch ≤ MAX_NUMBER)) × (((1 ≤ v.next_file) × (v.next_file ≤ MAX_NUMBER))
    × (AreCounted limit v.next_file v.files × Unit {0}))))

-- a base whose files are counted in four bytes
abbrev pub IsCountedBase : VersionValue → Type 0
IsCountedBase v = IsBase v × (length v.files < 2 ^ 32)

-- a base whose keys are within a limit
abbrev pub IsBaseWithin : ℕ → VersionValue → Type 0
IsBaseWithin limit v = IsCountedBase v × All (HasKeysWithin limit) v.files

-- the keys of any base are within the greatest limit
pub base_within : (v : VersionValue) → IsCountedBase v → IsBaseWithin MAX_KEY_BYTES v
base_within v is = (is, all_within v.files (all_files v.files is.0.version.files))

module _ (limit : ℕ) where
  base_is : (v : VersionValue) → FieldRules limit v → IsBaseWithin limit v
  base_is v r =
      let files = r.1.1.1.1.0 in
      let from : FileBounds × List FileMeta = (version_bounds v.next_file, []) in (
        (
          record {
            number = r.0.0;
            epoch = r.1.1.0.0;
            version = record {
              number = r.0.1;
              flushed = (let h = r.1.0.1 in omega (arith, h));
              epoch = r.1.1.0.1;
              some_file = r.1.1.1.0.0;
              next_file = r.1.1.1.0.1;
              files = λ f m. (version_each from v.files files.2 f m).0;
              below = λ f m. (let most = (version_each from v.files files.2 f m).2 in let some = r.1.1.1.0.0 in omega (arith, most, some));
              rising = version_rises from v.files files.2;
              disjoint = version_apart from v.files files.2;
            };
          },
          (let few = files.1 in omega (arith, few)),
        ),
        files.3,
      )

  rules_of : (v : VersionValue) → IsBaseWithin limit v → FieldRules limit v
  rules_of v within =
      let is = within.0 in
      let own = is.0.version in
      let from : FileBounds × List FileMeta = (version_bounds v.next_file, []) in (
        (is.0.number, own.number),
        (
          (omega arith, (let h = own.flushed in omega (arith, h))),
          (
            (is.0.epoch, own.epoch),
            (
              (own.some_file, own.next_file),
              (
                (
                  omega arith,
                  (let few = is.1 in omega (arith, few)),
                  version_in_turn from v.files
                      (λ f m. let file = own.files f m in (file, file.first, (let below = own.below f m in omega (arith, below)), omega arith, file.level))
                      own.rising own.disjoint (λ g m f n. absurd m),
                  within.1,
                ),
                tt,
              ),
            ),
          ),
        ),
      )

module _ {F : Type 0} (short bad : F) (limit : ℕ) (low : limit ≤ MAX_KEY_BYTES) where
  files_reads : (next_file : ℕ) → 1 ≤ next_file → next_file ≤ MAX_NUMBER
      → Reads short (listed_at limit short bad next_file) added_bytes (AreCounted limit next_file)
  unfolding listed_at
  files_reads next_file some most = reads_as
      (λ files is. let parts = turn_parts (λ s. IsNextFile s.0 s.1) after_version_file (HasKeysWithin limit) (version_bounds next_file, []) files is.2 in (is.0, is.1, parts.0, parts.1))
      (λ files is. (is.0, is.1, turn_both (λ s. IsNextFile s.0 s.1) after_version_file (HasKeysWithin limit) (version_bounds next_file, []) files is.2 is.3))
      (counted_reads (λ (s : FileBounds × List FileMeta). AreBounds s.0) (λ s f. IsNextFile s.0 s.1 f × HasKeysWithin limit f) (λ s. file_at limit short bad s.0 s.1) after_version_file file (λ s good. file_reads limit short bad s.0 s.1 low good)
      (λ s f good is. record { some = omega arith; most = good.most; deepest = good.deepest })
      bad w32 (2 ^ 32) wide32 0 4294967295 (version_bounds next_file, []) (omega arith) (record { some = omega arith; most = omega (arith, most); deepest = omega arith }))

  base_goes : Goes short (λ v. Unit {0}) (base_at limit short bad) fields_spelled (FieldRules limit)
  unfolding base_at
  base_goes =
      field _ (λ (v : VersionValue). v.number) (within_reads short bad w64 (2 ^ 64) wide64 1 MAX_NUMBER (omega arith)) (λ number _.
      field _ (λ (v : VersionValue). v.flushed) (within_reads short bad w64 (2 ^ 64) wide64 0 (2 ^ 56 - 1) (omega arith)) (λ flushed _.
      field _ (λ (v : VersionValue). v.epoch) (within_reads short bad w64 (2 ^ 64) wide64 1 MAX_NUMBER (omega arith)) (λ epoch _.
      field _ (λ (v : VersionValue). v.next_file) (within_reads short bad w64 (2 ^ 64) wide64 1 MAX_NUMBER (omega arith)) (λ next_file within.
      field_as _ (λ (v : VersionValue). v.files) (λ v. AreCounted limit v.next_file v.files) (λ v known is. subst (λ (n : ℕ). AreCounted limit n v.files) (sym known.1) is) (λ v known is. subst (λ (n : ℕ). AreCounted limit n v.files) known.1 is) (files_reads next_file within.0 within.1) (λ files _.
      done (λ v. Unit {0}) (record { number = number; flushed = flushed; epoch = epoch; next_file = next_file; files = files })
      (((((tt, refl), refl), refl), refl), refl) tt
      (λ v known is i. record { number = known.0.0.0.0.1 i; flushed = known.0.0.0.1 i; epoch = known.0.0.1 i; next_file = known.0.1 i; files = known.1 i }))))))

  pub base_reads : Reads short (base_at limit short bad) base (IsBaseWithin limit)
  base_reads = whole base (IsBaseWithin limit) (λ v is. simp (append_assoc, append-nil) refl) (base_is limit) (rules_of limit) base_goes

reads : Reads Truncated (base_at MAX_KEY_BYTES Truncated BadField) base (IsBaseWithin MAX_KEY_BYTES)
reads = base_reads Truncated BadField MAX_KEY_BYTES (omega arith)

pub base_takes : (bytes : List ℕ) (v : VersionValue) → IsBytes bytes → read_base bytes ≡ Ok v → IsSpelledBase bytes v
unfolding read_base
base_takes bytes v fits h =
    let a = bind_ok (base_at MAX_KEY_BYTES Truncated BadField bytes) (λ x. cond (eqb (length x.1) 0) (Ok x.0) (Err TrailingBytes)) v h in
    let g = guard_held (eqb (length a.0.1) 0) TrailingBytes (Ok a.0.0) v a.2 in
    let t = reads.takes bytes a.0 fits a.1 in
    let none : a.0.1 ≡ [] = nil_from_length a.0.1 (eqb-true _ _ g.0) in
    let same = ok_is {F = FormatFault} a.0.0 v g.1 in
    subst (λ (x : VersionValue). IsSpelledBase bytes x) same (record { sound = t.1.0.0; few = t.1.0.1; spelled = t.0.parts ∙ ap (λ (rest : List ℕ). base a.0.0 ++ rest) none ∙ append-nil (base a.0.0) })

pub base_again : (bytes : List ℕ) (v : VersionValue) → IsSpelledBase bytes v → read_base bytes ≡ Ok v
unfolding read_base
base_again bytes v is =
    let a : base_at MAX_KEY_BYTES Truncated BadField bytes ≡ Ok (v, []) = ap (base_at MAX_KEY_BYTES Truncated BadField) (is.spelled ∙ sym (append-nil (base v))) ∙ reads.again v [] (base_within v (is.sound, is.few)) in
    rw a refl

pub base_cut : (bytes : List ℕ) (v : VersionValue) (n : ℕ) → IsSpelledBase bytes v → n < length bytes → read_base (take n bytes) ≡ Err Truncated
unfolding read_base
base_cut bytes v n is lt =
    let a : base_at MAX_KEY_BYTES Truncated BadField (take n bytes) ≡ Err Truncated =
    ap (λ (text : List ℕ). base_at MAX_KEY_BYTES Truncated BadField (take n text)) is.spelled ∙ reads.cuts v (base_within v (is.sound, is.few)) n (subst (λ (text : List ℕ). n < length text) is.spelled lt) in
    rw a refl

pub base_found : (bytes : List ℕ) (r : Result VersionValue (Refused FormatFault)) → IsBytes bytes → Gives (λ b. b) r (read_base bytes) → IfOk r (λ v. IsSpelledBase bytes v)
base_found bytes (Ok v) fits given = base_takes bytes v fits given
base_found bytes (Err f) fits given = tt

-- other bytes are no base's, or another's
pub other_base : (bytes other : List ℕ) (v : VersionValue) → IsSpelledBase bytes v → IsBytes other → (other ≡ bytes → ⊥) → IfOk (read_base other) (λ changed. IsSpelledBase other changed × (changed ≡ v → ⊥))
other_base bytes other v is fits differ = by (read_base other) refl
  where
    by : (r : Result VersionValue FormatFault) → read_base other ≡ r → IfOk r (λ changed. IsSpelledBase other changed × (changed ≡ v → ⊥))
    by (Ok changed) read = (let own = base_takes other changed fits read in (own, λ same. differ (own.spelled ∙ ap base same ∙ sym is.spelled)))
    by (Err fault) read = tt
