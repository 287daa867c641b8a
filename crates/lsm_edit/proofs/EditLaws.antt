-- A decoded edit encodes to the bytes, and what encodes to the bytes is decoded.
use Rattle.std.proofs.Common.{◌≡◌, ℕ, ◌-◌, ◌^◌, ◌<◌, ◌≤◌, cond, eqb, List, [], ◌++◌, length, take, Result, Ok, Err, refl, sym, ap, subst, ◌∙◌, append_assoc, arith, inl, inr}
use Rattle.std.specs.Int.{w8, w32, w64, to_be_bytes}
use Rattle.std.specs.List.{All}
use Rattle.std.proofs.lemmas.List.{append-nil, nil_from_length}
use Rattle.std.proofs.lemmas.Bool.{cases_Bool, eqb-true}
use Rattle.lsm_key.specs.declared.limits.TheConstants.{MAX_KEY_BYTES, MAX_NUMBER}
use Rattle.std.specs.Prelude.{IfOk}
use Rattle.lsm_key.specs.declared.refused.Refused.{Refused}
use Rattle.lsm_key.specs.Reading.{◌>>=◌, number_at, ranged_number_at, Gives}
use Rattle.lsm_key.proofs.Beginnings.{number_cut}
use Rattle.lsm_key.proofs.FieldLaws.{IsBytes, Takes, bind_ok, guard_held, ok_is, wide8, wide32, wide64, number_takes, number_again}
use Rattle.lsm_key.proofs.ReaderLaws.{Reads, Goes, field, field_as, done, whole, within_reads, reads_as}
use Rattle.lsm_edit.specs.declared.file.FileMeta.{FileMeta}
use Rattle.lsm_edit.specs.declared.edit.Edit.{Edit}
use Rattle.lsm_edit.specs.declared.edit.EditKind.{EditKind}
use Rattle.lsm_edit.specs.declared.edit.EditKind.TheVariants.{Flush, Install, Epoch}
use Rattle.lsm_edit.specs.declared.format.FormatFault.{FormatFault}
use Rattle.lsm_edit.specs.declared.format.FormatFault.TheVariants.{Truncated, BadField, TrailingBytes}
use Rattle.lsm_edit.specs.File.{IsFile, file, file_at}
use Rattle.lsm_edit.specs.Edit.{IsEdit, IsSpelledEdit, AreRemoved, AreAdded, after_number, after_file, added_bytes, removed_bytes, edit, edit_kind_code, shape, edit_kind_from, edit_kind_at, removed_at, added_at, edit_at, read_edit}
use Rattle.lsm_edit.proofs.Ascending.{IsFileFrom, IsNumberFrom, added_bounds, added_of_turn, removed_of_turn, turn_of_added, turn_of_removed}
use Rattle.lsm_edit.proofs.FileLaws.{AreBounds, HasKeysWithin, all_within, file_reads}
use Rattle.lsm_edit.proofs.ItemsInTurn.{counted_reads, turn_both, turn_parts}

-- ---- the kind

module _ {F : Type 0} (short bad : F) where
  edit_kind_from-is : (n : ℕ) (k : EditKind) → edit_kind_from bad n ≡ Ok k → n ≡ edit_kind_code k
  edit_kind_from-is n k e = elim (cases_Bool (eqb n 1)) [
    | inl one ↦ eqb-true n 1 one ∙ ap edit_kind_code (ok_is {F = F} Flush k (ap (λ b. cond b (Ok Flush) (cond (eqb n 2) (Ok Install) (cond (eqb n 3) (Ok Epoch) (Err bad)))) (sym one) ∙ e))
    | inr no_one ↦ by_two (ap (λ b. cond b (Ok Flush) (cond (eqb n 2) (Ok Install) (cond (eqb n 3) (Ok Epoch) (Err bad)))) (sym no_one) ∙ e)
  ]
    where
      by_three : cond (eqb n 3) (Ok Epoch) (Err bad) ≡ Ok k → n ≡ edit_kind_code k
      by_three h = let g = guard_held (eqb n 3) bad (Ok Epoch) k h in eqb-true n 3 g.0 ∙ ap edit_kind_code (ok_is {F = F} Epoch k g.1)

      by_two : cond (eqb n 2) (Ok Install) (cond (eqb n 3) (Ok Epoch) (Err bad)) ≡ Ok k → n ≡ edit_kind_code k
      by_two h = elim (cases_Bool (eqb n 2)) [
        | inl two ↦ eqb-true n 2 two ∙ ap edit_kind_code (ok_is {F = F} Install k (ap (λ b. cond b (Ok Install) (cond (eqb n 3) (Ok Epoch) (Err bad))) (sym two) ∙ h))
        | inr no_two ↦ by_three (ap (λ b. cond b (Ok Install) (cond (eqb n 3) (Ok Epoch) (Err bad))) (sym no_two) ∙ h)
      ]

  edit_kind_from-again : (k : EditKind) → edit_kind_from bad (edit_kind_code k) ≡ Ok k
  edit_kind_from-again Flush = refl
  edit_kind_from-again Install = refl
  edit_kind_from-again Epoch = refl

  code_small : (k : EditKind) → edit_kind_code k < 2 ^ 8
  code_small Flush = omega arith
  code_small Install = omega arith
  code_small Epoch = omega arith

  kind_reads : Reads short (edit_kind_at short bad) (λ k. to_be_bytes w8 (edit_kind_code k)) (λ k. Unit {0})
  kind_reads = record {
    takes = λ bytes k fits e.
        let a = bind_ok (number_at short w8 bytes) (λ code. edit_kind_from bad code.0 >>= λ kind. Ok (kind, code.1)) k e in
        let b = bind_ok (edit_kind_from bad a.0.0) (λ kind. Ok (kind, a.0.1)) k a.2 in
        let same = ok_is {F = F} (b.0, a.0.1) k b.2 in
        let t = number_takes short w8 (2 ^ 8) wide8 bytes a.0.0 a.0.1 fits a.1 in
        let text : Takes bytes (to_be_bytes w8 (edit_kind_code b.0)) a.0.1 = subst (λ n. Takes bytes (to_be_bytes w8 n) a.0.1) (edit_kind_from-is a.0.0 b.0 b.1) t.0 in
        (subst (λ (p : EditKind × List ℕ). Takes bytes (to_be_bytes w8 (edit_kind_code p.0)) p.1) same text, tt);
    again = λ k rest is. rw (number_again short w8 (2 ^ 8) wide8 (edit_kind_code k) rest (code_small k), edit_kind_from-again k) refl;
    cuts = λ k is n lt. ap (λ (r : Result (ℕ × List ℕ) F). r >>= λ code. edit_kind_from bad code.0 >>= λ kind. Ok (kind, code.1)) (number_cut short w8 (2 ^ 8) wide8 (edit_kind_code k) n lt);
  }

-- ---- the files that are removed and added

counts_small : (kind : EditKind) → ((shape kind).most_removed < 2 ^ 32) × ((shape kind).most_added < 2 ^ 32)
counts_small Flush = (omega arith, omega arith)
counts_small Install = (omega arith, omega arith)
counts_small Epoch = (omega arith, omega arith)

levels_small : (kind : EditKind) → (shape kind).deepest ≤ 6
levels_small Flush = omega arith
levels_small Install = omega arith
levels_small Epoch = omega arith

pub removed_small : (kind : EditKind) (numbers : List ℕ) → AreRemoved kind numbers → length numbers < 2 ^ 32
removed_small kind numbers is = let small = (counts_small kind).0 in let most = is.1 in omega (arith, small, most)

pub added_small : (kind : EditKind) (files : List FileMeta) → AreAdded kind files → length files < 2 ^ 32
added_small kind files is = let small = (counts_small kind).1 in let most = is.1 in omega (arith, small, most)

-- files that an edit of the kind may add, with keys within a limit
abbrev AreAddedWithin : ℕ → EditKind → List FileMeta → Type 0
AreAddedWithin limit kind files = AreAdded kind files × All (HasKeysWithin limit) files

module _ {F : Type 0} (short bad : F) where
  removed_reads : (kind : EditKind) → Reads short (removed_at short bad kind) removed_bytes (AreRemoved kind)
  unfolding removed_at
  removed_reads kind = reads_as (λ ns is. removed_of_turn kind ns is.0 is.1 is.2) (λ ns is. (is.0, is.1, turn_of_removed kind ns is))
      (counted_reads (λ (from : ℕ). Unit {0}) (IsNumberFrom MAX_NUMBER) (λ from. ranged_number_at short bad w64 from MAX_NUMBER) after_number (to_be_bytes w64) (λ from good. within_reads short bad w64 (2 ^ 64) wide64 from MAX_NUMBER (omega arith)) (λ from n good is. tt)
      bad w32 (2 ^ 32) wide32 (shape kind).least_removed (shape kind).most_removed 1 (counts_small kind).0 tt)

  added_reads : (limit : ℕ) → limit ≤ MAX_KEY_BYTES → (kind : EditKind) → Reads short (added_at limit short bad kind) added_bytes (AreAddedWithin limit kind)
  unfolding added_at
  added_reads limit low kind = reads_as
      (λ files is. let parts = turn_parts IsFileFrom after_file (HasKeysWithin limit) (added_bounds kind) files is.2 in (added_of_turn kind files is.0 is.1 parts.0, parts.1))
      (λ files is. (is.0.0, is.0.1, turn_both IsFileFrom after_file (HasKeysWithin limit) (added_bounds kind) files (turn_of_added kind files is.0) is.1))
      (counted_reads AreBounds (λ from f. IsFileFrom from f × HasKeysWithin limit f) (λ from. file_at limit short bad from []) after_file file
      (λ from good. reads_as (λ f is. (is.0.0, is.1)) (λ f is. ((is.0, refl), is.1)) (file_reads limit short bad from [] low good)) (λ from f good is. record { some = omega arith; most = good.most; deepest = is.0.0.level })
      bad w32 (2 ^ 32) wide32 (shape kind).least_added (shape kind).most_added (added_bounds kind) (counts_small kind).1 (record { some = omega arith; most = omega arith; deepest = levels_small kind }))

pub added_files : (kind : EditKind) (files : List FileMeta) → AreAdded kind files → All IsFile files
added_files kind files is = is.2

-- ---- edits

abbrev fields_spelled : Edit → List ℕ
fields_spelled e =
    to_be_bytes w64 e.number ++ (to_be_bytes w8 (edit_kind_code e.kind) ++ (to_be_bytes w64 e.flushed ++ (to_be_bytes w64 e.epoch ++ (to_be_bytes w64 e.next_file
    ++ (removed_bytes e.removed ++ (added_bytes e.added ++ []))))))

abbrev FieldRules : ℕ → Edit → Type 0
FieldRules limit e =
    ((1 ≤ e.number) × (e.number ≤ MAX_NUMBER)) × (Unit {0} × (((0 ≤ e.flushed) × (e.flushed ≤ 2 ^ 56 - 1)) × (((1 ≤ e.epoch) × (e.epoch ≤ MAX_NUMBER)) × (((1 ≤ e.next_file) × (e.next_file ≤ MAX_NUMBER))
    × (AreRemoved e.kind e.removed × (AreAddedWithin limit e.kind e.added × Unit {0}))))))

-- an edit whose keys are within a limit
abbrev pub IsEditWithin : ℕ → Edit → Type 0
IsEditWithin limit e = IsEdit e × All (HasKeysWithin limit) e.added

-- the keys of any edit are within the greatest limit
pub edit_within : (e : Edit) → IsEdit e → IsEditWithin MAX_KEY_BYTES e
edit_within e is = (is, all_within e.added (added_files e.kind e.added is.added))

module _ {F : Type 0} (short bad : F) (limit : ℕ) (low : limit ≤ MAX_KEY_BYTES) where
  edit_goes : Goes short (λ e. Unit {0}) (edit_at limit short bad) fields_spelled (FieldRules limit)
  unfolding edit_at
  edit_goes =
      field _ (λ (e : Edit). e.number) (within_reads short bad w64 (2 ^ 64) wide64 1 MAX_NUMBER (omega arith)) (λ number _.
      field _ (λ (e : Edit). e.kind) (kind_reads short bad) (λ kind _.
      field _ (λ (e : Edit). e.flushed) (within_reads short bad w64 (2 ^ 64) wide64 0 (2 ^ 56 - 1) (omega arith)) (λ flushed _.
      field _ (λ (e : Edit). e.epoch) (within_reads short bad w64 (2 ^ 64) wide64 1 MAX_NUMBER (omega arith)) (λ epoch _.
      field _ (λ (e : Edit). e.next_file) (within_reads short bad w64 (2 ^ 64) wide64 1 MAX_NUMBER (omega arith)) (λ next_file _.
      field_as _ (λ (e : Edit). e.removed) (λ e. AreRemoved e.kind e.removed) (λ e known is. subst (λ (k : EditKind). AreRemoved k e.removed) (sym known.0.0.0.1) is) (λ e known is. subst (λ (k : EditKind). AreRemoved k e.removed) known.0.0.0.1 is) (removed_reads short bad kind) (λ numbers _.
      field_as _ (λ (e : Edit). e.added) (λ e. AreAddedWithin limit e.kind e.added) (λ e known is. subst (λ (k : EditKind). AreAddedWithin limit k e.added) (sym known.0.0.0.0.1) is) (λ e known is. subst (λ (k : EditKind). AreAddedWithin limit k e.added) known.0.0.0.0.1 is) (added_reads short bad limit low kind) (λ files _.
      done (λ e. Unit {0}) (record { number = number; kind = kind; flushed = flushed; epoch = epoch; next_file = next_file; removed = numbers; added = files })
      (((((((tt, refl), refl), refl), refl), refl), refl), refl) tt
      (λ e known is i. record { number = known.0.0.0.0.0.0.1 i; kind = known.0.0.0.0.0.1 i; flushed = known.0.0.0.0.1 i; epoch = known.0.0.0.1 i; next_file = known.0.0.1 i; removed = known.0.1 i; added = known.1 i }))))))))

  pub edit_reads : Reads short (edit_at limit short bad) edit (IsEditWithin limit)
  edit_reads = whole edit (IsEditWithin limit) (λ e is. simp (append_assoc, append-nil) refl)
      (λ e r. (record { first = r.0.0; last = r.0.1; flushed = (let h = r.1.1.0.1 in omega arith); some_epoch = r.1.1.1.0.0; epoch = r.1.1.1.0.1; some_file = r.1.1.1.1.0.0; next_file = r.1.1.1.1.0.1; removed = r.1.1.1.1.1.0; added = r.1.1.1.1.1.1.0.0 }, r.1.1.1.1.1.1.0.1))
      (λ e is. let own = is.0 in ((own.first, own.last), (tt, ((omega arith, (let h = own.flushed in omega arith)), ((own.some_epoch, own.epoch), ((own.some_file, own.next_file), (own.removed, ((own.added, is.1), tt))))))))
      edit_goes

reads : Reads Truncated (edit_at MAX_KEY_BYTES Truncated BadField) edit (IsEditWithin MAX_KEY_BYTES)
reads = edit_reads Truncated BadField MAX_KEY_BYTES (omega arith)

pub edit_takes : (bytes : List ℕ) (e : Edit) → IsBytes bytes → read_edit bytes ≡ Ok e → IsSpelledEdit bytes e
unfolding read_edit
edit_takes bytes e fits h =
    let a = bind_ok (edit_at MAX_KEY_BYTES Truncated BadField bytes) (λ x. cond (eqb (length x.1) 0) (Ok x.0) (Err TrailingBytes)) e h in
    let g = guard_held (eqb (length a.0.1) 0) TrailingBytes (Ok a.0.0) e a.2 in
    let t = reads.takes bytes a.0 fits a.1 in
    let none : a.0.1 ≡ [] = nil_from_length a.0.1 (eqb-true _ _ g.0) in
    let same = ok_is {F = FormatFault} a.0.0 e g.1 in
    subst (λ (x : Edit). IsSpelledEdit bytes x) same (record { sound = t.1.0; spelled = t.0.parts ∙ ap (λ (rest : List ℕ). edit a.0.0 ++ rest) none ∙ append-nil (edit a.0.0) })

pub edit_again : (bytes : List ℕ) (e : Edit) → IsSpelledEdit bytes e → read_edit bytes ≡ Ok e
unfolding read_edit
edit_again bytes e is =
    let a : edit_at MAX_KEY_BYTES Truncated BadField bytes ≡ Ok (e, []) = ap (edit_at MAX_KEY_BYTES Truncated BadField) (is.spelled ∙ sym (append-nil (edit e))) ∙ reads.again e [] (edit_within e is.sound) in
    rw a refl

pub edit_cut : (bytes : List ℕ) (e : Edit) (n : ℕ) → IsSpelledEdit bytes e → n < length bytes → read_edit (take n bytes) ≡ Err Truncated
unfolding read_edit
edit_cut bytes e n is lt =
    let a : edit_at MAX_KEY_BYTES Truncated BadField (take n bytes) ≡ Err Truncated =
    ap (λ (text : List ℕ). edit_at MAX_KEY_BYTES Truncated BadField (take n text)) is.spelled ∙ reads.cuts e (edit_within e is.sound) n (subst (λ (text : List ℕ). n < length text) is.spelled lt) in
    rw a refl

pub is_found : (bytes : List ℕ) (r : Result Edit (Refused FormatFault)) → IsBytes bytes → Gives (λ b. b) r (read_edit bytes) → IfOk r (λ e. IsSpelledEdit bytes e)
is_found bytes (Ok e) fits given = edit_takes bytes e fits given
is_found bytes (Err f) fits given = tt

-- other bytes are no edit's, or another's
pub other_edit : (bytes other : List ℕ) (e : Edit) → IsSpelledEdit bytes e → IsBytes other → (other ≡ bytes → ⊥) → IfOk (read_edit other) (λ changed. IsSpelledEdit other changed × (changed ≡ e → ⊥))
other_edit bytes other e is fits differ = by (read_edit other) refl
  where
    by : (r : Result Edit FormatFault) → read_edit other ≡ r → IfOk r (λ changed. IsSpelledEdit other changed × (changed ≡ e → ⊥))
    by (Ok changed) read = (let own = edit_takes other changed fits read in (own, λ same. differ (own.spelled ∙ ap edit same ∙ sym is.spelled)))
    by (Err fault) read = tt
