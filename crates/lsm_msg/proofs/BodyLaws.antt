-- A decoded body encodes to the bytes, and what encodes to the bytes is decoded.
use Rattle.std.proofs.Common.{◌≡◌, ℕ, ◌^◌, ◌<◌, ◌≤◌, List, ◌++◌, length, take, Result, Ok, Err, refl, sym, ap, subst, ◌∙◌, append_assoc, arith}
use Rattle.std.specs.Int.{w32, w64, to_be_bytes}
use Rattle.std.specs.List.{All}
use Rattle.std.proofs.lemmas.List.{append-nil}
use Rattle.lsm_key.specs.declared.limits.TheConstants.{MAX_KEY_BYTES, MAX_NUMBER, MAX_TABLE_BYTES}
use Rattle.lsm_key.specs.Reading.{◌>>=◌, ranged_number_at, piece_at}
use Rattle.lsm_key.proofs.Beginnings.{cut_then, piece_cut}
use Rattle.lsm_key.proofs.FieldLaws.{IsBytes, Takes, Takes-then, bind_ok, ok_is, piece_takes, piece_again, wide32, wide64}
use Rattle.lsm_key.proofs.ReaderLaws.{Reads, field, done, whole, within_reads, reads_as}
use Rattle.lsm_edit.proofs.BaseLaws.{base_reads}
use Rattle.lsm_edit.proofs.EditLaws.{edit_reads}
use Rattle.lsm_edit.proofs.FileLaws.{HasKeysWithin}
use Rattle.lsm_msg.specs.declared.fault.MsgFault.{MsgFault}
use Rattle.lsm_msg.specs.declared.fault.MsgFault.TheVariants.{Truncated, BadField}
use Rattle.lsm_msg.specs.declared.job.JobResult.{JobResult}
use Rattle.lsm_msg.specs.declared.kind.MessageKind.{MessageKind}
use Rattle.lsm_msg.specs.declared.kind.MessageKind.TheVariants as kind
use Rattle.lsm_msg.specs.declared.message.Body.{Body}
use Rattle.lsm_msg.specs.declared.message.Body.TheVariants as body
use Rattle.lsm_msg.specs.Messages.{AreTableBytes, IsBody, body_text, job_id, kind_of, sized, tables}
use Rattle.lsm_msg.specs.MessageReading.{as_body, body_at, file_number_at, result_at, sized_at, table_body_at, result_tables_at}
use Rattle.lsm_msg.specs.Rules.{IsJobId}
use Rattle.lsm_msg.proofs.EachInTurn.{counted_each}
use Rattle.lsm_msg.proofs.JobLaws.{JobHasKeysWithin, job_reads, job_id_reads}

-- ---- tables and results

pub sized_reads : Reads Truncated sized_at sized AreTableBytes
unfolding sized_at
sized_reads = record {
  takes = λ bytes z fits e.
      let a = bind_ok (ranged_number_at Truncated BadField w32 1 MAX_TABLE_BYTES bytes) (λ n. piece_at Truncated n.0 n.1) z e in
      let t = (within_reads Truncated BadField w32 (2 ^ 32) wide32 1 MAX_TABLE_BYTES (omega arith)).takes bytes a.0 fits a.1 in
      let p = piece_takes Truncated a.0.0 a.0.1 z.0 z.1 t.0.rest_fits a.2 in
      let text : Takes bytes (sized z.0) z.1 = subst (λ (m : ℕ). Takes bytes (to_be_bytes w32 m ++ z.0) z.1) (sym p.1) (Takes-then bytes (to_be_bytes w32 a.0.0) a.0.1 z.0 z.1 t.0 p.0) in
      (text, ((let low = t.1.0 in omega (arith, low, p.1)), (let high = t.1.1 in omega (arith, high, p.1))));
  again = λ b rest is.
      let a = (within_reads Truncated BadField w32 (2 ^ 32) wide32 1 MAX_TABLE_BYTES (omega arith)).again (length b) (b ++ rest) is in
      ap (λ (z : List ℕ). ranged_number_at Truncated BadField w32 1 MAX_TABLE_BYTES z >>= λ n. piece_at Truncated n.0 n.1) (append_assoc (to_be_bytes w32 (length b)) b rest)
      ∙ ap (λ (r : Result (ℕ × List ℕ) MsgFault). r >>= λ n. piece_at Truncated n.0 n.1) a
      ∙ piece_again Truncated (length b) b rest refl;
  cuts = λ b is n lt.
      let counts = within_reads Truncated BadField w32 (2 ^ 32) wide32 1 MAX_TABLE_BYTES (omega arith) in
      cut_then Truncated (ranged_number_at Truncated BadField w32 1 MAX_TABLE_BYTES) (λ n. piece_at Truncated n.0 n.1) (to_be_bytes w32 (length b)) b (λ rest. (length b, rest))
      (counts.cuts (length b) is) (λ rest. counts.again (length b) rest is) (piece_cut Truncated b) n lt;
}

-- as many tables as four bytes count
abbrev AreCounted : List (List ℕ) → Type 0
AreCounted ts = All AreTableBytes ts × (length ts < 2 ^ 32)

tables_reads : Reads Truncated result_tables_at tables AreCounted
unfolding result_tables_at
tables_reads = reads_as (λ ts is. (is.2, (let h = is.1 in omega (arith, h)))) (λ ts is. (omega arith, (let h = is.1 in omega (arith, h)), is.0))
    (counted_each AreTableBytes sized_at sized sized_reads 0 4294967295 (omega arith))

abbrev pub IsCountedResult : JobResult → Type 0
IsCountedResult r = IsJobId r.job × AreCounted r.tables

abbrev result_text : JobResult → List ℕ
result_text r = job_id r.job ++ tables r.tables

result_reads : Reads Truncated result_at result_text IsCountedResult
unfolding result_at
result_reads = whole result_text IsCountedResult (λ r is. simp (append_assoc, append-nil) refl) (λ r rules. (rules.0, rules.1.0)) (λ r is. (is.0, (is.1, tt)))
    (field _ (λ (r : JobResult). r.job) job_id_reads (λ id _.
    field _ (λ (r : JobResult). r.tables) tables_reads (λ ts _.
    done (λ r. Unit {0}) (record { job = id; tables = ts }) ((tt, refl), refl) tt (λ r known is i. record { job = known.0.1 i; tables = known.1 i }))))

-- ---- bodies

-- what a body's counts need: lists of files or tables that four bytes count
abbrev pub IsCounted : Body → Type 0
IsCounted (body.Job j) = Unit {0}
IsCounted (body.Fetch n) = Unit {0}
IsCounted (body.Table n bytes) = Unit {0}
IsCounted (body.Gone n) = Unit {0}
IsCounted (body.Result r) = length r.tables < 2 ^ 32
IsCounted (body.Ask n) = Unit {0}
IsCounted (body.Edit e) = Unit {0}
IsCounted (body.Base v) = length v.files < 2 ^ 32
IsCounted (body.Current n) = Unit {0}

-- the keys of a body are within a limit; those inside a table's bytes are not looked at
abbrev pub BodyHasKeysWithin : ℕ → Body → Type 0
BodyHasKeysWithin limit (body.Job j) = JobHasKeysWithin limit j
BodyHasKeysWithin limit (body.Fetch n) = Unit {0}
BodyHasKeysWithin limit (body.Table n bytes) = Unit {0}
BodyHasKeysWithin limit (body.Gone n) = Unit {0}
BodyHasKeysWithin limit (body.Result r) = Unit {0}
BodyHasKeysWithin limit (body.Ask n) = Unit {0}
BodyHasKeysWithin limit (body.Edit e) = All (HasKeysWithin limit) e.added
BodyHasKeysWithin limit (body.Base v) = All (HasKeysWithin limit) v.files
BodyHasKeysWithin limit (body.Current n) = Unit {0}

-- a body of the kind, with keys within a limit
abbrev pub IsOfKind : ℕ → MessageKind → Body → Type 0
IsOfKind limit k b = IsBody b × IsCounted b × BodyHasKeysWithin limit b × (kind_of b ≡ k)

as_ok : {X : Type 0} (make : X → Body) (r : Result (X × List ℕ) MsgFault) (z : Body × List ℕ) → as_body make r ≡ Ok z → (x : X × List ℕ) × (r ≡ Ok x) × ((make x.0, x.1) ≡ z)
as_ok make (Ok x) z e = (x, refl, ok_is {F = MsgFault} (make x.0, x.1) z e)
as_ok make (Err f) z e = absurd cc

-- the fields of a body of one kind, as a body
module _ {X : Type 0} (limit : ℕ) (make : X → Body) (read : List ℕ → Result (X × List ℕ) MsgFault) (spell : X → List ℕ) (IsX : X → Type 0) (k : MessageKind) (text : (x : X) → body_text (make x) ≡ spell x) (is : (x : X) → IsX x → IsOfKind limit k (make x)) where
  made_takes : Reads Truncated read spell IsX → (bytes : List ℕ) (z : Body × List ℕ) → IsBytes bytes → as_body make (read bytes) ≡ Ok z → Takes bytes (body_text z.0) z.1 × IsOfKind limit k z.0
  made_takes reads bytes z fits e =
      let a = as_ok make (read bytes) z e in
      let t = reads.takes bytes a.0 fits a.1 in
      subst (λ (y : Body × List ℕ). Takes bytes (body_text y.0) y.1 × IsOfKind limit k y.0) a.2 (subst (λ (b : List ℕ). Takes bytes b a.0.1) (sym (text a.0.0)) t.0, is a.0.0 t.1)

  made_again : Reads Truncated read spell IsX → (x : X) (rest : List ℕ) → IsX x → as_body make (read (spell x ++ rest)) ≡ Ok (make x, rest)
  made_again reads x rest h = ap (as_body make) (reads.again x rest h)

number_reads : (low : ℕ) → Reads Truncated (ranged_number_at Truncated BadField w64 low MAX_NUMBER) (to_be_bytes w64) (λ n. (low ≤ n) × (n ≤ MAX_NUMBER))
number_reads low = within_reads Truncated BadField w64 (2 ^ 64) wide64 low MAX_NUMBER (omega arith)

abbrev IsNumbered : ℕ × List ℕ → Type 0
IsNumbered p = ((1 ≤ p.0) × (p.0 ≤ MAX_NUMBER)) × AreTableBytes p.1

table_takes : (limit : ℕ) (bytes : List ℕ) (z : Body × List ℕ) → IsBytes bytes → table_body_at bytes ≡ Ok z → Takes bytes (body_text z.0) z.1 × IsOfKind limit kind.Table z.0
unfolding table_body_at
table_takes limit bytes z fits e =
    let a = bind_ok (file_number_at bytes) (λ number. sized_at number.1 >>= λ table. Ok (body.Table number.0 table.0, table.1)) z e in
    let b = bind_ok (sized_at a.0.1) (λ table. Ok (body.Table a.0.0 table.0, table.1)) z a.2 in
    let t = (number_reads 1).takes bytes a.0 fits a.1 in
    let u = sized_reads.takes a.0.1 b.0 t.0.rest_fits b.1 in
    subst (λ (y : Body × List ℕ). Takes bytes (body_text y.0) y.1 × IsOfKind limit kind.Table y.0) (ok_is {F = MsgFault} (body.Table a.0.0 b.0.0, b.0.1) z b.2)
    (Takes-then bytes (to_be_bytes w64 a.0.0) a.0.1 (sized b.0.0) b.0.1 t.0 u.0, ((t.1, u.1), tt, tt, refl))

table_again : (n : ℕ) (b rest : List ℕ) → (1 ≤ n) × (n ≤ MAX_NUMBER) → AreTableBytes b → table_body_at ((to_be_bytes w64 n ++ sized b) ++ rest) ≡ Ok (body.Table n b, rest)
unfolding table_body_at
table_again n b rest number bytes =
    ap (λ (z : List ℕ). file_number_at z >>= λ number. sized_at number.1 >>= λ table. Ok (body.Table number.0 table.0, table.1)) (append_assoc (to_be_bytes w64 n) (sized b) rest)
    ∙ ap (λ (r : Result (ℕ × List ℕ) MsgFault). r >>= λ number. sized_at number.1 >>= λ table. Ok (body.Table number.0 table.0, table.1)) ((number_reads 1).again n (sized b ++ rest) number)
    ∙ ap (λ (r : Result (List ℕ × List ℕ) MsgFault). r >>= λ table. Ok (body.Table n table.0, table.1)) (sized_reads.again b rest bytes)

table_cut : (n : ℕ) (b : List ℕ) → (1 ≤ n) × (n ≤ MAX_NUMBER) → AreTableBytes b → (m : ℕ) → m < length (to_be_bytes w64 n ++ sized b) → table_body_at (take m (to_be_bytes w64 n ++ sized b)) ≡ Err Truncated
unfolding table_body_at
table_cut n b number bytes m lt =
    cut_then Truncated file_number_at (λ number. sized_at number.1 >>= λ table. Ok (body.Table number.0 table.0, table.1)) (to_be_bytes w64 n) (sized b) (λ rest. (n, rest))
    ((number_reads 1).cuts n number) (λ rest. (number_reads 1).again n rest number)
    (λ k left. ap (λ (r : Result (List ℕ × List ℕ) MsgFault). r >>= λ table. Ok (body.Table n table.0, table.1)) (sized_reads.cuts b bytes k left)) m lt

module _ (limit : ℕ) (low : limit ≤ MAX_KEY_BYTES) where
  body_takes : (k : MessageKind) (bytes : List ℕ) (z : Body × List ℕ) → IsBytes bytes → body_at limit k bytes ≡ Ok z → Takes bytes (body_text z.0) z.1 × IsOfKind limit k z.0
  body_takes kind.Job = made_takes limit (λ j. body.Job j) _ _ _ kind.Job (λ j. refl) (λ j is. (is.0, tt, is.1, refl)) (job_reads limit low)
  body_takes kind.Fetch = made_takes limit (λ n. body.Fetch n) _ _ _ kind.Fetch (λ n. refl) (λ n is. (is, tt, tt, refl)) (number_reads 1)
  body_takes kind.Table = table_takes limit
  body_takes kind.Gone = made_takes limit (λ n. body.Gone n) _ _ _ kind.Gone (λ n. refl) (λ n is. (is, tt, tt, refl)) (number_reads 1)
  body_takes kind.Result = made_takes limit (λ r. body.Result r) _ _ _ kind.Result (λ r. refl) (λ r is. ((is.0, is.1.0), is.1.1, tt, refl)) result_reads
  body_takes kind.Ask = made_takes limit (λ n. body.Ask n) _ _ _ kind.Ask (λ n. refl) (λ n is. (is.1, tt, tt, refl)) (number_reads 0)
  body_takes kind.Edit = made_takes limit (λ e. body.Edit e) _ _ _ kind.Edit (λ e. refl) (λ e is. (is.0, tt, is.1, refl)) (edit_reads Truncated BadField limit low)
  body_takes kind.Base = made_takes limit (λ v. body.Base v) _ _ _ kind.Base (λ v. refl) (λ v is. (is.0.0, is.0.1, is.1, refl)) (base_reads Truncated BadField limit low)
  body_takes kind.Current = made_takes limit (λ n. body.Current n) _ _ _ kind.Current (λ n. refl) (λ n is. (is.1, tt, tt, refl)) (number_reads 0)

  body_again : (b : Body) (rest : List ℕ) → IsBody b → IsCounted b → BodyHasKeysWithin limit b → body_at limit (kind_of b) (body_text b ++ rest) ≡ Ok (b, rest)
  body_again (body.Job j) rest is few within = ap (as_body (λ j. body.Job j)) ((job_reads limit low).again j rest (is, within))
  body_again (body.Fetch n) rest is few within = ap (as_body (λ n. body.Fetch n)) ((number_reads 1).again n rest is)
  body_again (body.Table n b) rest is few within = table_again n b rest is.0 is.1
  body_again (body.Gone n) rest is few within = ap (as_body (λ n. body.Gone n)) ((number_reads 1).again n rest is)
  body_again (body.Result r) rest is few within = ap (as_body (λ r. body.Result r)) (result_reads.again r rest (is.0, (is.1, few)))
  body_again (body.Ask n) rest is few within = ap (as_body (λ n. body.Ask n)) ((number_reads 0).again n rest (omega arith, is))
  body_again (body.Edit e) rest is few within = ap (as_body (λ e. body.Edit e)) ((edit_reads Truncated BadField limit low).again e rest (is, within))
  body_again (body.Base v) rest is few within = ap (as_body (λ v. body.Base v)) ((base_reads Truncated BadField limit low).again v rest ((is, few), within))
  body_again (body.Current n) rest is few within = ap (as_body (λ n. body.Current n)) ((number_reads 0).again n rest (omega arith, is))

  body_cut : (b : Body) → IsBody b → IsCounted b → BodyHasKeysWithin limit b → (n : ℕ) → n < length (body_text b) → body_at limit (kind_of b) (take n (body_text b)) ≡ Err Truncated
  body_cut (body.Job j) is few within n lt = ap (as_body (λ j. body.Job j)) ((job_reads limit low).cuts j (is, within) n lt)
  body_cut (body.Fetch m) is few within n lt = ap (as_body (λ n. body.Fetch n)) ((number_reads 1).cuts m is n lt)
  body_cut (body.Table m b) is few within n lt = table_cut m b is.0 is.1 n lt
  body_cut (body.Gone m) is few within n lt = ap (as_body (λ n. body.Gone n)) ((number_reads 1).cuts m is n lt)
  body_cut (body.Result r) is few within n lt = ap (as_body (λ r. body.Result r)) (result_reads.cuts r (is.0, (is.1, few)) n lt)
  body_cut (body.Ask m) is few within n lt = ap (as_body (λ n. body.Ask n)) ((number_reads 0).cuts m (omega arith, is) n lt)
  body_cut (body.Edit e) is few within n lt = ap (as_body (λ e. body.Edit e)) ((edit_reads Truncated BadField limit low).cuts e (is, within) n lt)
  body_cut (body.Base v) is few within n lt = ap (as_body (λ v. body.Base v)) ((base_reads Truncated BadField limit low).cuts v ((is, few), within) n lt)
  body_cut (body.Current m) is few within n lt = ap (as_body (λ n. body.Current n)) ((number_reads 0).cuts m (omega arith, is) n lt)

  pub body_reads : (k : MessageKind) → Reads Truncated (body_at limit k) body_text (IsOfKind limit k)
  body_reads k = record {
    takes = body_takes k;
    again = λ b rest is. subst (λ (k : MessageKind). body_at limit k (body_text b ++ rest) ≡ Ok (b, rest)) is.3 (body_again b rest is.0 is.1 is.2);
    cuts = λ b is n lt. subst (λ (k : MessageKind). body_at limit k (take n (body_text b)) ≡ Err Truncated) is.3 (body_cut b is.0 is.1 is.2 n lt);
  }
