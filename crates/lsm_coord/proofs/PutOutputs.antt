-- What a refused flush or install may have put into the vault.
use Rattle.std.proofs.Common.{◌≡◌, ℕ, zero, suc, ◌+◌, List, [], ◌∷◌, Some, Result, Ok, Err, IfErr, inl, inr, sym, ap, subst, ◌∙◌, arith}
use Rattle.std.specs.List.{slice_get}
use Rattle.std.specs.Result.{IsErrAnd}
use Rattle.lsm_claim.specs.declared.job.Want.{Want}
use Rattle.lsm_table.specs.Tables.{IsTable, Opened, target_of}
use Rattle.lsm_edit.specs.declared.edit.Edit.{Edit}
use Rattle.lsm_edit.specs.declared.file.FileMeta.{FileMeta}
use Rattle.lsm_edit.specs.declared.served.Placed.{Placed}
use Rattle.lsm_edit.specs.Served.{IsAsRecorded, placed_of}
use Rattle.lsm_msg.specs.declared.job.JobResult.{JobResult}
use Rattle.lsm_vault.specs.Failures.{CountsFailures}
use Rattle.lsm_vault.specs.declared.error.VaultError.{VaultError}
use Rattle.lsm_vault.specs.declared.error.VaultError.TheVariants.{Device, OutOfMemory}
use Rattle.lsm_versions.specs.Kept.{IsTableOf}
use Rattle.lsm_versions.specs.Manifest.{MayHavePut, VersionSetValue}
use Rattle.lsm_coord.specs.declared.coord.install.InstallError.{InstallError}
use Rattle.lsm_coord.specs.Contract.Calls.{IsFlushTable, flush_source}
use Rattle.lsm_coord.specs.Contract.Installing.{DecodeTo, IsOutput, install_edit_of, records}
use Rattle.lsm_coord.specs.Contract.Replies.{install_error}
use Rattle.lsm_coord.specs.Contract.Value.{CoordValue}
use Rattle.lsm_coord.specs.Inner.Putting.{IsTableOfFile, PutLeaves}

-- other words for what may be put
put_as : (MayPut Puts : ℕ → List ℕ → Type 0) (old new : VersionSetValue) → ((n : ℕ) (bytes : List ℕ) → MayPut n bytes → Puts n bytes) → MayHavePut MayPut old new → MayHavePut Puts old new
put_as MayPut Puts old new is may = record {
  rest = may.rest;
  below = may.below;
  put = λ n. elim (may.put n) [ inl stays ↦ inl stays | inr put ↦ inr (put.0, is n put.0 put.1, put.2) ];
}

-- ---- a flush

pub file_put : (file : FileMeta) (table : Opened) (files : List FileMeta) (tables : List Opened) (old new : VersionSetValue) → files ≡ file ∷ [] → tables ≡ table ∷ [] → MayHavePut (IsTableOf (placed_of files tables)) old new → MayHavePut (IsTableOfFile file table) old new
file_put file table files tables old new one_file one_table may =
    put_as (IsTableOf (placed_of files tables)) (IsTableOfFile file table) old new
    (λ n bytes at.
    let here = subst (λ (ps : List Placed). IsTableOf ps n bytes) (λ i. placed_of (one_file i) (one_table i)) at in
    elim here.1 [
      | inl same ↦ (ap (λ (p : Placed). p.meta.number) (sym same) ∙ here.2, ap (λ (p : Placed). p.table.bytes) (sym same) ∙ here.3)
      | inr none ↦ absurd none
    ])
    may

pub flush_put : (c : CoordValue) (file : FileMeta) (table : Opened) (old new : VersionSetValue) → file.number ≡ c.served.version.next_file → IsAsRecorded file table → table.entries ≡ (flush_source c).memtable → target_of table.bytes ≡ c.limits.block
    → MayHavePut (IsTableOfFile file table) old new → MayHavePut (IsFlushTable c) old new
flush_put c file table old new number recorded whole cut may =
    put_as (IsTableOfFile file table) (IsFlushTable c) old new
    (λ n bytes at. record {
      number = sym at.0 ∙ number;
      table = subst (λ (b : List ℕ). IsTable b (flush_source c).memtable) at.1 (subst (IsTable table.bytes) whole recorded.table);
      cut = ap target_of (sym at.1) ∙ cut;
    })
    may

-- ---- an install

output_at : (level number : ℕ) (texts : List (List ℕ)) (ts : List Opened) → DecodeTo texts ts → (n : ℕ) (bytes : List ℕ) → IsTableOf (placed_of (records level number ts) ts) n bytes → (place : ℕ) × (n ≡ number + place) × (slice_get texts place ≡ Some bytes)
output_at level number [] [] is n bytes at = absurd at.1
output_at level number [] (t ∷ ts) is n bytes at = absurd is
output_at level number (x ∷ texts) [] is n bytes at = absurd is
output_at level number (x ∷ texts) (t ∷ ts) is n bytes at = elim at.1 [
  | inl same ↦
      let here : number ≡ n = ap (λ (p : Placed). p.meta.number) (sym same) ∙ at.2 in
      (zero, omega (arith, here), ap (λ (text : List ℕ). Some text) (sym is.0 ∙ ap (λ (p : Placed). p.table.bytes) (sym same) ∙ at.3))
  | inr later ↦
      let rest = output_at level (number + 1) texts ts is.2 n bytes (at.0, later, at.2, at.3) in
      let place = rest.1 in
      (suc rest.0, omega (arith, place), rest.2)
]

outputs_put : (made : JobResult) (old new : VersionSetValue) (want : Want) (ts : List Opened) (e : Edit) → DecodeTo made.tables ts → e ≡ install_edit_of old.served.version want ts → MayHavePut (IsTableOf (placed_of e.added ts)) old new → MayHavePut (IsOutput old.served.version made) old new
outputs_put made old new want ts e are is may =
    put_as (IsTableOf (placed_of e.added ts)) (IsOutput old.served.version made) old new
    (λ n bytes at. output_at (want.level + 1) old.served.version.next_file made.tables ts are n bytes (subst (λ (x : Edit). IsTableOf (placed_of x.added ts) n bytes) is at))
    may

pub outputs_left : (T : Type 0) (made : JobResult) (r : Result T InstallError) (why : VaultError) (old new : VersionSetValue) (want : Want) (ts : List Opened) (e : Edit)
    → IsErrAnd r (λ x. x ≡ install_error why) → DecodeTo made.tables ts → e ≡ install_edit_of old.served.version want ts → MayHavePut (IsTableOf (placed_of e.added ts)) old new → CountsFailures {T = T} (Err why) old.failures new.failures
    → IfErr r (λ x. PutLeaves made x old new)
outputs_left T made (Ok x) why old new want ts e told are is may counted = absurd told
outputs_left T made (Err x) OutOfMemory old new want ts e told are is may counted = subst (λ (y : InstallError). PutLeaves made y old new) (sym told) (outputs_put made old new want ts e are is may, counted)
outputs_left T made (Err x) Device old new want ts e told are is may counted = subst (λ (y : InstallError). PutLeaves made y old new) (sym told) (outputs_put made old new want ts e are is may, counted)
