-- The entries of a batch: within their limits, and rising in sequence.
use Rattle.std.proofs.Common.{◌≡◌, ℕ, ◌+◌, ◌≤◌, Bool, true, false, cond, List, [], ◌∷◌, ◌++◌, Option, None, Some, length, refl, sym, subst, arith, inl, inr}
use Rattle.std.proofs.lemmas.Bool.{eqb-false, ltb-false}
use Rattle.lsm_key.specs.declared.op.Op.{Op}
use Rattle.lsm_key.specs.declared.op.Op.TheVariants.{Put, Delete}
use Rattle.lsm_key.specs.declared.batch.KeyError.{KeyError}
use Rattle.lsm_key.specs.declared.entry.Entry.{Entry}
use Rattle.lsm_key.specs.declared.limits.TheConstants.{MAX_KEY_BYTES, MAX_VALUE_BYTES}
use Rattle.lsm_key.specs.Sets.{IsIn}
use Rattle.lsm_key.specs.Writes.{key_of}
use Rattle.lsm_key.specs.Limits.{value_len, push_fault, batch_fault_after}
use Rattle.lsm_key.specs.Places.{entry_of, entries_after}
use Rattle.lsm_key.specs.Entries.{IsEntry, AreSound}
use Rattle.lsm_key.proofs.PushedOperations.{first_fault-none}
use Rattle.lsm_key.proofs.WritesOverStored.{entries_after-range, entry_seq}
use Rattle.lsm_mem.specs.Chains.{SequencesRise}

-- ---- the entries of a batch are within their limits

none_first : (a : Bool) (x : KeyError) (r : Option KeyError) → cond a (Some x) r ≡ None → (a ≡ false) × (r ≡ None)
none_first true x r h = absurd cc
none_first false x r h = (refl, h)

-- an operation that a batch takes
pub record IsTaken (op : Op) : Type 0 where
  pub some : 1 ≤ length (key_of op)
  pub key : length (key_of op) ≤ MAX_KEY_BYTES
  pub value : value_len op ≤ MAX_VALUE_BYTES

taken : (ops : List Op) (op : Op) → push_fault ops op ≡ None → IsTaken op
taken ops op h =
    let a = none_first _ _ _ h in
    let b = none_first _ _ _ a.1 in
    let c = none_first _ _ _ b.1 in
    let some : length (key_of op) ≡ 0 → ⊥ = eqb-false (length (key_of op)) 0 a.0 in
    record { some = omega (arith, some); key = ltb-false MAX_KEY_BYTES (length (key_of op)) b.0; value = ltb-false MAX_VALUE_BYTES (value_len op) c.0 }

entry_sound : (n : ℕ) (op : Op) → 1 ≤ n → IsTaken op → IsEntry (entry_of n op)
entry_sound n (Put key value) first h = record { key = (h.some, h.key); written = first; value = h.value }
entry_sound n (Delete key) first h = record { key = (h.some, h.key); written = first; value = omega arith }

pub after_sound : (done ops : List Op) (n : ℕ) → batch_fault_after done ops ≡ None → AreSound (entries_after n ops)
after_sound done [] n h e m = absurd m
after_sound done (op ∷ ops) n h e m =
    let parts = first_fault-none (push_fault done op) (batch_fault_after (done ++ op ∷ []) ops) h in
    elim m [
      | inl same ↦ subst IsEntry (sym same) (entry_sound (n + 1) op (omega arith) (taken done op parts.0))
      | inr rest ↦ after_sound (done ++ op ∷ []) ops (n + 1) parts.1 e rest
    ]

-- ---- sequences rise

pub after_rise : (n : ℕ) (ops : List Op) → SequencesRise (entries_after n ops)
after_rise n [] = tt
after_rise n (op ∷ ops) = (λ f m. let s = entry_seq (n + 1) op in let r = entries_after-range (n + 1) ops f m in omega arith, after_rise (n + 1) ops)

-- the last operation has the greatest sequence
pub last_written : (n : ℕ) (op : Op) (ops : List Op) → (e : Entry) × IsIn e (entries_after n (op ∷ ops)) × (e.ikey.seq ≡ n + length (op ∷ ops))
last_written n op [] = (entry_of (n + 1) op, inl refl, entry_seq (n + 1) op)
last_written n op (next ∷ ops) =
    let r = last_written (n + 1) next ops in
    let seq : r.0.ikey.seq ≡ n + 1 + length (next ∷ ops) = r.2 in
    (r.0, inr r.1, omega (arith, seq))
