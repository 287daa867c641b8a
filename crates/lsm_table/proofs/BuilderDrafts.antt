-- What one more entry makes of a builder's entries.
use Rattle.std.proofs.Common.{◌≡◌, ℕ, ◌<◌, ◌≤◌, true, List, [], ◌∷◌, ◌++◌, length, Option, Some, None, Result, Err, refl, sym, subst, inr, arith, length-append}
use Rattle.std.specs.Prelude.{IfErr}
use Rattle.std.proofs.lemmas.Bool.{lt-ltb, le-ltb}
use Rattle.lsm_key.specs.declared.entry.Entry.{Entry}
use Rattle.lsm_key.specs.declared.limits.TheConstants.{MAX_TABLE_BYTES}
use Rattle.lsm_key.specs.Entries.{IsEntry}
use Rattle.lsm_key.specs.Limits.{entry_weight}
use Rattle.lsm_block.specs.Blocks.{entry}
use Rattle.lsm_block.specs.BlockReading.{may_follow, last_of}
use Rattle.lsm_table.specs.declared.building.BuildError.{BuildError}
use Rattle.lsm_table.specs.declared.building.BuildError.TheVariants.{OutOfMemory, TableFull}
use Rattle.lsm_table.specs.declared.measuring.Measure.{Measure}
use Rattle.lsm_table.specs.Building.{BuilderRefuses, IsDraft, IsNextEntry, add_fault}
use Rattle.lsm_table.specs.Measuring.{IsMeasured}
use Rattle.lsm_table.specs.Tables.{table_of}
use Rattle.lsm_block.proofs.EntriesGrow.{one_more}
use Rattle.lsm_table.proofs.TableSizes.{parts_small}
use Rattle.lsm_table.proofs.WrittenTables.{next_weighs}

pub fault_full : (target : ℕ) (es : List Entry) (e : Entry) → may_follow (last_of es) e ≡ true → MAX_TABLE_BYTES < length (table_of target (es ++ e ∷ [])) → add_fault (record { target = target; entries = es }) e ≡ Some TableFull
fault_full target es e after large = rw (after, lt-ltb MAX_TABLE_BYTES (length (table_of target (es ++ e ∷ []))) large) refl

pub fault_none : (target : ℕ) (es : List Entry) (e : Entry) → may_follow (last_of es) e ≡ true → length (table_of target (es ++ e ∷ [])) ≤ MAX_TABLE_BYTES → add_fault (record { target = target; entries = es }) e ≡ None
fault_none target es e after small = rw (after, le-ltb MAX_TABLE_BYTES (length (table_of target (es ++ e ∷ []))) small) refl

-- what is taken weighs no more than a table may have
pub draft_small : (target : ℕ) (es : List Entry) (m : Measure) → IsMeasured target es m → length (table_of target es) ≤ MAX_TABLE_BYTES → m.weight ≤ MAX_TABLE_BYTES
draft_small target es m is small = omega (arith, is.weighed, (parts_small target es small).1)

-- one more entry, whose bytes these are: its measure, and how many bytes the table then has
module _ (target : ℕ) (es : List Entry) (m more : Measure) (draft : IsDraft target es m) (bytes : List ℕ) (k size : ℕ)
    (keyed : (e : Entry) → IsEntry e → bytes ≡ entry e → k ≡ length e.ikey.key)
    (grown : (es : List Entry) (e : Entry) → k ≡ length e.ikey.key → length bytes ≡ entry_weight e → IsMeasured target es m → IsMeasured target (es ++ e ∷ []) more)
    (sized : (target : ℕ) (es : List Entry) → 1 ≤ target → 0 < length es → IsMeasured target es more → size ≡ length (table_of target es))
    (e : Entry) (next : IsNextEntry es bytes e)
  where
    next_measured : IsMeasured target (es ++ e ∷ []) more
    next_measured = grown es e (keyed e next.sound next.spelled) (next_weighs es bytes e next) draft.measured

    next_sized : size ≡ length (table_of target (es ++ e ∷ []))
    next_sized = sized target (es ++ e ∷ []) draft.ranged.0 (omega (arith, length-append es (e ∷ []))) next_measured

    pub next_full : MAX_TABLE_BYTES < size → add_fault (record { target = target; entries = es }) e ≡ Some TableFull
    next_full large = fault_full target es e next.after (omega (arith, next_sized, large))

    pub next_room : size ≤ MAX_TABLE_BYTES → add_fault (record { target = target; entries = es }) e ≡ None
    next_room small = fault_none target es e next.after (omega (arith, next_sized, small))

    pub next_draft : size ≤ MAX_TABLE_BYTES → IsDraft target (es ++ e ∷ []) more
    next_draft small = record {
      ranged = draft.ranged;
      sound = one_more es e draft.sound next.sound next.sequence next.after;
      measured = next_measured;
      small = omega (arith, next_sized, small);
    }

-- only memory can be missing
pub memory_refused : {T : Type 0} (r : Result T BuildError) (fault : Option BuildError) → fault ≡ None → (y : BuildError) × (r ≡ Err y) × (y ≡ OutOfMemory) → IfErr r (BuilderRefuses fault)
memory_refused {T} r fault none is = subst (λ (s : Result T BuildError). IfErr s (BuilderRefuses fault)) (sym is.1) (inr (none, is.2))
