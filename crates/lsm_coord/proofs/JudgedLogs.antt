-- Each log is good or bad.
use Rattle.std.proofs.Common.{◌≡◌, ℕ, ◌+◌, ◌-◌, ◌<◌, ◌≤◌, List, [], ◌∷◌, ◌++◌, ◌⊎◌, Option, None, Some, length, refl, sym, ap, subst, ◌∙◌, append_assoc, arith, inl, inr}
use Rattle.std.specs.Option.{unwrap_or}
use Rattle.std.proofs.lemmas.Bool.{cases_eq, cases_lt}
use Rattle.lsm_key.specs.declared.limits.TheConstants.{MAX_MEMTABLE_WEIGHT}
use Rattle.lsm_key.specs.Limits.{total_weight}
use Rattle.lsm_key.specs.Sets.{IsIn}
use Rattle.lsm_edit.specs.declared.log_record.LogRecord.{LogRecord}
use Rattle.lsm_edit.specs.declared.log_record.LogRecord.TheVariants.{Write, Freeze}
use Rattle.lsm_edit.specs.Log.{BadRecords, BeginsLate, EndsEarly, FreezesElsewhere, IsGood, LeavesGap, Linked, Straddles, active_ops, end_of, frozen_ops, log_freezes, begins_late, leaves_gap, straddles, freezes_elsewhere, freezes_twice, ends_early, is_heavy}
use Rattle.lsm_edit.proofs.LogLaws.{end_freeze, end_write, record_end}
use Rattle.lsm_edit.proofs.LogRecordLaws.{seq_of}

-- one of two, each told by its negation
abbrev IsOrNot : Type 0 → Type 0
IsOrNot P = P ⊎ (P → ⊥)

begins : (flushed : ℕ) (records : List LogRecord) → IsOrNot (BeginsLate flushed records)
begins flushed [] = inr (λ h. h)
begins flushed (Write first ops ∷ records) = elim (cases_lt (flushed + 1) first) [
  | inl lt ↦ inl lt
  | inr le ↦ inr (λ lt. omega (arith, lt, le))
]
begins flushed (Freeze at ∷ records) = inl tt

-- ---- records that follow one another

abbrev IsBroken : List LogRecord → Type 0
IsBroken records = LeavesGap records ⊎ FreezesElsewhere records

-- the rest is linked behind the front, or the whole is broken
linked_or_broken : (before records : List LogRecord) (o : Option ℕ) → end_of before ≡ o → Linked o records ⊎ IsBroken (before ++ records)
linked_or_broken before [] o is = inl tt
linked_or_broken before (Write first ops ∷ records) None is =
    subst (λ (l : List LogRecord). Linked (Some (first + length ops - 1)) records ⊎ IsBroken l) (append_assoc before (Write first ops ∷ []) records)
    (linked_or_broken (before ++ Write first ops ∷ []) records (Some (first + length ops - 1)) (end_write before first ops))
linked_or_broken before (Write first ops ∷ records) (Some last) is =
    both (cases_eq first (last + 1)) (subst (λ (l : List LogRecord). Linked (Some (first + length ops - 1)) records ⊎ IsBroken l) (append_assoc before (Write first ops ∷ []) records)
    (linked_or_broken (before ++ Write first ops ∷ []) records (Some (first + length ops - 1)) (end_write before first ops)))
  where
    both : (first ≡ last + 1) ⊎ (first ≡ last + 1 → ⊥) → Linked (Some (first + length ops - 1)) records ⊎ IsBroken (before ++ Write first ops ∷ records) → ((first ≡ last + 1) × Linked (Some (first + length ops - 1)) records) ⊎ IsBroken (before ++ Write first ops ∷ records)
    both (inl next) (inl rest) = inl (next, rest)
    both (inl next) (inr broken) = inr broken
    both (inr gap) rest = inr (inl (record { before = before; first = first; ops = ops; after = records; end = last; parts = refl; ends = is; gap = gap }))
linked_or_broken before (Freeze at ∷ records) None is =
    subst (λ (l : List LogRecord). Linked None records ⊎ IsBroken l) (append_assoc before (Freeze at ∷ []) records)
    (linked_or_broken (before ++ Freeze at ∷ []) records None (end_freeze before at ∙ is))
linked_or_broken before (Freeze at ∷ records) (Some last) is =
    both (cases_eq at last) (subst (λ (l : List LogRecord). Linked (Some last) records ⊎ IsBroken l) (append_assoc before (Freeze at ∷ []) records)
    (linked_or_broken (before ++ Freeze at ∷ []) records (Some last) (end_freeze before at ∙ is)))
  where
    both : (at ≡ last) ⊎ (at ≡ last → ⊥) → Linked (Some last) records ⊎ IsBroken (before ++ Freeze at ∷ records) → ((at ≡ last) × Linked (Some last) records) ⊎ IsBroken (before ++ Freeze at ∷ records)
    both (inl there) (inl rest) = inl (there, rest)
    both (inl there) (inr broken) = inr broken
    both (inr elsewhere) rest = inr (inr (record { before = before; at = at; after = records; end = last; parts = refl; ends = is; elsewhere = elsewhere }))

-- ---- writes on both sides of the flushed sequence

apart : (flushed : ℕ) (records : List LogRecord) → IsOrNot (Straddles flushed records)
apart flushed [] = inr (λ s. s.among)
apart flushed (Freeze at ∷ records) = elim (apart flushed records) [
  | inl s ↦ inl (record { first = s.first; ops = s.ops; among = inr s.among; low = s.low; high = s.high })
  | inr not ↦ inr (λ s. elim s.among [
    | inl same ↦ cc
    | inr m ↦ not (record { first = s.first; ops = s.ops; among = m; low = s.low; high = s.high })
  ])
]
apart flushed (Write first ops ∷ records) = by_case (apart flushed records) (cases_lt flushed first) (cases_lt (flushed + 1) (first + length ops))
  where
    not_more : (Straddles flushed records → ⊥) → (first ≤ flushed → flushed + 1 < first + length ops → ⊥) → Straddles flushed (Write first ops ∷ records) → ⊥
    not_more not own s = by_place s.among
      where
        by_place : IsIn (Write s.first s.ops) (Write first ops ∷ records) → ⊥
        by_place (inl same) =
            let first_is : s.first ≡ first = ap seq_of same in
            let end_is : s.first + length s.ops ≡ first + length ops = ap record_end same in
            let low = s.low in
            let high = s.high in
            own (omega (arith, first_is, low)) (omega (arith, end_is, high))
        by_place (inr m) = not (record { first = s.first; ops = s.ops; among = m; low = s.low; high = s.high })

    by_case : IsOrNot (Straddles flushed records) → (flushed < first) ⊎ (first ≤ flushed) → (flushed + 1 < first + length ops) ⊎ (first + length ops ≤ flushed + 1) → IsOrNot (Straddles flushed (Write first ops ∷ records))
    by_case (inl s) low high = inl (record { first = s.first; ops = s.ops; among = inr s.among; low = s.low; high = s.high })
    by_case (inr not) (inl above) high = inr (not_more not (λ low _. omega (arith, low, above)))
    by_case (inr not) (inr low) (inl high) = inl (record { first = first; ops = ops; among = inl refl; low = low; high = high })
    by_case (inr not) (inr low) (inr within) = inr (not_more not (λ _ high. omega (arith, high, within)))

-- ---- the end

ends : (flushed : ℕ) (records : List LogRecord) → IsOrNot (EndsEarly flushed records)
ends flushed records = by_end (end_of records) refl
  where
    by_end : (o : Option ℕ) → end_of records ≡ o → IsOrNot (EndsEarly flushed records)
    by_end None is = inr (λ h. let both : None ≡ Some h.0 = sym is ∙ h.1 in cc)
    by_end (Some end) is = elim (cases_lt end flushed) [
      | inl lt ↦ inl (end, is, lt)
      | inr le ↦ inr (λ h. let same : end ≡ h.0 = ap (λ (o : Option ℕ). unwrap_or o 0) (sym is ∙ h.1) in let early = h.2 in omega (arith, le, same, early))
    ]

-- A LOG IS GOOD OR BAD.
pub good_or_bad : (flushed : ℕ) (records : List LogRecord) → IsGood flushed records ⊎ BadRecords flushed records
good_or_bad flushed records =
    elim (begins flushed records) [
      | inl late ↦ inr (begins_late late)
      | inr begun ↦ elim (linked_or_broken [] records None refl) [
        | inr broken ↦ elim broken [ inl gap ↦ inr (leaves_gap gap) | inr elsewhere ↦ inr (freezes_elsewhere elsewhere) ]
        | inl linked ↦ elim (apart flushed records) [
          | inl s ↦ inr (straddles s)
          | inr whole ↦ elim (ends flushed records) [
            | inl early ↦ inr (ends_early early)
            | inr reaches ↦ by_weight begun linked whole reaches (cases_lt 1 (length (log_freezes flushed records))) (cases_lt MAX_MEMTABLE_WEIGHT (total_weight (frozen_ops flushed records))) (cases_lt MAX_MEMTABLE_WEIGHT (total_weight (active_ops flushed records)))
          ]
        ]
      ]
    ]
  where
    by_weight : (BeginsLate flushed records → ⊥) → Linked None records → (Straddles flushed records → ⊥) → (EndsEarly flushed records → ⊥)
        → (1 < length (log_freezes flushed records)) ⊎ (length (log_freezes flushed records) ≤ 1)
        → (MAX_MEMTABLE_WEIGHT < total_weight (frozen_ops flushed records)) ⊎ (total_weight (frozen_ops flushed records) ≤ MAX_MEMTABLE_WEIGHT)
        → (MAX_MEMTABLE_WEIGHT < total_weight (active_ops flushed records)) ⊎ (total_weight (active_ops flushed records) ≤ MAX_MEMTABLE_WEIGHT)
        → IsGood flushed records ⊎ BadRecords flushed records
    by_weight begun linked whole reaches (inl twice) frozen active = inr (freezes_twice twice)
    by_weight begun linked whole reaches (inr once) (inl heavy) active = inr (is_heavy (inl heavy))
    by_weight begun linked whole reaches (inr once) (inr light) (inl heavy) = inr (is_heavy (inr heavy))
    by_weight begun linked whole reaches (inr once) (inr frozen) (inr active) = inl (record { begun = begun; linked = linked; apart = whole; once = once; reaches = reaches; frozen_light = frozen; active_light = active })

-- what is not good is bad
pub bad : (flushed : ℕ) (records : List LogRecord) → (IsGood flushed records → ⊥) → BadRecords flushed records
bad flushed records not = elim (good_or_bad flushed records) [
  | inl good ↦ absurd (not good)
  | inr is ↦ is
]
