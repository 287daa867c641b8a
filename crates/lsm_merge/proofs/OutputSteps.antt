-- One more entry in the outputs, and their end.
use Rattle.std.proofs.Common.{◌≡◌, ℕ, ◌<◌, ◌≤◌, Bool, true, false, not, ◌&&◌, cond, List, [], ◌∷◌, ◌++◌, Option, Some, None, length, append_assoc, refl, sym, ap, ◌∙◌, subst, inl, inr, arith}
use Rattle.std.specs.Prelude.{nat_le}
use Rattle.std.specs.List.{filter}
use Rattle.std.proofs.lemmas.Bool.{cases_lt, leb-true, le-leb, true≢false}
use Rattle.std.proofs.lemmas.List.{append-nil, length-append}
use Rattle.std.proofs.lemmas.List.Elements.{filter-append}
use Rattle.lsm_key.specs.declared.entry.Entry.{Entry}
use Rattle.lsm_key.specs.Places.{all_entries}
use Rattle.lsm_key.specs.Sets.{IsIn}
use Rattle.lsm_key.specs.Visible.{has_key}
use Rattle.lsm_key.proofs.AscendingEntries.{Falls, ascending_falls}
use Rattle.lsm_key.proofs.LatestOfList.{has_key-at, has_key-is}
use Rattle.lsm_key.proofs.Membership.{IsIn-append_left, IsIn-append_right, IsIn-append_cases, IsIn-one}
use Rattle.lsm_block.specs.Blocks.{AreEntries}
use Rattle.lsm_block.specs.BlockReading.{last_of}
use Rattle.lsm_block.proofs.EntriesGrow.{follows, last_added}
use Rattle.lsm_table.specs.declared.building.BuildError.{BuildError}
use Rattle.lsm_table.specs.declared.building.BuildError.TheVariants.{EmptyTable, OutOfMemory}
use Rattle.lsm_table.specs.Building.{BuilderRefuses, Draft, add_fault, finish_fault}
use Rattle.lsm_table.specs.Tables.{IsTable, key_of_entry, largest_key, target_of}
use Rattle.lsm_table.proofs.BuilderDrafts.{fault_none}
use Rattle.lsm_edit.proofs.AllEntries.{all_entries-push}
use Rattle.lsm_merge.specs.declared.outputs.TheConstants.{OUTPUT_TARGET}
use Rattle.lsm_merge.specs.Cutting.{AreFew, AreFirstOutputs, IsFirstOutput, IsSplitInto, IsSplitSoFar, MayCome, closes_before, draft_with}
use Rattle.lsm_merge.specs.Outputs.{weight_of_entries, before_last_key}
use Rattle.lsm_merge.proofs.FirstOutput.{falls_across, filter_weight, lower_keys}
use Rattle.lsm_merge.proofs.KeptInOnePass.{KeyLess, by_key, less-trans}
use Rattle.lsm_merge.proofs.OutputCuts.{all_cut, cut_push, tables_push}
use Rattle.lsm_merge.proofs.OutputFits.{output_fits, part_few, part_sound}

-- ---- the weight before the last key

last_key_more : (es : List Entry) (e : Entry) → largest_key (es ++ e ∷ []) ≡ e.ikey.key
last_key_more es e = ap key_of_entry (last_added es e)

-- an entry that has the last key does not count
before_more : (es : List Entry) (e : Entry) → before_last_key (es ++ e ∷ []) ≡ filter (λ x. not (has_key e.ikey.key x)) es
before_more es e =
    let p : Entry → Bool = λ x. not (has_key e.ikey.key x) in
    ap (λ (k : List ℕ). filter (λ x. not (has_key k x)) (es ++ e ∷ [])) (last_key_more es e)
    ∙ filter-append p es (e ∷ [])
    ∙ ap (λ (r : List Entry). filter p es ++ r) (ap (λ (b : Bool). cond (not b) (e ∷ []) []) (has_key_own e))
    ∙ append-nil (filter p es)
  where
    has_key_own : (x : Entry) → has_key x.ikey.key x ≡ true
    has_key_own x = has_key-at x.ikey.key x refl

late_light : (es : List Entry) (e : Entry) → weight_of_entries es < OUTPUT_TARGET → weight_of_entries (before_last_key (es ++ e ∷ [])) < OUTPUT_TARGET
late_light es e light = omega (arith, light, filter_weight (λ x. not (has_key e.ikey.key x)) es, ap weight_of_entries (before_more es e))

late_same : (es : List Entry) (e : Entry) → has_key (largest_key es) e ≡ true → weight_of_entries (before_last_key es) < OUTPUT_TARGET → weight_of_entries (before_last_key (es ++ e ∷ [])) < OUTPUT_TARGET
late_same es e same late =
    let k = ap (λ (key : List ℕ). filter (λ x. not (has_key key x)) es) (has_key-is (largest_key es) e same) in
    omega (arith, late, ap weight_of_entries (before_more es e ∙ k))

late_by : (es : List Entry) (e : Entry) (b : Bool) → has_key (largest_key es) e ≡ b → (OUTPUT_TARGET ≤ weight_of_entries es → not b ≡ false) → weight_of_entries (before_last_key es) < OUTPUT_TARGET → weight_of_entries (before_last_key (es ++ e ∷ [])) < OUTPUT_TARGET
late_by es e true is h late = late_same es e is late
late_by es e false is h late = elim (cases_lt (weight_of_entries es) OUTPUT_TARGET) [
  | inl light ↦ late_light es e light
  | inr heavy ↦ absurd (true≢false (h heavy))
]

-- ---- the outputs that are closed

module _ (o : Entry) (rest : List Entry) (e : Entry) where
  -- a key before those of the output is before that of the next entry
  lower_more : Falls ((o ∷ rest) ++ e ∷ []) → (x : Entry) → KeyLess x.ikey.key o.ikey.key → KeyLess x.ikey.key e.ikey.key
  lower_more falls x less = elim (by_key o e (falls_across (o ∷ rest) (e ∷ []) falls o e (inl refl) (inl refl))) [
    | inl more ↦ less-trans x.ikey.key o.ikey.key e.ikey.key less more
    | inr same ↦ subst (λ (k : List ℕ). KeyLess x.ikey.key k) same less
  ]

first_more : (out later : List Entry) (o : Entry) (rest : List Entry) (e : Entry) → Falls ((o ∷ rest) ++ e ∷ []) → IsFirstOutput out (later ++ (o ∷ rest)) → IsFirstOutput out (later ++ ((o ∷ rest) ++ e ∷ []))
first_more out later o rest e falls first = record {
  some = first.some;
  late = first.late;
  full = λ lt. first.full (omega (arith, length-append later (o ∷ rest)));
  apart = λ x y m n. elim (IsIn-append_cases y later ((o ∷ rest) ++ e ∷ []) n) [
    | inl a ↦ first.apart x y m (IsIn-append_left y later (o ∷ rest) a)
    | inr b ↦ elim (IsIn-append_cases y (o ∷ rest) (e ∷ []) b) [
      | inl own ↦ first.apart x y m (IsIn-append_right y later (o ∷ rest) own)
      | inr new ↦ subst (λ (z : Entry). KeyLess x.ikey.key z.ikey.key) (sym (IsIn-one y e new)) (lower_more o rest e falls x (first.apart x o m (IsIn-append_right o later (o ∷ rest) (inl refl))))
    ]
  ];
}

cut_grow : (lists : List (List Entry)) (es : List Entry) (e : Entry) → (0 < length lists → 0 < length es) → Falls (es ++ e ∷ []) → AreFirstOutputs lists es → AreFirstOutputs lists (es ++ e ∷ [])
cut_grow [] es e some falls cut = tt
cut_grow (out ∷ lists) [] e some falls cut = absurd (none (some (omega arith)))
  where
    none : 0 < 0 → ⊥
    none lt = omega (arith, lt)
cut_grow (out ∷ lists) (o ∷ rest) e some falls cut = (first_more out (all_entries lists) o rest e falls cut.0, cut_grow lists (o ∷ rest) e (λ lt. omega arith) falls cut.1)

-- entries have a last one
record Ends (es : List Entry) : Type 0 where
  init : List Entry
  last : Entry
  parts : es ≡ init ++ last ∷ []

ends : (es : List Entry) → 0 < length es → Ends es
ends [] some = absurd (omega (arith, some))
ends (x ∷ []) some = record { init = []; last = x; parts = refl }
ends (x ∷ y ∷ es) some = let more = ends (y ∷ es) (omega arith) in record { init = x ∷ more.init; last = more.last; parts = ap (λ (zs : List Entry). x ∷ zs) more.parts }

weighs_some : (es : List Entry) → OUTPUT_TARGET ≤ weight_of_entries es → 0 < length es
weighs_some [] heavy = absurd (omega (arith, heavy))
weighs_some (x ∷ es) heavy = omega arith

pub ends_none : (es : List Entry) → OUTPUT_TARGET ≤ weight_of_entries es → last_of es ≡ None → ⊥
ends_none es heavy none =
    let at = ends es (weighs_some es heavy) in
    let bad : ◌≡◌ {A = Option Entry} None (Some at.last) = sym none ∙ ap last_of at.parts ∙ last_added at.init at.last in
    absurd cc

-- an output that weighs enough, before an entry of another key
closed_first : (es : List Entry) (e : Entry) → OUTPUT_TARGET ≤ weight_of_entries es → has_key (largest_key es) e ≡ false → Falls (es ++ e ∷ []) → weight_of_entries (before_last_key es) < OUTPUT_TARGET → IsFirstOutput es (e ∷ [])
closed_first es e heavy other falls late =
    let at = ends es (weighs_some es heavy) in
    let k : largest_key es ≡ at.last.ikey.key = ap largest_key at.parts ∙ last_key_more at.init at.last in
    let apart : e.ikey.key ≡ at.last.ikey.key → ⊥ = λ same. true≢false (sym (has_key-at (largest_key es) e (same ∙ sym k)) ∙ other) in
    record {
      some = weighs_some es heavy;
      late = late;
      full = λ lt. heavy;
      apart = λ x y m n. lower_keys at.init at.last e [] (subst (λ (zs : List Entry). Falls (zs ++ e ∷ [])) at.parts falls) apart x y (subst (IsIn x) at.parts m) n;
    }

-- ---- one more entry

closes_is : (es : List Entry) (e : Entry) (a b : Bool) → nat_le OUTPUT_TARGET (weight_of_entries es) ≡ a → has_key (largest_key es) e ≡ b → (a && not b) ≡ true → (OUTPUT_TARGET ≤ weight_of_entries es) × (has_key (largest_key es) e ≡ false)
closes_is es e true false heavy other h = (leb-true OUTPUT_TARGET (weight_of_entries es) heavy, other)
closes_is es e true true heavy other h = absurd (true≢false (sym h))
closes_is es e false b heavy other h = absurd (true≢false (sym h))

module _ (target : ℕ) (entries : List Entry) (closed : List (List ℕ)) (taking : Draft) (e : Entry) (split : IsSplitSoFar target entries closed taking) (may : MayCome entries e) where
  whole : all_entries split.lists ++ (taking.entries ++ e ∷ []) ≡ entries ++ e ∷ []
  whole = sym (append_assoc (all_entries split.lists) taking.entries (e ∷ [])) ∙ ap (λ (xs : List Entry). xs ++ e ∷ []) split.all

  whole_part : all_entries split.lists ++ ((taking.entries ++ e ∷ []) ++ []) ≡ entries ++ e ∷ []
  whole_part = ap (λ (xs : List Entry). all_entries split.lists ++ xs) (append-nil (taking.entries ++ e ∷ [])) ∙ whole

  own_sound : AreEntries (taking.entries ++ e ∷ [])
  own_sound = part_sound (all_entries split.lists) (taking.entries ++ e ∷ []) [] (subst AreEntries (sym whole_part) may.sound)

  own_few : AreFew (taking.entries ++ e ∷ [])
  own_few = part_few (all_entries split.lists) (taking.entries ++ e ∷ []) [] (subst AreFew (sym whole_part) may.few)

  own_falls : Falls (taking.entries ++ e ∷ [])
  own_falls = ascending_falls (taking.entries ++ e ∷ []) own_sound.ascending

  some_more : 0 < length (taking.entries ++ e ∷ [])
  some_more = omega (arith, length-append taking.entries (e ∷ []))

  -- the output takes it
  module _ (stays : closes_before taking.entries e ≡ false) where
    late_more : weight_of_entries (before_last_key (taking.entries ++ e ∷ [])) < OUTPUT_TARGET
    late_more = late_by taking.entries e (has_key (largest_key taking.entries) e) refl (λ heavy. sym (ap (λ (b : Bool). b && not (has_key (largest_key taking.entries) e)) (le-leb OUTPUT_TARGET (weight_of_entries taking.entries) heavy)) ∙ stays) split.late

    pub stays_fault : add_fault taking e ≡ None
    stays_fault = fault_none taking.target taking.entries e (follows taking.entries e [] own_sound.ascending) (output_fits taking.target (taking.entries ++ e ∷ []) some_more own_sound own_few late_more)

    pub stays_split : IsSplitSoFar target (entries ++ e ∷ []) closed (draft_with taking e)
    stays_split = record {
      lists = split.lists;
      spelled = split.spelled;
      aims = split.aims;
      all = whole;
      cut = cut_grow split.lists taking.entries e split.some own_falls split.cut;
      late = late_more;
      some = λ lt. some_more;
    }

  -- the output is closed before it
  module _ (closes : closes_before taking.entries e ≡ true) (bytes : List ℕ) (is : IsTable bytes taking.entries) (of : target_of bytes ≡ taking.target) where
    heavy_other : (OUTPUT_TARGET ≤ weight_of_entries taking.entries) × (has_key (largest_key taking.entries) e ≡ false)
    heavy_other = closes_is taking.entries e (nat_le OUTPUT_TARGET (weight_of_entries taking.entries)) (has_key (largest_key taking.entries) e) refl refl closes

    one_sound : AreEntries (e ∷ [])
    one_sound = part_sound entries (e ∷ []) [] may.sound

    one_few : AreFew (e ∷ [])
    one_few = part_few entries (e ∷ []) [] may.few

    one_late : weight_of_entries (before_last_key (e ∷ [])) < OUTPUT_TARGET
    one_late = late_light [] e (omega arith)

    pub closes_fault : add_fault (record { target = taking.target; entries = [] }) e ≡ None
    closes_fault = fault_none taking.target [] e refl (output_fits taking.target (e ∷ []) (omega arith) one_sound one_few one_late)

    pub closes_split : IsSplitSoFar target (entries ++ e ∷ []) (closed ++ bytes ∷ []) (record { target = taking.target; entries = e ∷ [] })
    closes_split = record {
      lists = split.lists ++ taking.entries ∷ [];
      spelled = tables_push target closed split.lists bytes taking.entries split.spelled is (of ∙ split.aims);
      aims = split.aims;
      all = ap (λ (xs : List Entry). xs ++ e ∷ []) (all_entries-push split.lists taking.entries ∙ split.all);
      cut = cut_push split.lists taking.entries (e ∷ []) (cut_grow split.lists taking.entries e split.some own_falls split.cut) (closed_first taking.entries e heavy_other.0 heavy_other.1 own_falls split.late);
      late = one_late;
      some = λ lt. omega arith;
    }

-- ---- the end

module _ (target : ℕ) (entries : List Entry) (closed : List (List ℕ)) (taking : Draft) (split : IsSplitSoFar target entries closed taking) where
  pub ends_with : (bytes : List ℕ) → IsTable bytes taking.entries → target_of bytes ≡ taking.target → IsSplitInto target entries (closed ++ bytes ∷ [])
  ends_with bytes is of =
      let last : IsFirstOutput taking.entries [] = record { some = is.some; late = split.late; full = λ lt. absurd (omega (arith, lt)); apart = λ x y m n. absurd n } in
      record {
        lists = split.lists ++ taking.entries ∷ [];
        spelled = tables_push target closed split.lists bytes taking.entries split.spelled is (of ∙ split.aims);
        all = all_entries-push split.lists taking.entries ∙ split.all;
        cut = all_cut (split.lists ++ taking.entries ∷ []) (cut_push split.lists taking.entries [] (subst (AreFirstOutputs split.lists) (sym (append-nil taking.entries)) split.cut) last);
      }

  pub ends_empty : taking.entries ≡ [] → IsSplitInto target entries closed
  ends_empty none = record {
    lists = split.lists;
    spelled = split.spelled;
    all = sym (append-nil (all_entries split.lists)) ∙ ap (λ (xs : List Entry). all_entries split.lists ++ xs) (sym none) ∙ split.all;
    cut = all_cut split.lists (subst (AreFirstOutputs split.lists) none split.cut);
  }

pub nothing_finished : (es : List Entry) → BuilderRefuses (finish_fault es) EmptyTable → es ≡ []
nothing_finished [] h = refl
nothing_finished (e ∷ es) (inl h) = let bad : ◌≡◌ {A = Option BuildError} None (Some EmptyTable) = h in absurd cc
nothing_finished (e ∷ es) (inr h) = let bad : EmptyTable ≡ OutOfMemory = h.1 in absurd cc
