-- What a merge makes of the inputs of a want may be installed: tables with keys of its hull, one after another, and few.
use Rattle.std.proofs.Common.{◌≡◌, ℕ, suc, ◌<◌, ◌≤◌, ◌^◌, true, ◌⊎◌, List, [], ◌∷◌, length, refl, sym, ap, subst, ◌∙◌, arith, inl, inr, All, AllPairs, length-append}
use Rattle.std.specs.Prelude.{◌↔◌, sum_by}
use Rattle.std.proofs.lemmas.Bool.{and_parts, and_from}
use Rattle.std.proofs.lemmas.List.Elements.{All-head, All-tail}
use Rattle.lsm_key.specs.declared.entry.Entry.{Entry}
use Rattle.lsm_key.specs.Order.{Precedes, key_le, key_lt}
use Rattle.lsm_key.specs.Places.{all_entries}
use Rattle.lsm_key.specs.Sets.{IsIn}
use Rattle.lsm_key.proofs.AscendingEntries.{Falls, ascending_falls}
use Rattle.lsm_key.proofs.Membership.{IsIn-append_left, IsIn-append_right, IsIn-map, IsIn-place}
use Rattle.lsm_claim.specs.declared.job.Want.{Want}
use Rattle.lsm_claim.specs.Conflicts.{covers}
use Rattle.lsm_table.specs.Tables.{Opened, largest_key, smallest_key, target_of}
use Rattle.lsm_table.proofs.TableContents.{largest_in, smallest_in}
use Rattle.lsm_edit.specs.declared.file.FileMeta.{FileMeta}
use Rattle.lsm_edit.specs.Served.{IsServed, ServedValue}
use Rattle.lsm_edit.specs.Version.{IsVersion}
use Rattle.lsm_msg.specs.declared.job.JobParts.{JobParts}
use Rattle.lsm_msg.specs.Legal.{IsLegal, Takes}
use Rattle.lsm_msg.proofs.LegalInputs.{input_key}
use Rattle.lsm_msg.proofs.KeptEntries.{kept_input}
use Rattle.lsm_merge.specs.Inputs.{lists_of}
use Rattle.lsm_merge.specs.Outputs as merge
use Rattle.lsm_merge.specs.Outputs.{HasLowerKeys}
use Rattle.lsm_key.proofs.EntryOrder.{newer_first}
use Rattle.lsm_coord.specs.Contract.Installing.{AreAscending, AreOutputTables, DecodeTo, is_table_inside}
use Rattle.lsm_store.specs.Compacting.{tables_at}
use Rattle.lsm_store.proofs.JobEntries.{input_entries, few_inputs, from_input}

-- ---- each, and two of them

each : {X : Type 0} (P : X → Type 0) (xs : List X) → All P xs → (x : X) → IsIn x xs → P x
each P [] h x m = absurd m
each P (y ∷ xs) h x m = elim m [ inl same ↦ subst P (sym same) (All-head P y xs h) | inr rest ↦ each P xs (All-tail P y xs h) x rest ]

with_first : {X : Type 0} (R : X → X → Type 0) (x : X) (xs : List X) → AllPairs R (x ∷ xs) → (y : X) → IsIn y xs → R x y
with_first R x xs h y m = let c = IsIn-place y xs m in subst (R x) c.2 (h 0 (suc c.0) y (omega arith) (omega (arith, c.1)))

of_rest : {X : Type 0} (R : X → X → Type 0) (x : X) (xs : List X) → AllPairs R (x ∷ xs) → AllPairs R xs
of_rest R x xs h = λ i j d lt within. h (suc i) (suc j) d (omega (arith, lt)) (omega (arith, within))

-- ---- the tables of a merge

-- each text with its entries
abbrev pub opened_as : List (List ℕ) → List (List Entry) → List Opened
opened_as [] lists = []
opened_as (text ∷ texts) [] = []
opened_as (text ∷ texts) (es ∷ lists) = record { bytes = text; entries = es } ∷ opened_as texts lists

pub opened_tables : (target : ℕ) (texts : List (List ℕ)) (lists : List (List Entry)) → merge.EncodeEntries target texts lists → DecodeTo texts (opened_as texts lists)
opened_tables target [] [] h = tt
opened_tables target [] (es ∷ lists) h = absurd h
opened_tables target (text ∷ texts) [] h = absurd h
opened_tables target (text ∷ texts) (es ∷ lists) h = (refl, h.0, opened_tables target texts lists h.2)

-- each is of the block target
opened_cut : (target : ℕ) (texts : List (List ℕ)) (lists : List (List Entry)) → merge.EncodeEntries target texts lists → (t : Opened) → IsIn t (opened_as texts lists) → target_of t.bytes ≡ target
opened_cut target [] lists h t m = absurd m
opened_cut target (text ∷ texts) [] h t m = absurd m
opened_cut target (text ∷ texts) (es ∷ lists) h t m = elim m [
  | inl same ↦ ap (λ (u : Opened). target_of u.bytes) same ∙ h.1
  | inr later ↦ opened_cut target texts lists h.2 t later
]

pub opened_entries : (target : ℕ) (texts : List (List ℕ)) (lists : List (List Entry)) → merge.EncodeEntries target texts lists → lists_of (opened_as texts lists) ≡ lists
opened_entries target [] [] h = refl
opened_entries target [] (es ∷ lists) h = absurd h
opened_entries target (text ∷ texts) [] h = absurd h
opened_entries target (text ∷ texts) (es ∷ lists) h = ap (λ (ls : List (List Entry)). es ∷ ls) (opened_entries target texts lists h.2)

as_many : (target : ℕ) (texts : List (List ℕ)) (lists : List (List Entry)) → merge.EncodeEntries target texts lists → length texts ≡ length lists
as_many target [] [] h = refl
as_many target [] (es ∷ lists) h = absurd h
as_many target (text ∷ texts) [] h = absurd h
as_many target (text ∷ texts) (es ∷ lists) h = let rest = as_many target texts lists h.2 in omega (arith, rest)

-- the entries of one are those of an output
opened_in : (target : ℕ) (texts : List (List ℕ)) (lists : List (List Entry)) → merge.EncodeEntries target texts lists → (t : Opened) → IsIn t (opened_as texts lists) → IsIn t.entries lists
opened_in target texts lists h t m = subst (λ (ls : List (List Entry)). IsIn t.entries ls) (opened_entries target texts lists h) (IsIn-map (λ (u : Opened). u.entries) t (opened_as texts lists) m)

in_all : (lists : List (List Entry)) (es : List Entry) (e : Entry) → IsIn es lists → IsIn e es → IsIn e (all_entries lists)
in_all [] es e m n = absurd m
in_all (fs ∷ lists) es e m n = elim m [
  | inl same ↦ IsIn-append_left e fs (all_entries lists) (subst (λ (xs : List Entry). IsIn e xs) same n)
  | inr rest ↦ IsIn-append_right e fs (all_entries lists) (in_all lists es e rest n)
]

-- ---- one after another

pub opened_ascending : (target : ℕ) (texts : List (List ℕ)) (lists : List (List Entry)) → merge.EncodeEntries target texts lists → ((es : List Entry) → IsIn es lists → 0 < length es) → AllPairs HasLowerKeys lists → AreAscending (opened_as texts lists)
opened_ascending target [] [] h some lower = tt
opened_ascending target [] (es ∷ lists) h some lower = absurd h
opened_ascending target (text ∷ texts) [] h some lower = absurd h
opened_ascending target (text ∷ texts) (es ∷ lists) h some lower = (
  λ u m.
      let there = opened_in target texts lists h.2 u m in
      let last = largest_in es (some es (inl refl)) in
      let first = smallest_in u.entries (some u.entries (inr there)) in
      let before : key_lt last.0.ikey.key first.0.ikey.key ≡ true = with_first HasLowerKeys es lists lower u.entries there last.0 first.0 last.1 first.1 in
      sym (λ i. key_lt (last.2 i) (first.2 i)) ∙ before,
  opened_ascending target texts lists h.2 (λ fs m. some fs (inr m)) (of_rest HasLowerKeys es lists lower),
)

-- ---- how many there are

-- where each has entries there are no more of them than entries
fewer_lists : (lists : List (List Entry)) → ((es : List Entry) → IsIn es lists → 0 < length es) → length lists ≤ length (all_entries lists)
fewer_lists [] some = omega arith
fewer_lists (es ∷ lists) some =
    let rest = fewer_lists lists (λ fs m. some fs (inr m)) in
    let own = some es (inl refl) in
    let both = length-append es (all_entries lists) in
    omega (arith, rest, own, both)

without : (x : Entry) (ys : List Entry) → IsIn x ys → (rest : List Entry) × (length ys ≡ suc (length rest)) × ((e : Entry) → IsIn e ys → (e ≡ x) ⊎ IsIn e rest)
without x [] m = absurd m
without x (y ∷ ys) m = elim m [
  | inl same ↦ (ys, refl, λ e n. elim n [ inl here ↦ inl (here ∙ sym same) | inr later ↦ inr later ])
  | inr later ↦
      let r = without x ys later in
      (y ∷ r.0, ap (λ (n : ℕ). suc n) r.1, λ e n. elim n [ inl here ↦ inr (inl here) | inr there ↦ elim (r.2 e there) [ inl a ↦ inl a | inr b ↦ inr (inr b) ] ])
]

not_itself : (x e : Entry) → Precedes x e → e ≡ x → ⊥
not_itself x e before same =
    let lt = newer_first x e before (ap (λ (y : Entry). y.ikey.key) (sym same)) in
    let one : e.ikey.seq ≡ x.ikey.seq = ap (λ (y : Entry). y.ikey.seq) same in
    omega (arith, lt, one)

-- entries in order, each of them among others, are no more than these
fewer : (xs ys : List Entry) → Falls xs → ((e : Entry) → IsIn e xs → IsIn e ys) → length xs ≤ length ys
fewer [] ys falls among = omega arith
fewer (x ∷ xs) ys falls among =
    let r = without x ys (among x (inl refl)) in
    let rest = fewer xs r.0 falls.1 (λ e m. elim (r.2 e (among e (inr m))) [ inl same ↦ absurd (not_itself x e (falls.0 e m) same) | inr there ↦ there ]) in
    omega (arith, r.1, rest)

-- ---- the outputs of a job

module _ (s : ServedValue) (ver : IsVersion s.version) (is : IsServed s) (want : Want) (legal : IsLegal s.version.files want) (job : JobParts) (takes : (f : FileMeta) → IsIn f job.inputs ↔ Takes s.version.files want f) (texts : List (List ℕ)) (m : merge.IsMerge (tables_at s.places job.inputs) job texts) where
  kept_in : (e : Entry) → IsIn e (all_entries m.entries) → IsIn e (input_entries s.places job.inputs)
  kept_in e n = kept_input (input_entries s.places job.inputs) job.points job.deeper e ((m.kept e).0 n)

  own : (f : FileMeta) → IsIn f job.inputs → IsIn f s.version.files
  own f n = ((takes f).0 n).0

  in_hull : (e : Entry) → IsIn e (all_entries m.entries) → covers want.hull e.ikey.key ≡ true
  in_hull e n =
      let p = from_input s ver is job.inputs own e (kept_in e n) in
      input_key s want ver is legal p.0 p.1 ((takes p.0.meta).0 p.2).1 e p.3

  some : (es : List Entry) → IsIn es m.entries → 0 < length es
  some = each (λ (es : List Entry). 0 < length es) m.entries m.cut.some

  inside : (t : Opened) → IsIn t (opened_as texts m.entries) → is_table_inside want.hull t ≡ true
  inside t n =
      let there = opened_in job.block texts m.entries m.spelled t n in
      let first = smallest_in t.entries (some t.entries there) in
      let last = largest_in t.entries (some t.entries there) in
      let low = and_parts (key_le want.hull.lo first.0.ikey.key) (key_le first.0.ikey.key want.hull.hi) (in_hull first.0 (in_all m.entries t.entries first.0 there first.1)) in
      let high = and_parts (key_le want.hull.lo last.0.ikey.key) (key_le last.0.ikey.key want.hull.hi) (in_hull last.0 (in_all m.entries t.entries last.0 there last.1)) in
      and_from (key_le want.hull.lo (smallest_key t.entries)) (key_le (largest_key t.entries) want.hull.hi)
      (subst (λ (k : List ℕ). key_le want.hull.lo k ≡ true) first.2 low.0) (subst (λ (k : List ℕ). key_le k want.hull.hi ≡ true) last.2 high.1)

  pub outputs_are : (block : ℕ) → job.block ≡ block → sum_by (λ f. f.bytes) job.inputs ≤ 2 ^ 34 → AreOutputTables block want.hull texts (opened_as texts m.entries)
  outputs_are block target most = record {
    few =
        let texts_are = as_many job.block texts m.entries m.spelled in
        let lists = fewer_lists m.entries some in
        let kept = fewer (all_entries m.entries) (input_entries s.places job.inputs) (ascending_falls (all_entries m.entries) m.ascending) kept_in in
        let inputs = few_inputs s ver is job.inputs own in
        let bound : length texts ≤ 1227133514 = omega (arith, texts_are, lists, kept, inputs, most) in
        omega (arith, bound);
    tables = opened_tables job.block texts m.entries m.spelled;
    cut = λ t n. opened_cut job.block texts m.entries m.spelled t n ∙ target;
    inside = inside;
    ascending = opened_ascending job.block texts m.entries m.spelled some m.cut.apart;
  }
