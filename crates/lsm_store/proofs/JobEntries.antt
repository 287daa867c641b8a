-- The entries of a job's tables are those of its inputs, no two tables have one, and they are few.
use Rattle.std.proofs.Common.{◌≡◌, ◌+◌, ◌*◌, ◌≤◌, List, [], ◌∷◌, ◌++◌, length, refl, sym, ap, subst, ◌∙◌, arith, inl, inr, length-append}
use Rattle.std.specs.Prelude.{sum_by}
use Rattle.std.proofs.lemmas.List.Sums.{sum_by-cons}
use Rattle.lsm_key.specs.declared.entry.Entry.{Entry}
use Rattle.lsm_key.specs.Limits.{entry_weight}
use Rattle.lsm_key.specs.Places.{AreOrdered, all_entries}
use Rattle.lsm_key.specs.Sets.{IsIn}
use Rattle.lsm_key.proofs.Membership.{IsIn-append_left, IsIn-append_right, IsIn-append_cases}
use Rattle.lsm_block.specs.Blocks.{entries}
use Rattle.lsm_table.specs.Tables.{Opened}
use Rattle.lsm_table.proofs.TableSizes.{entries_within}
use Rattle.lsm_table.proofs.TableWeights.{entries_weigh}
use Rattle.lsm_edit.specs.declared.file.FileMeta.{FileMeta}
use Rattle.lsm_edit.specs.declared.served.Placed.{Placed}
use Rattle.lsm_edit.specs.Served.{IsServed, ServedValue, tables_of}
use Rattle.lsm_edit.specs.Version.{IsVersion, FileNumbersRise}
use Rattle.lsm_edit.proofs.ServedPlaces.{newer_places, one_first, one_place}
use Rattle.lsm_merge.specs.Inputs.{HaveSameEntry, lists_of}
use Rattle.lsm_store.specs.Compacting.{tables_at}
use Rattle.lsm_store.proofs.ServedTables.{at_place, next_table}

-- all entries of the tables of files
abbrev pub input_entries : List Placed → List FileMeta → List Entry
input_entries places files = all_entries (lists_of (tables_at places files))

-- each entry weighs its overhead at least
overheads : (es : List Entry) → 14 * length es ≤ sum_by entry_weight es
overheads [] = omega arith
overheads (e ∷ es) = omega (arith, overheads es, sum_by-cons entry_weight e es)

module _ (s : ServedValue) (ver : IsVersion s.version) (is : IsServed s) where
  -- the files are the version's
  abbrev pub AreOf : List FileMeta → Type 0
  AreOf files = (f : FileMeta) → IsIn f files → IsIn f s.version.files

  -- the first file's place, with its entries before the others
  first : (f : FileMeta) (files : List FileMeta) → AreOf (f ∷ files) → (p : Placed) × IsIn p s.places × (f ≡ p.meta) × (lists_of (tables_at s.places (f ∷ files)) ≡ p.table.entries ∷ lists_of (tables_at s.places files))
  first f files all =
      let p = at_place s ver is f (all f (inl refl)) in
      (p.0, p.1, p.2, ap (λ (ts : List Opened). lists_of ts) (next_table s ver is f files p.0.table p.3))

  -- ---- which entries they are

  pub from_input : (files : List FileMeta) → AreOf files → (e : Entry) → IsIn e (input_entries s.places files) → (p : Placed) × IsIn p s.places × IsIn p.meta files × IsIn e p.table.entries
  from_input [] all e m = absurd m
  from_input (f ∷ files) all e m =
      let p = first f files all in
      let parts : IsIn e (p.0.table.entries ++ input_entries s.places files) = subst (λ (lists : List (List Entry)). IsIn e (all_entries lists)) p.3 m in
      elim (IsIn-append_cases e p.0.table.entries (input_entries s.places files) parts) [
        | inl here ↦ (p.0, p.1, inl (sym p.2), here)
        | inr later ↦ let r = from_input files (λ g n. all g (inr n)) e later in (r.0, r.1, inr r.2, r.3)
      ]

  pub in_inputs : (files : List FileMeta) → AreOf files → (p : Placed) (e : Entry) → IsIn p s.places → IsIn p.meta files → IsIn e p.table.entries → IsIn e (input_entries s.places files)
  in_inputs [] all p e mp mf me = absurd mf
  in_inputs (f ∷ files) all p e mp mf me =
      let q = first f files all in
      let parts : IsIn e (q.0.table.entries ++ input_entries s.places files) = elim mf [
        | inl here ↦
            let one : p ≡ q.0 = one_place s ver is p q.0 mp q.1 (ap (λ (g : FileMeta). g.number) (here ∙ q.2)) in
            IsIn-append_left e q.0.table.entries (input_entries s.places files) (subst (λ (x : Placed). IsIn e x.table.entries) one me)
        | inr later ↦ IsIn-append_right e q.0.table.entries (input_entries s.places files) (in_inputs files (λ g n. all g (inr n)) p e mp later me)
      ] in
      subst (λ (lists : List (List Entry)). IsIn e (all_entries lists)) (sym q.3) parts

  -- ---- no two tables have one

  pub none_shared : (files : List FileMeta) → AreOf files → FileNumbersRise files → AreOrdered (tables_of s.places) → HaveSameEntry (lists_of (tables_at s.places files)) → ⊥
  none_shared [] all up order h = h
  none_shared (f ∷ files) all up order h =
      let p = first f files all in
      elim (subst HaveSameEntry p.3 h) [
        | inr later ↦ none_shared files (λ g n. all g (inr n)) up.1 order later
        | inl share ↦
            let e = share.0 in
            let d = share.1 in
            let q = from_input files (λ g n. all g (inr n)) d share.3 in
            let less = up.0 q.0.meta q.2 in
            let own : f.number ≡ p.0.meta.number = ap (λ (g : FileMeta). g.number) p.2 in
            let new = newer_places s ver is order in
            elim (one_first s.places is.ordered p.0 q.0 p.1 q.1) [
              | inl one ↦ let same : p.0.meta.number ≡ q.0.meta.number = ap (λ (x : Placed). x.meta.number) one in omega (arith, less, own, same)
              | inr (inl before) ↦ let lt = new p.0 q.0 p.1 q.1 before e d share.2 q.3 share.4 in omega (arith, lt, share.5)
              | inr (inr after) ↦ let lt = new q.0 p.0 q.1 p.1 after d e q.3 share.2 (sym share.4) in omega (arith, lt, share.5)
            ]
      ]

  -- ---- how many they are

  pub few_inputs : (files : List FileMeta) → AreOf files → 14 * length (input_entries s.places files) ≤ sum_by (λ f. f.bytes) files
  few_inputs [] all = omega arith
  few_inputs (f ∷ files) all =
      let p = first f files all in
      let es = p.0.table.entries in
      let total : length (input_entries s.places (f ∷ files)) ≡ length es + length (input_entries s.places files) = ap (λ (lists : List (List Entry)). length (all_entries lists)) p.3 ∙ length-append es (input_entries s.places files) in
      let size : f.bytes ≡ length p.0.table.bytes = ap (λ (g : FileMeta). g.bytes) p.2 ∙ (is.recorded p.0 p.1).bytes in
      let within : length (entries es) ≤ length p.0.table.bytes = entries_within p.0.table.bytes es (is.recorded p.0 p.1).table in
      omega (arith, total, size, within, entries_weigh es, overheads es, few_inputs files (λ g n. all g (inr n)), sum_by-cons (λ (g : FileMeta). g.bytes) f files)
