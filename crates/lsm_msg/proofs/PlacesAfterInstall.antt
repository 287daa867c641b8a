-- The places of a version after an install: the outputs, and what stays. The newer entries of a key stay in the place that is
-- searched first.
use Rattle.std.proofs.Common.{◌≡◌, ℕ, ◌+◌, ◌<◌, ◌≤◌, true, ◌⊎◌, List, [], ◌∷◌, refl, sym, subst, ◌∙◌, arith, inl, inr}
use Rattle.std.specs.Prelude.{◌↔◌}
use Rattle.std.specs.List.{list_any}
use Rattle.std.proofs.lemmas.Bool.{true≢false, not-true, not_from_false, false_from_ne_true}
use Rattle.lsm_key.specs.declared.entry.Entry.{Entry}
use Rattle.lsm_key.specs.Sets.{IsIn}
use Rattle.lsm_key.specs.Places.{AreOrdered, all_entries}
use Rattle.lsm_key.proofs.AscendingEntries.{IsIn-filter}
use Rattle.lsm_key.proofs.Lists.{IsIn-kept}
use Rattle.lsm_key.proofs.Membership.{IsIn-append_left, IsIn-append_right, IsIn-append_cases}
use Rattle.lsm_table.specs.Tables.{Opened}
use Rattle.lsm_claim.specs.declared.job.Want.{Want}
use Rattle.lsm_edit.specs.declared.file.FileMeta.{FileMeta}
use Rattle.lsm_edit.specs.declared.edit.Edit.{Edit}
use Rattle.lsm_edit.specs.declared.served.Placed.{Placed}
use Rattle.lsm_edit.specs.Version.{IsVersion, has_number, files_after, files_without}
use Rattle.lsm_edit.specs.Served.{ServedValue, IsServed, AreAsRecorded, is_covered, placed_of, places_without, put_all, tables_of}
use Rattle.lsm_edit.proofs.ServedAfterEdit.{put_all-members, served_after}
use Rattle.lsm_edit.proofs.LevelEntries.{in_tables}
use Rattle.lsm_edit.proofs.ServedPlaces.{AreNewer, covered, newer_places, no_shared, ordered_from, tables_in}
use Rattle.lsm_edit.proofs.PlacesInOrder.{placed_meta, placed_recorded}
use Rattle.lsm_edit.proofs.KeysOutOfRange.{key_covered}
use Rattle.lsm_edit.proofs.SearchOrder.{Before, upper, newer, lesser, level_rises}
use Rattle.lsm_edit.proofs.VersionLaws.{fresh_added, stays}
use Rattle.lsm_msg.specs.Legal.{IsLegal}
use Rattle.lsm_msg.specs.Installs.{AddNoEntry, Installs, entries_of}
use Rattle.lsm_msg.specs.InstallLaws.{InstallsAddNoEntry, InstallsKeepOrder}
use Rattle.lsm_msg.proofs.LegalInputs.{is_listed, listed_is, level_cases, stays_before, taken}

-- ---- the entries of tables with their files

pub placed_entry : (fs : List FileMeta) (ts : List Opened) (p : Placed) (e : Entry) → IsIn p (placed_of fs ts) → IsIn e p.table.entries → IsIn e (entries_of ts)
placed_entry [] ts p e m n = absurd m
placed_entry (f ∷ fs) [] p e m n = absurd m
placed_entry (f ∷ fs) (t ∷ ts) p e m n = elim m [
  | inl same ↦ IsIn-append_left e t.entries (entries_of ts) (subst (λ (x : Placed). IsIn e x.table.entries) same n)
  | inr later ↦ IsIn-append_right e t.entries (entries_of ts) (placed_entry fs ts p e later n)
]

pub entry_placed : (fs : List FileMeta) (ts : List Opened) (e : Entry) → AreAsRecorded fs ts → IsIn e (entries_of ts) → (p : Placed) × IsIn p (placed_of fs ts) × IsIn e p.table.entries
entry_placed [] [] e rec m = absurd m
entry_placed [] (t ∷ ts) e rec m = absurd rec
entry_placed (f ∷ fs) [] e rec m = absurd m
entry_placed (f ∷ fs) (t ∷ ts) e rec m = elim (IsIn-append_cases e t.entries (entries_of ts) m) [
  | inl here ↦ (record { meta = f; table = t }, inl refl, here)
  | inr later ↦ let r = entry_placed fs ts e rec.1 later in (r.0, inr r.1, r.2)
]

module _ (s : ServedValue) (want : Want) (edit : Edit) (tables : List Opened) (ver : IsVersion s.version) (is : IsServed s) (legal : IsLegal s.version.files want) (inst : Installs s want edit tables) where
  abbrev pub added : List Placed
  added = placed_of edit.added tables

  abbrev pub kept : List Placed
  kept = places_without edit.removed s.places

  abbrev pub after : List Placed
  after = put_all added kept

  -- ---- what stays

  pub not_taken : (f : FileMeta) → stays edit.removed f ≡ true → IsIn f.number want.files → ⊥
  not_taken f h m =
      let listed : list_any (λ n. has_number n f) edit.removed ≡ true = is_listed edit.removed f (subst (λ (ns : List ℕ). IsIn f.number ns) (sym inst.removed) m) in
      true≢false (sym listed ∙ not-true (list_any (λ n. has_number n f) edit.removed) h)

  stays_there : (f : FileMeta) → (IsIn f.number want.files → ⊥) → stays edit.removed f ≡ true
  stays_there f out =
      not_from_false (list_any (λ n. has_number n f) edit.removed)
      (false_from_ne_true (list_any (λ n. has_number n f) edit.removed) (λ h. out (subst (λ (ns : List ℕ). IsIn f.number ns) inst.removed (listed_is edit.removed f h))))

  pub kept_cases : (p : Placed) → IsIn p kept → IsIn p s.places × (IsIn p.meta.number want.files → ⊥)
  kept_cases p m = let k = IsIn-filter (λ (x : Placed). stays edit.removed x.meta) p s.places m in (k.0, not_taken p.meta k.1)

  pub kept_in : (p : Placed) → IsIn p s.places → (IsIn p.meta.number want.files → ⊥) → IsIn p kept
  kept_in p m out = IsIn-kept (λ (x : Placed). stays edit.removed x.meta) p s.places m (stays_there p.meta out)

  -- a place after the install is an output's, or one that stays
  pub place_cases : (p : Placed) → IsIn p after → IsIn p added ⊎ (IsIn p s.places × (IsIn p.meta.number want.files → ⊥))
  place_cases p m = elim ((put_all-members added kept p).0 m) [ inl a ↦ inl a | inr b ↦ inr (kept_cases p b) ]

  -- a file likewise
  pub file_cases : (f : FileMeta) → IsIn f (files_after s.version.files edit) → (IsIn f s.version.files × (IsIn f.number want.files → ⊥)) ⊎ IsIn f edit.added
  file_cases f m = elim (IsIn-append_cases f (files_without edit.removed s.version.files) edit.added m) [
    | inl a ↦ let k = IsIn-filter (stays edit.removed) f s.version.files a in inl (k.0, not_taken f k.1)
    | inr b ↦ inr b
  ]

  pub file_stays : (f : FileMeta) → IsIn f s.version.files → (IsIn f.number want.files → ⊥) → IsIn f (files_after s.version.files edit)
  file_stays f m out = IsIn-append_left f (files_without edit.removed s.version.files) edit.added (IsIn-kept (stays edit.removed) f s.version.files m (stays_there f out))

  -- ---- the outputs

  -- no output has the number of a file before
  pub new_number : (f g : FileMeta) → IsIn f edit.added → IsIn g s.version.files → g.number ≡ f.number → ⊥
  new_number f g mf mg same = let high = fresh_added s.version edit inst.applies f mf in let low = ver.below g mg in omega arith

  pub output_level : (p : Placed) → IsIn p added → p.meta.level ≡ want.level + 1
  output_level p m = inst.level p.meta (placed_meta edit.added tables p m)

  output_covers : (p : Placed) → IsIn p added → (e : Entry) → IsIn e p.table.entries → is_covered p.meta e.ikey.key ≡ true
  output_covers p m e me = key_covered p.meta p.table (placed_recorded edit.added tables inst.recorded p m) e me

  -- ---- the entries

  abbrev stored : List Entry
  stored = all_entries (tables_of s.places)

  abbrev rest : List Entry
  rest = all_entries (tables_of kept)

  abbrev next : List Entry
  next = all_entries (tables_of after)

  pub rest_stored : (e : Entry) → IsIn e rest → IsIn e stored
  rest_stored e m = let t = in_tables e kept m in tables_in s.places t.0 e (kept_cases t.0 t.1).0 t.2

  pub next_parts : (e : Entry) → IsIn e next ↔ (IsIn e (entries_of tables) ⊎ IsIn e rest)
  next_parts e = (
    λ m. let t = in_tables e after m in elim ((put_all-members added kept t.0).0 t.1) [ inl a ↦ inl (placed_entry edit.added tables t.0 e a t.2) | inr b ↦ inr (tables_in kept t.0 e b t.2) ],
    λ m. elim m [
      | inl a ↦ let p = entry_placed edit.added tables e inst.recorded a in tables_in after p.0 e ((put_all-members added kept p.0).1 (inl p.1)) p.2
      | inr b ↦ let t = in_tables e kept b in tables_in after t.0 e ((put_all-members added kept t.0).1 (inr t.1)) t.2
    ],
  )

  -- no entry comes in
  pub next_stored : AddNoEntry s.places want tables → (e : Entry) → IsIn e next → IsIn e stored
  next_stored none e m = elim ((next_parts e).0 m) [ inl a ↦ (let i = none e a in tables_in s.places i.0 e i.1 i.3) | inr b ↦ rest_stored e b ]

  -- ---- the order

  module _ (none : AddNoEntry s.places want tables) (new : AreNewer s.places) (e f : Entry) (same : e.ikey.key ≡ f.ikey.key) where
    covers_e : (q : Placed) → is_covered q.meta f.ikey.key ≡ true → is_covered q.meta e.ikey.key ≡ true
    covers_e q c = subst (λ (key : List ℕ). is_covered q.meta key ≡ true) (sym same) c

    before_output : (p q : Placed) → IsIn p s.places → (IsIn p.meta.number want.files → ⊥) → IsIn q added → IsIn e p.table.entries → IsIn f q.table.entries → Before p.meta q.meta → f.ikey.seq < e.ikey.seq
    before_output p q mp out mq me mf b =
        let source = none f (placed_entry edit.added tables q f mq mf) in
        let at : p.meta.level ≤ want.level + 1 = subst (λ (n : ℕ). p.meta.level ≤ n) (output_level q mq) (level_rises p.meta q.meta b) in
        let first = stays_before s want ver is legal p source.0 mp out source.1 source.2 e.ikey.key (covered s ver is p mp e me) (covers_e source.0 (covered s ver is source.0 source.1 f source.3)) at in
        new p source.0 mp source.1 first e f me source.3 same

    after_output : (p q : Placed) → IsIn p added → IsIn q s.places → IsIn e p.table.entries → IsIn f q.table.entries → Before p.meta q.meta → f.ikey.seq < e.ikey.seq
    after_output p q mp mq me mf (upper lt) =
        let source = none e (placed_entry edit.added tables p e mp me) in
        let level = output_level p mp in
        let at : source.0.meta.level < q.meta.level = elim (level_cases want.level source.0.meta.level (legal.levels source.0.meta (taken s want ver is legal source.0 source.1 source.2))) [ inl a ↦ omega arith | inr a ↦ omega arith ] in
        new source.0 q source.1 mq (upper at) e f source.3 mf same
    after_output p q mp mq me mf (newer d z n) = (let level = output_level p mp in absurd (omega arith))
    after_output p q mp mq me mf (lesser d n gap) = absurd (no_shared p.meta q.meta e.ikey.key gap (output_covers p mp e me) (covers_e q (covered s ver is q mq f mf)))

    both_outputs : (p q : Placed) → IsIn p added → IsIn q added → IsIn e p.table.entries → IsIn f q.table.entries → Before p.meta q.meta → ⊥
    both_outputs p q mp mq me mf (upper lt) = (let a = output_level p mp in let b = output_level q mq in omega arith)
    both_outputs p q mp mq me mf (newer d z n) = (let a = output_level p mp in omega arith)
    both_outputs p q mp mq me mf (lesser d n gap) = no_shared p.meta q.meta e.ikey.key gap (output_covers p mp e me) (covers_e q (output_covers q mq f mf))

    newer_after : (p q : Placed) → IsIn p after → IsIn q after → Before p.meta q.meta → IsIn e p.table.entries → IsIn f q.table.entries → f.ikey.seq < e.ikey.seq
    newer_after p q mp mq b me mf = elim (place_cases p mp) [
      | inl made ↦ elim (place_cases q mq) [
        | inl too ↦ absurd (both_outputs p q made too me mf b)
        | inr old ↦ after_output p q made old.0 me mf b
      ]
      | inr left ↦ elim (place_cases q mq) [
        | inl made ↦ before_output p q left.0 left.1 made me mf b
        | inr old ↦ new p q left.0 old.0 b e f me mf same
      ]
    ]

  pub ordered_after : AreOrdered (tables_of s.places) → AddNoEntry s.places want tables → AreOrdered (tables_of after)
  ordered_after order none =
      ordered_from after (served_after s edit tables ver is inst.sound inst.recorded inst.applies).ordered
      (λ p q mp mq b e f me mf same. newer_after none (newer_places s ver is order) e f same p q mp mq b me mf)

pub installs_add_no_entry : InstallsAddNoEntry
installs_add_no_entry s want edit tables ver is legal inst none = next_stored s want edit tables ver is legal inst none

pub installs_keep_order : InstallsKeepOrder
installs_keep_order s want edit tables ver is order legal inst none = ordered_after s want edit tables ver is legal inst order none
