-- What a flush makes of the states that a coordinator shows.
use Rattle.std.proofs.Common.{◌≡◌, ℕ, ◌+◌, ◌-◌, ◌<◌, ◌≤◌, List, [], ◌∷◌, ◌++◌, Option, None, Some, refl, sym, ap, subst, ◌∙◌, arith, length, map, take, drop, unwrap_or}
use Rattle.std.specs.FinMap as fin
use Rattle.std.specs.Option.{option_map}
use Rattle.std.specs.List.Sorted.{IsPermutation}
use Rattle.std.proofs.lemmas.List.{drop-drop, map-append, length-take}
use Rattle.std.proofs.Math.Seq.{drop-length}
use Rattle.std.proofs.lemmas.List.Sorted.{IsPermutation-refl}
use Rattle.lsm_key.specs.declared.entry.Entry.{Entry}
use Rattle.lsm_key.specs.declared.op.Op.{Op}
use Rattle.lsm_key.specs.Sets.{IsIn}
use Rattle.lsm_key.specs.Visible.{value_at}
use Rattle.lsm_key.specs.Places.{IsAbove, entries_after}
use Rattle.lsm_edit.specs.declared.file.FileMeta.{FileMeta}
use Rattle.lsm_edit.specs.declared.edit.Edit.{Edit}
use Rattle.lsm_edit.specs.declared.edit.EditKind.TheVariants as kind
use Rattle.lsm_edit.specs.Edit.{IsEdit, IsSpelledEdit, edit as spelling}
use Rattle.lsm_edit.specs.Log.{LogHolds}
use Rattle.lsm_edit.specs.Served.{AreAsRecorded, IsServed, placed_of}
use Rattle.lsm_edit.specs.Next.{flush_edit}
use Rattle.lsm_edit.specs.Version.{IsVersion, VersionValue, apply_fault, after_apply, files_after}
use Rattle.lsm_table.specs.Tables.{Opened}
use Rattle.lsm_edit.proofs.AdvancedPlaces.{places_are}
use Rattle.lsm_edit.proofs.VersionLaws.{files_after-is}
use Rattle.lsm_versions.specs.Kept.{put_tables}
use Rattle.lsm_versions.specs.Manifest.{VersionSetValue, after_logging, versions_of}
use Rattle.lsm_versions.proofs.ManifestReplay.{Folds-push}
use Rattle.lsm_versions.proofs.RetiredFiles.{retired-none}
use Rattle.lsm_coord.specs.declared.frozen.Frozen.{Frozen}
use Rattle.lsm_coord.specs.Model.State.{State, Version, Place, last_seq, last_flushed, active_start, current_files}
use Rattle.lsm_coord.specs.Model.Changes.{after_flush, flush_end, flushed_version, with_version}
use Rattle.lsm_coord.specs.Contract.Logs.{IsLogged, MayCut}
use Rattle.lsm_coord.specs.Contract.Shows.{listing_of, place_of, Shows, ShowsStored}
use Rattle.lsm_coord.specs.Contract.Value.{CoordValue, frozen_entries, stored_entries}
use Rattle.lsm_msg.specs.Installs.{with_flushed}
use Rattle.lsm_coord.specs.Contract.Calls.{flush_source_of, active_after, after_freezing}
use Rattle.lsm_coord.proofs.CurrentVersion.{last_flushed-after_flush}
use Rattle.lsm_coord.proofs.LoggedCalls.{flush_holds}
use Rattle.lsm_coord.proofs.ShownVersions.{files_are, flushed_is, listed-push}
use Rattle.lsm_coord.proofs.ReadAnswers.{AreStored, frozen_answers, frozen_reads, frozen_above, frozen_entries_old}
use Rattle.lsm_coord.proofs.FreezeSteps.{Shows-froze, none_frozen}
use Rattle.lsm_coord.proofs.WriteSteps.{logged_ops}

take_drop_end : {X : Type 0} (n : ℕ) (xs : List X) → n ≤ length xs → drop n (take n xs) ≡ []
take_drop_end n xs h = let long : length (take n xs) ≡ n = omega (arith, length-take n xs) in subst (λ (m : ℕ). drop m (take n xs) ≡ []) long (drop-length (take n xs))

-- what a coordinator is after a flush to a table, with what is left of the log
abbrev pub flushed_to : CoordValue → Option Frozen → FileMeta → Opened → List ℕ → List (List ℕ) → CoordValue
flushed_to c frozen f t text log = record c { active = active_after c.active frozen; frozen = None; served = with_flushed c.served (flush_source_of c.active c.last frozen).end f t; stored = record c.stored { edits = c.stored.edits ++ text ∷ []; log = log } }

-- what is logged of a flush: the new table is searched first
pub logged_is : (old : VersionSetValue) (end : ℕ) (f : FileMeta) (t : Opened) (ts : List Opened) (e : Edit) → IsVersion old.served.version → IsServed old.served → IsEdit e → AreAsRecorded e.added ts → apply_fault old.served.version e ≡ None → e ≡ flush_edit old.served.version end f → ts ≡ t ∷ []
    → after_logging old e ts ≡ record old { served = with_flushed old.served end f t; stored = record old.stored { edits = old.stored.edits ++ spelling e ∷ []; tables = fin.insert old.stored.tables f.number t.bytes } }
logged_is old end f t ts e version served sound recorded applies is one =
    let plain : e.kind ≡ kind.Install → ⊥ = λ h. let no : kind.Flush ≡ kind.Install = sym (ap (λ (x : Edit). x.kind) is) ∙ h in absurd cc in
    let places = places_are old.served e ts version served sound plain recorded applies ∙ (λ i. placed_of (is i).added (one i) ++ old.served.places) in
    let retired = retired-none old.retired old.served e.removed (ap (λ (x : Edit). x.removed) is) in
    λ i. record { served = record { version = after_apply old.served.version (is i); places = places i }; stored = record old.stored { edits = old.stored.edits ++ spelling e ∷ []; tables = put_tables old.stored.tables (placed_of (is i).added (one i)) }; retired = retired i; floor = old.floor; failures = old.failures }

-- ---- a flush of the frozen memtable

module _ (c : CoordValue) (z : Frozen) (s : State) (h : Shows c s) (frozen : c.frozen ≡ Some z) where
  are_stored : AreStored (stored_entries c.served) s
  are_stored = record { old = h.tables.old; answers = h.tables.answers }

  frozen_is : s.frozen ≡ Some z.end
  frozen_is = h.frozen ∙ ap (λ (o : Option Frozen). option_map (λ (f : Frozen). f.end) o) frozen

  start_is : active_start s ≡ z.end
  start_is = ap (λ (o : Option ℕ). unwrap_or o (last_flushed s)) frozen_is

  end_is : flush_end s ≡ z.end
  end_is = ap (λ (o : Option ℕ). unwrap_or o (last_seq s)) frozen_is

  entries_are : frozen_entries c.frozen ≡ z.memtable
  entries_are = ap frozen_entries frozen

  module _ (f : FileMeta) (t : Opened) (text : List ℕ) (whole : t.entries ≡ z.memtable) (number : f.number ≡ c.served.version.next_file) (level : f.level ≡ 0)
      (one : IsSpelledEdit text (flush_edit c.served.version z.end f)) (fits : apply_fault c.served.version (flush_edit c.served.version z.end f) ≡ None) (log : List (List ℕ)) (held : LogHolds z.end log (drop z.end s.writes) None) where
    table_is : frozen_entries c.frozen ≡ t.entries
    table_is = entries_are ∙ sym whole

    after_is : last_flushed (after_flush s) ≡ z.end
    after_is = last_flushed-after_flush s ∙ end_is

    version_is : flushed_version s ≡ listing_of (after_apply c.served.version (flush_edit c.served.version z.end f))
    version_is =
        let v : VersionValue = c.served.version in
        let files : current_files s ++ record { level = 0; file = s.next_file } ∷ [] ≡ map place_of (files_after v.files (flush_edit v z.end f)) =
        ap (λ (ps : List Place). ps ++ record { level = 0; file = s.next_file } ∷ []) (files_are c.stored.edits c.served s h.tables)
        ∙ (λ i. map place_of v.files ++ record { level = sym level i; file = (h.tables.next_file ∙ sym number) i } ∷ [])
        ∙ sym (map-append place_of v.files (f ∷ []))
        ∙ ap (map place_of) (sym (files_after-is v.files (flush_edit v z.end f) refl)) in
        λ i. record { flushed = end_is i; files = files i }

    -- the tables show what the frozen memtable and they showed
    same_value : (key : List ℕ) (p : ℕ) → value_at (t.entries ++ stored_entries c.served) key p ≡ value_at (frozen_entries c.frozen ++ stored_entries c.served) key p
    same_value key p = ap (λ (es : List Entry). value_at (es ++ stored_entries c.served) key p) (sym table_is)

    old_after : (e : Entry) → IsIn e (t.entries ++ stored_entries c.served) → e.ikey.seq ≤ last_flushed (after_flush s)
    old_after e m =
        let there : IsIn e (frozen_entries c.frozen ++ stored_entries c.served) = subst (λ (es : List Entry). IsIn e (es ++ stored_entries c.served)) (sym table_is) m in
        let low = frozen_entries_old c.active (frozen_entries c.frozen) (stored_entries c.served) s h.memtables are_stored e there in
        omega (arith, after_is, start_is)

    stored_after : ShowsStored (c.stored.edits ++ text ∷ []) (with_flushed c.served z.end f t) (after_flush s)
    stored_after =
        let first = h.memtables.flushed in
        record {
          manifest = Folds-push c.stored.edits c.served.version text (flush_edit c.served.version z.end f) h.tables.manifest one fits;
          versions = ap (λ (vs : List Version). vs ++ flushed_version s ∷ []) h.tables.versions
              ∙ ap (λ (v : Version). map listing_of (versions_of c.stored.edits) ++ v ∷ []) version_is
              ∙ sym (listed-push c.stored.edits c.served.version text (flush_edit c.served.version z.end f) h.tables.manifest one);
          next_file = ap (λ (n : ℕ). n + 1) h.tables.next_file;
          epoch = h.tables.epoch;
          ordered = (subst (λ (es : List Entry). IsAbove es (stored_entries c.served)) table_is (frozen_above c.active (frozen_entries c.frozen) (stored_entries c.served) s h.memtables are_stored), h.tables.ordered);
          old = old_after;
          answers = λ key. rw after_is (same_value key z.end ∙ frozen_answers c.active (frozen_entries c.frozen) (stored_entries c.served) s h.memtables are_stored z.end key (omega (arith, start_is)) (omega (arith, start_is)));
        }

    pub Shows-flushed : Shows (flushed_to c (Some z) f t text log) (after_flush s)
    Shows-flushed =
        let m = h.memtables in
        let within = m.within in
        record {
          up = h.up;
          last = h.last;
          frozen = refl;
          snapshots = h.snapshots;
          made = h.made;
          floor = h.floor;
          tables = stored_after;
          memtables = record {
            flushed = omega arith;
            within = omega (arith, after_is, start_is);
            active_is = subst (λ (n : ℕ). IsPermutation c.active (entries_after n (drop n s.writes))) (start_is ∙ sym after_is) m.active_is;
            frozen_is = rw (take_drop_end (last_flushed (after_flush s)) s.writes (omega (arith, after_is, start_is))) (IsPermutation-refl []);
            kept = λ x live low key. same_value key x.at ∙ frozen_reads c.active (frozen_entries c.frozen) (stored_entries c.served) s m are_stored x live (omega (arith, after_is, start_is)) key;
            snapped = m.snapped;
          };
          logged = subst (λ (n : ℕ). LogHolds n log (drop n s.writes) None) (sym after_is) held;
        }

-- ---- a flush of either memtable

-- a flush leaves the same, whether the active memtable is frozen first
frozen_first : (s : State) → s.frozen ≡ None → after_flush (record s { frozen = Some (last_seq s) }) ≡ after_flush s
frozen_first s none = ap (λ (o : Option ℕ). record (with_version s (record { flushed = unwrap_or o (last_seq s); files = current_files s ++ record { level = 0; file = s.next_file } ∷ [] }) (s.next_file + 1)) { frozen = None }) (sym none)

-- where it ends
pub end_of : (c : CoordValue) (frozen : Option Frozen) (s : State) → Shows c s → c.frozen ≡ frozen → flush_end s ≡ (flush_source_of c.active c.last frozen).end
end_of c None s h e = ap (λ (o : Option ℕ). unwrap_or o (last_seq s)) (none_frozen c s h e) ∙ h.last
end_of c (Some z) s h e = end_is c z s h e

-- it is above the last flush
end_above : (c : CoordValue) (frozen : Option Frozen) (s : State) → Shows c s → c.frozen ≡ frozen → last_flushed s ≤ (flush_source_of c.active c.last frozen).end
end_above c None s h e =
    let low = h.memtables.flushed in
    let high = h.memtables.within in
    let last = h.last in
    omega (arith, low, high, last)
end_above c (Some z) s h e =
    let low = h.memtables.flushed in
    let start = start_is c z s h e in
    omega (arith, low, start)

-- what is left of the log holds the writes after it
left_held : (c : CoordValue) (frozen : Option Frozen) (s : State) (log : List (List ℕ)) → Shows c s → c.frozen ≡ frozen → IsLogged c.active frozen c.last c.served.version.flushed c.stored.log → MayCut (flush_source_of c.active c.last frozen).end c.stored.log log
    → LogHolds (flush_source_of c.active c.last frozen).end log (drop (flush_source_of c.active c.last frozen).end s.writes) None
left_held c frozen s log h e l cut =
    let end : ℕ = (flush_source_of c.active c.last frozen).end in
    let first : ℕ = c.served.version.flushed in
    let here : last_flushed s ≡ first = flushed_is c.stored.edits c.served s h.tables in
    let above : last_flushed s ≤ end = end_above c frozen s h e in
    let sum : last_flushed s + (end - first) ≡ end = omega (arith, here, above) in
    let ops : drop (end - first) l.ops ≡ drop end s.writes = ap (drop (end - first)) (logged_ops c s frozen h l) ∙ drop-drop (end - first) (last_flushed s) s.writes ∙ ap (λ (n : ℕ). drop n s.writes) sum in
    subst (λ (os : List Op). LogHolds end log os None) ops (flush_holds c.active frozen c.last first c.stored.log log l cut)

-- A FLUSH SHOWS ITS STEP.
pub shows_after : (c : CoordValue) (frozen : Option Frozen) (s : State) (f : FileMeta) (t : Opened) (text : List ℕ) (log : List (List ℕ)) → Shows c s → c.frozen ≡ frozen → t.entries ≡ (flush_source_of c.active c.last frozen).memtable
    → f.number ≡ c.served.version.next_file → f.level ≡ 0 → IsSpelledEdit text (flush_edit c.served.version (flush_source_of c.active c.last frozen).end f)
    → apply_fault c.served.version (flush_edit c.served.version (flush_source_of c.active c.last frozen).end f) ≡ None
    → IsLogged c.active frozen c.last c.served.version.flushed c.stored.log → MayCut (flush_source_of c.active c.last frozen).end c.stored.log log → 0 < length (flush_source_of c.active c.last frozen).memtable
    → Shows (flushed_to c frozen f t text log) (after_flush s)
shows_after c (Some z) s f t text log h e whole number level one fits l cut some = Shows-flushed c z s h e f t text whole number level one fits log (left_held c (Some z) s log h e l cut)
shows_after c None s f t text log h e whole number level one fits l cut some =
    subst (Shows (flushed_to c None f t text log)) (frozen_first s (none_frozen c s h e))
    (Shows-flushed (after_freezing c) (record { memtable = c.active; end = c.last }) (record s { frozen = Some (last_seq s) }) (Shows-froze c s h e l some) refl f t text whole number level one fits log (left_held c None s log h e l cut))
