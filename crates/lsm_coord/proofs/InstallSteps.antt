-- An install of what a merge keeps is a step of the states that a coordinator shows.
use Rattle.std.proofs.Common.{◌≡◌, ℕ, ◌+◌, ◌≤◌, Bool, true, false, not, cond, List, [], ◌∷◌, ◌++◌, ◌⊎◌, inl, inr, refl, sym, ap, subst, ◌∙◌, arith, length, map, take, drop, unwrap_or, eqb}
use Rattle.std.specs.Cmp.{both_ways}
use Rattle.std.specs.List.{filter, list_any, range_with_len}
use Rattle.std.specs.List.Sorted.{IsPermutation}
use Rattle.std.proofs.lemmas.Bool.{and_parts, and_from, eq-eqb, eqb-true}
use Rattle.std.proofs.lemmas.List.{map-append, length-map}
use Rattle.lsm_key.specs.declared.entry.Entry.{Entry}
use Rattle.lsm_key.specs.Sets.{IsIn}
use Rattle.lsm_key.specs.Visible.{value_at}
use Rattle.lsm_key.specs.Writes.{answer}
use Rattle.lsm_key.specs.Places.{entries_after}
use Rattle.lsm_key.proofs.Membership.{IsIn-map, IsIn-mapped}
use Rattle.lsm_key.proofs.AscendingEntries.{IsIn-filter}
use Rattle.lsm_key.proofs.Lists.{IsIn-kept, any_from, any_is, some_in}
use Rattle.lsm_claim.specs.declared.ending.Ending.TheVariants as ending
use Rattle.lsm_claim.specs.declared.job.JobId.{JobId}
use Rattle.lsm_claim.specs.declared.job.LiveJob.{LiveJob}
use Rattle.lsm_claim.specs.declared.job.Want.{Want}
use Rattle.lsm_claim.specs.Book.{IsBook, after_settling}
use Rattle.lsm_claim.specs.Jobs.{JobNumbersRise}
use Rattle.lsm_table.specs.Tables.{Opened}
use Rattle.lsm_edit.specs.declared.file.FileMeta.{FileMeta}
use Rattle.lsm_edit.specs.Edit.{IsSpelledEdit}
use Rattle.lsm_edit.specs.Log.{LogHolds}
use Rattle.lsm_edit.specs.Next.{number_after}
use Rattle.lsm_edit.specs.declared.served.Placed.{Placed}
use Rattle.lsm_edit.specs.Served.{IsServed, ServedValue}
use Rattle.lsm_edit.specs.Version.{IsVersion, after_apply, has_number}
use Rattle.lsm_edit.specs.Version as edit
use Rattle.lsm_edit.proofs.ServedPlaces.{file_of, tables_in}
use Rattle.lsm_msg.specs.declared.job.JobParts.{JobParts}
use Rattle.lsm_msg.specs.declared.job.JobResult.{JobResult}
use Rattle.lsm_msg.specs.Installs.{AddNoEntry, AreInputsOf, Installs, IsJobOf, entries_of}
use Rattle.lsm_msg.specs.Laws.{ReadAlike}
use Rattle.lsm_msg.specs.Legal.{IsLegal, KnowsDeeper}
use Rattle.lsm_msg.specs.Merge.{HoldsKept}
use Rattle.lsm_msg.proofs.LegalInputs.{is_listed, listed_is}
use Rattle.lsm_msg.proofs.InstallReads.{installs_keep_reads, kept_adds_no_entry}
use Rattle.lsm_msg.proofs.PlacesAfterInstall.{installs_add_no_entry, installs_keep_order}
use Rattle.lsm_versions.specs.Manifest.{versions_of}
use Rattle.lsm_versions.specs.Retention.{retired_after}
use Rattle.lsm_versions.proofs.ManifestReplay.{Folds-push}
use Rattle.lsm_coord.specs.declared.snapshot.Snapshot.{Snapshot}
use Rattle.lsm_coord.specs.Model.State.{State, Version, Place, active_start, current_files, last_flushed}
use Rattle.lsm_coord.specs.Model.Changes.{IsInstalled, at_level, same_place, with_version}
use Rattle.lsm_coord.specs.Model.Changes as change
use Rattle.lsm_coord.specs.Model.Event as say
use Rattle.lsm_coord.specs.declared.coord.install.Install.TheVariants as became
use Rattle.lsm_coord.specs.Contract.Installing.{AreEntriesOf, Became, HasNumbers, HoldsSoundMerge, IsInstallDone, IsLive, install_edit_of, output_numbers, records}
use Rattle.lsm_coord.specs.Contract.Shows.{listing_of, place_of, Follows, Shows, ShowsStored}
use Rattle.lsm_coord.specs.Contract.Memory.{AreLegal, AreJobWants, IsJobWant}
use Rattle.lsm_coord.specs.Contract.Sound.{AreWrittenBy, IsSound}
use Rattle.lsm_coord.specs.Contract.Value.{CoordValue, frozen_entries, stored_entries}
use Rattle.lsm_coord.proofs.InstallEdits.{records_end, records_length}
use Rattle.lsm_coord.proofs.InstallOutcomes.{done_applies, done_is, done_spelled, installs_of, live_is, next_served}
use Rattle.lsm_coord.proofs.OpenedOutputs.{tables_one}
use Rattle.lsm_coord.proofs.ShownVersions.{files_are, flushed_is, listed-push, version_count}
use Rattle.lsm_coord.proofs.VersionsStay.{tip-grown}

-- ---- listings

-- of a mapped list the same elements stay
stay_by : {X Y : Type 0} (g : X → Y) (x : X) (b c : Bool) (ys : List Y) (xs : List X) → b ≡ c → ys ≡ map g xs → cond b (g x ∷ ys) ys ≡ map g (cond c (x ∷ xs) xs)
stay_by g x true true ys xs e h = ap (λ (zs : List _). g x ∷ zs) h
stay_by g x false false ys xs e h = h
stay_by g x true false ys xs e h = absurd cc
stay_by g x false true ys xs e h = absurd cc

same_stay : {X Y : Type 0} (p : Y → Bool) (q : X → Bool) (g : X → Y) (xs : List X) → ((x : X) → IsIn x xs → p (g x) ≡ q x) → filter p (map g xs) ≡ map g (filter q xs)
same_stay p q g [] h = refl
same_stay p q g (x ∷ xs) h = stay_by g x (p (g x)) (q x) (filter p (map g xs)) (filter q xs) (h x (inl refl)) (same_stay p q g xs (λ y m. h y (inr m)))

-- the places of the inputs
abbrev pub input_places : List FileMeta → List ℕ → List Place
input_places files numbers = map place_of (filter (λ f. list_any (λ n. has_number n f) numbers) files)

input_listed : (files : List FileMeta) (numbers : List ℕ) (f : FileMeta) → IsIn f files → list_any (same_place (place_of f)) (input_places files numbers) ≡ list_any (λ n. has_number n f) numbers
input_listed files numbers f m = both_ways (list_any (same_place (place_of f)) (input_places files numbers)) (list_any (λ n. has_number n f) numbers)
    (λ h.
    let p = any_is (same_place (place_of f)) (input_places files numbers) h in
    let g = IsIn-mapped place_of p.0 (filter (λ x. list_any (λ n. has_number n x) numbers) files) p.1 in
    let own = (IsIn-filter (λ x. list_any (λ n. has_number n x) numbers) g.0 files g.1).1 in
    let same = eqb-true f.number (p.0).file (and_parts (eqb f.level (p.0).level) (eqb f.number (p.0).file) p.2).1 ∙ ap (λ (q : Place). q.file) g.2 in
    is_listed numbers f (subst (λ (n : ℕ). IsIn n numbers) (sym same) (listed_is numbers g.0 own)))
    (λ h. any_from (same_place (place_of f)) (input_places files numbers) (place_of f)
    (IsIn-map place_of f (filter (λ x. list_any (λ n. has_number n x) numbers) files) (IsIn-kept (λ x. list_any (λ n. has_number n x) numbers) f files m h))
    (and_from (eqb f.level f.level) (eqb f.number f.number) (eq-eqb f.level f.level refl) (eq-eqb f.number f.number refl)))

without_is : (files : List FileMeta) (numbers : List ℕ) → change.without_inputs (input_places files numbers) (map place_of files) ≡ map place_of (edit.files_without numbers files)
without_is files numbers = same_stay (λ p. not (list_any (same_place p) (input_places files numbers))) (λ f. not (list_any (λ n. has_number n f) numbers)) place_of files (λ f m. ap not (input_listed files numbers f m))

at_level_is : (level number : ℕ) (ts : List Opened) → at_level level (map (λ (f : FileMeta). f.number) (records level number ts)) ≡ map place_of (records level number ts)
at_level_is level number [] = refl
at_level_is level number (t ∷ ts) = ap (λ (ps : List Place). record { level = level; file = number } ∷ ps) (at_level_is level (number + 1) ts)

numbers_range : (level number : ℕ) (ts : List Opened) → map (λ (f : FileMeta). f.number) (records level number ts) ≡ range_with_len number (length ts)
numbers_range level number [] = refl
numbers_range level number (t ∷ ts) = ap (λ (ns : List ℕ). number ∷ ns) (numbers_range level (number + 1) ts)

-- ---- the step

module _ (c : CoordValue) (live : LiveJob) (ts : List Opened) (text : List ℕ) (s : State) (h : Shows c s) (version_is : IsVersion c.served.version) (served_is : IsServed c.served)
    (legal : IsLegal c.served.version.files live.want) (orderly : IsJobWant live.want) (installs : Installs c.served live.want (install_edit_of c.served.version live.want ts) ts)
    (spelled : IsSpelledEdit text (install_edit_of c.served.version live.want ts)) (fit : HasNumbers c.served.version ts)
    (job : JobParts) (of_want : IsJobOf c.served.version.files live.want job) (points : (x : Snapshot) → IsIn x c.snapshots → IsIn x.at job.points ⊎ AreWrittenBy c.served job x.at) (deeper : KnowsDeeper c.served.places job)
    (inputs : List Entry) (are : AreInputsOf c.served.places live.want inputs) (kept : HoldsKept inputs job.points job.deeper (entries_of ts)) where
  abbrev numbers : List ℕ
  numbers = output_numbers c.served.version live.want ts

  abbrev next_version : Version
  next_version = record { flushed = last_flushed s; files = change.without_inputs (input_places c.served.version.files live.want.files) (current_files s) ++ at_level (live.want.level + 1) numbers }

  abbrev pub after : State
  after = with_version s next_version (s.next_file + length numbers)

  count_is : length numbers ≡ length ts
  count_is = length-map (records (live.want.level + 1) c.served.version.next_file ts) (λ (f : FileMeta). f.number) ∙ records_length (live.want.level + 1) c.served.version.next_file ts

  next_is : s.next_file + length numbers ≡ number_after c.served.version.next_file (records (live.want.level + 1) c.served.version.next_file ts)
  next_is =
      let end = records_end (live.want.level + 1) c.served.version.next_file ts in
      let first = h.tables.next_file in
      omega (arith, end, first, count_is)

  listed_next : next_version ≡ listing_of (after_apply c.served.version (install_edit_of c.served.version live.want ts))
  listed_next =
      let v = c.served.version in
      let added = records (live.want.level + 1) v.next_file ts in
      let files : next_version.files ≡ map place_of (edit.files_without live.want.files v.files ++ added) =
      ap (λ (ps : List Place). change.without_inputs (input_places v.files live.want.files) ps ++ at_level (live.want.level + 1) numbers) (files_are c.stored.edits c.served s h.tables)
      ∙ (λ i. without_is v.files live.want.files i ++ at_level_is (live.want.level + 1) v.next_file ts i)
      ∙ sym (map-append place_of (edit.files_without live.want.files v.files) added) in
      λ i. record { flushed = flushed_is c.stored.edits c.served s h.tables i; files = files i }

  tip_is : last_flushed after ≡ last_flushed s
  tip_is = tip-grown s.versions next_version

  start_is : active_start after ≡ active_start s
  start_is = ap (λ (n : ℕ). unwrap_or s.frozen n) tip_is

  adds_none : AddNoEntry c.served.places live.want ts
  adds_none = kept_adds_no_entry c.served.places live.want ts inputs job.points job.deeper are kept

  reads : ReadAlike job.points inputs (stored_entries (next_served c.served live.want ts)) (stored_entries c.served)
  reads =
      installs_keep_reads c.served live.want job (install_edit_of c.served.version live.want ts) ts inputs [] version_is served_is h.tables.ordered legal of_want deeper installs are kept
      (λ e f m. absurd m) (λ e f m. absurd m)

  -- an input's entry is stored, and so flushed
  seen : (e : Entry) → IsIn e inputs → e.ikey.seq ≤ last_flushed s
  seen e m = let p = (are e).0 m in h.tables.old e (tables_in c.served.places p.0 e p.1 p.3)

  written : (at : ℕ) → AreWrittenBy c.served job at → (e : Entry) → IsIn e inputs → e.ikey.seq ≤ at
  written at by e m = let p = (are e).0 m in by p.0 p.1 ((of_want.inputs (p.0).meta).1 (file_of c.served version_is served_is p.0 p.1, p.2)) e p.3

  stored_after : ShowsStored (c.stored.edits ++ text ∷ []) (next_served c.served live.want ts) after
  stored_after =
      let v = c.served.version in
      let e = install_edit_of v live.want ts in
      record {
        manifest = Folds-push c.stored.edits v text e h.tables.manifest spelled installs.applies;
        versions = ap (λ (vs : List Version). vs ++ next_version ∷ []) h.tables.versions
            ∙ ap (λ (x : Version). map listing_of (versions_of c.stored.edits) ++ x ∷ []) listed_next
            ∙ sym (listed-push c.stored.edits v text e h.tables.manifest spelled);
        next_file = next_is;
        epoch = h.tables.epoch;
        ordered = installs_keep_order c.served live.want e ts version_is served_is h.tables.ordered legal installs adds_none;
        old = λ x m. subst (λ (n : ℕ). x.ikey.seq ≤ n) (sym tip_is) (h.tables.old x (installs_add_no_entry c.served live.want e ts version_is served_is legal installs adds_none x m));
        answers = λ key. subst (λ (n : ℕ). value_at (stored_entries (next_served c.served live.want ts)) key n ≡ answer s.writes n key) (sym tip_is) ((reads key).2 (last_flushed s) seen ∙ h.tables.answers key);
      }

  pub shows_install : (new : CoordValue) → new.served ≡ next_served c.served live.want ts → new.stored.edits ≡ c.stored.edits ++ text ∷ [] → new.stored.log ≡ c.stored.log → new.active ≡ c.active → new.frozen ≡ c.frozen → new.last ≡ c.last → new.snapshots ≡ c.snapshots → new.made ≡ c.made → new.floor ≡ c.floor → Shows new after
  shows_install new served edits log active frozen last snapshots made floor =
      subst (λ (x : CoordValue). Shows x after) (λ i. record new { served = sym served i; stored = record new.stored { edits = sym edits i; log = sym log i }; active = sym active i; frozen = sym frozen i; last = sym last i; snapshots = sym snapshots i; made = sym made i; floor = sym floor i })
      (record {
        up = h.up;
        last = h.last;
        frozen = h.frozen;
        snapshots = h.snapshots;
        made = h.made;
        floor = h.floor;
        tables = stored_after;
        memtables = record {
          flushed = let low = h.memtables.flushed in omega (arith, low, tip_is, start_is);
          within = let high = h.memtables.within in omega (arith, high, start_is);
          active_is = subst (λ (n : ℕ). IsPermutation c.active (entries_after n (drop n s.writes))) (sym start_is) h.memtables.active_is;
          frozen_is = subst (λ (n : ℕ). IsPermutation (frozen_entries c.frozen) (entries_after n (drop n (take (active_start after) s.writes)))) (sym tip_is)
              (subst (λ (n : ℕ). IsPermutation (frozen_entries c.frozen) (entries_after (last_flushed s) (drop (last_flushed s) (take n s.writes)))) (sym start_is) h.memtables.frozen_is);
          kept = λ x m low key.
              (elim (points x (subst (IsIn x) h.snapshots m)) [
                | inl point ↦ (reads key).1 x.at point
                | inr by ↦ (reads key).2 x.at (written x.at by)
              ]) ∙ h.memtables.kept x m (omega (arith, low, tip_is)) key;
          snapped = h.memtables.snapped;
        };
        logged = subst (λ (n : ℕ). LogHolds n c.stored.log (drop n s.writes) s.frozen) (sym tip_is) h.logged;
      })

  pub is_installed : IsInstalled s (c.served.version.number + 1) numbers after
  is_installed =
      let v = c.served.version in
      let count = version_count c.stored.edits c.served s h.tables in
      let first = h.tables.next_file in
      let own = legal.own in
      let test = λ (f : FileMeta). list_any (λ n. has_number n f) live.want.files in
      let there = IsIn-kept test own.0 v.files (own.1).0 (is_listed live.want.files own.0 (own.1).1) in
      let room = fit.next_file in
      let number = fit.number in
      let level = orderly.level in
      record {
        inputs = input_places v.files live.want.files;
        level = live.want.level + 1;
        up = h.up;
        some_input = some_in (place_of own.0) (input_places v.files live.want.files) (IsIn-map place_of own.0 (filter test v.files) there);
        of_current = λ p m.
            let f = IsIn-mapped place_of p (filter test v.files) m in
            subst (IsIn p) (sym (files_are c.stored.edits c.served s h.tables)) (subst (λ (q : Place). IsIn q (map place_of v.files)) (sym f.2) (IsIn-map place_of f.0 v.files (IsIn-filter test f.0 v.files f.1).0));
        low = omega arith;
        high = omega (arith, level);
        number_is = sym count;
        files_are = numbers_range (live.want.level + 1) v.next_file ts ∙ (λ i. range_with_len (sym first i) (sym count_is i));
        number_fits = omega (arith, count, number);
        files_fit = omega (arith, first, count_is, room);
        new_is = refl;
      }

-- ---- what became of a claim

pub one_live : (jobs : List LiveJob) → JobNumbersRise jobs → (a b : LiveJob) → IsIn a jobs → IsIn b jobs → a.id ≡ b.id → a ≡ b
one_live [] rise a b m n e = absurd m
one_live (j ∷ jobs) rise a b m n e =
    let number : a.id.number ≡ b.id.number = ap (λ (i : JobId). i.number) e in
    elim m [
      | inl x ↦ elim n [
        | inl y ↦ x ∙ sym y
        | inr y ↦ let lt = rise.0 b y in let same : a.id.number ≡ j.id.number = ap (λ (k : LiveJob). k.id.number) x in absurd (omega (arith, lt, same, number))
      ]
      | inr x ↦ elim n [
        | inl y ↦ let lt = rise.0 a x in let same : b.id.number ≡ j.id.number = ap (λ (k : LiveJob). k.id.number) y in absurd (omega (arith, lt, same, number))
        | inr y ↦ one_live jobs rise.1 a b x y e
      ]
    ]

-- the entries of the tables of a job's inputs are those that its want takes
pub inputs_by_want : (served : ServedValue) (want : Want) (job : JobParts) (inputs : List Entry) → IsServed served → IsJobOf served.version.files want job → AreEntriesOf served job inputs → AreInputsOf served.places want inputs
inputs_by_want served want job inputs is of_want are e = (
  λ i. (let p = (are e).0 i in (p.0, p.1, ((of_want.inputs (p.0).meta).0 p.2).1, p.3)),
  λ p. (are e).1 (p.0, p.1, (of_want.inputs (p.0).meta).1 ((is.listed (p.0).meta).0 (IsIn-map (λ (q : Placed). q.meta) p.0 served.places p.1), p.2), p.3),
)

-- a sound job of a live job's name is of its want
pub job_of_live : (c : CoordValue) (id : JobId) (live : LiveJob) (job : JobParts) → IsBook c.book → IsLive c id live → job.id ≡ id → IsSound c job → IsJobOf c.served.version.files live.want job
job_of_live c id live job book is_live named sound =
    let found = live_is c id live is_live in
    let own = one_live c.book.live book.rising sound.claimed.live live sound.claimed.member found.0 (sound.claimed.named ∙ named ∙ sym found.1) in
    subst (λ (k : LiveJob). IsJobOf c.served.version.files k.want job) own sound.claimed.of_want

-- AN INSTALL STEPS, where a job of the claim's name is sound and the outputs hold what is kept.
pub install_steps : (old new : CoordValue) (claim : LiveJob) (made : JobResult) (number : ℕ) (files : List ℕ) → IsBook old.book → IsServed old.served → IsVersion old.served.version → AreLegal old.served.version.files old.book.live → AreJobWants old.book.live
    → Became old claim made (became.Done number files) new → HoldsSoundMerge old claim.id made → (message : ℕ) → Follows old (say.Deliver message) (say.Installed number files) new
install_steps old new claim made number files book served version all_legal all_orderly b holds message s h =
    let job = holds.0 in
    let sound = holds.2 in
    let merge = holds.3 in
    let live = b.0 in
    let found = live_is old claim.id live b.1 in
    let of_want = job_of_live old claim.id live job book b.1 holds.1 sound in
    let ts = b.2 in
    let accepted = b.3 in
    let install : IsInstallDone old live ts new = b.4 in
    let spelled = done_spelled old live ts new install in
    let legal = all_legal live found.0 in
    let orderly = all_orderly live found.0 in
    let installs = installs_of old.limits.block old.served live.want made.tables install.text ts legal accepted.outputs spelled (done_applies old live ts new install) in
    let tables : merge.tables ≡ ts = tables_one made.tables merge.tables ts merge.opened accepted.outputs.tables in
    let kept = subst (λ (us : List Opened). HoldsKept merge.inputs job.points job.deeper (entries_of us)) tables merge.kept in
    let are = inputs_by_want old.served live.want job merge.inputs served of_want merge.are in
    let step = is_installed old live ts install.text s h version served legal orderly installs spelled accepted.numbers job of_want sound.snapshots sound.deeper merge.inputs are kept in
    let shown = shows_install old live ts install.text s h version served legal orderly installs spelled accepted.numbers job of_want sound.snapshots sound.deeper merge.inputs are kept in
    let then = after old live ts install.text s h version served legal orderly installs spelled accepted.numbers job of_want sound.snapshots sound.deeper merge.inputs are kept in
    let made_now : CoordValue = record old { served = next_served old.served live.want ts; stored = record old.stored { edits = old.stored.edits ++ install.text ∷ []; tables = new.stored.tables }; retired = retired_after old.retired old.served live.want.files; book = after_settling old.book live.id ending.Installed; failures = new.failures } in (
      then,
      (refl, subst (λ (n : ℕ). IsInstalled s n files then) (sym b.5) (subst (λ (ns : List ℕ). IsInstalled s (old.served.version.number + 1) ns then) (sym b.6) step)),
      subst (λ (x : CoordValue). Shows x then) (sym (done_is old live ts new install)) (shown made_now refl refl refl refl refl refl refl refl refl),
    )
