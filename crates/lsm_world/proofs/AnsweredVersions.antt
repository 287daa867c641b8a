-- Each version of a history, with tables of the history, answers as the writes do: what a step leaves of that.
use Rattle.std.proofs.Common.{◌≡◌, ◌⊎◌, ℕ, List, [], ◌∷◌, ◌++◌, Some, map, take, refl, sym, ap, subst, ◌∙◌, inl, inr}
use Rattle.std.specs.Prelude.{slice_get}
use Rattle.std.specs.Option.{option_and_then, option_map}
use Rattle.std.proofs.lemmas.Option.{slice_get-map}
use Rattle.lsm_key.specs.declared.op.Op.{Op}
use Rattle.lsm_key.specs.Sets.{IsIn}
use Rattle.lsm_key.specs.Writes.{last_write, value_of}
use Rattle.lsm_key.proofs.Membership.{IsIn-map, IsIn-mapped}
use Rattle.lsm_edit.specs.declared.file.FileMeta.{FileMeta}
use Rattle.lsm_edit.specs.declared.served.Placed.{Placed}
use Rattle.lsm_edit.specs.Served.{IsServed, ServedValue}
use Rattle.lsm_edit.specs.Version.{IsVersion, VersionValue}
use Rattle.lsm_versions.proofs.GrownLists.{at_grown}
use Rattle.lsm_coord.specs.Contract.Shows.{listing_of}
use Rattle.lsm_coord.specs.Model.Event.{Event, Reply}
use Rattle.lsm_coord.specs.Model.State.{State, Version}
use Rattle.lsm_coord.specs.Model.Step.{Step}
use Rattle.lsm_coord.proofs.ServedOneWay.{same_list}
use Rattle.lsm_coord.specs.Model.Laws.{FlushedAscends}
use Rattle.lsm_coord.proofs.RunInvariants.{ascends_of, sound_of}
use Rattle.lsm_coord.proofs.StepEffects.{effect}
use Rattle.lsm_coord.proofs.VersionsStay.{step_sound, step_writes}
use Rattle.lsm_world.specs.History.{AreFilesOf, History, IsVersionOf, versions_in}
use Rattle.lsm_world.specs.Shown.{AnswersAsWrites, AreAnswered}
use Rattle.lsm_world.proofs.FourPlaces.{in_place}
use Rattle.lsm_world.proofs.GrowingHistory.{Grows}

-- ---- rising sequences

pub rising_after : (s : State) (e : Event) (r : Reply) (t : State) → Step s e r t → FlushedAscends s → FlushedAscends t
rising_after s e r t step is = ascends_of t (step_sound s e t (effect s e r t step) (sound_of s is))

-- ---- a version with tables of one history has one list of places

module _ (h : History) (files : AreFilesOf h) where
  -- its tables are those of the history
  abbrev pub AreOf : ServedValue → Type 0
  AreOf served = (p : Placed) → IsIn p served.places → IsIn p h.files

  placed_too : (s t : ServedValue) → IsServed s → IsServed t → s.version ≡ t.version → AreOf s → AreOf t → (p : Placed) → IsIn p s.places → IsIn p t.places
  placed_too s t one other same first second p m =
      let file : IsIn p.meta t.version.files = subst (λ (v : VersionValue). IsIn p.meta v.files) same ((one.listed p.meta).0 (IsIn-map (λ (q : Placed). q.meta) p s.places m)) in
      let found = IsIn-mapped (λ (q : Placed). q.meta) p.meta t.places ((other.listed p.meta).1 file) in
      let is : p ≡ found.0 = files.one p found.0 (first p m) (second found.0 found.1) (ap (λ (f : FileMeta). f.number) found.2) in
      subst (λ (q : Placed). IsIn q t.places) (sym is) found.1

  pub one_served : (s t : ServedValue) → IsServed s → IsServed t → IsVersion s.version → s.version ≡ t.version → AreOf s → AreOf t → s ≡ t
  one_served s t one other version same first second =
      let places = same_list s.places t.places
      (λ p m. (version.files p.meta ((one.listed p.meta).0 (IsIn-map (λ (q : Placed). q.meta) p s.places m))).ordered)
      one.ordered other.ordered (placed_too s t one other same first second) (placed_too t s other one (sym same) second first) in
      λ i. record { version = same i; places = places i }

-- ---- over a step

-- the history has a version more, which answers as the writes do
pub record HasNewest (h more : History) (t : State) : Type 0 where
  pub now : ServedValue
  pub served : IsServed now
  pub version : IsVersion now.version
  pub tables : (p : Placed) → IsIn p now.places → IsIn p more.files
  pub grown : versions_in more ≡ versions_in h ++ now.version ∷ []
  pub answers : AnswersAsWrites now t

module _ (h more : History) (grows : Grows h more) (had : AreFilesOf h) (has : AreFilesOf more) (s t : State) (e : Event) (r : Reply) (step : Step s e r t) (rising : FlushedAscends s) (listed : s.versions ≡ map listing_of (versions_in h)) (answered : AreAnswered h s) where
  -- a table of an earlier version was of the history before
  was_there : (x : ServedValue) → IsServed x → IsVersionOf h x.version → ((p : Placed) → IsIn p x.places → IsIn p more.files) → (p : Placed) → IsIn p x.places → IsIn p h.files
  was_there x is at tables p m =
      let lists : IsIn p.meta x.version.files = (is.listed p.meta).0 (IsIn-map (λ (q : Placed). q.meta) p x.places m) in
      let file = had.listed x.version p.meta (in_place (versions_in h) x.version.number x.version at) lists in
      let same : p ≡ file.0 = has.one p file.0 (tables p m) (grows.files file.0 file.1) (ap (λ (f : FileMeta). f.number) (sym file.2)) in
      subst (λ (q : Placed). IsIn q h.files) (sym same) file.1

  -- a version that was there answers as it did
  earlier : (x : ServedValue) → IsServed x → IsVersionOf h x.version → ((p : Placed) → IsIn p x.places → IsIn p more.files) → AnswersAsWrites x t
  earlier x is at tables =
      let was = answered x is at (was_there x is at tables) in
      let shown : slice_get s.versions x.version.number ≡ Some (listing_of x.version) =
      ap (λ (vs : List Version). slice_get vs x.version.number) listed ∙ slice_get-map listing_of (versions_in h) x.version.number ∙ ap (option_map listing_of) at in
      let writes : take x.version.flushed t.writes ≡ take x.version.flushed s.writes = step_writes s e t (effect s e r t step) (sound_of s rising) x.version.number (listing_of x.version) shown in
      record { ordered = was.ordered; answers = λ key. was.answers key ∙ ap (λ (ws : List Op). option_and_then value_of (last_write ws key)) (sym writes) }

  -- EACH VERSION OF THE HISTORY ANSWERS AS THE WRITES DO AFTER A STEP TOO.
  pub answered_after : (versions_in more ≡ versions_in h) ⊎ HasNewest h more t → AreAnswered more t
  answered_after (inl same) x is at tables = earlier x is (subst (λ (vs : List VersionValue). slice_get vs x.version.number ≡ Some x.version) same at) tables
  answered_after (inr newest) x is at tables =
      elim (at_grown (versions_in h) newest.now.version x.version.number x.version (subst (λ (vs : List VersionValue). slice_get vs x.version.number ≡ Some x.version) newest.grown at)) [
        | inl before ↦ earlier x is before tables
        | inr last ↦ subst (λ (y : ServedValue). AnswersAsWrites y t) (one_served more has newest.now x newest.served is newest.version (sym last.1) newest.tables tables) newest.answers
      ]
