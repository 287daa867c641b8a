-- The history of a new store: no files and no jobs.
use Rattle.std.proofs.Common.{◌≡◌, ℕ, zero, suc, List, [], ◌∷◌, Option, Some, length, map, refl, sym, ap, subst, ◌∙◌, inl, inr}
use Rattle.std.specs.Prelude.{slice_get}
use Rattle.lsm_key.specs.declared.limits.Limits.{Limits}
use Rattle.lsm_key.specs.Sets.{IsIn}
use Rattle.lsm_key.proofs.Membership.{IsIn-map, IsIn-mapped}
use Rattle.lsm_claim.specs.declared.job.LiveJob.{LiveJob}
use Rattle.lsm_claim.specs.Book.{BookValue}
use Rattle.lsm_edit.specs.declared.file.FileMeta.{FileMeta}
use Rattle.lsm_edit.specs.declared.served.Placed.{Placed}
use Rattle.lsm_edit.specs.Served.{IsServed, ServedValue, tables_of}
use Rattle.lsm_edit.specs.Version.{VersionValue}
use Rattle.lsm_key.specs.Places.{AreOrdered, all_entries}
use Rattle.lsm_key.specs.Visible.{value_at}
use Rattle.lsm_key.specs.Writes.{answer}
use Rattle.lsm_edit.proofs.ServedPlaces.{file_of}
use Rattle.lsm_versions.specs.Manifest.{read_edits, versions_of}
use Rattle.lsm_versions.proofs.ManifestReplay.{current_at}
use Rattle.lsm_coord.specs.declared.dispatcher.Dispatcher.{Dispatcher}
use Rattle.lsm_coord.specs.Contract.Desks.{new_desk}
use Rattle.lsm_coord.specs.Contract.Shows.{listing_of, place_of, Shows}
use Rattle.lsm_coord.specs.Contract.Memory.{IsFit}
use Rattle.lsm_coord.specs.Contract.Value.{CoordValue}
use Rattle.lsm_coord.specs.Model.State.{Version, empty_version, first_state}
use Rattle.lsm_coord.proofs.VersionsStay.{first_sound}
use Rattle.lsm_follow.specs.Followers.{FollowerValue, new_follower}
use Rattle.lsm_work.specs.Workers.{TaskValue, WorkerValue}
use Rattle.lsm_world.specs.History.{History, HoldsClaim, IsFollowerOf, IsHistory, IsNetwork, IsTaskOf, AreFiles, AreFilesOf, first_indices}
use Rattle.lsm_world.specs.Nodes.{NetworkValue, NodesValue, number_of, up_store}
use Rattle.lsm_world.specs.Schedules.{AreNew, first_followers, idle_worker}
use Rattle.lsm_world.specs.Shown.{ShowsStore}
use Rattle.lsm_coord.proofs.RunInvariants.{ascends_of}
use Rattle.lsm_world.proofs.FollowerEvents.{new_follower_is}
use Rattle.lsm_world.proofs.FourPlaces.{in_place}

-- the edit of the opening alone
abbrev first_of : CoordValue → History
first_of c = record { files = []; jobs = []; edits = read_edits c.stored.edits }

-- ---- files

module _ (c : CoordValue) (shown : Shows c first_state) (fit : IsFit c) where
  -- each version lists what the empty one does
  lists_none : (v : VersionValue) → IsIn v (versions_of c.stored.edits) → listing_of v ≡ empty_version
  lists_none v m =
      elim (subst (λ (vs : List Version). IsIn (listing_of v) vs) (sym shown.tables.versions) (IsIn-map listing_of v (versions_of c.stored.edits) m)) [
        | inl first ↦ first
        | inr rest ↦ elim rest [ inl second ↦ second | inr none ↦ absurd none ]
      ]

  no_file : (v : VersionValue) (f : FileMeta) → IsIn v (versions_of c.stored.edits) → IsIn f v.files → ⊥
  no_file v f m here = subst (λ (x : Version). IsIn (place_of f) x.files) (lists_none v m) (IsIn-map place_of f v.files here)

  version_in : (k : ℕ) (v : VersionValue) → slice_get (versions_of c.stored.edits) k ≡ Some v → IsIn v (versions_of c.stored.edits)
  version_in = in_place (versions_of c.stored.edits)

  files_first : AreFiles (first_of c) c
  files_first = record {
    all = record { one = λ p q m. absurd m; recorded = λ p m. absurd m; apply = fit.manifest.apply; listed = λ v f mv mf. absurd (no_file v f mv mf) };
    edits = refl;
    given = λ p m. absurd m;
    served = λ p m.
        let version = c.served.version in
        absurd (no_file version p.meta (version_in version.number version (current_at c.stored.edits version fit.manifest)) (file_of c.served fit.version fit.served p m));
    retired = λ r m.
        let was = fit.retired.each r m in
        absurd (no_file was.version was.file (version_in r.until was.version was.at) was.listed);
  }

-- ---- the nodes

-- no dispatcher of a new desk holds a claim
none_held : (place : ℕ) (claim : LiveJob) → HoldsClaim new_desk place claim → ⊥
none_held zero claim held = absurd cc
none_held (suc zero) claim held = absurd cc
none_held (suc (suc zero)) claim held = absurd cc
none_held (suc (suc (suc zero))) claim held = absurd cc
none_held (suc (suc (suc (suc place)))) claim held = absurd cc

-- idle workers have no task, followers are at version 0, and there is no message
pub first_network : (h : History) (n : NetworkValue) → AreFilesOf h → n.workers ≡ map idle_worker first_indices → n.followers ≡ first_followers → n.messages ≡ [] → IsNetwork h n
first_network h n files idle anew none = record {
  workers = ap (λ (ws : List WorkerValue). map (λ w. w.index) ws) idle;
  tasks = λ w m.
      let made = IsIn-mapped idle_worker w first_indices (subst (λ (ws : List WorkerValue). IsIn w ws) idle m) in
      subst (λ (t : Option TaskValue). IsTaskOf h t) (sym (ap (λ (x : WorkerValue). x.task) made.2)) tt;
  followers = ap (λ (fs : List FollowerValue). map (λ f. f.index) fs) anew;
  versions = λ f m.
      let made = IsIn-mapped new_follower f first_indices (subst (λ (fs : List FollowerValue). IsIn f fs) anew m) in
      subst (IsFollowerOf h) (sym made.2) (new_follower_is h made.0);
  sent = λ bytes m. absurd (subst (λ (texts : List (List ℕ)). IsIn bytes texts) none m);
}

-- THE NODES OF A NEW STORE HAVE THE HISTORY WITHOUT FILES AND JOBS.
pub first_history : (due : Limits) (n : NodesValue) → AreNew due n → IsFit n.core → IsHistory (first_of n.core) n
first_history due n is fit = record {
  files = files_first n.core is.shown fit;
  jobs = record {
    all = record { picked = λ j m. absurd m; numbered = tt; job = λ j m. absurd m; one = λ i j m. absurd m; inputs = λ j f m. absurd m };
    begun = λ j m. absurd m;
    made = ap (λ (b : BookValue). b.made) is.book;
    sound = λ j m. absurd m;
  };
  claims = record {
    four = ap length is.desk;
    live = λ j m. absurd (subst (λ (b : BookValue). IsIn j b.live) is.book m);
    current = λ place claim held same. absurd (none_held place claim (at_first place claim held));
    picked = λ place claim held. absurd (none_held place claim (at_first place claim held));
    one = λ a b claim other x. absurd (none_held a claim (at_first a claim x));
  };
  network = first_network (first_of n.core) n.network (files_first n.core is.shown fit).all is.workers is.followers is.messages;
}
  where
    at_first : (place : ℕ) (claim : LiveJob) → HoldsClaim n.desk place claim → HoldsClaim new_desk place claim
    at_first place claim held = subst (λ (desk : List Dispatcher). HoldsClaim desk place claim) is.desk held

-- ---- what it shows

-- a version without files has no place
no_places : (x : ServedValue) → IsServed x → ((f : FileMeta) → IsIn f x.version.files → ⊥) → x.places ≡ []
no_places x is none = by x.places (λ p m. none p.meta ((is.listed p.meta).0 (IsIn-map (λ (q : Placed). q.meta) p x.places m)))
  where
    by : (ps : List Placed) → ((p : Placed) → IsIn p ps → ⊥) → ps ≡ []
    by [] empty = refl
    by (p ∷ ps) empty = absurd (empty p (inl refl))

-- A NEW STORE SHOWS THE FIRST STATE.
pub first_shown : (due : Limits) (n : NodesValue) → AreNew due n → IsFit n.core → ShowsStore (up_store n) first_state
first_shown due n is fit = record {
  seat = is.shown;
  followers = sym (ap (map number_of) is.followers);
  rising = ascends_of first_state first_sound;
  history = first_of n.core;
  known = first_history due n is fit;
  answered = λ x sound at tables.
      let listed : IsIn x.version (versions_of n.core.stored.edits) = in_place (versions_of n.core.stored.edits) x.version.number x.version at in
      let none = no_places x sound (λ f m. no_file n.core is.shown fit x.version f listed m) in
      let flushed : x.version.flushed ≡ 0 = ap (λ (v : Version). v.flushed) (lists_none n.core is.shown fit x.version listed) in
      record {
        ordered = subst (λ (ps : List Placed). AreOrdered (tables_of ps)) (sym none) tt;
        answers = λ key. (λ i. value_at (all_entries (tables_of (none i))) key (flushed i)) ∙ sym (ap (λ (k : ℕ). answer [] k key) flushed);
      };
}
