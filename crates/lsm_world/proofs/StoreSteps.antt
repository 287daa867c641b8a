-- Calls of the coordinator, and restarts, are steps of the store: followers stay, and each version still answers as the writes do.
use Rattle.std.proofs.Common.{◌≡◌, ◌⊎◌, ℕ, List, Option, None, Some, map, refl, sym, ap, subst, ◌∙◌, inl, inr}
use Rattle.lsm_edit.specs.Served.{ServedValue, tables_of}
use Rattle.lsm_key.specs.Writes.{answer}
use Rattle.lsm_key.specs.Visible.{value_at}
use Rattle.lsm_coord.specs.Contract.Seats.{CoreShows, ShowsSeat}
use Rattle.lsm_coord.specs.Contract.Shows.{Follows, Shows, ShowsStored, listing_of}
use Rattle.lsm_coord.specs.Contract.Value.{CoordValue, stored_entries}
use Rattle.lsm_coord.specs.Model.Event as say
use Rattle.lsm_coord.specs.Model.State.{State, Version, last_flushed}
use Rattle.lsm_coord.specs.Model.Step.{Step}
use Rattle.lsm_coord.proofs.ShownVersions.{flushed_is}
use Rattle.lsm_world.specs.History.{AreFilesOf, AreJobsOf, History, IsHistory, IsHistoryBy, IsNetwork, IsStoreHistory, versions_in}
use Rattle.lsm_world.specs.Nodes.{NetworkValue, NodesValue, StoreValue, nodes_with, number_of, up_store}
use Rattle.lsm_world.specs.Shown.{AnswersAsWrites, FollowsStore, ShowsStore}
use Rattle.lsm_world.proofs.AnsweredVersions.{HasNewest, answered_after, rising_after}
use Rattle.lsm_world.proofs.GrowingHistory.{Grows, Keeps, keeps_same}
use Rattle.lsm_world.proofs.LoggedHistories.{versions_are}
use Rattle.lsm_world.proofs.QuietReplies.{IsQuiet, followers_stay}

-- ---- a store's history, whether its coordinator is up or down

module _ (h : History) (s : StoreValue) where
  files_by : (core : Option CoordValue) → IsHistoryBy h core s → AreFilesOf h
  files_by (Some c) is = is.files.all
  files_by None is = is.files.all

  pub files_of : IsStoreHistory h s → AreFilesOf h
  files_of is = files_by s.seat.core is

  jobs_by : (core : Option CoordValue) → IsHistoryBy h core s → AreJobsOf h
  jobs_by (Some c) is = is.jobs.all
  jobs_by None is = is.jobs

  pub jobs_of : IsStoreHistory h s → AreJobsOf h
  jobs_of is = jobs_by s.seat.core is

  network_by : (core : Option CoordValue) → IsHistoryBy h core s → IsNetwork h s.network
  network_by (Some c) is = is.network
  network_by None is = is.network

  pub network_of : IsStoreHistory h s → IsNetwork h s.network
  network_of is = network_by s.seat.core is

  -- the versions of the state are those of the history
  versions_by : (core : Option CoordValue) (t : State) → CoreShows core s.seat.stored t → IsHistoryBy h core s → t.versions ≡ map listing_of (versions_in h)
  versions_by (Some c) t shows is = shows.tables.versions ∙ ap (map listing_of) (sym (versions_are h c.stored.edits is.files.edits))
  versions_by None t shows is = shows.stored.versions ∙ ap (map listing_of) (sym (versions_are h s.seat.stored.edits is.files.edits))

  pub versions_shown : (t : State) → ShowsSeat s.seat t → IsStoreHistory h s → t.versions ≡ map listing_of (versions_in h)
  versions_shown t shows is = versions_by s.seat.core t shows is

-- ---- one step

-- the current version answers as the writes do
pub current_answers : (edits : List (List ℕ)) (served : ServedValue) (t : State) → ShowsStored edits served t → AnswersAsWrites served t
current_answers edits served t is =
    let flushed = flushed_is edits served t is in
    record { ordered = is.ordered; answers = λ key. subst (λ (n : ℕ). value_at (stored_entries served) key n ≡ answer t.writes n key) flushed (is.answers key) }

-- A STORE WHOSE HISTORY HAS GROWN SHOWS THE STATE AFTER THE STEP.
pub shows_after : (old new : StoreValue) (s : State) (e : say.Event) (r : say.Reply) (t : State) (x : ShowsStore old s) (more : History) → Step s e r t → ShowsSeat new.seat t → IsQuiet e r → map number_of new.network.followers ≡ map number_of old.network.followers
    → Grows x.history more → IsStoreHistory more new → (versions_in more ≡ versions_in x.history) ⊎ HasNewest x.history more t → ShowsStore new t
shows_after old new s e r t x more step seat quiet numbers grows known newest = record {
  seat = seat;
  followers = followers_stay s e r t quiet step ∙ x.followers ∙ sym numbers;
  rising = rising_after s e r t step x.rising;
  history = more;
  known = known;
  answered = answered_after x.history more grows (files_of x.history old x.known) (files_of more new known) s t e r step x.rising (versions_shown x.history old s x.seat x.known) x.answered newest;
}

-- ---- calls of a coordinator that is up

module _ (old new : NodesValue) (e : say.Event) (r : say.Reply) where
  newest : (h : History) (t : State) → Shows new.core t → (kept : Keeps h new) → (versions_in kept.more ≡ versions_in h) ⊎ HasNewest h kept.more t
  newest h t shows kept = elim kept.current [
    | inl same ↦ inl same
    | inr one ↦ inr (record {
      now = new.core.served;
      served = one.fit.served;
      version = one.fit.version;
      tables = kept.known.files.served;
      grown = one.grown;
      answers = current_answers new.core.stored.edits new.core.served t shows.tables;
    })
  ]

  -- A CALL IS A STEP OF THE STORE.
  pub core_follows : Follows old.core e r new.core → ((h : History) → IsHistory h old → Keeps h new) → map number_of new.network.followers ≡ map number_of old.network.followers → IsQuiet e r → FollowsStore (up_store old) e r (up_store new)
  core_follows follows keeps numbers quiet s x =
      let then = follows s x.seat in
      let kept = keeps x.history x.known in
      (then.0, then.1, shows_after (up_store old) (up_store new) s e r then.0 x kept.more then.1 then.2 quiet numbers kept.grows kept.known (newest x.history then.0 then.2 kept))

-- the same of a call that leaves the coordinator
pub unchanged_follows : (old : NodesValue) (core : CoordValue) (e : say.Event) (r : say.Reply) → core ≡ old.core → Follows old.core e r core → IsQuiet e r → FollowsStore (up_store old) e r (up_store (record old { core = core }))
unchanged_follows old core e r same follows quiet =
    core_follows old (record old { core = core }) e r follows (λ h is. subst (λ (c : CoordValue). Keeps h (record old { core = c })) (sym same) (keeps_same h old is)) refl quiet
