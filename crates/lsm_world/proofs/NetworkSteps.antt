-- What workers and followers do is a step of the store: the coordinator stays, and a follower moves to a version of the history.
use Rattle.std.proofs.Common.{◌≡◌, ◌⊎◌, ℕ, ◌-◌, ◌<◌, ◌≤◌, zero, suc, List, [], ◌∷◌, Option, None, Some, length, map, refl, sym, ap, subst, ◌∙◌, inl, inr, arith}
use Rattle.std.specs.Prelude.{slice_get, slice_set}
use Rattle.std.specs.Option.{option_and_then, option_map}
use Rattle.std.proofs.lemmas.List.{length-map}
use Rattle.std.proofs.lemmas.Option.{slice_get-map}
use Rattle.lsm_key.specs.Visible.{entry_value}
use Rattle.lsm_key.specs.Writes.{answer}
use Rattle.lsm_key.proofs.FirstVisible.{first_visible-is}
use Rattle.lsm_edit.specs.Served.{IsServed, tables_of}
use Rattle.lsm_edit.specs.Version.{VersionValue, first_version}
use Rattle.lsm_follow.specs.declared.change.FollowChange.{FollowChange}
use Rattle.lsm_follow.specs.declared.change.FollowChange.TheVariants as follow
use Rattle.lsm_follow.specs.Followers.{FollowerValue, FollowOutcome, new_follower}
use Rattle.lsm_msg.specs.declared.message.Message.{Message}
use Rattle.lsm_msg.specs.declared.node.Node.{Node}
use Rattle.lsm_msg.specs.declared.node.Node.TheVariants.{Coordinator, Worker, Follower}
use Rattle.lsm_msg.specs.Messages.{IsNode}
use Rattle.lsm_versions.proofs.ManifestReplay.{length-versions_from}
use Rattle.lsm_coord.specs.declared.answer.ShownVersion.{ShownVersion}
use Rattle.lsm_coord.specs.Contract.Seats.{CoreShows, SeatValue, ShowsSeat}
use Rattle.lsm_coord.specs.Contract.Shows.{listing_of, place_of}
use Rattle.lsm_coord.specs.Contract.Value.{CoordValue}
use Rattle.lsm_coord.specs.Model.Changes.{IsIndex, after_move}
use Rattle.lsm_coord.specs.Model.Event as say
use Rattle.lsm_coord.specs.Model.Laws.{FlushedAscends}
use Rattle.lsm_coord.specs.Model.State.{State, Version}
use Rattle.lsm_coord.specs.Model.Step.{Step}
use Rattle.lsm_coord.proofs.ShownStates.{stored_same}
use Rattle.lsm_work.specs.declared.change.WorkChange.{WorkChange}
use Rattle.lsm_work.specs.declared.change.WorkChange.TheVariants as change
use Rattle.lsm_world.specs.declared.event.Event.{Event}
use Rattle.lsm_world.specs.declared.event.Event.TheVariants as event
use Rattle.lsm_world.specs.declared.refusal.Refusal.TheVariants as why
use Rattle.lsm_world.specs.declared.reply.Reply.{Reply}
use Rattle.lsm_world.specs.declared.reply.Reply.TheVariants as reply
use Rattle.lsm_world.specs.declared.reply.Sent.{Sent}
use Rattle.lsm_world.specs.Asks.Coordinator.{ListsVersion}
use Rattle.lsm_world.specs.Asks.Followers.{follower_reply, looked_up}
use Rattle.lsm_world.specs.Asks.Network.{AsksNetwork, DeliversOn}
use Rattle.lsm_world.specs.Asks.Workers.{worker_reply}
use Rattle.lsm_world.specs.Memory.{LacksMemory}
use Rattle.lsm_world.specs.Events.{event_of}
use Rattle.lsm_world.specs.History.{History, IsFollowerOf, IsHistoryBy, IsStoreHistory, IsVersionOf, versions_in}
use Rattle.lsm_world.specs.Inner.Handing.{IsOfNetwork, IsStored}
use Rattle.lsm_world.specs.Inner.Working.{IsSoundAsk, KeepsNetwork}
use Rattle.lsm_world.specs.Nodes.{NetworkValue, StoreValue, at_index, number_of, with_index}
use Rattle.lsm_world.specs.Replies.{reply_of}
use Rattle.lsm_world.specs.Schedules.{IsPlain}
use Rattle.lsm_world.specs.Shown.{AreAnswered, FollowsStore, ShowsStore}
use Rattle.lsm_world.proofs.DeskPlaces.{set_back}
use Rattle.lsm_world.proofs.FollowerEvents.{Moves, MovesBy, follows_number}
use Rattle.lsm_world.proofs.FourPlaces.{in_place}
use Rattle.lsm_world.proofs.OneSpelling.{stored_known}
use Rattle.lsm_world.proofs.StoreSteps.{files_of, network_of, versions_shown}

-- ---- a state with other followers

-- the followers' versions are these
abbrev with_followers : State → List ℕ → State
with_followers s numbers = record s { followers = numbers }

core_shows : (core : Option CoordValue) (seat : SeatValue) (s : State) (numbers : List ℕ) → CoreShows core seat.stored s → CoreShows core seat.stored (with_followers s numbers)
core_shows (Some c) seat s numbers h =
    let m = h.memtables in
    record {
      up = h.up;
      last = h.last;
      frozen = h.frozen;
      snapshots = h.snapshots;
      made = h.made;
      floor = h.floor;
      tables = stored_same c.stored.edits c.served s (with_followers s numbers) h.tables refl refl refl refl (λ key. refl);
      memtables = record { flushed = m.flushed; within = m.within; active_is = m.active_is; frozen_is = m.frozen_is; kept = m.kept; snapped = m.snapped };
      logged = h.logged;
    }
core_shows None seat s numbers h = record {
  down = h.down;
  snapshots = h.snapshots;
  made = h.made;
  flushed = h.flushed;
  served = h.served;
  sound = h.sound;
  tables = h.tables;
  stored = stored_same seat.stored.edits h.served s (with_followers s numbers) h.stored refl refl refl refl (λ key. refl);
  logged = h.logged;
}

rising_with : (s : State) (numbers : List ℕ) → FlushedAscends s → FlushedAscends (with_followers s numbers)
rising_with s numbers is = record { ascending = is.ascending; written = is.written; frozen = is.frozen }

answered_with : (h : History) (s : State) (numbers : List ℕ) → AreAnswered h s → AreAnswered h (with_followers s numbers)
answered_with h s numbers all served is at tables = let one = all served is at tables in record { ordered = one.ordered; answers = one.answers }

-- ---- what the network keeps

-- a history is kept by a store that has another network
history_with : (h : History) (old : StoreValue) (new : NetworkValue) (core : Option CoordValue) → KeepsNetwork old.network new → IsStoreHistory h old → IsHistoryBy h core old → IsHistoryBy h core (record old { network = new })
history_with h old new (Some c) keeps all is = record { files = is.files; jobs = is.jobs; claims = is.claims; network = keeps h is.files.all is.jobs.all is.network }
history_with h old new None keeps all is = record { files = is.files; jobs = is.jobs; begun = is.begun; claims = is.claims; network = keeps h is.files.all is.jobs is.network }

module _ (old : StoreValue) (new : NetworkValue) (keeps : KeepsNetwork old.network new) where
  abbrev after : StoreValue
  after = record old { network = new }

  -- THE STORE SHOWS THE STATE WITH THE FOLLOWERS' VERSIONS AS THEY ARE NOW.
  shows_with : (s : State) → ShowsStore old s → ShowsStore after (with_followers s (map number_of new.followers))
  shows_with s x = record {
    seat = core_shows old.seat.core old.seat s (map number_of new.followers) x.seat;
    followers = refl;
    rising = rising_with s (map number_of new.followers) x.rising;
    history = x.history;
    known = history_with x.history old new old.seat.core keeps x.known x.known;
    answered = answered_with x.history s (map number_of new.followers) x.answered;
  }

  -- followers that are where they were
  shows_same : (s : State) → map number_of new.followers ≡ map number_of old.network.followers → ShowsStore old s → ShowsStore after s
  shows_same s same x =
      let e : with_followers s (map number_of new.followers) ≡ s = ap (with_followers s) (same ∙ sym x.followers) in
      subst (ShowsStore after) e (shows_with s x)

-- ---- numbers of followers in their places

map_set : (fs : List FollowerValue) (i : ℕ) (f : FollowerValue) → map number_of (slice_set fs i f) ≡ slice_set (map number_of fs) i (number_of f)
map_set [] i f = refl
map_set (g ∷ fs) zero f = refl
map_set (g ∷ fs) (suc i) f = ap (λ (ns : List ℕ). number_of g ∷ ns) (map_set fs i f)

map_set_same : (fs : List FollowerValue) (i : ℕ) (f new : FollowerValue) → slice_get fs i ≡ Some f → number_of new ≡ number_of f → map number_of (slice_set fs i new) ≡ map number_of fs
map_set_same fs i f new at same =
    map_set fs i new
    ∙ ap (slice_set (map number_of fs) i) same
    ∙ set_back (map number_of fs) i (number_of f) (slice_get-map number_of fs i ∙ ap (option_map number_of) at)

-- ---- steps of events

module _ (old : StoreValue) (s : State) (x : ShowsStore old s) where
  -- the follower of an index is at its version
  at_number : (index : ℕ) (f : FollowerValue) → at_index old.network.followers index ≡ Some f → slice_get s.followers (index - 1) ≡ Some (number_of f)
  at_number index f at =
      ap (λ (ns : List ℕ). slice_get ns (index - 1)) x.followers ∙ slice_get-map number_of old.network.followers (index - 1) ∙ ap (option_map number_of) at

  follower_is : (index : ℕ) (f : FollowerValue) → at_index old.network.followers index ≡ Some f → IsFollowerOf x.history f
  follower_is index f at = (network_of x.history old x.known).versions f (in_place old.network.followers (index - 1) f at)

  -- a version of the history is one of the state
  listed : (v : VersionValue) → IsVersionOf x.history v → slice_get s.versions v.number ≡ Some (listing_of v)
  listed v at =
      ap (λ (vs : List Version). slice_get vs v.number) (versions_shown x.history old s x.seat x.known) ∙ slice_get-map listing_of (versions_in x.history) v.number ∙ ap (option_map listing_of) at

  shown_listing : (v : VersionValue) (told : ShownVersion) → ListsVersion v told → IsVersionOf x.history v → slice_get s.versions told.number ≡ Some (record { flushed = told.flushed; files = map place_of told.files })
  shown_listing v told lists at =
      ap (slice_get s.versions) lists.0 ∙ listed v at
      ∙ (λ i. Some (record { flushed = sym lists.1 i; files = map place_of (sym lists.2 i) }))

  -- a look-up gives what the writes give
  read_right : (f : FollowerValue) (key : List ℕ) → IsServed f.served → IsFollowerOf x.history f → looked_up f key ≡ answer s.writes f.served.version.flushed key
  read_right f key sound is =
      let right = x.answered f.served sound is.version is.tables in
      ap (option_and_then entry_value) (first_visible-is (tables_of f.served.places) key f.served.version.flushed right.ordered) ∙ right.answers key

  -- ---- what a worker or a follower is asked

  module _ (new : NetworkValue) (keeps : KeepsNetwork old.network new) where
    -- a step that moves no follower
    stays_put : (e : say.Event) (r q : Reply) → r ≡ q → Step s e (reply_of q) s → map number_of new.followers ≡ map number_of old.network.followers → (t : State) × Step s e (reply_of r) t × ShowsStore (record old { network = new }) t
    stays_put e r q told step same = (s, subst (λ (p : Reply). Step s e (reply_of p) s) (sym told) step, shows_same old new keeps s same x)

    same_followers : (n : NetworkValue) → new ≡ n → n.followers ≡ old.network.followers → map number_of new.followers ≡ map number_of old.network.followers
    same_followers n is same = ap (λ (k : NetworkValue). map number_of k.followers) is ∙ ap (map number_of) same

    -- a step after which the follower of an index is at a version
    moved : (index : ℕ) (f after : FollowerValue) → new.followers ≡ with_index old.network.followers index after → with_followers s (map number_of new.followers) ≡ after_move s index (number_of after)
    moved index f after is =
        ap (with_followers s) (ap (map number_of) is ∙ map_set old.network.followers (index - 1) after ∙ ap (λ (ns : List ℕ). slice_set ns (index - 1) (number_of after)) (sym x.followers))

    lacks_step : (e : Event) → IsOfNetwork e → Step s (event_of e) (say.Refused say.OutOfMemory) s
    lacks_step (event.RestartWorker index) of = (tt, refl)
    lacks_step (event.RestartFollower index) of = (tt, refl)
    lacks_step (event.Ask index) of = (tt, refl)
    lacks_step (event.Read index key) of = (tt, refl)
    lacks_step (event.ShowFollower index) of = (tt, refl)
    lacks_step e of = absurd of

    event_step : (e : Event) (r : Reply) → IsSoundAsk old.network e → AsksNetwork old.network e r new → (t : State) × Step s (event_of e) (reply_of r) t × ShowsStore (record old { network = new }) t
    event_step (event.RestartWorker index) r sound is = stays_put (say.Restart (say.Worker index)) r (reply.RestartedWorker index) is.0 (refl, (sound, refl)) (same_followers _ is.1.2 refl)
    event_step (event.RestartFollower index) r sound is = (
      with_followers s (map number_of new.followers),
      subst (λ (p : Reply). Step s (say.Restart (say.Follower index)) (reply_of p) (with_followers s (map number_of new.followers))) (sym is.0)
          (refl, (sound, moved index is.1.0 (new_follower is.1.0.index) (ap (λ (k : NetworkValue). k.followers) is.1.2))),
      shows_with old new keeps s x,
    )
    event_step (event.Ask index) r sound is = stays_put (say.Ask index) r (reply.Asked is.2) is.3 (refl, (sound, refl)) (same_followers _ is.5 refl)
    event_step (event.Read index key) r sound is =
        let f = is.0 in
        let own = follower_is index f is.1 in
        stays_put (say.Read index key) r (reply.ReadAt f.served.version.number (looked_up f key)) is.2
        (refl, ((sound.0, at_number index f is.1), (listing_of f.served.version, listed f.served.version own.version, read_right f key (sound.1 f is.1) own), refl))
        (same_followers old.network is.3 refl)
    event_step (event.ShowFollower index) r sound is =
        let f = is.0 in
        let told = is.2 in
        let own = follower_is index f is.1 in
        stays_put (say.Show (say.Follower index)) r (reply.Shown told) is.4
        (refl, ((sound, at_number index f is.1 ∙ ap (λ (n : ℕ). Some n) (sym is.3.0)), shown_listing f.served.version told is.3 own.version, refl))
        (same_followers old.network is.5 refl)
    event_step e r sound is = absurd is

    -- ---- messages

    -- what a follower tells of a move
    followed_step : (number index : ℕ) (f : FollowerValue) (o : FollowOutcome) → IsIndex index → at_index old.network.followers index ≡ Some f → new.followers ≡ with_index old.network.followers index o.follower → Moves x.history f o → (told : Sent)
        → (t : State) × Step s (say.Deliver number) (reply_of (follower_reply o.change told)) t × ShowsStore (record old { network = new }) t
    followed_step number index f o within at is moves told = by o.change moves
      where
        stayed : number_of o.follower ≡ number_of f → map number_of new.followers ≡ map number_of old.network.followers
        stayed same = ap (map number_of) is ∙ map_set_same old.network.followers (index - 1) f o.follower at same

        -- the version is one of the state
        below : (n : ℕ) → n ≤ length x.history.edits → n < length s.versions
        below n le =
            let count = ap (λ (vs : List Version). length vs) (versions_shown x.history old s x.seat x.known) in
            let same = length-map (versions_in x.history) listing_of in
            let long = length-versions_from first_version x.history.edits in
            omega (arith, le, count, same, long)

        by : (what : FollowChange) → MovesBy x.history f o.follower what → (t : State) × Step s (say.Deliver number) (reply_of (follower_reply what told)) t × ShowsStore (record old { network = new }) t
        by (follow.Version n) to = (
          with_followers s (map number_of new.followers),
          (refl, (index, number_of f, (within, at_number index f at), to.0, below n to.2, moved index f o.follower is ∙ ap (after_move s index) to.1)),
          shows_with old new keeps s x,
        )
        by (follow.Waiting missing) same = (s, (refl, refl), shows_same old new keeps s (stayed same) x)
        by follow.Dropped same = (s, (refl, refl), shows_same old new keeps s (stayed same) x)
        by follow.Current same = (s, (refl, refl), shows_same old new keeps s (stayed same) x)
        by follow.Ignored same = (s, (refl, refl), shows_same old new keeps s (stayed same) x)

    worked_step : (number : ℕ) (what : WorkChange) (told : Sent) → Step s (say.Deliver number) (reply_of (worker_reply what told)) s
    worked_step number (change.Collecting missing) told = (refl, refl)
    worked_step number change.Merged told = (refl, refl)
    worked_step number change.Dropped told = (refl, refl)
    worked_step number change.Ignored told = (refl, refl)

    delivered_step : (number : ℕ) (m : Message) (dst : Node) (r : Reply) → IsNode dst → IsStored old.network.messages m → DeliversOn old.network m dst r new → (t : State) × Step s (say.Deliver number) (reply_of r) t × ShowsStore (record old { network = new }) t
    delivered_step number m Coordinator r node stored is = absurd is
    delivered_step number m (Worker index) r node stored is =
        stays_put (say.Deliver number) r (worker_reply is.outcome.change is.told) is.reply_is (worked_step number is.outcome.change is.told) (same_followers _ is.new_is refl)
    delivered_step number m (Follower index) r node stored is =
        let h = x.history in
        let known = stored_known h old.network m (network_of h old x.known) stored in
        let moves = follows_number h (files_of h old x.known) is.follower m.body is.outcome (follower_is index is.follower is.is_there) known is.follows in
        let then = followed_step number index is.follower is.outcome node is.is_there (ap (λ (k : NetworkValue). k.followers) is.new_is) moves is.told in
        (then.0, subst (λ (p : Reply). Step s (say.Deliver number) (reply_of p) then.0) (sym is.reply_is) then.1, then.2)

-- WHAT A WORKER OR A FOLLOWER ANSWERS IS A STEP OF THE STORE.
pub network_event_follows : (old : StoreValue) (new : NetworkValue) (e : Event) (r : Reply) → IsOfNetwork e → IsSoundAsk old.network e → KeepsNetwork old.network new → LacksMemory old.network r new ⊎ AsksNetwork old.network e r new → FollowsStore old (event_of e) (reply_of r) (record old { network = new })
network_event_follows old new e r of sound keeps (inl lacks) s x =
    stays_put old s x new keeps (event_of e) r (reply.Refused why.OutOfMemory) lacks.0 (lacks_step old s x new keeps e of) (same_followers old s x new keeps old.network lacks.1 refl)
network_event_follows old new e r of sound keeps (inr is) s x = event_step old s x new keeps e r sound is

-- AND SO IS WHAT IT ANSWERS TO A MESSAGE.
pub network_delivery_follows : (old : StoreValue) (new : NetworkValue) (m : Message) (r : Reply) → IsStored old.network.messages m → KeepsNetwork old.network new → LacksMemory old.network r new ⊎ DeliversOn old.network m m.dst r new
    → (number : ℕ) → FollowsStore old (say.Deliver number) (reply_of r) (record old { network = new })
network_delivery_follows old new m r stored keeps (inl lacks) number s x =
    stays_put old s x new keeps (say.Deliver number) r (reply.Refused why.OutOfMemory) lacks.0 (tt, refl) (same_followers old s x new keeps old.network lacks.1 refl)
network_delivery_follows old new m r stored keeps (inr is) number s x = delivered_step old s x new keeps number m m.dst r stored.2.sound.dst stored is

-- ---- refusals that never come

worked_plain : (what : WorkChange) (told : Sent) → IsPlain (worker_reply what told)
worked_plain (change.Collecting missing) told = tt
worked_plain change.Merged told = tt
worked_plain change.Dropped told = tt
worked_plain change.Ignored told = tt

followed_plain : (what : FollowChange) (told : Sent) → IsPlain (follower_reply what told)
followed_plain (follow.Waiting missing) told = tt
followed_plain (follow.Version number) told = tt
followed_plain follow.Dropped told = tt
followed_plain follow.Current told = tt
followed_plain follow.Ignored told = tt

module _ (old new : NetworkValue) where
  event_plain : (e : Event) (r : Reply) → AsksNetwork old e r new → IsPlain r
  event_plain (event.RestartWorker index) r is = subst IsPlain (sym is.0) tt
  event_plain (event.RestartFollower index) r is = subst IsPlain (sym is.0) tt
  event_plain (event.Ask index) r is = subst IsPlain (sym is.3) tt
  event_plain (event.Read index key) r is = subst IsPlain (sym is.2) tt
  event_plain (event.ShowFollower index) r is = subst IsPlain (sym is.4) tt
  event_plain e r is = absurd is

  pub network_plain : (e : Event) (r : Reply) → LacksMemory old r new ⊎ AsksNetwork old e r new → IsPlain r
  network_plain e r (inl lacks) = subst IsPlain (sym lacks.0) tt
  network_plain e r (inr is) = event_plain e r is

  pub receiver_plain : (m : Message) (dst : Node) (r : Reply) → DeliversOn old m dst r new → IsPlain r
  receiver_plain m Coordinator r is = absurd is
  receiver_plain m (Worker index) r is = subst IsPlain (sym is.reply_is) (worked_plain is.outcome.change is.told)
  receiver_plain m (Follower index) r is = subst IsPlain (sym is.reply_is) (followed_plain is.outcome.change is.told)

  pub delivery_plain : (m : Message) (r : Reply) → LacksMemory old r new ⊎ DeliversOn old m m.dst r new → IsPlain r
  delivery_plain m r (inl lacks) = subst IsPlain (sym lacks.0) tt
  delivery_plain m r (inr is) = receiver_plain m m.dst r is
