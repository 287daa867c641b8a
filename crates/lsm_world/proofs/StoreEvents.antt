-- A store of either kind: what its nodes are asked, and what is told and kept of a restart.
use Rattle.std.proofs.Common.{◌≡◌, ◌⊎◌, ℕ, List, [], Option, None, Some, Result, Ok, Err, map, refl, sym, ap, subst, ◌∙◌, inl, inr}
use Rattle.lsm_edit.specs.Served.{IsServed, ServedValue}
use Rattle.lsm_edit.specs.Version.{IsVersion, VersionValue}
use Rattle.lsm_edit.specs.Edits.{RemovedOnce}
use Rattle.lsm_versions.specs.declared.error.OpenError.{OpenError}
use Rattle.lsm_versions.specs.Manifest.{Folds, read_edits}
use Rattle.lsm_versions.specs.Opening.{HaveTables, manifest_version}
use Rattle.lsm_versions.proofs.ManifestReplay.{removed_by_one}
use Rattle.lsm_versions.proofs.RecoveredTables.{have_tables}
use Rattle.lsm_versions.proofs.ReplayedEdits.{folds_once}
use Rattle.lsm_coord.specs.declared.dispatcher.Dispatcher.{Dispatcher}
use Rattle.lsm_coord.specs.Contract.Memory.{IsFit}
use Rattle.lsm_coord.specs.Contract.Restarts.{RestartFollows, Restarts, core_reply, restart_reply}
use Rattle.lsm_coord.specs.Contract.Seats.{SeatValue, ShowsDown, ShowsSeat}
use Rattle.lsm_coord.specs.Contract.Shows.{Shows}
use Rattle.lsm_coord.specs.Contract.Value.{CoordValue}
use Rattle.lsm_coord.specs.Model.Event as say
use Rattle.lsm_coord.specs.Model.State.{State}
use Rattle.lsm_coord.specs.Model.Step.{Step}
use Rattle.lsm_world.specs.declared.event.Event.{Event}
use Rattle.lsm_world.specs.declared.event.Event.TheVariants as event
use Rattle.lsm_world.specs.declared.reply.Reply.{Reply}
use Rattle.lsm_world.specs.Asks.Store.{AsksBy, AsksStore, RestartsCoordinator, restart_answer}
use Rattle.lsm_world.specs.Asks.WhileDown.{AsksDown}
use Rattle.lsm_world.specs.Asks.WhileUp.{Asks, AsksNode}
use Rattle.lsm_world.specs.Memory.{LacksMemory}
use Rattle.lsm_world.specs.declared.store.Store.{Store}
use Rattle.lsm_world.specs.declared.store.Store.TheVariants.{Up, Down}
use Rattle.lsm_world.specs.History.{History, IsDownHistory, IsStoreHistory, versions_in}
use Rattle.lsm_world.specs.Inner.Handing.{IsNoRestart}
use Rattle.lsm_world.specs.Inner.Stopping.{StoppedValue, down_store}
use Rattle.lsm_world.specs.Inner.Storing.{IsFitWhileUp, IsIdleWhileDown, store_of}
use Rattle.lsm_world.specs.Nodes.{NetworkValue, NodesValue, StoreValue, number_of, store_with, up_store}
use Rattle.lsm_world.specs.Replies.{reply_of}
use Rattle.lsm_world.specs.Schedules.{IsFitBy, IsFitDown, IsPlain}
use Rattle.lsm_world.specs.Shown.{FollowsStore, ShowsStore}
use Rattle.lsm_world.proofs.AnsweredVersions.{HasNewest}
use Rattle.lsm_world.proofs.GrowingHistory.{Grows, grows_by_none}
use Rattle.lsm_world.proofs.RestartReplies.{restart_plain}
use Rattle.lsm_world.proofs.RestartedHistory.{opened_files, opened_grows, opened_version, with_epoch}
use Rattle.lsm_world.proofs.RestartedNodes.{goes_up, stays_down, stops}
use Rattle.lsm_world.proofs.StoreSteps.{current_answers, shows_after}

-- ---- a node is asked

-- any event but one
pub no_restart : (e : Event) → (e ≡ event.RestartCoordinator → ⊥) → IsNoRestart e
no_restart event.RestartCoordinator other = absurd (other refl)
no_restart e other = tt

module _ (old new : NodesValue) (r : Reply) where
  node_asks : (e : Event) → IsNoRestart e → AsksNode old e r new → AsksBy (Some old.core) (up_store old) e r (up_store new)
  node_asks event.RestartCoordinator other is = absurd other
  node_asks e other is = (new, is, refl)

  -- while the coordinator is up
  pub up_asks : (e : Event) → IsNoRestart e → Asks old e r new → AsksStore (up_store old) e r (up_store new)
  up_asks e other (inl lacks) = inl (lacks.0, ap up_store lacks.1)
  up_asks e other (inr is) = inr (node_asks e other is)

module _ (old new : StoppedValue) (r : Reply) where
  down_node_asks : (e : Event) → IsNoRestart e → AsksDown (down_store old) e r (down_store new) → AsksBy None (down_store old) e r (down_store new)
  down_node_asks event.RestartCoordinator other is = absurd other
  down_node_asks e other is = is

  -- while it is down
  pub down_asks : (e : Event) → IsNoRestart e → LacksMemory (down_store old) r (down_store new) ⊎ AsksDown (down_store old) e r (down_store new) → AsksStore (down_store old) e r (down_store new)
  down_asks e other (inl lacks) = inl lacks
  down_asks e other (inr is) = inr (down_node_asks e other is)

-- ---- a restart

-- the reply is the definitions'
told_restart : (opened : Result (Unit {0}) OpenError) (new : SeatValue) → reply_of (restart_answer opened new.core) ≡ restart_reply opened new
told_restart (Ok done) new = by new.core
  where
    by : (core : Option CoordValue) → reply_of (restart_answer (Ok done) core) ≡ core_reply core
    by None = refl
    by (Some c) = refl
told_restart (Err e) new = refl

-- no manifest is bad, no table is missing and no log is bad
pub restart_is_plain : (store : StoreValue) (old : SeatValue) (opened : Result (Unit {0}) OpenError) (seat : SeatValue) (r : Reply) → old ≡ store.seat → r ≡ restart_answer opened seat.core → RestartFollows old opened seat → (s : State) × ShowsStore store s → IsPlain r
restart_is_plain store old opened seat r same told follows shown =
    subst IsPlain (sym told) (by opened (follows shown.0 (subst (λ (x : SeatValue). ShowsSeat x shown.0) (sym same) shown.1.seat)))
  where
    plain : (core : Option CoordValue) → IsPlain (restart_answer (Ok tt) core)
    plain None = tt
    plain (Some c) = tt

    by : (o : Result (Unit {0}) OpenError) → (t : State) × Step shown.0 (say.Restart say.Coordinator) (restart_reply o seat) t × ShowsSeat seat t → IsPlain (restart_answer o seat.core)
    by (Ok done) then = plain seat.core
    by (Err e) then = restart_plain shown.0 then.0 e then.1

-- a book that outlives a refused opening is new
pub restart_idle : (old : SeatValue) (opened : Result (Unit {0}) OpenError) (seat : SeatValue) → Restarts old opened seat → IsIdleWhileDown seat.core seat.book
restart_idle old (Ok done) seat is = subst (λ (x : SeatValue). IsIdleWhileDown x.core x.book) (sym is.2) tt
restart_idle old (Err e) seat is = subst (λ (x : SeatValue). IsIdleWhileDown x.core x.book) (sym is.3) refl

-- A RESTART KEEPS THE HISTORY, WITH THE EDIT OF THE OPENING.
restarted : (h : History) (old : SeatValue) (opened : Result (Unit {0}) OpenError) (seat : SeatValue) (desk : List Dispatcher) (network : NetworkValue) → Restarts old opened seat → IsDownHistory h old.stored desk network
    → (more : History) × Grows h more × IsStoreHistory more (store_with seat desk network)
restarted h old (Ok done) seat desk network is known = (
  with_epoch h old.stored old.limits is.0 is.1 known.files,
  opened_grows h old.stored old.limits is.0 is.1 known.files,
  subst (λ (x : SeatValue). IsStoreHistory (with_epoch h old.stored old.limits is.0 is.1 known.files) (store_with x desk network)) (sym is.2) (goes_up h old.stored old.limits is.0 is.1 desk network known),
)
restarted h old (Err e) seat desk network is known = (
  h,
  grows_by_none h known.files.all.one,
  subst (λ (x : SeatValue). IsStoreHistory h (store_with x desk network)) (sym is.3) (stays_down h e old.stored seat.stored desk network is.1 known),
)

-- the version of the opening answers as the writes do
newest : (h : History) (old : SeatValue) (opened : Result (Unit {0}) OpenError) (seat : SeatValue) (desk : List Dispatcher) (network : NetworkValue) (is : Restarts old opened seat) (known : IsDownHistory h old.stored desk network) (t : State) → ShowsSeat seat t
    → (versions_in (restarted h old opened seat desk network is known).0 ≡ versions_in h) ⊎ HasNewest h (restarted h old opened seat desk network is known).0 t
unfolding restarted
newest h old (Ok done) seat desk network is known t shows =
    let c = is.0 in
    let opens = is.1 in
    let same : c.served ≡ opens.versions.served = ap (λ (x : CoordValue). x.served) opens.is in
    let shown : Shows c t = subst (λ (x : SeatValue). ShowsSeat x t) is.2 shows in
    inr (record {
      now = c.served;
      served = subst IsServed (sym same) opens.served;
      version = subst (λ (x : ServedValue). IsVersion x.version) (sym same) opens.version;
      tables = (opened_files h old.stored old.limits c opens known.files).served;
      grown = opened_version h old.stored old.limits c opens known.files;
      answers = current_answers c.stored.edits c.served t shown.tables;
    })
newest h old (Err e) seat desk network is known t shows = inl refl

-- what a store has of a history, its vault has
pub known_down : {V : Type 0} (h : History) (store : Store V) → IsFitWhileUp (store_of store).seat.core → IsStoreHistory h (store_of store) → IsDownHistory h (store_of store).seat.stored (store_of store).desk (store_of store).network
known_down h (Up nodes) fit known = stops h nodes fit known
known_down h (Down stopped) fit known = known

-- the parts of a store, whose seat is another one
module _ (store : StoreValue) (old : SeatValue) (opened : Result (Unit {0}) OpenError) (seat : SeatValue) (desk : List Dispatcher) (network : NetworkValue) (seat_is : old ≡ store.seat) (desk_is : desk ≡ store.desk) (network_is : network ≡ store.network) (restarts : Restarts old opened seat) where
  store_is : store_with old desk network ≡ store
  store_is = λ i. store_with (seat_is i) (desk_is i) (network_is i)

  known_before : (h : History) → IsDownHistory h store.seat.stored store.desk store.network → IsDownHistory h old.stored desk network
  known_before h known = subst (λ (x : StoreValue). IsDownHistory h x.seat.stored x.desk x.network) (sym store_is) known

  pub restart_known : (h : History) × IsDownHistory h store.seat.stored store.desk store.network → (h : History) × IsStoreHistory h (store_with seat desk network)
  restart_known known = let then = restarted known.0 old opened seat desk network restarts (known_before known.0 known.1) in (then.0, then.2)

  pub restart_asks : (r : Reply) (new : StoreValue) → r ≡ restart_answer opened seat.core → new ≡ store_with seat desk network → RestartsCoordinator store r new
  restart_asks r new told made =
      let e : record store { seat = seat } ≡ new = (λ i. store_with seat (sym desk_is i) (sym network_is i)) ∙ sym made in
      subst (RestartsCoordinator store r) e (opened, subst (λ (x : SeatValue). Restarts x opened seat) seat_is restarts, told, refl)

  -- THE RESTART IS A STEP.
  pub restart_follows : (r : Reply) (new : StoreValue) → r ≡ restart_answer opened seat.core → new ≡ store_with seat desk network → RestartFollows old opened seat → ((h : History) → IsStoreHistory h store → IsDownHistory h store.seat.stored store.desk store.network)
      → FollowsStore store (say.Restart say.Coordinator) (reply_of r) new
  restart_follows r new told made follows down s x =
      let then = follows s (subst (λ (y : SeatValue). ShowsSeat y s) (sym seat_is) x.seat) in
      let t = then.0 in
      let step : Step s (say.Restart say.Coordinator) (reply_of r) t = subst (λ (q : say.Reply). Step s (say.Restart say.Coordinator) q t) (sym (ap reply_of told ∙ told_restart opened seat)) then.1 in
      let known = known_before x.history (down x.history x.known) in
      let on = restarted x.history old opened seat desk network restarts known in
      let shown : ShowsStore (store_with seat desk network) t =
      shows_after store (store_with seat desk network) s (say.Restart say.Coordinator) (reply_of r) t x on.0 step then.2 tt (ap (λ (n : NetworkValue). map number_of n.followers) network_is) on.1 on.2
      (newest x.history old opened seat desk network restarts known t then.2) in
      (t, step, subst (λ (y : StoreValue). ShowsStore y t) (sym made) shown)

-- ---- what every store is

-- the seat of a coordinator that is up is its own
pub up_fit : (n : NodesValue) → IsFit n.core → IsFitBy (Some n.core) (up_store n).seat
up_fit n fit = record { coordinator = fit; same = refl }

-- the manifest of a vault that shows a state replays, and the vault has the tables
pub down_fit : (seat : SeatValue) → seat.book.live ≡ [] → (s : State) × ShowsDown seat.stored s → IsFitDown seat
down_fit seat idle shown =
    let served = shown.1.served in
    let folds : Folds seat.stored.edits served.version = shown.1.stored.manifest in record {
      manifest = folds_once seat.stored.edits served.version folds;
      once = removed_by_one seat.stored.edits served.version folds;
      tables = subst (λ (v : VersionValue). HaveTables seat.stored.tables v.files) (sym folds.makes) (have_tables seat.stored.tables served shown.1.sound shown.1.tables);
      idle = idle;
    }

-- no file is removed by two of the vault's edits
pub fit_once : (core : Option CoordValue) (seat : SeatValue) → IsFitBy core seat → RemovedOnce (read_edits seat.stored.edits)
fit_once (Some c) seat fit = subst (λ (x : SeatValue). RemovedOnce (read_edits x.stored.edits)) (sym fit.same) fit.coordinator.once
fit_once None seat fit = fit.once
