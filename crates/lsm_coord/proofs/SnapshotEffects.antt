-- What a step may do to the snapshots.
use Rattle.std.proofs.Common.{◌≡◌, ◌+◌, List, [], ◌∷◌, ◌++◌, Option, None, Some, refl, sym, subst, ◌∙◌, inl, inr, Bool, true, false, not, filter, append-nil}
use Rattle.std.specs.Bool.{if◌then◌else◌}
use Rattle.lsm_key.specs.declared.op.Op.{Op}
use Rattle.lsm_coord.specs.Model.State.{State, last_seq, same_snapshot_id}
use Rattle.lsm_coord.specs.declared.snapshot.SnapId.{SnapId}
use Rattle.lsm_coord.specs.Model.Event.{Event, Refusal, Reply}
use Rattle.lsm_coord.specs.Model.Event as say
use Rattle.lsm_coord.specs.Model.Changes.{next_snapshot}
use Rattle.lsm_coord.specs.Model.Rules.{snapshot_refusal}
use Rattle.lsm_coord.specs.Model.Step.{Step, Leaves}

-- the epoch continues
pub record Goes (s t : State) (more : List Op) : Type 0 where
  pub writes : t.writes ≡ s.writes ++ more
  pub epoch : t.epoch ≡ s.epoch
  pub up : t.up ≡ s.up

pub data Effect (s t : State) : Type 0 where
  stays : (more : List Op) → Goes s t more → t.snapshots ≡ s.snapshots → t.made ≡ s.made → Effect s t
  snapped : s.up ≡ true → Goes s t [] → t.snapshots ≡ s.snapshots ++ record { id = next_snapshot s; at = last_seq s } ∷ [] → t.made ≡ s.made + 1 → Effect s t
  released : (id : SnapId) → Goes s t [] → t.snapshots ≡ filter (λ live. not (same_snapshot_id live.id id)) s.snapshots → t.made ≡ s.made → Effect s t
  fell : t.snapshots ≡ [] → t.up ≡ false → t.epoch ≡ s.epoch → Effect s t
  rose : t.snapshots ≡ [] → t.epoch ≡ s.epoch + 1 → Effect s t

to : (s t u : State) → t ≡ u → Effect s u → Effect s t
to s t u h x = subst (Effect s) (sym h) x

-- nothing of the writes, the snapshots and the epoch changes
still : (s t u : State) → t ≡ u → u.writes ≡ s.writes → u.snapshots ≡ s.snapshots → u.made ≡ s.made → u.epoch ≡ s.epoch → u.up ≡ s.up → Effect s t
still s t u h w a b c d = to s t u h (stays [] (record { writes = w ∙ sym (append-nil s.writes); epoch = c; up = d }) a b)

leaves : (s : State) (e : Event) (why : Refusal) (t : State) → Leaves s e why t → Effect s t
leaves s (say.Trim n) say.Device t h = still s t _ h refl refl refl refl refl
leaves s (say.Trim n) say.OutOfMemory t (inl h) = still s t _ h.1 refl refl refl refl refl
leaves s (say.Trim n) say.OutOfMemory t (inr h) = still s t _ h refl refl refl refl refl
leaves s (say.Restart say.Coordinator) say.OutOfMemory t (inl h) = to s t _ h (fell refl refl refl)
leaves s (say.Restart say.Coordinator) say.OutOfMemory t (inr h) = still s t _ h refl refl refl refl refl
leaves s (say.Restart say.Coordinator) why t h = to s t _ h (fell refl refl refl)
leaves s e why t h = still s t _ h refl refl refl refl refl

up_where_allowed : (up : Bool) (why : Option Refusal) → (if up then why else Some say.Down) ≡ None → up ≡ true
up_where_allowed true why h = refl
up_where_allowed false why h = absurd cc

pub effect : (s : State) (e : Event) (r : Reply) (t : State) → Step s e r t → Effect s t
effect s e (say.Refused why) t h = leaves s e why t h.1
effect s (say.Write ops) (say.Wrote a b) t h = to s t _ h.1.2 (stays ops (record { writes = refl; epoch = refl; up = refl }) refl refl)
effect s say.Freeze (say.Froze a) t h = still s t _ h.1.1 refl refl refl refl refl
effect s say.Flush (say.Flushed a b c) t h = still s t _ h.1.3 refl refl refl refl refl
effect s say.Snap (say.Snapped a b) t h = to s t _ h.1.2 (snapped (up_where_allowed s.up (snapshot_refusal s) h.0) (record { writes = sym (append-nil s.writes); epoch = refl; up = refl }) refl refl)
effect s (say.Release a) (say.Released b) t h = to s t _ h.1.1 (released a (record { writes = sym (append-nil s.writes); epoch = refl; up = refl }) refl refl)
effect s (say.Get a b) (say.Got c) t h = still s t _ h.1.1 refl refl refl refl refl
effect s (say.Scan a b c d) (say.Scanned x) t h = still s t _ h.1.1 refl refl refl refl refl
effect s (say.Read a b) (say.ReadAt c d) t h = still s t _ h.1.2 refl refl refl refl refl
effect s (say.Show say.Coordinator) (say.Shown a b c) t h = still s t _ h.1.2 refl refl refl refl refl
effect s (say.Show (say.Follower i)) (say.Shown a b c) t h = still s t _ h.1.2 refl refl refl refl refl
effect s (say.Deliver m) (say.Installed a b) t h = still s t _ h.1.new_is refl refl refl refl refl
effect s (say.Deliver m) (say.Advanced a) t h = still s t _ h.1.5 refl refl refl refl refl
effect s (say.Deliver m) say.Other t h = still s t _ h.1 refl refl refl refl refl
effect s (say.Pick d) say.Other t h = still s t _ h.1.1 refl refl refl refl refl
effect s (say.GiveUp d) say.Other t h = still s t _ h.1.1 refl refl refl refl refl
effect s (say.Ask i) say.Other t h = still s t _ h.1.1 refl refl refl refl refl
effect s (say.Trim n) (say.Trimmed a) t h = still s t _ h.1.1 refl refl refl refl refl
effect s (say.Restart say.Coordinator) (say.Restarted a b c) t h = to s t _ h.1.3 (rose refl refl)
effect s (say.Restart (say.Worker i)) say.Reset t h = still s t _ h.1.1 refl refl refl refl refl
effect s (say.Restart (say.Follower i)) say.Reset t h = still s t _ h.1.1 refl refl refl refl refl
effect s (say.Show say.Coordinator) r t h = absurd h.1
effect s (say.Show (say.Worker i)) r t h = absurd h.1
effect s (say.Show (say.Follower i)) r t h = absurd h.1
effect s (say.Restart say.Coordinator) r t h = absurd h.1
effect s (say.Restart (say.Worker i)) r t h = absurd h.1
effect s (say.Restart (say.Follower i)) r t h = absurd h.1
effect s e r t h = absurd h.1
