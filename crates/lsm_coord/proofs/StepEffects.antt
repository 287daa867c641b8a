-- What a step may do to the writes, the versions and the frozen memtable.
use Rattle.std.proofs.Common.{◌≡◌, List, [], ◌∷◌, ◌++◌, None, Some, refl, sym, subst, inl, inr}
use Rattle.lsm_key.specs.declared.op.Op.{Op}
use Rattle.lsm_coord.specs.Model.State.{State, Version, last_seq, last_flushed}
use Rattle.lsm_coord.specs.Model.Event.{Event, Refusal, Reply}
use Rattle.lsm_coord.specs.Model.Event as say
use Rattle.lsm_coord.specs.Model.Changes.{flush_end}
use Rattle.lsm_coord.specs.Model.Step.{Step, Leaves}

-- a version comes with a flush; or of an install or a restart, and then it has the flushed sequence of the one before
pub data Effect (s : State) (e : Event) (t : State) : Type 0 where
  stays : t.writes ≡ s.writes → t.versions ≡ s.versions → t.frozen ≡ s.frozen → Effect s e t
  wrote : (ops : List Op) → e ≡ say.Write ops → t.writes ≡ s.writes ++ ops → t.versions ≡ s.versions → t.frozen ≡ s.frozen → Effect s e t
  froze : t.writes ≡ s.writes → t.versions ≡ s.versions → t.frozen ≡ Some (last_seq s) → Effect s e t
  flushed : (v : Version) → v.flushed ≡ flush_end s → t.writes ≡ s.writes → t.versions ≡ s.versions ++ v ∷ [] → t.frozen ≡ None → Effect s e t
  versioned : (v : Version) → v.flushed ≡ last_flushed s → t.writes ≡ s.writes → t.versions ≡ s.versions ++ v ∷ [] → t.frozen ≡ s.frozen → Effect s e t

to : (s : State) (e : Event) (t u : State) → t ≡ u → Effect s e u → Effect s e t
to s e t u h x = subst (Effect s e) (sym h) x

leaves : (s : State) (e : Event) (why : Refusal) (t : State) → Leaves s e why t → Effect s e t
leaves s (say.Trim n) say.Device t h = to s (say.Trim n) t _ h (stays refl refl refl)
leaves s (say.Trim n) say.OutOfMemory t (inl h) = to s (say.Trim n) t _ h.1 (stays refl refl refl)
leaves s (say.Trim n) say.OutOfMemory t (inr h) = to s (say.Trim n) t _ h (stays refl refl refl)
leaves s (say.Restart say.Coordinator) say.OutOfMemory t (inl h) = to s (say.Restart say.Coordinator) t _ h (stays refl refl refl)
leaves s (say.Restart say.Coordinator) say.OutOfMemory t (inr h) = to s (say.Restart say.Coordinator) t _ h (stays refl refl refl)
leaves s (say.Restart say.Coordinator) why t h = to s (say.Restart say.Coordinator) t _ h (stays refl refl refl)
leaves s e why t h = to s e t _ h (stays refl refl refl)

pub effect : (s : State) (e : Event) (r : Reply) (t : State) → Step s e r t → Effect s e t
effect s e (say.Refused why) t h = leaves s e why t h.1
effect s (say.Write ops) (say.Wrote a b) t h = to s _ t _ h.1.2 (wrote ops refl refl refl refl)
effect s say.Freeze (say.Froze a) t h = to s _ t _ h.1.1 (froze refl refl refl)
effect s say.Flush (say.Flushed a b c) t h = to s _ t _ h.1.3 (flushed _ refl refl refl refl)
effect s say.Snap (say.Snapped a b) t h = to s _ t _ h.1.2 (stays refl refl refl)
effect s (say.Release a) (say.Released b) t h = to s _ t _ h.1.1 (stays refl refl refl)
effect s (say.Get a b) (say.Got c) t h = to s _ t _ h.1.1 (stays refl refl refl)
effect s (say.Scan a b c d) (say.Scanned x) t h = to s _ t _ h.1.1 (stays refl refl refl)
effect s (say.Read a b) (say.ReadAt c d) t h = to s _ t _ h.1.2 (stays refl refl refl)
effect s (say.Show say.Coordinator) (say.Shown a b c) t h = to s _ t _ h.1.2 (stays refl refl refl)
effect s (say.Show (say.Follower i)) (say.Shown a b c) t h = to s _ t _ h.1.2 (stays refl refl refl)
effect s (say.Deliver m) (say.Installed a b) t h = to s _ t _ h.1.new_is (versioned _ refl refl refl refl)
effect s (say.Deliver m) (say.Advanced a) t h = to s _ t _ h.1.5 (stays refl refl refl)
effect s (say.Deliver m) say.Other t h = to s _ t _ h.1 (stays refl refl refl)
effect s (say.Pick d) say.Other t h = to s _ t _ h.1.1 (stays refl refl refl)
effect s (say.GiveUp d) say.Other t h = to s _ t _ h.1.1 (stays refl refl refl)
effect s (say.Ask i) say.Other t h = to s _ t _ h.1.1 (stays refl refl refl)
effect s (say.Trim n) (say.Trimmed a) t h = to s _ t _ h.1.1 (stays refl refl refl)
effect s (say.Restart say.Coordinator) (say.Restarted a b c) t h = to s _ t _ h.1.3 (versioned _ refl refl refl refl)
effect s (say.Restart (say.Worker i)) say.Reset t h = to s _ t _ h.1.1 (stays refl refl refl)
effect s (say.Restart (say.Follower i)) say.Reset t h = to s _ t _ h.1.1 (stays refl refl refl)
effect s (say.Show say.Coordinator) r t h = absurd h.1
effect s (say.Show (say.Worker i)) r t h = absurd h.1
effect s (say.Show (say.Follower i)) r t h = absurd h.1
effect s (say.Restart say.Coordinator) r t h = absurd h.1
effect s (say.Restart (say.Worker i)) r t h = absurd h.1
effect s (say.Restart (say.Follower i)) r t h = absurd h.1
effect s e r t h = absurd h.1
