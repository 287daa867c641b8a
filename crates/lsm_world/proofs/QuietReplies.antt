-- Replies that tell of no move of a follower leave the followers' versions.
use Rattle.std.proofs.Common.{◌≡◌, ℕ, ap, inl, inr}
use Rattle.lsm_coord.specs.declared.coord.install.Install.{Install}
use Rattle.lsm_coord.specs.declared.coord.install.Install.TheVariants as became
use Rattle.lsm_coord.specs.Model.Event as say
use Rattle.lsm_coord.specs.Model.State.{State}
use Rattle.lsm_coord.specs.Model.Step.{Leaves, Step}
use Rattle.lsm_world.specs.declared.event.Event.{Event}
use Rattle.lsm_world.specs.declared.event.Event.TheVariants as event
use Rattle.lsm_world.specs.Asks.Dispatchers.{dispatcher_reply}
use Rattle.lsm_world.specs.Events.{event_of}
use Rattle.lsm_world.specs.Inner.Handing.{IsOfCoordinator}
use Rattle.lsm_world.specs.Replies.{reply_of}

-- no follower has come to another version
abbrev pub IsQuiet : say.Event → say.Reply → Type 0
IsQuiet (say.Restart (say.Follower i)) (say.Refused why) = Unit {0}
IsQuiet (say.Restart (say.Follower i)) r = ⊥
IsQuiet (say.Deliver m) (say.Advanced number) = ⊥
IsQuiet e r = Unit {0}

followers_of : (t u : State) → t ≡ u → t.followers ≡ u.followers
followers_of t u same = ap (λ (x : State). x.followers) same

left : (s : State) (e : say.Event) (why : say.Refusal) (t : State) → Leaves s e why t → t.followers ≡ s.followers
left s (say.Trim n) say.Device t h = followers_of t _ h
left s (say.Trim n) say.OutOfMemory t (inl h) = followers_of t _ h.1
left s (say.Trim n) say.OutOfMemory t (inr h) = followers_of t _ h
left s (say.Restart say.Coordinator) say.OutOfMemory t (inl h) = followers_of t _ h
left s (say.Restart say.Coordinator) say.OutOfMemory t (inr h) = followers_of t _ h
left s (say.Restart say.Coordinator) why t h = followers_of t _ h
left s e why t h = followers_of t _ h

pub followers_stay : (s : State) (e : say.Event) (r : say.Reply) (t : State) → IsQuiet e r → Step s e r t → t.followers ≡ s.followers
followers_stay s e (say.Refused why) t quiet h = left s e why t h.1
followers_stay s (say.Write ops) (say.Wrote a b) t quiet h = followers_of t _ h.1.2
followers_stay s say.Freeze (say.Froze a) t quiet h = followers_of t _ h.1.1
followers_stay s say.Flush (say.Flushed a b c) t quiet h = followers_of t _ h.1.3
followers_stay s say.Snap (say.Snapped a b) t quiet h = followers_of t _ h.1.2
followers_stay s (say.Release a) (say.Released b) t quiet h = followers_of t _ h.1.1
followers_stay s (say.Get a b) (say.Got c) t quiet h = followers_of t _ h.1.1
followers_stay s (say.Scan a b c d) (say.Scanned x) t quiet h = followers_of t _ h.1.1
followers_stay s (say.Read a b) (say.ReadAt c d) t quiet h = followers_of t _ h.1.2
followers_stay s (say.Show say.Coordinator) (say.Shown a b c) t quiet h = followers_of t _ h.1.2
followers_stay s (say.Show (say.Follower i)) (say.Shown a b c) t quiet h = followers_of t _ h.1.2
followers_stay s (say.Deliver m) (say.Installed a b) t quiet h = followers_of t _ h.1.new_is
followers_stay s (say.Deliver m) (say.Advanced a) t quiet h = absurd quiet
followers_stay s (say.Deliver m) say.Other t quiet h = followers_of t _ h.1
followers_stay s (say.Pick d) say.Other t quiet h = followers_of t _ h.1.1
followers_stay s (say.GiveUp d) say.Other t quiet h = followers_of t _ h.1.1
followers_stay s (say.Ask i) say.Other t quiet h = followers_of t _ h.1.1
followers_stay s (say.Trim n) (say.Trimmed a) t quiet h = followers_of t _ h.1.1
followers_stay s (say.Restart say.Coordinator) (say.Restarted a b c) t quiet h = followers_of t _ h.1.3
followers_stay s (say.Restart (say.Worker i)) say.Reset t quiet h = followers_of t _ h.1.1
followers_stay s (say.Restart (say.Follower i)) say.Reset t quiet h = absurd quiet
followers_stay s (say.Show say.Coordinator) r t quiet h = absurd h.1
followers_stay s (say.Show (say.Worker i)) r t quiet h = absurd h.1
followers_stay s (say.Show (say.Follower i)) r t quiet h = absurd h.1
followers_stay s (say.Restart say.Coordinator) r t quiet h = absurd h.1
followers_stay s (say.Restart (say.Worker i)) r t quiet h = absurd h.1
followers_stay s (say.Restart (say.Follower i)) r t quiet h = absurd h.1
followers_stay s e r t quiet h = absurd h.1

-- an event of the coordinator's own moves no follower
pub own_quiet : (e : Event) (r : say.Reply) → IsOfCoordinator e → IsQuiet (event_of e) r
own_quiet (event.Pick d) r own = absurd own
own_quiet (event.GiveUp d) r own = absurd own
own_quiet (event.Deliver number) r own = absurd own
own_quiet event.RestartCoordinator r own = absurd own
own_quiet (event.RestartWorker index) r own = absurd own
own_quiet (event.RestartFollower index) r own = absurd own
own_quiet (event.Ask index) r own = absurd own
own_quiet (event.Read index key) r own = absurd own
own_quiet (event.ShowFollower index) r own = absurd own
own_quiet e r own = tt

-- an install moves none
pub install_quiet : (number : ℕ) (what : Install) → IsQuiet (say.Deliver number) (reply_of (dispatcher_reply what))
install_quiet number (became.Done version files) = tt
install_quiet number (became.Stale job epoch) = tt
install_quiet number (became.Kept claim e) = tt
