-- Replies that the device failed, and the failures that the vault counts: a call reports one only where the count has risen.
use Rattle.std.proofs.Common.{◌≡◌, ℕ, ◌+◌, ◌≤◌, List, Option, None, Some, refl, sym, ap, subst, ◌∙◌, arith, inl, inr}
use Rattle.std.specs.Prelude.{length, nat_le, is_none, MatchOption}
use Rattle.lsm_key.specs.declared.limits.TheConstants.{MAX_NUMBER, MAX_SNAPSHOTS}
use Rattle.lsm_key.specs.Faults.{Refuses}
use Rattle.lsm_claim.specs.declared.job.LiveJob.{LiveJob}
use Rattle.lsm_msg.specs.declared.job.JobResult.{JobResult}
use Rattle.lsm_msg.specs.declared.message.Body.{Body}
use Rattle.lsm_msg.specs.declared.message.Body.TheVariants as body
use Rattle.lsm_msg.specs.declared.message.Message.{Message}
use Rattle.lsm_msg.specs.declared.node.Node.{Node}
use Rattle.lsm_msg.specs.declared.node.Node.TheVariants.{Coordinator, Worker, Follower}
use Rattle.lsm_coord.specs.declared.coord.install.Install.{Install}
use Rattle.lsm_coord.specs.declared.coord.install.Install.TheVariants as became
use Rattle.lsm_coord.specs.declared.coord.install.InstallError.{InstallError}
use Rattle.lsm_coord.specs.declared.coord.install.InstallError.TheVariants as kept
use Rattle.lsm_coord.specs.declared.error.CoordError.{CoordError}
use Rattle.lsm_coord.specs.declared.error.CoordError.TheVariants as error
use Rattle.lsm_coord.specs.declared.snapshot.SnapId.{SnapId}
use Rattle.lsm_coord.specs.Contract.Calls.{AppendRefuses, FlushRefuses, HasValue, TrimRefuses, freeze_fault, point_of, release_fault, snapshot_fault, write_fault}
use Rattle.lsm_coord.specs.Contract.Installing.{Became, LeavesRejected}
use Rattle.lsm_coord.specs.Contract.Picking.{PickRefuses}
use Rattle.lsm_coord.specs.Contract.Replies.{error_of}
use Rattle.lsm_coord.specs.Contract.Value.{CoordValue}
use Rattle.lsm_coord.specs.Model.State.{snapshot_at}
use Rattle.lsm_follow.specs.declared.change.FollowChange.{FollowChange}
use Rattle.lsm_follow.specs.declared.change.FollowChange.TheVariants as follow
use Rattle.lsm_work.specs.declared.change.WorkChange.{WorkChange}
use Rattle.lsm_work.specs.declared.change.WorkChange.TheVariants as change
use Rattle.lsm_world.specs.declared.event.Event.{Event}
use Rattle.lsm_world.specs.declared.event.Event.TheVariants as event
use Rattle.lsm_world.specs.declared.refusal.Refusal.TheVariants as why
use Rattle.lsm_world.specs.declared.reply.Reply.{Reply}
use Rattle.lsm_world.specs.declared.reply.Reply.TheVariants as reply
use Rattle.lsm_world.specs.declared.reply.Sent.{Sent}
use Rattle.lsm_world.specs.Asks.Coordinator.{Calls}
use Rattle.lsm_world.specs.Asks.Deliveries.{Delivers, DeliversAt, Receives}
use Rattle.lsm_world.specs.Asks.Dispatchers.{Dispatches, GivesUp, TakesResult, dispatcher_reply}
use Rattle.lsm_world.specs.Asks.Followers.{follower_reply, looked_up}
use Rattle.lsm_world.specs.Asks.Network.{AsksNetwork, DeliversOn}
use Rattle.lsm_world.specs.Asks.WhileUp.{Asks, AsksNode, AsksOther}
use Rattle.lsm_world.specs.Asks.Workers.{worker_reply}
use Rattle.lsm_world.specs.Nodes.{NetworkValue, NodesValue}
use Rattle.lsm_world.specs.Schedules.{device_failures}
use Rattle.lsm_world.proofs.PlainReplies.{one_reason, two_reasons}

-- the failures that are counted go up by what the reply says, or more
abbrev pub Counts : ℕ → Reply → ℕ → Type 0
Counts before r after = device_failures r + before ≤ after

pub still : (before after : ℕ) → after ≡ before → 0 + before ≤ after
still before after same = omega (arith, same)

-- ---- refusals of another cause

-- one that is not the device's
counts_none : (before after : ℕ) (e : CoordError) → (e ≡ error.Device → ⊥) → after ≡ before → Counts before (reply.Refused (why.Coord e)) after
counts_none before after error.Device other same = absurd (other refl)
counts_none before after e other same = still before after same

-- a reason of the call, or memory
refuses_none : (o : Option CoordError) (e : CoordError) → (o ≡ Some error.Device → ⊥) → Refuses error.OutOfMemory o e → e ≡ error.Device → ⊥
refuses_none o e none (inl forced) is = none (forced ∙ ap (λ (x : CoordError). Some x) is)
refuses_none o e none (inr memory) is = let m = memory.1 in cc

snapshot_none : (c : CoordValue) → snapshot_fault c ≡ Some error.Device → ⊥
snapshot_none c is = elim (two_reasons (nat_le MAX_SNAPSHOTS (length c.snapshots)) (nat_le MAX_NUMBER c.made) error.TooManySnapshots error.NumbersExhausted error.Device is) [
  | inl a ↦ let x : error.TooManySnapshots ≡ error.Device = a in cc
  | inr b ↦ let x : error.NumbersExhausted ≡ error.Device = b in cc
]

release_none : (c : CoordValue) (id : SnapId) → release_fault c id ≡ Some error.Device → ⊥
release_none c id is = let x : error.NoSnapshot ≡ error.Device = one_reason (is_none (snapshot_at c.snapshots id)) error.NoSnapshot error.Device is in cc

get_none : (c : CoordValue) (key : List ℕ) (o : Option ℕ) (e : CoordError) → MatchOption o (e ≡ error.NoSnapshot) (λ point. (e ≡ error.OutOfMemory) × HasValue c point key) → e ≡ error.Device → ⊥
get_none c key None e refuses is = cc
get_none c key (Some point) e refuses is = let m = refuses.0 in cc

scan_none : (o : Option ℕ) (e : CoordError) → MatchOption o (e ≡ error.NoSnapshot) (λ point. e ≡ error.OutOfMemory) → e ≡ error.Device → ⊥
scan_none None e refuses is = cc
scan_none (Some point) e refuses is = cc

-- ---- the coordinator's own calls

append_counted : (fault : Option CoordError) (old new : CoordValue) (e : CoordError) → AppendRefuses fault old e new → Counts old.failures (reply.Refused (why.Coord e)) new.failures
append_counted fault old new error.OutOfMemory is = let counted = is.1.counted in omega (arith, counted)
append_counted fault old new error.Device is = let failed = is.2 in omega (arith, failed)
append_counted fault old new e is = still old.failures new.failures (ap (λ (c : CoordValue). c.failures) is.1)

flush_counted : (old new : CoordValue) (e : CoordError) → FlushRefuses old e new → Counts old.failures (reply.Refused (why.Coord e)) new.failures
flush_counted old new error.OutOfMemory is = let counted = is.1.counted in omega (arith, counted)
flush_counted old new error.Device is = let failed = is.1.1 in omega (arith, failed)
flush_counted old new e is = still old.failures new.failures (ap (λ (c : CoordValue). c.failures) is.1)

trim_counted : (old new : CoordValue) (n : ℕ) (e : CoordError) → TrimRefuses old n e new → Counts old.failures (reply.Refused (why.Coord e)) new.failures
trim_counted old new n error.OutOfMemory is = let counted = is.1.counted in omega (arith, counted)
trim_counted old new n error.Device is = let failed = is.2 in omega (arith, failed)
trim_counted old new n e is = still old.failures new.failures (ap (λ (c : CoordValue). c.failures) is.1)

module _ (old new : CoordValue) where
  -- nothing has changed
  unchanged : new ≡ old → new.failures ≡ old.failures
  unchanged same = ap (λ (c : CoordValue). c.failures) same

  pub calls_counted : (e : Event) (r : Reply) → Calls old e r new → Counts old.failures r new.failures
  calls_counted (event.Write ops) (reply.Wrote first last) is = let counted = is.2.counted in omega (arith, counted)
  calls_counted (event.Write ops) (reply.Refused (why.Key k)) is = still old.failures new.failures (unchanged is.1)
  calls_counted (event.Write ops) (reply.Refused (why.Coord e)) is = append_counted (write_fault old ops) old new e is.1
  calls_counted event.Freeze (reply.Froze seq) is = let counted = is.1.counted in omega (arith, counted)
  calls_counted event.Freeze (reply.Refused (why.Coord e)) is = append_counted (freeze_fault old) old new e is
  calls_counted event.Flush (reply.Flushed f) is = let counted = is.1.3.counted in omega (arith, counted)
  calls_counted event.Flush (reply.Refused (why.Coord e)) is = flush_counted old new e is
  calls_counted event.Snap (reply.Snapped id seq) is = still old.failures new.failures (ap (λ (c : CoordValue). c.failures) is.1)
  calls_counted event.Snap (reply.Refused (why.Coord e)) is = counts_none old.failures new.failures e (refuses_none (snapshot_fault old) e (snapshot_none old) is.0) (unchanged is.1)
  calls_counted (event.Release id) (reply.Released which) is = still old.failures new.failures (ap (λ (c : CoordValue). c.failures) is.2)
  calls_counted (event.Release id) (reply.Refused (why.Coord e)) is = counts_none old.failures new.failures e (λ device. release_none old id (is.0 ∙ ap (λ (x : CoordError). Some x) device)) (unchanged is.1)
  calls_counted (event.Get key at) (reply.Got value) is = still old.failures new.failures (unchanged is)
  calls_counted (event.Get key at) (reply.Refused (why.Coord e)) is = counts_none old.failures new.failures e (get_none old key (point_of old at) e is.0) (unchanged is.1)
  calls_counted (event.Scan range) (reply.Scanned pairs) is = still old.failures new.failures (unchanged is)
  calls_counted (event.Scan range) (reply.Refused (why.Coord e)) is = counts_none old.failures new.failures e (scan_none (point_of old range.at) e is.0) (unchanged is.1)
  calls_counted event.Show (reply.Shown v) is = still old.failures new.failures (unchanged is.1)
  calls_counted (event.Trim number) (reply.Trimmed floor removed) is = let rose = is.4 in omega (arith, rose)
  calls_counted (event.Trim number) (reply.Refused (why.Coord e)) is = trim_counted old new number e is
  calls_counted e r is = absurd is

-- ---- results

rejected_counted : (made : JobResult) (old new : CoordValue) (e : InstallError) → LeavesRejected made e old new → Counts old.failures (reply.Refused (why.Coord (error_of e))) new.failures
rejected_counted made old new kept.WrongJob is = still old.failures new.failures (ap (λ (c : CoordValue). c.failures) is)
rejected_counted made old new kept.BadResult is = still old.failures new.failures (ap (λ (c : CoordValue). c.failures) is)
rejected_counted made old new kept.NumbersExhausted is = still old.failures new.failures (ap (λ (c : CoordValue). c.failures) is)
rejected_counted made old new kept.OutOfMemory is = let counted = is.counted in omega (arith, counted)
rejected_counted made old new kept.Device is = let failed = is.1 in omega (arith, failed)

installed_counted : (old new : CoordValue) (claim : LiveJob) (made : JobResult) (what : Install) → Became old claim made what new → Counts old.failures (dispatcher_reply what) new.failures
installed_counted old new claim made (became.Done number files) is = let counted = is.4.counted in omega (arith, counted)
installed_counted old new claim made (became.Stale job epoch) is = still old.failures new.failures (ap (λ (c : CoordValue). c.failures) is.3)
installed_counted old new claim made (became.Kept back e) is = rejected_counted made old new e is.4

-- ---- the nodes

worker_counted : (n : ℕ) (what : WorkChange) (told : Sent) → Counts n (worker_reply what told) n
worker_counted n (change.Collecting missing) told = omega arith
worker_counted n change.Merged told = omega arith
worker_counted n change.Dropped told = omega arith
worker_counted n change.Ignored told = omega arith

follower_counted : (n : ℕ) (what : FollowChange) (told : Sent) → Counts n (follower_reply what told) n
follower_counted n (follow.Waiting missing) told = omega arith
follower_counted n (follow.Version number) told = omega arith
follower_counted n follow.Dropped told = omega arith
follower_counted n follow.Current told = omega arith
follower_counted n follow.Ignored told = omega arith

-- a reply that is another one
same_counted : (n : ℕ) (r q : Reply) → r ≡ q → Counts n q n → Counts n r n
same_counted n r q same is = subst (λ (x : Reply). Counts n x n) (sym same) is

pub network_counted : (n : ℕ) (old new : NetworkValue) (e : Event) (r : Reply) → AsksNetwork old e r new → Counts n r n
network_counted n old new (event.RestartWorker index) r is = same_counted n r (reply.RestartedWorker index) is.0 (omega arith)
network_counted n old new (event.RestartFollower index) r is = same_counted n r (reply.RestartedFollower index) is.0 (omega arith)
network_counted n old new (event.Ask index) r is = same_counted n r (reply.Asked is.2) is.3 (omega arith)
network_counted n old new (event.Read index key) r is = same_counted n r (reply.ReadAt is.0.served.version.number (looked_up is.0 key)) is.2 (omega arith)
network_counted n old new (event.ShowFollower index) r is = same_counted n r (reply.Shown is.2) is.4 (omega arith)
network_counted n old new e r is = absurd is

pub passed_counted : (n : ℕ) (old new : NetworkValue) (m : Message) (dst : Node) (r : Reply) → DeliversOn old m dst r new → Counts n r n
passed_counted n old new m Coordinator r is = absurd is
passed_counted n old new m (Worker index) r is = same_counted n r (worker_reply is.outcome.change is.told) is.reply_is (worker_counted n is.outcome.change is.told)
passed_counted n old new m (Follower index) r is = same_counted n r (follower_reply is.outcome.change is.told) is.reply_is (follower_counted n is.outcome.change is.told)

module _ (old new : NodesValue) where
  abbrev before : ℕ
  before = old.core.failures

  abbrev after : ℕ
  after = new.core.failures

  -- a reply of no failure, and the coordinator as it was
  told : (r q : Reply) → r ≡ q → Counts before q after → Counts before r after
  told r q same is = subst (λ (x : Reply). Counts before x after) (sym same) is

  kept_core : (n : NodesValue) → new ≡ n → n.core.failures ≡ before → after ≡ before
  kept_core n is same = ap (λ (x : NodesValue). x.core.failures) is ∙ same

  dispatched : (d : ℕ) (r : Reply) → Dispatches old d r new → Counts before r after
  dispatched d (reply.Refused why.Busy) is = still before after (kept_core old is.1 refl)
  dispatched d (reply.Refused (why.Coord e)) is = counts_none before after e (λ device. subst (PickRefuses old.core) device is.1) (kept_core old is.2 refl)
  dispatched d reply.Idle is = still before after (kept_core old is.2 refl)
  dispatched d (reply.Picked job sent) is = still before after (ap (λ (c : CoordValue). c.failures) is.3.new_is)
  dispatched d r is = absurd is

  gave_up : (d : ℕ) (r : Reply) → GivesUp old d r new → Counts before r after
  gave_up d (reply.Refused why.NoClaim) is = still before after (kept_core old is.1 refl)
  gave_up d (reply.Returned id) is = still before after (ap (λ (x : NodesValue). x.core.failures) is.4)
  gave_up d (reply.StaleClaim id) is = still before after (ap (λ (x : NodesValue). x.core.failures) is.4)
  gave_up d r is = absurd is

  took : (d : ℕ) (made : JobResult) (r : Reply) → TakesResult old d made r new → Counts before r after
  took d made (reply.Refused why.NoClaim) is = still before after (kept_core old is.1 refl)
  took d made r is = told r (dispatcher_reply is.3) is.5 (installed_counted old.core new.core is.0 made is.3 is.4)

  received : (m : Message) (src : Node) (said : Body) (r : Reply) → Receives old m src said r new → Counts before r after
  received m src (body.Fetch file) r is = told r (reply.Served is.2) is.3 (still before after (ap (λ (x : NodesValue). x.core.failures) is.5))
  received m src (body.Ask number) r is = told r (reply.Served is.2) is.3 (still before after (ap (λ (x : NodesValue). x.core.failures) is.5))
  received m (Worker d) (body.Result made) r is = took d made r is
  received m src said r is = told r reply.Ignored is.0 (still before after (kept_core old is.1 refl))

  -- another node was asked, and the coordinator is as it was
  kept_failures : (r : Reply) → new ≡ record old { network = new.network } → Counts before r before → Counts before r after
  kept_failures r is counts = subst (λ (n : ℕ). Counts before r n) (sym (ap (λ (x : NodesValue). x.core.failures) is)) counts

  other : (e : Event) (r : Reply) → AsksOther old e r new → Counts before r after
  other e r is = kept_failures r is.1 (network_counted before old.network new.network e r is.0)

  delivered : (m : Message) (dst : Node) (r : Reply) → Delivers old m dst r new → Counts before r after
  delivered m Coordinator r is = received m m.src m.body r is
  delivered m (Worker index) r is = kept_failures r is.1 (passed_counted before old.network new.network m (Worker index) r is.0)
  delivered m (Follower index) r is = kept_failures r is.1 (passed_counted before old.network new.network m (Follower index) r is.0)

  delivered_at : (number : ℕ) (r : Reply) → DeliversAt old number r new → Counts before r after
  delivered_at number (reply.Refused why.NoMessage) is = still before after (kept_core old is.1 refl)
  delivered_at number r is = delivered is.2 is.2.dst r is.4

  node_counted : (e : Event) (r : Reply) → AsksNode old e r new → Counts before r after
  node_counted (event.Pick d) r is = dispatched d r is
  node_counted (event.GiveUp d) r is = gave_up d r is
  node_counted (event.Deliver number) r is = delivered_at number r is
  node_counted (event.RestartWorker index) r is = other (event.RestartWorker index) r is
  node_counted (event.RestartFollower index) r is = other (event.RestartFollower index) r is
  node_counted (event.Ask index) r is = other (event.Ask index) r is
  node_counted (event.Read index key) r is = other (event.Read index key) r is
  node_counted (event.ShowFollower index) r is = other (event.ShowFollower index) r is
  node_counted e r is = calls_counted old.core new.core e r is.0

  -- WHAT THE NODES ANSWER OF A FAILURE, THE VAULT HAS COUNTED.
  pub nodes_counted : (e : Event) (r : Reply) → Asks old e r new → Counts before r after
  nodes_counted e r (inl lacks) = told r (reply.Refused why.OutOfMemory) lacks.0 (still before after (kept_core old lacks.1 refl))
  nodes_counted e r (inr is) = node_counted e r is
