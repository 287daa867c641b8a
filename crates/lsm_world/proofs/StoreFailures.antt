-- Failures that are told while the coordinator is down, and of an opening: the vault has counted each.
use Rattle.std.proofs.Common.{◌≡◌, ◌⊎◌, ℕ, ◌≤◌, Option, None, Some, Result, Ok, Err, refl, sym, ap, subst, ◌∙◌, arith, inl, inr}
use Rattle.lsm_key.specs.declared.batch.KeyError.{KeyError}
use Rattle.lsm_key.specs.Limits.{batch_fault}
use Rattle.lsm_msg.specs.declared.message.Message.{Message}
use Rattle.lsm_msg.specs.declared.node.Node.{Node}
use Rattle.lsm_msg.specs.declared.node.Node.TheVariants.{Coordinator, Worker, Follower}
use Rattle.lsm_versions.specs.declared.error.OpenError.{OpenError}
use Rattle.lsm_versions.specs.declared.error.OpenError.TheVariants as opening
use Rattle.lsm_versions.specs.Opening.{CountsRefusal}
use Rattle.lsm_coord.specs.Contract.Restarts.{Restarts}
use Rattle.lsm_coord.specs.Contract.Value.{CoordValue}
use Rattle.lsm_world.specs.declared.event.Event.{Event}
use Rattle.lsm_world.specs.declared.event.Event.TheVariants as event
use Rattle.lsm_world.specs.declared.refusal.Refusal.TheVariants as why
use Rattle.lsm_world.specs.declared.reply.Reply.{Reply}
use Rattle.lsm_world.specs.declared.reply.Reply.TheVariants as reply
use Rattle.lsm_world.specs.Asks.Store.{RestartsCoordinator, restart_answer}
use Rattle.lsm_world.specs.Asks.WhileDown.{AsksDown, AsksOtherDown, DeliversAtDown, DeliversDown, down_write}
use Rattle.lsm_world.specs.Memory.{LacksMemory}
use Rattle.lsm_world.specs.Nodes.{StoreValue}
use Rattle.lsm_world.proofs.CountedFailures.{Counts, network_counted, passed_counted, still}

-- ---- an opening

opened_counted : (n m : ℕ) (core : Option CoordValue) → n ≤ m → Counts n (restart_answer (Ok tt) core) m
opened_counted n m (Some c) rose = omega (arith, rose)
opened_counted n m None rose = omega (arith, rose)

refused_counted : (n m : ℕ) (e : OpenError) → CountsRefusal e n m → Counts n (reply.Refused (why.Open e)) m
refused_counted n m opening.Device rose = omega (arith, rose)
refused_counted n m opening.OutOfMemory rose = omega (arith, rose)
refused_counted n m opening.BadManifest rose = omega (arith, rose)
refused_counted n m opening.MissingTable rose = omega (arith, rose)
refused_counted n m opening.BadLog rose = omega (arith, rose)
refused_counted n m opening.NumbersExhausted rose = omega (arith, rose)

write_counted : (n : ℕ) (o : Option KeyError) → Counts n (reply.Refused (down_write o)) n
write_counted n None = omega arith
write_counted n (Some e) = omega arith

module _ (old new : StoreValue) where
  abbrev before : ℕ
  before = old.seat.failures

  abbrev after : ℕ
  after = new.seat.failures

  -- the reply, with the failures as they were
  told : (r q : Reply) → r ≡ q → after ≡ before → Counts before q before → Counts before r after
  told r q same stays is = subst (λ (x : Reply). Counts before x after) (sym same) (subst (λ (n : ℕ). Counts before q n) (sym stays) is)

  stays : (s : StoreValue) → new ≡ s → s.seat.failures ≡ before → after ≡ before
  stays s is same = ap (λ (x : StoreValue). x.seat.failures) is ∙ same

  -- a worker or a follower was asked
  other_asked : new ≡ record old { network = new.network } → after ≡ before
  other_asked is = ap (λ (x : StoreValue). x.seat.failures) is

  other : (e : Event) (r : Reply) → AsksOtherDown old e r new → Counts before r after
  other e r is = told r r refl (other_asked is.1) (network_counted before old.network new.network e r is.0)

  delivered : (m : Message) (dst : Node) (r : Reply) → DeliversDown old m dst r new → Counts before r after
  delivered m Coordinator r is = told r (reply.Refused why.Down) is.0 (stays old is.1 refl) (omega arith)
  delivered m (Worker index) r is = told r r refl (other_asked is.1) (passed_counted before old.network new.network m (Worker index) r is.0)
  delivered m (Follower index) r is = told r r refl (other_asked is.1) (passed_counted before old.network new.network m (Follower index) r is.0)

  delivered_at : (number : ℕ) (r : Reply) → DeliversAtDown old number r new → Counts before r after
  delivered_at number (reply.Refused why.NoMessage) is = still before after (stays old is.1 refl)
  delivered_at number r is = delivered is.2 is.2.dst r is.4

  answered : (e : Event) (r : Reply) → AsksDown old e r new → Counts before r after
  answered (event.Write ops) r is = told r (reply.Refused (down_write (batch_fault ops))) is.0 (stays old is.1 refl) (write_counted before (batch_fault ops))
  answered (event.Deliver number) r is = delivered_at number r is
  answered (event.RestartWorker index) r is = other (event.RestartWorker index) r is
  answered (event.RestartFollower index) r is = other (event.RestartFollower index) r is
  answered (event.Ask index) r is = other (event.Ask index) r is
  answered (event.Read index key) r is = other (event.Read index key) r is
  answered (event.ShowFollower index) r is = other (event.ShowFollower index) r is
  answered e r is = told r (reply.Refused why.Down) is.0 (stays old is.1 refl) (omega arith)

  -- WHAT IS TOLD OF A FAILURE WHILE THE COORDINATOR IS DOWN, THE VAULT HAS COUNTED.
  pub down_counted : (e : Event) (r : Reply) → LacksMemory old r new ⊎ AsksDown old e r new → Counts before r after
  down_counted e r (inl lacks) = told r (reply.Refused why.OutOfMemory) lacks.0 (stays old lacks.1 refl) (omega arith)
  down_counted e r (inr is) = answered e r is

  -- AND SO IT HAS WHAT IS TOLD OF AN OPENING.
  pub restart_counted : (r : Reply) → RestartsCoordinator old r new → Counts before r after
  restart_counted r is = by is.0 is.1 is.2
    where
      by : (opened : Result (Unit {0}) OpenError) → Restarts old.seat opened new.seat → r ≡ restart_answer opened new.seat.core → Counts before r after
      by (Ok done) restarts same = subst (λ (x : Reply). Counts before x after) (sym same) (opened_counted before after new.seat.core restarts.3)
      by (Err e) restarts same = subst (λ (x : Reply). Counts before x after) (sym same) (refused_counted before after e restarts.2)
