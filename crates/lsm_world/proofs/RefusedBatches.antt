-- What is said of a batch that is not made of operations: it is refused, and nothing is done.
use Rattle.std.proofs.Common.{◌≡◌, ◌⊎◌, Option, Some, List, refl, ap, inl, inr}
use Rattle.std.specs.Option.{option_map, option_or}
use Rattle.lsm_key.specs.declared.batch.KeyError.{KeyError}
use Rattle.lsm_key.specs.declared.batch.KeyError.TheVariants as key
use Rattle.lsm_key.specs.declared.op.Op.{Op}
use Rattle.lsm_key.specs.Limits.{batch_fault}
use Rattle.lsm_coord.specs.Contract.Shows.{Follows}
use Rattle.lsm_coord.specs.Contract.Value.{CoordValue}
use Rattle.lsm_coord.specs.Model.Event as say
use Rattle.lsm_coord.specs.Model.Rules.{key_refusal, refusal, unless_down, write_refusal}
use Rattle.lsm_coord.specs.Model.State.{State}
use Rattle.lsm_coord.specs.Model.Step.{Step}
use Rattle.lsm_world.specs.declared.event.Event.TheVariants as event
use Rattle.lsm_world.specs.declared.refusal.Refusal.{Refusal}
use Rattle.lsm_world.specs.declared.refusal.Refusal.TheVariants as why
use Rattle.lsm_world.specs.declared.reply.Reply.TheVariants as reply
use Rattle.lsm_world.specs.Asks.Coordinator.{Calls}
use Rattle.lsm_world.specs.Inner.Batches.{RefusesBatch}
use Rattle.lsm_world.specs.Memory.{LacksMemory}
use Rattle.lsm_world.specs.Replies.{reply_of}
use Rattle.lsm_world.specs.Schedules.{IsPlain}

-- a batch is refused for its own fault, whether the coordinator is up or down
pub key_step : (s : State) (ops : List Op) (e : KeyError) → batch_fault ops ≡ Some e → Step s (say.Write ops) (reply_of (reply.Refused (why.Key e))) s
key_step s ops e fault = by e (ap (λ (o : Option KeyError). option_or (option_map key_refusal o) (unless_down s (write_refusal s ops))) fault)
  where
    by : (k : KeyError) → refusal s (say.Write ops) ≡ Some (key_refusal k) → Step s (say.Write ops) (reply_of (reply.Refused (why.Key k))) s
    by key.EmptyKey forced = (inl forced, refl)
    by key.KeyTooLong forced = (inl forced, refl)
    by key.ValueTooLong forced = (inl forced, refl)
    by key.BatchFull forced = (inl forced, refl)
    by key.OutOfMemory forced = (tt, refl)

module _ (c : CoordValue) (ops : List Op) where
  pub refused_calls : (w : Refusal) → RefusesBatch ops w → LacksMemory c (reply.Refused w) c ⊎ Calls c (event.Write ops) (reply.Refused w) c
  refused_calls why.OutOfMemory is = inl (refl, refl)
  refused_calls (why.Key e) is = inr (is, refl)
  refused_calls w is = absurd is

  pub refused_follows : (w : Refusal) → RefusesBatch ops w → Follows c (say.Write ops) (reply_of (reply.Refused w)) c
  refused_follows why.OutOfMemory is = λ s shown. (s, (tt, refl), shown)
  refused_follows (why.Key e) is = λ s shown. (s, key_step s ops e is, shown)
  refused_follows w is = absurd is

-- no manifest is bad, no table is missing and no log is bad
pub refused_plain : (ops : List Op) (w : Refusal) → RefusesBatch ops w → IsPlain (reply.Refused w)
refused_plain ops why.OutOfMemory is = tt
refused_plain ops (why.Key e) is = tt
refused_plain ops w is = absurd is
