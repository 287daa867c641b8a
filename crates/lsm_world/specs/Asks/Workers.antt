-- What a worker does with a message, and what a restart makes of it (RocksDB wiki, Remote Compaction: a worker runs the job that it is sent).
use Rattle.std.specs.Prelude.{◌≡◌, ℕ, None, Some}
use Rattle.lsm_msg.specs.declared.message.Body.{Body}
use Rattle.lsm_work.specs.declared.change.WorkChange.{WorkChange}
use Rattle.lsm_work.specs.declared.change.WorkChange.TheVariants as change
use Rattle.lsm_work.specs.Workers.{WorkerValue, Works}
use Rattle.lsm_work.specs.Workers as work
use Rattle.lsm_world.specs.declared.reply.Reply.{Reply}
use Rattle.lsm_world.specs.declared.reply.Reply.TheVariants as reply
use Rattle.lsm_world.specs.declared.reply.Sent.{Sent}
use Rattle.lsm_world.specs.Nodes.{NetworkValue, at_index, with_index}
use Rattle.lsm_world.specs.Asks.Messages.{Sends}

-- the reply to a message that reached a worker, by what the message changed there
abbrev pub worker_reply : WorkChange → Sent → Reply
worker_reply (change.Collecting missing) told = reply.Collecting missing told
worker_reply change.Merged told = reply.Merged told
worker_reply change.Dropped told = reply.Dropped
worker_reply change.Ignored told = reply.Ignored

-- the worker of this index does with the message what a worker does, and what it sends is stored or lost
pub record IsWork (old : NetworkValue) (index : ℕ) (said : Body) (r : Reply) (new : NetworkValue) : Type 0 where
  pub worker : WorkerValue
  pub is_there : at_index old.workers index ≡ Some worker
  pub outcome : work.WorkOutcome
  pub works : Works worker said outcome
  pub told : Sent
  pub reply_is : r ≡ worker_reply outcome.change told
  pub sends : Sends old.messages outcome.sent told new.messages
  pub new_is : new ≡ record old { workers = with_index old.workers index outcome.worker; messages = new.messages }

-- the worker of this index has no job again, whatever it had
abbrev pub StartsAnew : NetworkValue → ℕ → NetworkValue → Type 0
StartsAnew old index new = (w : WorkerValue) × (at_index old.workers index ≡ Some w) × (new ≡ record old { workers = with_index old.workers index (record w { task = None }) })
