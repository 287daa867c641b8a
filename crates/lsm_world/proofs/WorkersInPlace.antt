-- A worker that is taken from its place, and put back as it became: what the network had of a history, it has again.
use Rattle.std.proofs.Common.{◌≡◌, ℕ, ◌-◌, List, None, Some, refl, sym, ap, subst, ◌∙◌}
use Rattle.lsm_msg.specs.declared.message.Message.{Message}
use Rattle.lsm_work.specs.declared.change.WorkChange.{WorkChange}
use Rattle.lsm_work.specs.Workers.{WorkOutcome, WorkerValue}
use Rattle.lsm_world.specs.declared.reply.Sent.{Sent}
use Rattle.lsm_world.specs.Asks.Messages.{Sends}
use Rattle.lsm_world.specs.History.{IsNetwork}
use Rattle.lsm_world.specs.Inner.Handing.{IsStored}
use Rattle.lsm_world.specs.Inner.Working.{HasWorked, KeepsNetwork}
use Rattle.lsm_world.specs.Nodes.{NetworkValue, at_index, with_index}
use Rattle.lsm_world.proofs.FourPlaces.{in_place, put_back}
use Rattle.lsm_world.proofs.OneSpelling.{stored_known}
use Rattle.lsm_world.proofs.StoredMessages.{sends_keep}
use Rattle.lsm_world.proofs.WorkerEvents.{with_worker, works_index, works_known}

-- ---- a worker that is started anew

module _ (old : NetworkValue) (index : ℕ) (w other after : WorkerValue) (mid new : List WorkerValue) (at : at_index old.workers index ≡ Some w) (taken : mid ≡ with_index old.workers index other) (anew : after ≡ record w { task = None }) (put : new ≡ with_index mid index after) where
  pub anew_in_place : new ≡ with_index old.workers index (record w { task = None })
  anew_in_place = put_back old.workers mid new index other after taken put ∙ ap (with_index old.workers index) anew

  -- A WORKER THAT IS STARTED ANEW KEEPS THE HISTORY.
  pub anew_keeps : KeepsNetwork old (record old { workers = new })
  anew_keeps h files jobs is =
      subst (λ (ws : List WorkerValue). IsNetwork h (record old { workers = ws })) (sym anew_in_place) (with_worker h old (index - 1) w (record w { task = None }) at refl tt is)

-- ---- a worker that gets a message that was sent

module _ (old : NetworkValue) (index : ℕ) (m : Message) (change : WorkChange) (sent : List Message) (told : Sent) (new : List WorkerValue) (stored : List (List ℕ)) (was_sent : IsStored old.messages m) (worked : HasWorked old.workers index m.body change sent new) (sends : Sends old.messages sent told stored) where
  abbrev outcome : WorkOutcome
  outcome = record { change = change; sent = sent; worker = worked.after }

  -- A WORKER THAT GETS A MESSAGE THAT WAS SENT KEEPS THE HISTORY.
  pub work_keeps : KeepsNetwork old (record old { workers = new; messages = stored })
  work_keeps h files jobs is =
      let task = is.tasks worked.before (in_place old.workers (index - 1) worked.before worked.is_there) in
      let kept = works_known h files jobs worked.before m.body outcome task (stored_known h old m is was_sent) worked.works in
      let placed = with_worker h old (index - 1) worked.before worked.after worked.is_there (works_index worked.before m.body outcome worked.works) kept.0 is in
      let now = subst (λ (ws : List WorkerValue). IsNetwork h (record old { workers = ws })) (sym worked.new_is) placed in
      sends_keep h (record old { workers = new }) sent told stored sends kept.1 now
