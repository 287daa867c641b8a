-- What dispatchers are asked: a claim is picked, given back, or settled by a result.
use Rattle.std.proofs.Common.{◌≡◌, ℕ, ◌-◌, ◌≤◌, true, false, List, [], ◌∷◌, Option, Some, is_some, refl, sym, ap, subst, ◌∙◌, inl, inr}
use Rattle.std.specs.Prelude.{slice_get}
use Rattle.std.proofs.lemmas.Bool.{true≢false}
use Rattle.std.proofs.lemmas.Option.{same_Some}
use Rattle.std.specs.Option.{option_map}
use Rattle.lsm_claim.specs.declared.ending.Settled.{Settled}
use Rattle.lsm_claim.specs.declared.ending.Settled.TheVariants.{Live, Stale}
use Rattle.lsm_claim.specs.declared.job.JobId.{JobId}
use Rattle.lsm_claim.specs.declared.job.LiveJob.{LiveJob}
use Rattle.lsm_claim.specs.Book.{holds, settle_answer}
use Rattle.lsm_msg.specs.declared.job.JobParts.{JobParts}
use Rattle.lsm_msg.specs.declared.job.JobResult.{JobResult}
use Rattle.lsm_msg.specs.declared.message.Message.{Message}
use Rattle.lsm_msg.specs.Messages.{IsMessage}
use Rattle.lsm_coord.specs.declared.coord.install.Install.{Install}
use Rattle.lsm_coord.specs.declared.coord.install.Install.TheVariants as became
use Rattle.lsm_coord.specs.declared.dispatcher.Dispatcher.{Dispatcher}
use Rattle.lsm_coord.specs.declared.dispatcher.Dispatcher.TheVariants.{Idle, Busy}
use Rattle.lsm_coord.specs.Contract.Calls.{after_give_back}
use Rattle.lsm_coord.specs.Contract.Desks.{dispatcher_of, job_of, with_dispatcher}
use Rattle.lsm_coord.specs.Contract.Installing.{Became, HoldsSoundMerge, IsDone, IsLive}
use Rattle.lsm_coord.specs.Contract.Memory.{IsFit}
use Rattle.lsm_coord.specs.Contract.Picking.{IsPicked}
use Rattle.lsm_coord.specs.Contract.Replies.{install_reply}
use Rattle.lsm_coord.specs.Contract.Sound.{IsSound, KeepsSound}
use Rattle.lsm_coord.specs.Contract.Value.{CoordValue}
use Rattle.lsm_coord.specs.Model.Event as say
use Rattle.lsm_coord.proofs.InstallOutcomes.{held_by}
use Rattle.lsm_coord.proofs.VaultRefusals.{stored_keeps}
use Rattle.lsm_world.specs.declared.reply.Reply.{Reply}
use Rattle.lsm_world.specs.Asks.Dispatchers.{Dispatches, GivesUp, TakesResult, dispatcher_reply, job_message}
use Rattle.lsm_world.specs.History.{History, IsHistory, IsKnown, IsResultOf}
use Rattle.lsm_world.specs.Inner.Handing.{TellsPicked, desk_settled, settled_reply}
use Rattle.lsm_world.specs.Nodes.{NodesValue, nodes_of}
use Rattle.lsm_world.specs.Replies.{reply_of}
use Rattle.lsm_world.specs.Schedules.{IsPlain}
use Rattle.lsm_world.proofs.DeskPlaces.{is_there, set_again, set_back}
use Rattle.lsm_world.proofs.EndedClaims.{gave_back, put_down}
use Rattle.lsm_world.proofs.GrowingHistory.{Keeps, keeps_same}
use Rattle.lsm_world.proofs.Installs.{after_install}
use Rattle.lsm_world.proofs.MergedResults.{result_fits, result_holds}
use Rattle.lsm_world.proofs.PickedClaims.{after_pick}
use Rattle.lsm_world.proofs.PlainReplies.{kept_plain}
use Rattle.lsm_world.proofs.QuietCalls.{upkeep}
use Rattle.lsm_world.proofs.SameFiles.{rejected_stored, stored_files}
use Rattle.lsm_world.proofs.StoredMessages.{nodes_send}

-- ---- what a dispatcher holds

abbrev named : LiveJob → JobId
named j = j.id

pub is_busy : (x : Dispatcher) (o : Option JobId) → o ≡ option_map named (job_of x) → is_some o ≡ true → (claim : LiveJob) × (x ≡ Busy claim)
is_busy Idle o of some = absurd (true≢false (sym (subst (λ (p : Option JobId). is_some p ≡ true) of some)))
is_busy (Busy claim) o of some = (claim, refl)

pub is_idle : (x : Dispatcher) (o : Option JobId) → o ≡ option_map named (job_of x) → is_some o ≡ false → x ≡ Idle
is_idle Idle o of none = refl
is_idle (Busy claim) o of none = absurd (true≢false (subst (λ (p : Option JobId). is_some p ≡ false) of none))

pub holds_it : (x : Dispatcher) (claim : LiveJob) → job_of x ≡ Some claim → x ≡ Busy claim
holds_it Idle claim h = absurd cc
holds_it (Busy other) claim h = ap (λ (j : LiveJob). Busy j) cc

-- its claim has the name that it tells
pub same_job : (x : Dispatcher) (claim : LiveJob) (o : Option JobId) (id : JobId) → o ≡ option_map named (job_of x) → x ≡ Busy claim → o ≡ Some id → claim.id ≡ id
same_job x claim o id of busy is = same_Some claim.id id (sym (of ∙ ap (λ (d : Dispatcher). option_map named (job_of d)) busy) ∙ is)

-- ---- a pick

module _ (old : NodesValue) (new : CoordValue) (claim : LiveJob) (job : JobParts) (d : ℕ) (idle : dispatcher_of old.desk d ≡ Idle) (picked : IsPicked old.core claim job new) (r : Reply) (messages : List (List ℕ)) (tells : TellsPicked old.network.messages d job r messages) where
  pub pick_asks : Dispatches old d r (nodes_of new (with_dispatcher old.desk d (Busy claim)) (record old.network { messages = messages }))
  pick_asks =
      subst (λ (q : Reply). Dispatches old d q (nodes_of new (with_dispatcher old.desk d (Busy claim)) (record old.network { messages = messages }))) (sym tells.2)
      (idle, claim, job, picked, tells.3, tells.4, refl)

  pub pick_keeps : (h : History) → IsFit old.core → IsSound new job → KeepsSound old.core new → IsMessage (job_message d job) → IsHistory h old
      → Keeps h (nodes_of new (with_dispatcher old.desk d (Busy claim)) (record old.network { messages = messages }))
  pick_keeps h fit sound keeps message is =
      let at = is_there old.desk d Idle is.claims.four message.dst.1 idle in
      let next = after_pick h old new claim job fit picked sound keeps message.body.0 (d - 1) at is in
      let kept = next.0 in
      record {
        more = kept.more;
        grows = kept.grows;
        known = nodes_send kept.more (record old { core = new; desk = with_dispatcher old.desk d (Busy claim) }) (job_message d job ∷ []) tells.1 messages tells.4
            (λ m n. elim n [ inl same ↦ subst (λ (x : Message). IsKnown kept.more x.body) (sym same) next.1 | inr none ↦ absurd none ]) kept.known;
        current = kept.current;
      }

-- ---- a claim that is given back

module _ (old : NodesValue) (new : CoordValue) (claim : LiveJob) (d : ℕ) (busy : dispatcher_of old.desk d ≡ Busy claim) (same : new ≡ after_give_back old.core claim.id) where
  pub give_up_asks : (id : JobId) (settled : Settled) (r : Reply) → id ≡ claim.id → settled ≡ settle_answer old.core.book claim.id → r ≡ settled_reply id settled
      → GivesUp old d r (nodes_of new (with_dispatcher old.desk d Idle) old.network)
  give_up_asks id settled r is answer told =
      let to : NodesValue = nodes_of new (with_dispatcher old.desk d Idle) old.network in
      let new_is : to ≡ record old { core = after_give_back old.core id; desk = with_dispatcher old.desk d Idle } =
      ap (λ (c : CoordValue). record old { core = c; desk = with_dispatcher old.desk d Idle }) (same ∙ ap (λ (i : JobId). after_give_back old.core i) (sym is)) in
      subst (λ (q : Reply). GivesUp old d q to) (sym told) (by settled (sym (ap (λ (i : JobId). settle_answer old.core.book i) is) ∙ ap (λ (i : JobId). settle_answer old.core.book i) is ∙ sym answer) new_is)
    where
      by : (what : Settled) → settle_answer old.core.book claim.id ≡ what → nodes_of new (with_dispatcher old.desk d Idle) old.network ≡ record old { core = after_give_back old.core id; desk = with_dispatcher old.desk d Idle }
          → GivesUp old d (settled_reply id what) (nodes_of new (with_dispatcher old.desk d Idle) old.network)
      by Live e to = (claim, busy, is, ap (λ (i : JobId). settle_answer old.core.book i) is ∙ e, to)
      by Stale e to = (claim, busy, is, ap (λ (i : JobId). settle_answer old.core.book i) is ∙ e, to)

  pub give_up_keeps : (h : History) → d ≤ 4 → KeepsSound old.core new → IsHistory h old → Keeps h (nodes_of new (with_dispatcher old.desk d Idle) old.network)
  give_up_keeps h within keeps is =
      keeps_same h (nodes_of new (with_dispatcher old.desk d Idle) old.network) (gave_back h old (d - 1) claim (is_there old.desk d (Busy claim) is.claims.four within busy) new same keeps is)

-- what is told of it says nothing of the state
pub settled_told : (id : JobId) (settled : Settled) → reply_of (settled_reply id settled) ≡ say.Other
settled_told id Live = refl
settled_told id Stale = refl

-- ---- a result

pub install_told : (what : Install) → reply_of (dispatcher_reply what) ≡ install_reply what
install_told (became.Done number files) = refl
install_told (became.Stale job epoch) = refl
install_told (became.Kept claim e) = refl

module _ (old : NodesValue) (new : CoordValue) (claim : LiveJob) (made : JobResult) (what : Install) (d : ℕ) (busy : dispatcher_of old.desk d ≡ Busy claim) (same : claim.id ≡ made.job) (outcome : Became old.core claim made what new) where
  -- the desk, once the claim was taken
  abbrev taken : List Dispatcher
  taken = with_dispatcher old.desk d Idle

  module _ (h : History) (within : d ≤ 4) (fit : IsFit old.core) (is : IsHistory h old) where
    at : slice_get old.desk (d - 1) ≡ Some (Busy claim)
    at = is_there old.desk d (Busy claim) is.claims.four within busy

    held_again : (back : LiveJob) → back ≡ claim → with_dispatcher taken d (Busy back) ≡ old.desk
    held_again back e = set_again old.desk (d - 1) Idle (Busy back) ∙ ap (λ (j : LiveJob). with_dispatcher old.desk d (Busy j)) e ∙ set_back old.desk (d - 1) (Busy claim) at

    pub install_asks : (r : Reply) → r ≡ dispatcher_reply what → TakesResult old d made r (nodes_of new (desk_settled taken d what) old.network)
    install_asks r told = subst (λ (q : Reply). TakesResult old d made q (nodes_of new (desk_settled taken d what) old.network)) (sym told) (by what outcome)
      where
        by : (w : Install) → Became old.core claim made w new → TakesResult old d made (dispatcher_reply w) (nodes_of new (desk_settled taken d w) old.network)
        by (became.Done number files) o = (claim, busy, same, became.Done number files, o, refl, refl)
        by (became.Stale job epoch) o = (claim, busy, same, became.Stale job epoch, o, refl, refl)
        by (became.Kept back e) o = (claim, busy, same, became.Kept back e, o, refl, ap (λ (desk : List Dispatcher). nodes_of new desk old.network) (held_again back o.2))

    module _ (known : IsResultOf h made) where
      pub sound_if_done : IsDone what → HoldsSoundMerge old.core claim.id made
      sound_if_done done = by what done outcome
        where
          by : (w : Install) → IsDone w → Became old.core claim made w new → HoldsSoundMerge old.core claim.id made
          by (became.Done number files) there o =
              let held : holds old.core.book made.job ≡ true = subst (λ (id : JobId). holds old.core.book id ≡ true) same (held_by old.core.book o.0 claim.id o.1) in
              subst (λ (id : JobId). HoldsSoundMerge old.core id made) (sym same) (result_holds h old is fit made known held)
          by (became.Stale job epoch) never o = absurd never
          by (became.Kept back e) never o = absurd never

      pub install_plain : IsPlain (dispatcher_reply what)
      install_plain = by what outcome
        where
          by : (w : Install) → Became old.core claim made w new → IsPlain (dispatcher_reply w)
          by (became.Done number files) o = tt
          by (became.Stale job epoch) o = tt
          by (became.Kept back e) o =
              let held : holds old.core.book made.job ≡ true = subst (λ (id : JobId). holds old.core.book id ≡ true) same (held_by old.core.book o.0 claim.id o.1) in
              let found = subst (λ (id : JobId). IsLive old.core id o.0) same o.1 in
              kept_plain old.core claim o.0 made e o.1 same (result_fits h old is fit made known held o.0 found) o.3

      pub install_keeps : IsFit new → ((IsDone what → HoldsSoundMerge old.core claim.id made) → KeepsSound old.core new) → Keeps h (nodes_of new (desk_settled taken d what) old.network)
      install_keeps fit_new keeps = by what outcome (λ done. keeps sound_if_done)
        where
          by : (w : Install) → Became old.core claim made w new → (IsDone w → KeepsSound old.core new) → Keeps h (nodes_of new (desk_settled taken d w) old.network)
          by (became.Done number files) o sound = after_install h old new claim made number files (d - 1) fit fit_new o (sound tt) at is
          by (became.Stale job epoch) o sound =
              keeps_same h (nodes_of new taken old.network) (subst (λ (c : CoordValue). IsHistory h (record old { core = c; desk = taken })) (sym o.3) (put_down h old (d - 1) claim at o.0 is))
          by (became.Kept back e) o sound =
              let may = rejected_stored made old.core new e o.4 in
              let files = stored_files old.core new may in
              let kept = upkeep h old new files.served files.edits files.retired files.book (stored_keeps old.core new may) is in
              keeps_same h (nodes_of new (desk_settled taken d (became.Kept back e)) old.network) (subst (λ (desk : List Dispatcher). IsHistory h (record old { core = new; desk = desk })) (sym (held_again back o.2)) kept)
