-- The coordinator's answers may be sent, and keep the history.
use Rattle.std.proofs.Common.{◌≡◌, ℕ, List, [], ◌∷◌, Option, None, Some, refl, sym, subst, arith}
use Rattle.std.specs.Option.{option_map}
use Rattle.std.proofs.lemmas.Option.{same_Some}
use Rattle.lsm_key.proofs.Membership.{IsIn-one}
use Rattle.lsm_table.specs.Tables.{IsTable, target_of}
use Rattle.lsm_edit.specs.declared.served.Placed.{Placed}
use Rattle.lsm_msg.specs.declared.message.Body.{Body}
use Rattle.lsm_msg.specs.declared.message.Body.TheVariants as body
use Rattle.lsm_msg.specs.declared.message.Message.{Message}
use Rattle.lsm_msg.specs.declared.node.Node.{Node}
use Rattle.lsm_msg.specs.declared.node.Node.TheVariants.{Coordinator}
use Rattle.lsm_msg.specs.Messages.{AreTableBytes, IsBody, IsFileNumber, IsMessage}
use Rattle.lsm_versions.specs.Retention.{bytes_at}
use Rattle.lsm_coord.specs.Contract.Memory.{IsFit}
use Rattle.lsm_coord.specs.Contract.Serving.{after_version, answer_message, table_body}
use Rattle.lsm_coord.proofs.ServedFiles.{was_mapped}
use Rattle.lsm_coord.specs.Contract.Value.{CoordValue}
use Rattle.lsm_merge.proofs.ResultTables.{tables_may_be_sent}
use Rattle.lsm_world.specs.declared.reply.Sent.{Sent}
use Rattle.lsm_world.specs.declared.reply.Reply.{Reply}
use Rattle.lsm_world.specs.Asks.Deliveries.{Receives, ServesMessage}
use Rattle.lsm_world.specs.Asks.Messages.{Sends}
use Rattle.lsm_world.specs.History.{History, IsHistory, IsKnown}
use Rattle.lsm_world.specs.Inner.Handing.{IsQuestion, IsStored}
use Rattle.lsm_world.specs.Nodes.{NodesValue}
use Rattle.lsm_world.proofs.AskedVersions.{asked_answered, asked_known}
use Rattle.lsm_world.proofs.KnownMessages.{answer_known}
use Rattle.lsm_world.proofs.OneSpelling.{stored_known}
use Rattle.lsm_world.proofs.StoredMessages.{nodes_send}

-- ---- answers

table_may_be_sent : (p : Placed) → IsTable p.table.bytes p.table.entries → AreTableBytes p.table.bytes
table_may_be_sent p is = tables_may_be_sent (target_of p.table.bytes) (p.table.bytes ∷ []) (p.table.entries ∷ []) (is, refl, tt) 0 [] (omega arith)

module _ (h : History) (old : NodesValue) (asked m : Message) (is : IsHistory h old) (fit : IsFit old.core) (sound : IsMessage asked) where
  body_may_be_sent : (n : ℕ) (o : Option (List ℕ)) → IsFileNumber n → IsKnown h (table_body n o) → IsBody (table_body n o)
  body_may_be_sent n None number known = number
  body_may_be_sent n (Some bytes) number known =
      (number, subst AreTableBytes known.3 (table_may_be_sent known.0 (is.files.all.recorded known.0 known.1).table))

  asked_may_be_sent : (number : ℕ) → answer_message old.core asked (body.Ask number) ≡ Some m → IsMessage m
  asked_may_be_sent number e =
      let said = was_mapped (λ (b : Body). record { src = Coordinator; dst = asked.src; body = b }) (after_version old.core number) m e in
      subst IsMessage said.2 (record { src = tt; dst = sound.src; body = (asked_known h old.core is.files fit number said.0 said.1).1 })

  answer_may_be_sent : (b : Body) → IsBody b → answer_message old.core asked b ≡ Some m → IsKnown h m.body → IsMessage m
  answer_may_be_sent (body.Fetch n) number e known =
      let o = bytes_at old.core.served.places old.core.retired n in
      let same = same_Some _ m e in
      subst IsMessage same (record { src = tt; dst = sound.src; body = body_may_be_sent n o number (subst (λ (x : Message). IsKnown h x.body) (sym same) known) })
  answer_may_be_sent (body.Ask n) is_body e known = asked_may_be_sent n e
  answer_may_be_sent (body.Job j) is_body e known = absurd cc
  answer_may_be_sent (body.Table n bytes) is_body e known = absurd cc
  answer_may_be_sent (body.Gone n) is_body e known = absurd cc
  answer_may_be_sent (body.Result r) is_body e known = absurd cc
  answer_may_be_sent (body.Edit d) is_body e known = absurd cc
  answer_may_be_sent (body.Base v) is_body e known = absurd cc
  answer_may_be_sent (body.Current n) is_body e known = absurd cc

-- ---- a question that was sent

-- any history
module _ (old : NodesValue) (asked m : Message) (fit : IsFit old.core) (stored : IsStored old.network.messages asked) (answered : answer_message old.core asked asked.body ≡ Some m) where
  asked_is_known : (h : History) → IsHistory h old → IsKnown h asked.body
  asked_is_known h is = stored_known h old.network asked is.network stored

  answer_is_known : (h : History) → IsHistory h old → IsKnown h m.body
  answer_is_known h is = answer_known h old.core asked m is.files fit (asked_is_known h is) answered

  pub answer_is_sound : (h : History) → IsHistory h old → IsMessage m
  answer_is_sound h is = answer_may_be_sent h old asked m is fit stored.2.sound asked.body stored.2.sound.body answered (answer_is_known h is)

  pub answer_keeps : (told : Sent) (new : List (List ℕ)) → Sends old.network.messages (m ∷ []) told new → (h : History) → IsHistory h old → IsHistory h (record old { network = record old.network { messages = new } })
  answer_keeps told new sends h is = nodes_send h old (m ∷ []) told new sends (λ x one. subst (λ (y : Message). IsKnown h y.body) (sym (IsIn-one x m one)) (answer_is_known h is)) is

-- ---- questions

abbrev answer_to : Message → Body → Message
answer_to m said = record { src = Coordinator; dst = m.src; body = said }

-- a question is always answered
pub question_answered : (c : CoordValue) (m : Message) (said : Body) → IsFit c → IsQuestion said → answer_message c m said ≡ None → ⊥
question_answered c m (body.Fetch file) fit question none = cc
question_answered c m (body.Ask number) fit question none = by (after_version c number) refl none
  where
    by : (o : Option Body) → after_version c number ≡ o → option_map (answer_to m) o ≡ None → ⊥
    by None is e = asked_answered c fit number is
    by (Some said) is e = cc
question_answered c m said fit question none = absurd question

-- and the coordinator is asked it
pub question_asks : (old : NodesValue) (m : Message) (src : Node) (said : Body) (r : Reply) (new : NodesValue) → IsQuestion said → ServesMessage old m r new → Receives old m src said r new
question_asks old m src (body.Fetch file) r new question is = is
question_asks old m src (body.Ask number) r new question is = is
question_asks old m src said r new question is = absurd question
