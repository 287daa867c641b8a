-- Messages that are known keep the history when they are stored.
use Rattle.std.proofs.Common.{ℕ, List, [], ◌∷◌, ◌++◌, refl, sym, subst, inl, inr}
use Rattle.lsm_key.specs.Sets.{IsIn}
use Rattle.lsm_key.proofs.Membership.{IsIn-append_cases}
use Rattle.lsm_msg.specs.declared.message.Message.{Message}
use Rattle.lsm_msg.specs.Messages.{IsSpelled}
use Rattle.lsm_world.specs.declared.reply.Sent.{Sent}
use Rattle.lsm_world.specs.declared.reply.Sent.TheVariants as sent
use Rattle.lsm_world.specs.Asks.Messages.{AreSpelled, Sends}
use Rattle.lsm_world.specs.History.{History, IsHistory, IsKnown, IsNetwork, IsSent}
use Rattle.lsm_world.specs.Nodes.{NetworkValue, NodesValue}

-- more messages that are known
pub more_sent : (h : History) (old : NetworkValue) (more : List (List ℕ)) → ((bytes : List ℕ) → IsIn bytes more → IsSent h bytes) → IsNetwork h old → IsNetwork h (record old { messages = old.messages ++ more })
more_sent h old more known is = record {
  workers = is.workers;
  tasks = is.tasks;
  followers = is.followers;
  versions = is.versions;
  sent = λ bytes m. elim (IsIn-append_cases bytes old.messages more m) [ inl before ↦ is.sent bytes before | inr new ↦ known bytes new ];
}

-- the texts of known messages
spelled_sent : (h : History) (texts : List (List ℕ)) (ms : List Message) → AreSpelled texts ms → ((m : Message) → IsIn m ms → IsKnown h m.body) → (bytes : List ℕ) → IsIn bytes texts → IsSent h bytes
spelled_sent h [] [] all known bytes member = absurd member
spelled_sent h (t ∷ texts) (m ∷ ms) all known bytes (inl here) = (m, subst (λ (bs : List ℕ). IsSpelled bs m) (sym here) all.0, known m (inl refl))
spelled_sent h (t ∷ texts) (m ∷ ms) all known bytes (inr later) = spelled_sent h texts ms all.1 (λ n i. known n (inr i)) bytes later
spelled_sent h [] (m ∷ ms) all known bytes member = absurd all
spelled_sent h (t ∷ texts) [] all known bytes member = absurd all

-- MESSAGES THAT ARE KNOWN KEEP THE HISTORY WHEN THEY ARE STORED.
pub sends_keep : (h : History) (old : NetworkValue) (ms : List Message) (told : Sent) (new : List (List ℕ)) → Sends old.messages ms told new → ((m : Message) → IsIn m ms → IsKnown h m.body) → IsNetwork h old → IsNetwork h (record old { messages = new })
sends_keep h old [] told new sends known is = subst (λ (texts : List (List ℕ)). IsNetwork h (record old { messages = texts })) (sym sends.1) is
sends_keep h old (m ∷ ms) sent.Nothing new sends known is = absurd sends
sends_keep h old (m ∷ ms) sent.Lost new sends known is = subst (λ (texts : List (List ℕ)). IsNetwork h (record old { messages = texts })) (sym sends) is
sends_keep h old (m ∷ ms) (sent.Messages first last) new sends known is =
    subst (λ (texts : List (List ℕ)). IsNetwork h (record old { messages = texts })) (sym sends.2) (more_sent h old sends.0 (spelled_sent h sends.0 (m ∷ ms) sends.1 known) is)

-- the nodes, whose other parts stay
pub nodes_send : (h : History) (old : NodesValue) (ms : List Message) (told : Sent) (new : List (List ℕ)) → Sends old.network.messages ms told new → ((m : Message) → IsIn m ms → IsKnown h m.body) → IsHistory h old → IsHistory h (record old { network = record old.network { messages = new } })
nodes_send h old ms told new sends known is = record { files = is.files; jobs = is.jobs; claims = is.claims; network = sends_keep h old.network ms told new sends known is.network }
