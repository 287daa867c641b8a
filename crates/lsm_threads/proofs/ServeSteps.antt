-- What answers over a port, message by message.
use Rattle.std.proofs.Common.{◌≡◌, List, [], ◌∷◌, ◌++◌, Option, None, Some, refl, sym, ap, subst, ◌∙◌, append_assoc, append-nil, inl, inr}
use Rattle.lsm_msg.specs.declared.message.Message.{Message}
use Rattle.lsm_coord.specs.Contract.Memory.{IsFit}
use Rattle.lsm_coord.specs.Contract.Serving.{answer_message}
use Rattle.lsm_coord.specs.Contract.Value.{CoordValue}
use Rattle.lsm_threads.specs.Ports.{Traffic}
use Rattle.lsm_threads.specs.Serving.{AnswersOver, IsAnswered, AnswersAll, ServesOver, ServesThrough, ServesUntil, StopsServing, as_list}
use Rattle.lsm_threads.proofs.Passing.{passes_none, passes_then}

-- ---- one message

pub answers_one : (m said : Message) (was has held holds : Option (List Message)) → ((c : CoordValue) × IsFit c × (Some said ≡ answer_message c m m.body)) → Traffic was has held holds [] (said ∷ []) → AnswersOver m was has held holds
answers_one m said was has held holds a passes = record { said = said ∷ []; answered = (a.0, a.1, ap as_list a.2); passes = passes }

pub answers_none : (m : Message) (was held : Option (List Message)) → ((c : CoordValue) × IsFit c × (None ≡ answer_message c m m.body)) → AnswersOver m was was held held
answers_none m was held a = record { said = []; answered = (a.0, a.1, ap as_list a.2); passes = passes_none was held }

pub serves_over : (m : Message) (was mid has held half holds : Option (List Message)) → Traffic was mid held half (m ∷ []) [] → AnswersOver m mid has half holds → ServesOver was has held holds
serves_over m was mid has held half holds comes a = record {
  message = m;
  said = a.said;
  answered = a.answered;
  passes = passes_then was mid has held half holds (m ∷ []) [] [] a.said comes a.passes;
}

pub stops_before : (was has held holds : Option (List Message)) → Traffic was has held holds [] [] → StopsServing was has held holds
stops_before was has held holds passes = record { came = []; few = inl refl; passes = passes }

pub stops_at : (m : Message) (was mid has held half holds : Option (List Message)) → Traffic was mid held half (m ∷ []) [] → Traffic mid has half holds [] [] → StopsServing was has held holds
stops_at m was mid has held half holds comes none = record { came = m ∷ []; few = inr (m, refl); passes = passes_then was mid has held half holds (m ∷ []) [] [] [] comes none }

-- ---- one after another

pub serves_then : (ms sent : List Message) (m : Message) (said : List Message) → ServesThrough ms sent → IsAnswered m said → ServesThrough (ms ++ m ∷ []) (sent ++ said)
serves_then [] sent m said none answered = (said, answered, [], refl, ap (λ (s : List Message). s ++ said) none ∙ sym (append-nil said))
serves_then (n ∷ ns) sent m said p answered =
    (p.0, p.1, p.2 ++ said, serves_then ns p.2 m said p.3 answered, ap (λ (s : List Message). s ++ said) p.4 ∙ append_assoc p.0 p.2 said)

pub serves_none : (was held : Option (List Message)) → AnswersAll was was held held
serves_none was held = record { messages = []; sent = []; serves = refl; passes = passes_none was held }

pub serves_more : (was mid has held half holds : Option (List Message)) → AnswersAll was mid held half → ServesOver mid has half holds → AnswersAll was has held holds
serves_more was mid has held half holds so t = record {
  messages = so.messages ++ t.message ∷ [];
  sent = so.sent ++ t.said;
  serves = serves_then so.messages so.sent t.message t.said so.serves t.answered;
  passes = passes_then was mid has held half holds so.messages (t.message ∷ []) so.sent t.said so.passes t.passes;
}

pub serves_until : (was mid has held half holds : Option (List Message)) → AnswersAll was mid held half → StopsServing mid has half holds → ServesUntil was has held holds
serves_until was mid has held half holds so s = record {
  messages = so.messages;
  sent = so.sent;
  serves = so.serves;
  last = s.came;
  few = s.few;
  passes = subst (λ (w : List Message). Traffic was has held holds (so.messages ++ s.came) w) (append-nil so.sent) (passes_then was mid has held half holds so.messages s.came so.sent [] so.passes s.passes);
}
