-- A worker over a port, message by message.
use Rattle.std.proofs.Common.{◌≡◌, List, [], ◌∷◌, ◌++◌, Option, refl, sym, ap, subst, ◌∙◌, append_assoc, append-nil, inl, inr}
use Rattle.lsm_msg.specs.declared.message.Message.{Message}
use Rattle.lsm_work.specs.declared.change.WorkChange.{WorkChange}
use Rattle.lsm_work.specs.declared.change.WorkChange.TheVariants as work
use Rattle.lsm_work.specs.Workers.{WorkOutcome, WorkerValue, Works}
use Rattle.lsm_threads.specs.declared.ending.Ending.{Ending}
use Rattle.lsm_threads.specs.declared.ending.Ending.TheVariants.{Dropped, OutOfMemory}
use Rattle.lsm_threads.specs.Endings.{IsOfMail}
use Rattle.lsm_threads.specs.Ports.{Traffic, SendsPart}
use Rattle.lsm_threads.specs.Working.{EndsAtMessage, StopsOver, HearsMessage, StaysAtWork, HearsNext, WorksOverPort, WorksThroughAll, WorksUntil}
use Rattle.lsm_threads.proofs.Passing.{passes_none, passes_then}

-- ---- one message

pub taken : (w new : WorkerValue) (m : Message) (did : WorkChange) (sent : List Message) (was has held holds : Option (List Message)) → Works w m.body (record { change = did; sent = sent; worker = new })
    → (did ≡ work.Dropped → ⊥) → Traffic was has held holds [] sent → HearsMessage w new m was has held holds
taken w new m did sent was has held holds works stays passes = record {
  outcome = record { change = did; sent = sent; worker = new };
  next = record { works = works; stays = stays };
  after = refl;
  passes = passes;
}

pub gave_up : (w new : WorkerValue) (m : Message) (did : WorkChange) (sent : List Message) (was has held holds : Option (List Message)) → did ≡ work.Dropped
    → Works w m.body (record { change = did; sent = sent; worker = new }) → Traffic was has held holds [] sent → EndsAtMessage w new m was has held holds Dropped
gave_up w new m did sent was has held holds dropped works passes = record {
  went = sent;
  stops = inl (record { outcome = record { change = did; sent = sent; worker = new }; works = works; dropped = dropped; all = refl; after = refl; ends = refl });
  passes = passes;
}

pub cut_off : (w new : WorkerValue) (m : Message) (did : WorkChange) (sent : List Message) (was has held holds : Option (List Message)) (e : Ending) → Works w m.body (record { change = did; sent = sent; worker = new })
    → SendsPart was has held holds sent → IsOfMail e → EndsAtMessage w new m was has held holds e
cut_off w new m did sent was has held holds e works part mail = record {
  went = part.went;
  stops = inr (inl (record { outcome = record { change = did; sent = sent; worker = new }; works = works; begun = part.begun; after = refl; ends = mail }));
  passes = part.passes;
}

pub no_memory : (w new : WorkerValue) (m : Message) (was held : Option (List Message)) → new ≡ w → EndsAtMessage w new m was was held held OutOfMemory
no_memory w new m was held same = record {
  went = [];
  stops = inr (inr (record { none = refl; same = same; ends = refl }));
  passes = passes_none was held;
}

-- ---- a message that comes

pub takes_over : (old new : WorkerValue) (m : Message) (was mid has held half holds : Option (List Message)) → Traffic was mid held half (m ∷ []) [] → HearsMessage old new m mid has half holds → HearsNext old new was has held holds
takes_over old new m was mid has held half holds comes t = record {
  message = m;
  outcome = t.outcome;
  next = t.next;
  after = t.after;
  passes = passes_then was mid has held half holds (m ∷ []) [] [] t.outcome.sent comes t.passes;
}

pub stops_over : (old new : WorkerValue) (m : Message) (was mid has held half holds : Option (List Message)) (e : Ending) → Traffic was mid held half (m ∷ []) [] → EndsAtMessage old new m mid has half holds e → StopsOver old new was has held holds e
stops_over old new m was mid has held half holds e comes s = record {
  came = m ∷ [];
  went = s.went;
  stops = inr (m, refl, s.stops);
  passes = passes_then was mid has held half holds (m ∷ []) [] [] s.went comes s.passes;
}

pub stops_before : (w : WorkerValue) (was has held holds : Option (List Message)) (e : Ending) → IsOfMail e → Traffic was has held holds [] [] → StopsOver w w was has held holds e
stops_before w was has held holds e mail passes = record { came = []; went = []; stops = inl (refl, refl, refl, mail); passes = passes }

-- ---- one after another

works_then : (a w : WorkerValue) (ms sent : List Message) (m : Message) (o : WorkOutcome) → WorksThroughAll a ms sent w → StaysAtWork w m o → WorksThroughAll a (ms ++ m ∷ []) (sent ++ o.sent) o.worker
works_then a w [] sent m o p next =
    (o, subst (λ (v : WorkerValue). StaysAtWork v m o) p.1 next, [], (refl, refl), ap (λ (s : List Message). s ++ o.sent) p.0 ∙ sym (append-nil o.sent))
works_then a w (n ∷ ns) sent m o p next =
    (p.0, p.1, p.2 ++ o.sent, works_then (p.0).worker w ns p.2 m o p.3 next, ap (λ (s : List Message). s ++ o.sent) p.4 ∙ append_assoc (p.0).sent p.2 o.sent)

pub works_none : (w : WorkerValue) (was held : Option (List Message)) → WorksOverPort w w was was held held
works_none w was held = record { messages = []; sent = []; works = (refl, refl); passes = passes_none was held }

pub works_more : (a w new : WorkerValue) (was mid has held half holds : Option (List Message)) → WorksOverPort a w was mid held half → HearsNext w new mid has half holds → WorksOverPort a new was has held holds
works_more a w new was mid has held half holds so t =
    let o = t.outcome in
    record {
      messages = so.messages ++ t.message ∷ [];
      sent = so.sent ++ o.sent;
      works = subst (λ (v : WorkerValue). WorksThroughAll a (so.messages ++ t.message ∷ []) (so.sent ++ o.sent) v) (sym t.after) (works_then a w so.messages so.sent t.message o so.works t.next);
      passes = passes_then was mid has held half holds so.messages (t.message ∷ []) so.sent o.sent so.passes t.passes;
    }

pub works_until : (a w new : WorkerValue) (was mid has held half holds : Option (List Message)) (e : Ending) → WorksOverPort a w was mid held half → StopsOver w new mid has half holds e → WorksUntil a new was has held holds e
works_until a w new was mid has held half holds e so s = record {
  messages = so.messages;
  sent = so.sent;
  middle = w;
  works = so.works;
  came = s.came;
  went = s.went;
  stops = s.stops;
  passes = passes_then was mid has held half holds so.messages s.came so.sent s.went so.passes s.passes;
}
