-- A worker over two streams, message by message.
use Rattle.std.proofs.Common.{◌≡◌, ℕ, ◌<◌, Bool, true, false, List, [], ◌∷◌, ◌++◌, length, get_or, Option, Some, None, Result, Ok, Err, IfSome, IfErr, ◌⊎◌, refl, sym, ap, subst, ◌∙◌, append_assoc, append-nil, inl, inr}
use Rattle.std.specs.Io.KnownBytes.{Appends, Consumes}
use Rattle.std.proofs.KnownBytes.{Appends-nil, Appends-trans, Consumes-nil, Consumes-trans, Consumes-whole}
use Rattle.lsm_key.specs.Sets.{IsIn}
use Rattle.lsm_key.proofs.Membership.{IsIn-at}
use Rattle.lsm_msg.specs.declared.message.Message.{Message}
use Rattle.lsm_msg.specs.declared.node.Node.TheVariants.{Worker}
use Rattle.lsm_msg.specs.Messages.{IsMessage, message, sized}
use Rattle.lsm_work.specs.declared.change.WorkChange.{WorkChange}
use Rattle.lsm_work.specs.declared.change.WorkChange.TheVariants.{Dropped}
use Rattle.lsm_work.specs.Workers.{WorkOutcome, WorkerValue, Works, ignores}
use Rattle.lsm_pipe.specs.declared.error.PipeError.{PipeError}
use Rattle.lsm_pipe.specs.declared.error.PipeError.TheVariants as error
use Rattle.lsm_pipe.specs.Counting.{read_faults_of}
use Rattle.lsm_pipe.specs.Frames.{IsSinkError, SendRefuses, SendStops, framed}
use Rattle.lsm_pipe.specs.Working.{StopsAfter, TakeStops, TakesNext, TakesOver, WorkStops, WorksAll, WorksOnMessage, WorksOnce, WorksOver, WorksThrough}

-- ---- one message

-- one of the messages is not sent
pub send_stops : (ms : List Message) (k : ℕ) (m : Message) (e : PipeError) → m ≡ get_or ms k m → k < length ms → SendRefuses m e → SendStops ms e
send_stops ms k m error.TooLarge at less h = (m, subst (λ (x : Message). IsIn x ms) (sym at) (IsIn-at ms k m less), h)
send_stops ms k m error.NoEnd at less h = tt
send_stops ms k m error.WriteFault at less h = tt
send_stops ms k m error.OutOfMemory at less h = tt
send_stops ms k m e at less h = absurd h

-- a message that is refused before the sink is asked, or by the sink
pub unsent : {A : Type 0} (old new : A) (r : Result (Unit {0}) PipeError) → IfErr r (λ e. (e ≡ error.WriteFault) ⊎ (e ≡ error.NoEnd)) → IfErr r (λ e. IsSinkError e ⊎ (new ≡ old))
unsent old new (Ok x) h = tt
unsent old new (Err e) h = elim h [ inl fault ↦ inl (subst IsSinkError (sym fault) tt) | inr none ↦ inl (subst IsSinkError (sym none) tt) ]

pub taken_ignored : (index : ℕ) (w : WorkerValue) (m : Message) (held : Option (List ℕ)) → IsMessage m → (m.dst ≡ Worker index → ⊥) → TakesOver index w m held held w
taken_ignored index w m held sound other = record {
  outcome = ignores w;
  next = record { sound = sound; takes = inr (other, refl); stays = λ e. absurd cc };
  after = refl;
  written = Appends-nil held;
}

pub taken_worked : (index : ℕ) (w new : WorkerValue) (m : Message) (change : WorkChange) (sent : List Message) (held holds : Option (List ℕ)) → IsMessage m → m.dst ≡ Worker index → Works w m.body (record { change = change; sent = sent; worker = new })
    → (change ≡ Dropped → ⊥) → Appends held holds (framed sent) → TakesOver index w m held holds new
taken_worked index w new m change sent held holds sound own works stays written = record {
  outcome = record { change = change; sent = sent; worker = new };
  next = record { sound = sound; takes = inl (own, works); stays = stays };
  after = refl;
  written = written;
}

pub gave_up : (index : ℕ) (w new : WorkerValue) (m : Message) (change : WorkChange) (sent : List Message) → m.dst ≡ Worker index → Works w m.body (record { change = change; sent = sent; worker = new }) → change ≡ Dropped → TakeStops index w m error.GaveUp
gave_up index w new m change sent own works dropped = (record { change = change; sent = sent; worker = new }, inl (own, works), dropped)

sent_stops : (index : ℕ) (w : WorkerValue) (m : Message) (o : WorkOutcome) (e : PipeError) → WorksOnMessage index w m o → SendStops o.sent e → TakeStops index w m e
sent_stops index w m o error.TooLarge works h = (o, works, h)
sent_stops index w m o error.NoEnd works h = tt
sent_stops index w m o error.WriteFault works h = tt
sent_stops index w m o error.OutOfMemory works h = tt
sent_stops index w m o e works h = absurd h

pub sends_or_stops : (index : ℕ) (w new : WorkerValue) (m : Message) (change : WorkChange) (sent : List Message) (r : Result (Unit {0}) PipeError) → m.dst ≡ Worker index → Works w m.body (record { change = change; sent = sent; worker = new })
    → IfErr r (SendStops sent) → IfErr r (TakeStops index w m)
sends_or_stops index w new m change sent (Ok x) own works h = tt
sends_or_stops index w new m change sent (Err e) own works h = sent_stops index w m (record { change = change; sent = sent; worker = new }) e (inl (own, works)) h

begins : (was left : Option (List ℕ)) (bytes : List ℕ) → Consumes was left bytes → IfSome was (λ all. (rest : List ℕ) × (all ≡ bytes ++ rest))
begins None left bytes p = tt
begins (Some xs) None bytes p = absurd p
begins (Some xs) (Some ys) bytes p = (ys, p)

-- a message that was read and not taken
pub stops_at : (index : ℕ) (w : WorkerValue) (m : Message) (was left : Option (List ℕ)) (e : PipeError) → Consumes was left (sized (message m)) → TakeStops index w m e → WorkStops index w was e
stops_at index w m was left error.GaveUp read h = record { next = m; outcome = h.0; comes = begins was left (sized (message m)) read; taken = h.1; ends = h.2 }
stops_at index w m was left error.TooLarge read h = record { next = m; outcome = h.0; comes = begins was left (sized (message m)) read; taken = h.1; ends = h.2 }
stops_at index w m was left error.NoEnd read h = tt
stops_at index w m was left error.WriteFault read h = tt
stops_at index w m was left error.OutOfMemory read h = tt
stops_at index w m was left e read h = absurd h

-- what comes of a message that came is no fault of the source
pub taken_not_read : (index : ℕ) (w : WorkerValue) (m : Message) (e : PipeError) → TakeStops index w m e → read_faults_of e ≡ 0
taken_not_read index w m error.ReadFault h = absurd h
taken_not_read index w m e h = refl

-- ---- one after another

pub framed_then : (xs ys : List Message) → framed (xs ++ ys) ≡ framed xs ++ framed ys
framed_then [] ys = refl
framed_then (x ∷ xs) ys = ap (λ (r : List ℕ). sized (message x) ++ r) (framed_then xs ys) ∙ sym (append_assoc (sized (message x)) (framed xs) (framed ys))

works_then : (index : ℕ) (a w : WorkerValue) (ms sent : List Message) (m : Message) (o : WorkOutcome) → WorksThrough index a ms sent w → TakesNext index w m o → WorksThrough index a (ms ++ m ∷ []) (sent ++ o.sent) o.worker
works_then index a w [] sent m o p next =
    (o, subst (λ (v : WorkerValue). TakesNext index v m o) p.1 next, [], (refl, refl), ap (λ (s : List Message). s ++ o.sent) p.0 ∙ sym (append-nil o.sent))
works_then index a w (n ∷ ns) sent m o p next =
    (p.0, p.1, p.2 ++ o.sent, works_then index (p.0).worker w ns p.2 m o p.3 next, ap (λ (s : List Message). s ++ o.sent) p.4 ∙ append_assoc (p.0).sent p.2 o.sent)

pub works_none : (index : ℕ) (w : WorkerValue) (was held : Option (List ℕ)) → WorksOver index w was was held held w
works_none index w was held = record { messages = []; sent = []; works = (refl, refl); read = Consumes-nil was; written = Appends-nil held }

pub works_more : (index : ℕ) (a w new : WorkerValue) (was mid left held half holds : Option (List ℕ)) (more : Bool) → more ≡ true → WorksOver index a was mid held half w → WorksOnce index w mid left half holds new more → WorksOver index a was left held holds new
works_more index a w new was mid left held half holds more e so once =
    let p = subst (WorksOnce index w mid left half holds new) e once in
    let m = p.0 in
    let t = p.1 in
    let o = t.outcome in
    record {
      messages = so.messages ++ m ∷ [];
      sent = so.sent ++ o.sent;
      works = subst (λ (v : WorkerValue). WorksThrough index a (so.messages ++ m ∷ []) (so.sent ++ o.sent) v) (sym t.after) (works_then index a w so.messages so.sent m o so.works t.next);
      read = subst (Consumes was left) (sym (framed_then so.messages (m ∷ []) ∙ ap (λ (r : List ℕ). framed so.messages ++ r) (append-nil (sized (message m))))) (Consumes-trans was mid left (framed so.messages) (sized (message m)) so.read p.2);
      written = subst (Appends held holds) (sym (framed_then so.sent o.sent)) (Appends-trans held half holds (framed so.sent) (framed o.sent) so.written t.written);
    }

pub works_all : (index : ℕ) (a w new : WorkerValue) (was mid left held half holds : Option (List ℕ)) (more : Bool) → more ≡ false → WorksOver index a was mid held half w → WorksOnce index w mid left half holds new more → WorksAll index a was held holds
works_all index a w new was mid left held half holds more e so once =
    let p = subst (WorksOnce index w mid left half holds new) e once in
    record {
      messages = so.messages;
      sent = so.sent;
      last = w;
      works = so.works;
      read = Consumes-whole was mid (framed so.messages) (λ all. all ≡ framed so.messages) so.read p.0 refl;
      written = subst (Appends held holds) (append-nil (framed so.sent)) (Appends-trans held half holds (framed so.sent) [] so.written p.3);
    }

pub stops_after : (index : ℕ) (a w : WorkerValue) (was mid held half : Option (List ℕ)) (e : PipeError) → WorksOver index a was mid held half w → WorkStops index w mid e → StopsAfter index a was e
stops_after index a w was mid held half e so stops = record { messages = so.messages; sent = so.sent; last = w; left = mid; works = so.works; read = so.read; stops = stops }

-- after as many messages as are counted
pub never_ends : (index : ℕ) (a w : WorkerValue) (was mid held half : Option (List ℕ)) → WorksOver index a was mid held half w → StopsAfter index a was error.NoEnd
never_ends index a w was mid held half so = stops_after index a w was mid held half error.NoEnd so tt
