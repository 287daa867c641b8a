-- A dispatch, turn by turn.
use Rattle.std.proofs.Common.{◌≡◌, ℕ, ◌+◌, ◌-◌, ◌<◌, ◌≤◌, arith, false, List, [], ◌∷◌, ◌++◌, Option, None, Some, Result, Ok, Err, IfErr, IfSome, ◌⊎◌, refl, sym, ap, subst, ◌∙◌, append-nil, inl, inr}
use Rattle.std.specs.Prelude.{OnOk}
use Rattle.std.specs.List.{flat_map}
use Rattle.std.specs.Io.KnownBytes.{Appends, Consumes, IsAtEnd}
use Rattle.std.proofs.KnownBytes.{Appends-nil, Appends-trans, Consumes-nil, Consumes-trans}
use Rattle.std.proofs.lemmas.Bool.{cases_lt}
use Rattle.std.proofs.lemmas.Grind.{flat_map-append}
use Rattle.lsm_msg.specs.declared.message.Message.{Message}
use Rattle.lsm_msg.specs.Messages.{IsSpelled, sized}
use Rattle.lsm_pipe.specs.declared.error.PipeError.{PipeError}
use Rattle.lsm_pipe.specs.declared.error.PipeError.TheVariants as pipe
use Rattle.lsm_pipe.specs.Frames.{FrameRefuses, IsSinkError, SendRefuses, framed}
use Rattle.lsm_pipe.proofs.WorkSteps.{framed_then}
use Rattle.lsm_coord.specs.declared.error.CoordError.{CoordError}
use Rattle.lsm_coord.specs.Contract.Memory.{IsFit}
use Rattle.lsm_coord.specs.Contract.Value.{CoordValue}
use Rattle.lsm_store.specs.declared.due.Due.{Due}
use Rattle.lsm_store.specs.Store.{IsNoneDue}
use Rattle.lsm_store.specs.declared.due.Due.TheVariants as due
use Rattle.lsm_dispatch.specs.declared.crew.WorkerState.{WorkerState}
use Rattle.lsm_dispatch.specs.declared.crew.WorkerState.TheVariants.{Idle, Busy}
use Rattle.lsm_dispatch.specs.declared.error.DispatchError.{DispatchError}
use Rattle.lsm_dispatch.specs.declared.error.DispatchError.TheVariants as error
use Rattle.lsm_dispatch.specs.declared.letter.Letter.{Letter}
use Rattle.lsm_dispatch.specs.Crews.{after_all_leave, has_busy, state_of, with_state}
use Rattle.lsm_dispatch.specs.Dispatching.{HandlingRefuses, HandsOut, IsDue, JobRefuses}
use Rattle.lsm_dispatch.specs.Letters.{IsLetter, NoLetter}
use Rattle.lsm_dispatch.specs.Turns.{AsksWorker, AwaitsLetter, ComesNext, DispatchRefuses, Hands, IsNextSent, IsNoLetter, IsTurn, NoneWaits, NoneWaitsBefore, OneRefuses, ReadStops, RunEnds, RunStops, RunsOver, Takes, TakesLetter, Turn, TurnStops, TurnsThrough, bytes_read, one_or_none, sent_in}
use Rattle.lsm_dispatch.proofs.HandedJobs.{picked_due, set_busy, state_apart}
use Rattle.lsm_dispatch.proofs.KeptSteps.{none_leaves}

-- ---- one after another

pub runs_none : (crew : List WorkerState) (c : CoordValue) (was held : Option (List ℕ)) → RunsOver crew c was was held held crew c
runs_none crew c was held = record { turns = []; through = (refl, refl); read = Consumes-nil was; written = Appends-nil held }

pub runs_one : (crew crew_new : List WorkerState) (old new : CoordValue) (was left held holds : Option (List ℕ)) (t : Turn) → IsTurn crew old t crew_new new → Consumes was left (bytes_read t) → Appends held holds (framed (sent_in t))
    → RunsOver crew old was left held holds crew_new new
runs_one crew crew_new old new was left held holds t is read written = record {
  turns = t ∷ [];
  through = (crew_new, new, is, (refl, refl));
  read = subst (Consumes was left) (sym (append-nil (bytes_read t))) read;
  written = subst (λ (ms : List Message). Appends held holds (framed ms)) (sym (append-nil (sent_in t))) written;
}

through_then : (a b d : List WorkerState) (x y z : CoordValue) (ts us : List Turn) → TurnsThrough a x ts b y → TurnsThrough b y us d z → TurnsThrough a x (ts ++ us) d z
through_then a b d x y z [] us p q = subst (λ (crew : List WorkerState). TurnsThrough crew x us d z) p.0 (subst (λ (c : CoordValue). TurnsThrough b c us d z) p.1 q)
through_then a b d x y z (t ∷ ts) us p q = (p.0, p.1, p.2, through_then p.0 b d p.1 y z ts us p.3 q)

pub runs_then : (a b d : List WorkerState) (x y z : CoordValue) (was mid left held half holds : Option (List ℕ)) → RunsOver a x was mid held half b y → RunsOver b y mid left half holds d z → RunsOver a x was left held holds d z
runs_then a b d x y z was mid left held half holds p q = record {
  turns = p.turns ++ q.turns;
  through = through_then a b d x y z p.turns q.turns p.through q.through;
  read = subst (Consumes was left) (sym (flat_map-append bytes_read p.turns q.turns)) (Consumes-trans was mid left (flat_map bytes_read p.turns) (flat_map bytes_read q.turns) p.read q.read);
  written = subst (Appends held holds) (sym (ap framed (flat_map-append sent_in p.turns q.turns) ∙ framed_then (flat_map sent_in p.turns) (flat_map sent_in q.turns)))
      (Appends-trans held half holds (framed (flat_map sent_in p.turns)) (framed (flat_map sent_in q.turns)) p.written q.written);
}

-- ---- why it stops

pub stops_now : (crew : List WorkerState) (c : CoordValue) (was held last : Option (List ℕ)) (e : DispatchError) → TurnStops crew c was held last e → RunStops crew c was held last e
stops_now crew c was held last e stops = record { crew_new = crew; new = c; left = was; holds = held; runs = runs_none crew c was held; stops = stops }

pub stops_later : (a b : List WorkerState) (x y : CoordValue) (was mid held half last : Option (List ℕ)) (e : DispatchError) → RunsOver a x was mid held half b y → RunStops b y mid half last e → RunStops a x was held last e
stops_later a b x y was mid held half last e p s = record {
  crew_new = s.crew_new;
  new = s.new;
  left = s.left;
  holds = s.holds;
  runs = runs_then a b s.crew_new x y s.new was mid s.left held half s.holds p s.runs;
  stops = s.stops;
}

pub comes_next : (was left : Option (List ℕ)) (bytes : List ℕ) → Consumes was left bytes → ComesNext was bytes
comes_next None left bytes p = tt
comes_next (Some xs) None bytes p = absurd p
comes_next (Some xs) (Some ys) bytes p = (ys, p)

-- a message that is refused before the sink is asked
pub one_refuses : {A : Type 0} (contents : A → Option (List ℕ)) (old new : A) (sent : Option Message) (m : Message) (why : PipeError) → sent ≡ Some m → SendRefuses m why → IsSinkError why ⊎ (new ≡ old) → OneRefuses sent (contents old) (contents new) (error.Pipe why)
one_refuses contents old new sent m why is refuses unsent = (m, is, why, refuses, elim unsent [ inl sink ↦ inl sink | inr same ↦ inr (ap contents same) ], refl)

-- the message of a turn is not sent
pub sent_stops : (crew crew_new : List WorkerState) (old new : CoordValue) (was left held last : Option (List ℕ)) (t : Turn) (e : DispatchError) (sent : Option Message) → IsTurn crew old t crew_new new → Consumes was left (bytes_read t) → sent_in t ≡ one_or_none sent
    → OneRefuses sent held last e → RunStops crew old was held last e
sent_stops crew crew_new old new was left held last t e sent is read same h =
    let next : IsNextSent crew old was h.0 = record { turn = t; crew_new = crew_new; new = new; is = is; comes = comes_next was left (bytes_read t) read; sends = same ∙ ap one_or_none h.1 } in
    let stops : TurnStops crew old was held last (error.Pipe h.2) = inl ((h.0, next, h.3), h.4) in
    stops_now crew old was held last e (subst (TurnStops crew old was held last) (sym h.5) stops)

-- ---- numbers

none_between : (n : ℕ) → 1 ≤ n → n < 1 → ⊥
none_between n one below = omega (arith, one, below)

between : (n index : ℕ) → n ≤ index → index < n + 1 → n ≡ index
between n index at below = omega (arith, at, below)

-- ---- a job that is handed out

module _ (crew crew_new : List WorkerState) (old new : CoordValue) (index : ℕ) (sent : Option Message) (held holds : Option (List ℕ)) (hands : HandsOut crew old index crew_new new sent) where
  pub hand_ends : (r : Result (Unit {0}) DispatchError) → OnOk r (Appends held holds (framed (one_or_none sent))) → OnOk r ((input : Option (List ℕ)) → RunsOver crew old input input held holds crew_new new)
  hand_ends (Ok x) written = λ input. runs_one crew crew_new old new input input held holds (Hands index sent) hands (Consumes-nil input) written
  hand_ends (Err e) written = tt

  pub hand_fails : (r : Result (Unit {0}) DispatchError) → IfErr r (OneRefuses sent held holds) → IfErr r (λ e. (input : Option (List ℕ)) → RunStops crew old input held holds e)
  hand_fails (Ok x) h = tt
  hand_fails (Err e) h = λ input. sent_stops crew crew_new old new input input held holds (Hands index sent) e sent hands (Consumes-nil input) refl h

pub pick_fails : (crew : List WorkerState) (c : CoordValue) (index : ℕ) (held : Option (List ℕ)) (e : CoordError) → state_of crew index ≡ Idle → JobRefuses c e → (input : Option (List ℕ)) → RunStops crew c input held held (error.Coord e)
pick_fails crew c index held e idle h input = stops_now crew c input held held (error.Coord e) (inl (index, idle, h), refl)

pub hand_asked : (crew crew_new : List WorkerState) (old new : CoordValue) (index number : ℕ) (sent : Option Message) (r : Result (Unit {0}) DispatchError) → index ≡ number → HandsOut crew old index crew_new new sent → OnOk r (AsksWorker number crew old crew_new new)
hand_asked crew crew_new old new index number sent (Ok x) same hands = (sent, subst (λ (n : ℕ). HandsOut crew old n crew_new new sent) same hands)
hand_asked crew crew_new old new index number sent (Err e) same hands = tt

-- ---- a round

pub waits_none : (crew : List WorkerState) (c : CoordValue) → NoneWaitsBefore 1 crew c
waits_none crew c index one below idle = absurd (none_between index one below)

-- a worker that was passed over stays idle only if no compaction is due, and then none is picked for a later one
waits_for : (n : ℕ) (crew crew_new : List WorkerState) (old new : CoordValue) (sent : Option Message) → IsFit old → NoneWaitsBefore n crew old → HandsOut crew old n crew_new new sent → NoneWaitsBefore (n + 1) crew_new new
waits_for n crew crew_new old new None fit before hands index one below idle =
    let was : state_of crew index ≡ Idle = ap (λ (w : List WorkerState). state_of w index) (sym hands.0) ∙ idle in
    subst IsNoneDue (sym hands.1) (elim (cases_lt index n) [
      | inl less ↦ before index one less was
      | inr at ↦ elim hands.2 [ inl other ↦ absurd (other (ap (state_of crew) (between n index at below) ∙ was)) | inr none ↦ none ]
    ])
waits_for n crew crew_new old new (Some m) fit before hands index one below idle =
    let now : state_of (with_state crew n (Busy hands.1)) index ≡ Idle = ap (λ (w : List WorkerState). state_of w index) (sym hands.5) ∙ idle in
    absurd (elim (cases_lt index n) [
      | inl less ↦ picked_due old new hands.1 hands.2 fit hands.4 (before index one less (sym (state_apart crew n index (Busy hands.1) one less) ∙ now))
      | inr at ↦ set_busy crew (n - 1) hands.1 (ap (state_of (with_state crew n (Busy hands.1))) (between n index at below) ∙ now)
    ])

pub waits_more : (n : ℕ) (crew crew_new : List WorkerState) (old new : CoordValue) → IsFit old → NoneWaitsBefore n crew old → AsksWorker n crew old crew_new new → NoneWaitsBefore (n + 1) crew_new new
waits_more n crew crew_new old new fit before asks = waits_for n crew crew_new old new asks.0 fit before asks.1

-- ---- a letter that is taken

module _ (crew crew_new : List WorkerState) (old new : CoordValue) (payload : List ℕ) (l : Letter) (sent : Option Message) (was left held holds : Option (List ℕ)) (waits : AwaitsLetter crew old) (read : Consumes was left (sized payload)) (is : IsLetter payload l) (takes : TakesLetter crew old l sent crew_new new) where
  pub take_ends : (r : Result (Unit {0}) DispatchError) → OnOk r (Appends held holds (framed (one_or_none sent))) → OnOk r (RunsOver crew old was left held holds crew_new new)
  take_ends (Ok x) written = runs_one crew crew_new old new was left held holds (Takes payload sent) (waits, l, is, takes) read written
  take_ends (Err e) written = tt

  pub take_fails : (r : Result (Unit {0}) DispatchError) → IfErr r (OneRefuses sent held holds) → IfErr r (RunStops crew old was held holds)
  take_fails (Ok x) h = tt
  take_fails (Err e) h = sent_stops crew crew_new old new was left held holds (Takes payload sent) e sent (waits, l, is, takes) read refl h

-- ---- a letter that is not taken

read_refused : (crew : List WorkerState) (c : CoordValue) (known : Option (List ℕ)) (e : PipeError) → AwaitsLetter crew c → FrameRefuses known e → ReadStops crew c known e
read_refused crew c known pipe.NoEnd waits h = tt
read_refused crew c known pipe.ReadFault waits h = (waits, h)
read_refused crew c known pipe.EndsInside waits h = (waits, h)
read_refused crew c known pipe.TooLong waits h = (waits, h)
read_refused crew c known pipe.OutOfMemory waits h = (waits, h)
read_refused crew c known e waits h = absurd h

no_letter : (was left : Option (List ℕ)) (payload : List ℕ) → Consumes was left (sized payload) → NoLetter payload pipe.NotMessage → IfSome was IsNoLetter
no_letter None left payload p h = tt
no_letter (Some xs) None payload p h = absurd p
no_letter (Some xs) (Some ys) payload p h = (payload, ys, p, h)

letter_refused : (crew : List WorkerState) (c : CoordValue) (was left : Option (List ℕ)) (payload : List ℕ) (e : PipeError) → AwaitsLetter crew c → Consumes was left (sized payload) → NoLetter payload e → ReadStops crew c was e
letter_refused crew c was left payload pipe.NotMessage waits p h = (waits, no_letter was left payload p h)
letter_refused crew c was left payload pipe.OutOfMemory waits p h = (waits, tt)
letter_refused crew c was left payload e waits p h = absurd h

pub frame_fails : (crew : List WorkerState) (c : CoordValue) (was held : Option (List ℕ)) (e : PipeError) → AwaitsLetter crew c → FrameRefuses was e → RunStops crew c was held held (error.Pipe e)
frame_fails crew c was held e waits h = stops_now crew c was held held (error.Pipe e) (inr (read_refused crew c was e waits h, refl))

pub letter_fails : (crew : List WorkerState) (c : CoordValue) (was left held : Option (List ℕ)) (payload : List ℕ) (e : PipeError) → AwaitsLetter crew c → Consumes was left (sized payload) → NoLetter payload e → RunStops crew c was held held (error.Pipe e)
letter_fails crew c was left held payload e waits p h = stops_now crew c was held held (error.Pipe e) (inr (letter_refused crew c was left payload e waits p h, refl))

pub act_fails : (crew crew_new : List WorkerState) (c new : CoordValue) (was left held : Option (List ℕ)) (payload : List ℕ) (m : Message) (e : CoordError) → AwaitsLetter crew c → Consumes was left (sized payload) → IsSpelled payload m → HandlingRefuses crew c m.src m.body e crew_new new
    → RunStops crew c was held held (error.Coord e)
act_fails crew crew_new c new was left held payload m e waits p spelled h =
    stops_now crew c was held held (error.Coord e) (inr (record { payload = payload; next = m; crew_new = crew_new; new = new; waits = waits; comes = comes_next was left (sized payload) p; spelled = spelled; refuses = h }), refl)

pub ends_early : (crew : List WorkerState) (c : CoordValue) (was held : Option (List ℕ)) → IsAtEnd was → AwaitsLetter crew c → RunStops crew c was held held error.EndsEarly
ends_early crew c was held end waits = stops_now crew c was held held error.EndsEarly (end, waits, refl)

pub reads_no_more : (crew : List WorkerState) (c : CoordValue) (was held : Option (List ℕ)) → RunStops crew c was held held (error.Pipe pipe.NoEnd)
reads_no_more crew c was held = stops_now crew c was held held (error.Pipe pipe.NoEnd) (inr (tt, refl))

-- ---- whole dispatches

pub ends_refused : (crew : List WorkerState) (old new : CoordValue) (was left held last : Option (List ℕ)) (e : DispatchError) → RunStops crew old was held last e → DispatchRefuses crew old was left held last new e
ends_refused crew old new was left held last error.NoWorker s = absurd s.stops
ends_refused crew old new was left held last (error.Coord e) s = inl s
ends_refused crew old new was left held last (error.Pipe e) s = s
ends_refused crew old new was left held last error.EndsEarly s = s

-- no worker has a job any more, so no claim is given back
pub run_ends : (crew crew_new : List WorkerState) (old mid at : CoordValue) (was left held holds : Option (List ℕ)) → RunsOver crew old was left held holds crew_new mid → has_busy crew_new ≡ false → NoneWaits crew_new mid → at ≡ after_all_leave mid crew_new → RunEnds crew old was left held holds at
run_ends crew crew_new old mid at was left held holds runs none asked closed = record {
  crew_new = crew_new;
  runs = subst (RunsOver crew old was left held holds crew_new) (sym (closed ∙ none_leaves mid crew_new none)) runs;
  none = none;
  asked = subst (NoneWaits crew_new) (sym (closed ∙ none_leaves mid crew_new none)) asked;
}

-- what is due is returned, and asking has changed nothing
pub due_runs : (crew : List WorkerState) (old at new : CoordValue) (was left held holds : Option (List ℕ)) (d : Due) → RunEnds crew old was left held holds at → (d ≡ due.More → ⊥) → IsDue at new d → RunEnds crew old was left held holds new
due_runs crew old at new was left held holds due.Nothing ends other h = subst (RunEnds crew old was left held holds) (sym h.0) ends
due_runs crew old at new was left held holds due.TooLarge ends other h = subst (RunEnds crew old was left held holds) (sym h.0) ends
due_runs crew old at new was left held holds due.More ends other h = absurd (other refl)
