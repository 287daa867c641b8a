-- One event more at the end of a schedule.
use Rattle.std.proofs.Common.{◌≡◌, ℕ, ◌+◌, ◌≤◌, List, [], ◌∷◌, ◌++◌, length, refl, sym, ap, subst, ◌∙◌, append_assoc, append-nil, arith, inr}
use Rattle.std.specs.List.{zip}
use Rattle.std.specs.Prelude.{sum_by}
use Rattle.std.proofs.lemmas.List.Sums.{sum_by-append}
use Rattle.std.proofs.lemmas.List.{map-append}
use Rattle.lsm_key.specs.declared.limits.Limits.{Limits}
use Rattle.lsm_coord.specs.Contract.Memory.{IsFit}
use Rattle.lsm_coord.specs.Model.Event as say
use Rattle.lsm_coord.specs.Model.Run.{Run}
use Rattle.lsm_coord.specs.Model.State.{State, first_state}
use Rattle.lsm_coord.specs.Model.Step.{Leaves, Step}
use Rattle.lsm_coord.proofs.RunInvariants.{run_then}
use Rattle.lsm_world.specs.declared.event.Event.{Event}
use Rattle.lsm_world.specs.declared.refusal.Refusal.TheVariants as why
use Rattle.lsm_world.specs.declared.reply.Reply.{Reply}
use Rattle.lsm_world.specs.declared.reply.Reply.TheVariants as reply
use Rattle.lsm_world.specs.Asks.Store.{AsksIfTaken}
use Rattle.lsm_world.specs.Events.{event_of}
use Rattle.lsm_world.specs.Nodes.{NodesValue, StoreValue, up_store}
use Rattle.lsm_world.specs.Replies.{reply_of}
use Rattle.lsm_world.specs.Schedules.{AreNew, AskedAll, IsReached, IsTraced, RunsTo, device_failures, model_step, model_steps, trace_of}
use Rattle.lsm_world.specs.Shown.{FollowsStore}
use Rattle.lsm_world.proofs.FirstHistory.{first_shown}

-- ---- what was asked

pub asked_none : (n : StoreValue) → AskedAll n [] n
asked_none n = refl

pub asked_more : (old mid new : StoreValue) (steps : List (Event × Reply)) (e : Event) (r : Reply) → AskedAll old steps mid → AsksIfTaken mid e r new → AskedAll old (steps ++ (e, r) ∷ []) new
asked_more old mid new [] e r asked one = (new, subst (λ (n : StoreValue). AsksIfTaken n e r new) asked one, refl)
asked_more old mid new ((d, q) ∷ steps) e r asked one = (asked.0, asked.1, asked_more asked.0 mid new steps e r asked.2 one)

-- ---- the events as a run

run_more : (s m t : State) (steps : List (Event × Reply)) (e : Event) (r : Reply) → Run s (model_steps steps) m → Step m (event_of e) (reply_of r) t → Run s (model_steps (steps ++ (e, r) ∷ [])) t
run_more s m t steps e r run step =
    subst (λ (told : List (say.Event × say.Reply)). Run s told t) (sym (map-append model_step steps ((e, r) ∷ [])))
    (run_then s (model_steps steps) ((event_of e, reply_of r) ∷ []) m t run (t, step, refl))

pub runs_none : (n : StoreValue) → RunsTo n [] n
runs_none n s shown = (s, refl, shown)

pub runs_more : (old mid new : StoreValue) (steps : List (Event × Reply)) (e : Event) (r : Reply) → RunsTo old steps mid → FollowsStore mid (event_of e) (reply_of r) new → RunsTo old (steps ++ (e, r) ∷ []) new
runs_more old mid new steps e r runs follows s shown =
    let first = runs s shown in
    let then = follows first.0 first.2 in
    (then.0, run_more s first.0 then.0 steps e r first.1 then.1, then.2)

-- ---- the trace

pub traced_none : (trace : List Event) → IsTraced trace [] trace
traced_none trace = sym (append-nil trace)

trace_more : (steps : List (Event × Reply)) (e : Event) (r : Reply) → trace_of (steps ++ (e, r) ∷ []) ≡ trace_of steps ++ trace_of ((e, r) ∷ [])
trace_more [] e r = refl
trace_more ((d, reply.Refused why.NotTaken) ∷ steps) e r = trace_more steps e r
trace_more ((d, q) ∷ steps) e r = ap (λ (ds : List Event). d ∷ ds) (trace_more steps e r)

pub traced_more : (first then last : List Event) (steps : List (Event × Reply)) (e : Event) (r : Reply) → IsTraced first steps then → IsTraced then ((e, r) ∷ []) last → IsTraced first (steps ++ (e, r) ∷ []) last
traced_more first then last steps e r traced one =
    one ∙ ap (λ (ds : List Event). ds ++ trace_of ((e, r) ∷ [])) traced ∙ append_assoc first (trace_of steps) (trace_of ((e, r) ∷ []))
    ∙ ap (λ (ds : List Event). first ++ ds) (sym (trace_more steps e r))

-- ---- events beside their replies

-- one more on each side, of lists of one length
pub zip_more : (es : List Event) (rs : List Reply) (e : Event) (r : Reply) → length rs ≡ length es → zip (es ++ e ∷ []) (rs ++ r ∷ []) ≡ zip es rs ++ (e, r) ∷ []
zip_more [] [] e r same = refl
zip_more [] (q ∷ rs) e r same = absurd (omega (arith, same))
zip_more (d ∷ es) [] e r same = absurd (omega (arith, same))
zip_more (d ∷ es) (q ∷ rs) e r same = ap (λ (steps : List (Event × Reply)). (d, q) ∷ steps) (zip_more es rs e r (omega (arith, same)))

-- ---- failures

pub counted_more : (rs : List Reply) (r : Reply) (old mid new : ℕ) → sum_by device_failures rs + old ≤ mid → device_failures r + mid ≤ new → sum_by device_failures (rs ++ r ∷ []) + old ≤ new
counted_more rs r old mid new first then = rw (sum_by-append device_failures rs (r ∷ [])) (omega (arith, first, then))

-- ---- the states that are reached

pub reached_first : (due : Limits) (n : NodesValue) → AreNew due n → IsFit n.core → IsReached (record { nodes = up_store n; trace = [] })
reached_first due n is fit = record { steps = []; taken = refl; state = first_state; run = refl; shown = first_shown due n is fit }

-- ---- an event that is not taken

-- want of memory leaves the state
memory_leaves : (s : State) (e : say.Event) → Leaves s e say.OutOfMemory s
memory_leaves s (say.Trim n) = inr refl
memory_leaves s (say.Restart say.Coordinator) = inr refl
memory_leaves s e = refl

pub untaken_follows : (store : StoreValue) (e : Event) → FollowsStore store (event_of e) (reply_of (reply.Refused why.NotTaken)) store
untaken_follows store e s shown = (s, (tt, memory_leaves s (event_of e)), shown)

pub reached_more : (old new : StoreValue) (es : List Event) (e : Event) (r : Reply) → IsReached (record { nodes = old; trace = es }) → FollowsStore old (event_of e) (reply_of r) new → IsReached (record { nodes = new; trace = es ++ e ∷ [] })
reached_more old new es e r is follows =
    let then = follows is.state is.shown in
    record {
      steps = is.steps ++ (e, r) ∷ [];
      taken = ap (λ (ds : List Event). ds ++ e ∷ []) is.taken ∙ sym (map-append (λ (step : Event × Reply). step.0) is.steps ((e, r) ∷ []));
      state = then.0;
      run = run_more first_state is.state then.0 is.steps e r is.run then.1;
      shown = then.2;
    }
