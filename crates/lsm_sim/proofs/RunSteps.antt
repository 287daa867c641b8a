-- A run continues by one step.
use Rattle.std.proofs.Common.{◌≡◌, List, [], ◌∷◌, ◌++◌, Option, IfSome, Some, None, Result, Ok, Err, OnOk, refl, sym, ap, subst, ◌∙◌, map, append_assoc, append-nil, ℕ}
use Rattle.std.specs.Io.KnownBytes.{Appends, Keeps}
use Rattle.std.proofs.KnownBytes.{Appends-kept, Appends-trans}
use Rattle.std.proofs.lemmas.List.{map-append}
use Rattle.lsm_coord.specs.Model.State.{first_state}
use Rattle.lsm_key.specs.declared.limits.Limits.{Limits}
use Rattle.lsm_world.specs.declared.event.Event.{Event}
use Rattle.lsm_world.specs.declared.reply.Reply.{Reply}
use Rattle.lsm_world.specs.Asks.Store.{AsksIfTaken}
use Rattle.lsm_world.specs.Events.{event_of}
use Rattle.lsm_world.specs.Nodes.{StoreValue}
use Rattle.lsm_world.specs.Replies.{reply_of}
use Rattle.lsm_world.specs.Schedules.{WorldValue, IsNew, replies_in}
use Rattle.lsm_world.specs.Shown.{FollowsStore}
use Rattle.lsm_world.proofs.RunningSchedules.{asked_none, asked_more, runs_none, runs_more}
use Rattle.lsm_script.specs.Replies.{line, reply_lines}
use Rattle.lsm_sim.specs.Runs.{Happens, Prints, PrintsScript}
use Rattle.lsm_script.specs.Script.{script}

pub happens_none : (n : StoreValue) → Happens n [] [] n
happens_none n = record { events_are = refl; asked = asked_none n; runs = runs_none n }

pub lines-push : (rs : List Reply) (r : Reply) → reply_lines (rs ++ r ∷ []) ≡ reply_lines rs ++ line r
lines-push [] r = append-nil (line r)
lines-push (x ∷ rs) r = ap (λ (t : List ℕ). line x ++ t) (lines-push rs r) ∙ sym (append_assoc (line x) (reply_lines rs) (line r))

-- what happened and was written so far
pub record IsSoFar (old now : StoreValue) (events : List Event) (was held : Option (List ℕ)) (out : List ℕ) : Type 0 where
  pub steps : List (Event × Reply)
  pub happens : Happens old events steps now
  pub done : List ℕ
  pub wrote : Appends was held done
  pub text : reply_lines (replies_in steps) ≡ done ++ out

pub IsSoFar-step : (old mid new : StoreValue) (events : List Event) (e : Event) (r : Reply) (was held : Option (List ℕ)) (out more : List ℕ) → IsSoFar old mid events was held out → AsksIfTaken mid e r new → FollowsStore mid (event_of e) (reply_of r) new → more ≡ out ++ line r → IsSoFar old new (events ++ e ∷ []) was held more
IsSoFar-step old mid new events e r was held out more so asks step added = record {
  steps = so.steps ++ (e, r) ∷ [];
  happens = record {
    events_are = map-append (λ (x : Event × Reply). x.0) so.steps ((e, r) ∷ []) ∙ ap (λ (es : List Event). es ++ e ∷ []) so.happens.events_are;
    asked = asked_more old mid new so.steps e r so.happens.asked asks;
    runs = runs_more old mid new so.steps e r so.happens.runs step;
  };
  done = so.done;
  wrote = so.wrote;
  text =
      ap reply_lines (map-append (λ (x : Event × Reply). x.1) so.steps ((e, r) ∷ [])) ∙ lines-push (replies_in so.steps) r ∙ ap (λ (t : List ℕ). t ++ line r) so.text
      ∙ append_assoc so.done out (line r)
      ∙ ap (λ (t : List ℕ). so.done ++ t) (sym added);
}

-- one event more is done
pub done_more : (done rest left all : List Event) (e : Event) → done ++ rest ≡ all → rest ≡ e ∷ left → (done ++ e ∷ []) ++ left ≡ all
done_more done rest left all e so is = append_assoc done (e ∷ []) left ∙ ap (λ (es : List Event). done ++ es) (sym is) ∙ so

pub IsSoFar-same : (old now : StoreValue) (events : List Event) (was held held2 : Option (List ℕ)) (out out2 : List ℕ) → IsSoFar old now events was held out → held2 ≡ held → out2 ≡ out → IsSoFar old now events was held2 out2
IsSoFar-same old now events was held held2 out out2 so a b = rw (a, b) so

pub IsSoFar-written : (old now : StoreValue) (events : List Event) (was held after held2 : Option (List ℕ)) (out bytes out2 : List ℕ) → IsSoFar old now events was held out → bytes ≡ out → Appends held after bytes → held2 ≡ after → out2 ≡ [] → IsSoFar old now events was held2 out2
IsSoFar-written old now events was held after held2 out bytes out2 so whole wrote a b = rw (a, b) (record {
  steps = so.steps;
  happens = so.happens;
  done = so.done ++ out;
  wrote = Appends-trans was held after so.done out so.wrote (subst (λ (x : List ℕ). Appends held after x) whole wrote);
  text = so.text ∙ sym (append-nil (so.done ++ out));
})

pub IsSoFar-end : (old now : StoreValue) (events rest all : List Event) (was held last : Option (List ℕ)) (out : List ℕ) → events ++ rest ≡ all → rest ≡ [] → IsSoFar old now events was held out → out ≡ [] → Keeps held last → (x : List (Event × Reply)) × Happens old all x now × Appends was last (reply_lines (replies_in x))
IsSoFar-end old now events rest all was held last out parts end so none keeps =
    let text : reply_lines (replies_in so.steps) ≡ so.done = so.text ∙ ap (λ (t : List ℕ). so.done ++ t) none ∙ append-nil so.done in
    let whole : events ≡ all = sym (append-nil events) ∙ ap (λ (es : List Event). events ++ es) (sym end) ∙ parts in
    (so.steps, subst (λ (es : List Event). Happens old es so.steps now) whole so.happens, rw text (Appends-kept was held last so.done so.wrote keeps))

pub on_ok : {A E : Type 0} (r : Result A E) (P : Type 0) → P → OnOk r P
on_ok (Ok x) P p = p
on_ok (Err e) P p = tt

-- what happens to a new store prints its replies' lines
pub happens_prints : (limits : Limits) (first : WorldValue) (last : StoreValue) (events : List Event) (steps : List (Event × Reply)) → IsNew limits first → Happens first.nodes events steps last → Prints limits events (reply_lines (replies_in steps))
happens_prints limits first last events steps new happens =
    let end = happens.runs first_state new.4 in
    record { first = first; is_new = new; steps = steps; events_are = happens.events_are; last = last; asked = happens.asked; runs = (end.0, end.1); prints = refl }

-- what happens to a new store prints what its script says
pub prints_script : (limits : Limits) (first : WorldValue) (last : StoreValue) (events : List Event) (bytes : List ℕ) (known was held : Option (List ℕ)) → IsNew limits first → script bytes ≡ Ok (map event_of events) → IfSome known (λ xs. bytes ≡ xs) → (x : List (Event × Reply)) × Happens first.nodes events x last × Appends was held (reply_lines (replies_in x)) → IfSome known (λ xs. PrintsScript limits xs was held)
prints_script limits first last events bytes None was held new says read ran = tt
prints_script limits first last events bytes (Some xs) was held new says read ran =
    (events, ap script (sym read) ∙ says, reply_lines (replies_in ran.0), happens_prints limits first last events ran.0 new ran.1, ran.2)
