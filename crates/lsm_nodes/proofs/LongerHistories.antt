-- What is known of the value under the lock stays known when a call is recorded.
use Rattle.std.proofs.Common.{◌≡◌, ◌⊎◌, ℕ, ◌+◌, ◌≤◌, List, [], ◌∷◌, ◌++◌, true, Result, Ok, Err, length, refl, sym, ap, ◌∙◌, subst, arith, inl, inr, length-append, append_assoc, append-nil}
use Rattle.std.proofs.lemmas.List.{map-append}
use Rattle.std.proofs.lemmas.Grind.{flat_map-append}
use Rattle.lsm_key.proofs.Membership.{IsIn-append_cases, IsIn-one}
use Rattle.lsm_claim.specs.Book.{BookValue, holds}
use Rattle.lsm_msg.specs.declared.job.JobParts.{JobParts}
use Rattle.lsm_coord.specs.declared.answer.Answer.{Answer}
use Rattle.lsm_coord.specs.declared.answer.Answer.TheVariants as answer
use Rattle.lsm_coord.specs.declared.error.CoordError.{CoordError}
use Rattle.lsm_coord.specs.Model.Event.{Event, Reply}
use Rattle.lsm_coord.specs.Model.Run.{Run}
use Rattle.lsm_coord.specs.Model.State.{State}
use Rattle.lsm_coord.specs.Contract.Shows.{Follows, Shows}
use Rattle.lsm_coord.specs.Contract.Sound.{IsSound, KeepsSound}
use Rattle.lsm_coord.specs.Contract.Value.{CoordValue}
use Rattle.lsm_coord.proofs.RunInvariants.{run_then}
use Rattle.lsm_nodes.specs.Answers.{answer_of}
use Rattle.lsm_nodes.specs.Histories.{AreGiven, AreSoundJobs, HoldsMerge, HoldsMerges, IsPickedIn, IsShared, SharedValue, WitnessedValue, event_of_call, installed_by, installed_in, installs_in, reply_of_answer, step_of, steps_of}

-- what a call owes to the history that it ends
pub record Extends (past : List WitnessedValue) (a : CoordValue) (w : WitnessedValue) (b : CoordValue) : Type 0 where
  pub installs : installs_in b.stored.edits ≡ installs_in a.stored.edits ++ installed_by w.exchange.answer
  pub made : a.book.made ≤ b.book.made
  pub given : (job : JobParts) → w.exchange.answer ≡ answer.Picked job → job.id.number ≤ b.book.made
  pub step : HoldsMerge past w.before w.exchange.call w.exchange.answer → AreSoundJobs past a → Follows a (event_of_call w.exchange.call) (reply_of_answer w.exchange.call w.exchange.answer) b
  pub sound :
      HoldsMerge past w.before w.exchange.call w.exchange.answer → AreGiven past a → AreSoundJobs past a → (s : State) → Shows a s
      → (job : JobParts) → IsPickedIn past job ⊎ (w.exchange.answer ≡ answer.Picked job) → holds b.book job.id ≡ true → IsSound b job

installed_push : (history : List WitnessedValue) (w : WitnessedValue) → installed_in (history ++ w ∷ []) ≡ installed_in history ++ installed_by w.exchange.answer
installed_push history w =
    flat_map-append (λ (x : WitnessedValue). installed_by x.exchange.answer) history (w ∷ []) ∙ ap (λ (l : List (ℕ × List ℕ)). installed_in history ++ l) (append-nil (installed_by w.exchange.answer))

-- a job of a history that is one call longer was picked before, or by that call
picked_push : (history : List WitnessedValue) (w : WitnessedValue) (job : JobParts) → IsPickedIn (history ++ w ∷ []) job → IsPickedIn history job ⊎ (w.exchange.answer ≡ answer.Picked job)
picked_push history w job p =
    elim (IsIn-append_cases p.0 history (w ∷ []) p.1) [
      | inl m ↦ inl (p.0, m, p.2)
      | inr m ↦ inr (ap (λ (x : WitnessedValue). x.exchange.answer) (sym (IsIn-one p.0 w m)) ∙ p.2)
    ]

pub shared_push : (start : CoordValue) (a b : SharedValue) (total now : ℕ) (w : WitnessedValue) → IsShared start a total → b.history ≡ a.history ++ w ∷ [] → now ≡ total + 1
    → Extends a.history a.coord w b.coord → IsShared start b now
shared_push start a b total now w k is n e =
    let all : HoldsMerges b.history → HoldsMerges a.history = λ h past x rest q. h past x (rest ++ w ∷ []) (is ∙ ap (λ (l : List WitnessedValue). l ++ w ∷ []) q ∙ append_assoc past (x ∷ rest) (w ∷ [])) in
    let last : HoldsMerges b.history → HoldsMerge a.history w.before w.exchange.call w.exchange.answer = λ h. h a.history w [] is in
    let cases : (job : JobParts) → IsPickedIn b.history job → IsPickedIn a.history job ⊎ (w.exchange.answer ≡ answer.Picked job) = λ job p. picked_push a.history w job (subst (λ (l : List WitnessedValue). IsPickedIn l job) is p) in
    let steps : steps_of b.history ≡ steps_of a.history ++ step_of w ∷ [] = ap steps_of is ∙ map-append step_of a.history (w ∷ []) in
    record {
      counted = omega (arith, k.counted, n, ap length is, length-append a.history (w ∷ []));
      installed =
          e.installs
          ∙ ap (λ (l : List (ℕ × List ℕ)). l ++ installed_by w.exchange.answer) k.installed
          ∙ append_assoc (installs_in start.stored.edits) (installed_in a.history) (installed_by w.exchange.answer)
          ∙ ap (λ (l : List (ℕ × List ℕ)). installs_in start.stored.edits ++ l) (sym (ap installed_in is ∙ installed_push a.history w));
      given = λ job p.
          elim (cases job p) [
            | inl q ↦ (let before = k.given job q in let more = e.made in omega (arith, before, more))
            | inr q ↦ e.given job q
          ];
      run = λ h s shown.
          let c = k.run (all h) s shown in
          let f = e.step (last h) (k.sound (all h) s shown) c.0 c.2 in
          let run : Run s (steps_of a.history ++ step_of w ∷ []) f.0 = run_then s (steps_of a.history) (step_of w ∷ []) c.0 f.0 c.1 (f.0, f.1, refl) in
          (f.0, subst (λ (told : List (Event × Reply)). Run s told f.0) (sym steps) run, f.2);
      sound = λ h s shown job p live. let c = k.run (all h) s shown in e.sound (last h) k.given (k.sound (all h) s shown) c.0 c.2 job (cases job p) live;
    }

-- ---- calls that neither pick nor install

-- an answer that names no job and no install
abbrev pub IsPlain : Answer → Type 0
IsPlain (answer.Picked job) = ⊥
IsPlain (answer.Installed number files) = ⊥
IsPlain answered = Unit {0}

pub plain_answer : {T : Type 0} (told : T → Answer) → ((x : T) → IsPlain (told x)) → (r : Result T CoordError) → IsPlain (answer_of told r)
plain_answer told plain (Ok x) = plain x
plain_answer told plain (Err e) = tt

plain_installs : (a : Answer) → IsPlain a → installed_by a ≡ []
plain_installs (answer.Picked job) h = absurd h
plain_installs (answer.Installed number files) h = absurd h
plain_installs a h = refl

plain_picks : (a : Answer) (job : JobParts) → IsPlain a → a ≡ answer.Picked job → ⊥
plain_picks a job h e = subst IsPlain e h

pub extends_plain : (past : List WitnessedValue) (a : CoordValue) (w : WitnessedValue) (b : CoordValue) → IsPlain w.exchange.answer → installs_in b.stored.edits ≡ installs_in a.stored.edits → b.book ≡ a.book
    → Follows a (event_of_call w.exchange.call) (reply_of_answer w.exchange.call w.exchange.answer) b → ((s : State) → Shows a s → KeepsSound a b) → Extends past a w b
extends_plain past a w b plain edits book goes keeps = record {
  installs = edits ∙ sym (ap (λ (l : List (ℕ × List ℕ)). installs_in a.stored.edits ++ l) (plain_installs w.exchange.answer plain) ∙ append-nil (installs_in a.stored.edits));
  made = omega (arith, ap (λ (k : BookValue). k.made) book);
  given = λ job e. absurd (plain_picks w.exchange.answer job plain e);
  step = λ h sound. goes;
  sound = λ h given sound s shown job from live.
      elim from [
        | inl p ↦ keeps s shown job (sound job p (subst (λ (k : BookValue). holds k job.id ≡ true) book live)) live
        | inr e ↦ absurd (plain_picks w.exchange.answer job plain e)
      ];
}
