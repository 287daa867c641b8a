-- What a run that stops has run and written.
use Rattle.std.proofs.Common.{◌≡◌, ◌⊎◌, inl, inr, ℕ, ◌+◌, List, [], ◌++◌, Option, Some, None, IfSome, Result, Ok, Err, OnErr, IfErr, refl, sym, ap, subst, ◌∙◌, length, take, map}
use Rattle.std.proofs.Math.Seq.{take-append-add, take-append_seam}
use Rattle.std.specs.Io.KnownBytes.{Appends, Keeps}
use Rattle.std.proofs.KnownBytes.{Appends-kept, Appends-nil, Appends-trans}
use Rattle.lsm_key.specs.declared.limits.Limits.{Limits}
use Rattle.lsm_world.specs.declared.event.Event.{Event}
use Rattle.lsm_world.specs.Events.{event_of}
use Rattle.lsm_world.specs.Nodes.{StoreValue}
use Rattle.lsm_world.specs.Schedules.{WorldValue, IsNew, replies_in}
use Rattle.lsm_sim.specs.declared.error.RunError.{RunError}
use Rattle.lsm_sim.specs.declared.error.RunError.TheVariants.{WriteFault, OutOfMemory}
use Rattle.lsm_script.specs.Replies.{reply_lines}
use Rattle.lsm_sim.specs.Runs.{Happens, HappensInPart, PrintsAPart, StopsFor}
use Rattle.lsm_script.specs.Script.{script}
use Rattle.lsm_sim.proofs.RunSteps.{IsSoFar, happens_prints}

-- a beginning of what waits was written
pub IsSoFar-stops : (old now : StoreValue) (events rest all : List Event) (was held last : Option (List ℕ)) (out bytes : List ℕ) → events ++ rest ≡ all → IsSoFar old now events was held out → bytes ≡ out → (k : ℕ) × Appends held last (take k bytes) → HappensInPart old all now was last
IsSoFar-stops old now events rest all was held last out bytes parts so whole wrote =
    let k = wrote.0 in
    let more : Appends held last (take k out) = subst (λ (x : List ℕ). Appends held last (take k x)) whole wrote.1 in
    let text : so.done ++ take k out ≡ take (length so.done + k) (reply_lines (replies_in so.steps)) = sym (ap (take (length so.done + k)) so.text ∙ take-append-add so.done out k) in
    let first : events ≡ take (length events) all = sym (ap (take (length events)) (sym parts) ∙ take-append_seam events rest) in
    (length events, so.steps, length so.done + k, subst (λ (es : List Event). Happens old es so.steps now) first so.happens, subst (λ (x : List ℕ). Appends was last x) text (Appends-trans was held last so.done (take k out) so.wrote more))

-- of what waits nothing was written
pub IsSoFar-halts : (old now : StoreValue) (events rest all : List Event) (was held last : Option (List ℕ)) (out : List ℕ) → events ++ rest ≡ all → IsSoFar old now events was held out → Keeps held last → HappensInPart old all now was last
IsSoFar-halts old now events rest all was held last out parts so keeps = IsSoFar-stops old now events rest all was held last out out parts so refl (0, Appends-kept held held last [] (Appends-nil held) keeps)

-- a part of what happens to a new store prints a part of what its script says
pub prints_a_part : (limits : Limits) (first : WorldValue) (last : StoreValue) (events : List Event) (bytes : List ℕ) (known was held : Option (List ℕ)) → IsNew limits first → script bytes ≡ Ok (map event_of events) → IfSome known (λ xs. bytes ≡ xs) → HappensInPart first.nodes events last was held → IfSome known (λ xs. PrintsAPart limits xs was held)
prints_a_part limits first last events bytes None was held new says read ran = tt
prints_a_part limits first last events bytes (Some xs) was held new says read ran =
    (events, ap script (sym read) ∙ says, ran.0, reply_lines (replies_in ran.1), ran.2, happens_prints limits first last (take ran.0 events) ran.1 new ran.3, ran.4)

-- a run that stops, stops for a fault of the writer or of memory
pub stops_in_run : {A : Type 0} (limits : Limits) (first : WorldValue) (last : StoreValue) (events : List Event) (bytes : List ℕ) (r : Result A RunError) (known was held : Option (List ℕ)) → IsNew limits first → script bytes ≡ Ok (map event_of events) → IfSome known (λ xs. bytes ≡ xs) → OnErr r (HappensInPart first.nodes events last was held) → IfErr r (λ e. (e ≡ WriteFault) ⊎ (e ≡ OutOfMemory)) → IfErr r (λ e. StopsFor limits e known was held)
stops_in_run limits first last events bytes (Ok x) known was held new says read ran why = tt
stops_in_run limits first last events bytes (Err e) known was held new says read ran (inl is) = rw is (prints_a_part limits first last events bytes known was held new says read ran)
stops_in_run limits first last events bytes (Err e) known was held new says read ran (inr is) = rw is (inr (prints_a_part limits first last events bytes known was held new says read ran))
