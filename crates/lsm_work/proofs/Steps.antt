-- What comes of messages, step by step.
use Rattle.std.proofs.Common.{◌≡◌, ℕ, All, ◌+◌, ◌<◌, ◌≤◌, Bool, true, false, not, cond, List, [], ◌∷◌, ◌++◌, length, map, take, get_or, Option, Some, None, IfSome, IfNone, refl, sym, ap, ◌∙◌, arith}
use Rattle.std.specs.List.{filter}
use Rattle.std.specs.Option.{is_some}
use Rattle.std.specs.Prelude.{nat_eq}
use Rattle.std.proofs.lemmas.Bool.{eq-eqb, eqb-true, false_from_ne_true}
use Rattle.lsm_key.specs.Sets.{IsIn, is_among}
use Rattle.lsm_key.proofs.Lists.{any_from, none_from}
use Rattle.lsm_key.proofs.Membership.{IsIn-map, IsIn-mapped}
use Rattle.std.proofs.lemmas.List.{append-nil, map-append}
use Rattle.std.proofs.lemmas.List.Elements.{All-cons, filter_more}
use Rattle.lsm_edit.specs.declared.file.FileMeta.{FileMeta}
use Rattle.lsm_msg.specs.declared.message.Body.TheVariants as body
use Rattle.lsm_msg.specs.declared.message.Message.{Message}
use Rattle.lsm_msg.specs.Messages.{fetches, to_coordinator}
use Rattle.lsm_msg.specs.declared.node.Node.TheVariants.{Worker}
use Rattle.lsm_work.specs.Workers.{WorkerValue, TaskValue, WorkOutcome, IsComplete, MergesInputs, Proceeds, collects}

pub All-one : {X : Type 0} (P : X → Type 0) (x : X) → P x → All P (x ∷ [])
All-one P x h = All-cons P x [] h (λ k d lt. absurd (omega (arith, lt)))

pub proceeds_more : (w : WorkerValue) (t : TaskValue) (fs : List FileMeta) (o : WorkOutcome) → 1 ≤ length fs → o ≡ collects w t [] → Proceeds w t fs o
proceeds_more w t [] o some e = absurd (omega (arith, some))
proceeds_more w t (f ∷ fs) o some e = e

pub proceeds_last : (w : WorkerValue) (t : TaskValue) (fs : List FileMeta) (o : WorkOutcome) → length fs ≡ 0 → IsComplete t → MergesInputs w t o → Proceeds w t fs o
proceeds_last w t [] o none all merged = (all, merged)
proceeds_last w t (f ∷ fs) o none all merged = absurd (omega (arith, none))

-- whether the number of a file is not among these
abbrev pub lacks : List ℕ → FileMeta → Bool
lacks ns f = not (is_among ns f.number)

asked-if : (b : Bool) (index : ℕ) (f : FileMeta) → fetches (Worker index) (cond b (f ∷ []) []) ≡ cond b (to_coordinator (Worker index) (body.Fetch f.number) ∷ []) []
asked-if true index f = refl
asked-if false index f = refl

-- one file more was looked at
asked_more : (index : ℕ) (ns : List ℕ) (files : List FileMeta) (k : ℕ) (f : FileMeta) (sent : List Message) → k < length files → f ≡ get_or files k f → sent ≡ fetches (Worker index) (filter (lacks ns) (take k files))
    → fetches (Worker index) (filter (lacks ns) (take (k + 1) files)) ≡ sent ++ cond (lacks ns f) (to_coordinator (Worker index) (body.Fetch f.number) ∷ []) []
asked_more index ns files k f sent lt at before =
    ap (λ (fs : List FileMeta). fetches (Worker index) fs) (filter_more (lacks ns) files k f lt)
    ∙ ap (λ (g : FileMeta). fetches (Worker index) (filter (lacks ns) (take k files) ++ cond (lacks ns g) (g ∷ []) [])) (sym at)
    ∙ map-append (λ g. to_coordinator (Worker index) (body.Fetch g.number)) (filter (lacks ns) (take k files)) (cond (lacks ns f) (f ∷ []) [])
    ∙ ap (λ (ms : List Message). ms ++ fetches (Worker index) (cond (lacks ns f) (f ∷ []) [])) (sym before)
    ∙ ap (λ (ms : List Message). sent ++ ms) (asked-if (lacks ns f) index f)

pub asked_one : (index : ℕ) (ns : List ℕ) (files : List FileMeta) (k : ℕ) (f : FileMeta) (sent : List Message) → k < length files → f ≡ get_or files k f → sent ≡ fetches (Worker index) (filter (lacks ns) (take k files)) → is_among ns f.number ≡ false
    → sent ++ to_coordinator (Worker index) (body.Fetch f.number) ∷ [] ≡ fetches (Worker index) (filter (lacks ns) (take (k + 1) files))
asked_one index ns files k f sent lt at before new = sym (asked_more index ns files k f sent lt at before ∙ ap (λ (b : Bool). sent ++ cond (not b) (to_coordinator (Worker index) (body.Fetch f.number) ∷ []) []) new)

pub asked_none : (index : ℕ) (ns : List ℕ) (files : List FileMeta) (k : ℕ) (f : FileMeta) (sent : List Message) → k < length files → f ≡ get_or files k f → sent ≡ fetches (Worker index) (filter (lacks ns) (take k files)) → is_among ns f.number ≡ true
    → sent ≡ fetches (Worker index) (filter (lacks ns) (take (k + 1) files))
asked_none index ns files k f sent lt at before old = sym (asked_more index ns files k f sent lt at before ∙ ap (λ (b : Bool). sent ++ cond (not b) (to_coordinator (Worker index) (body.Fetch f.number) ∷ []) []) old ∙ append-nil sent)

-- whether a missing file of the number was found
pub lacks-is : {X : Type 0} (o : Option X) (file : X → FileMeta) (fs : List FileMeta) (n : ℕ) → IfSome o (λ r. IsIn (file r) fs × ((file r).number ≡ n)) → IfNone o ((f : FileMeta) → IsIn f fs → f.number ≡ n → ⊥) → is_some o ≡ is_among (map (λ f. f.number) fs) n
lacks-is None file fs n some none =
    sym (none_from (λ m. nat_eq n m) (map (λ f. f.number) fs) (λ m member.
    let of = IsIn-mapped (λ (f : FileMeta). f.number) m fs member in
    false_from_ne_true (nat_eq n m) (λ e. none of.0 of.1 (sym (eqb-true n m e ∙ of.2)))))
lacks-is (Some r) file fs n some none =
    sym (any_from (λ m. nat_eq n m) (map (λ f. f.number) fs) (file r).number (IsIn-map (λ (f : FileMeta). f.number) (file r) fs some.0) (eq-eqb n (file r).number (sym some.1)))
