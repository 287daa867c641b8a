-- What comes through a port and goes through it, one step after another.
use Rattle.std.proofs.Common.{ℕ, zero, suc, ◌<◌, List, [], ◌∷◌, ◌++◌, Option, None, Some, Result, Ok, Err, IfErr, IsErrAnd, take, length, refl, sym, ap, subst, ◌≡◌, ◌∙◌, arith, append-nil, append_assoc}
use Rattle.lsm_msg.specs.declared.message.Message.{Message}
use Rattle.lsm_threads.specs.declared.ending.Ending.{Ending}
use Rattle.lsm_threads.specs.Ports.{GainsMessages, IsBegun, SendsPart, Traffic}

gained_none : (was : Option (List Message)) → GainsMessages was was []
gained_none None = tt
gained_none (Some xs) = sym (append-nil xs)

gained_then : (was mid has : Option (List Message)) (xs ys : List Message) → GainsMessages was mid xs → GainsMessages mid has ys → GainsMessages was has (xs ++ ys)
gained_then None mid has xs ys a b = tt
gained_then (Some old) None has xs ys a b = absurd a
gained_then (Some old) (Some half) None xs ys a b = absurd b
gained_then (Some old) (Some half) (Some new) xs ys a b = b ∙ ap (λ (w : List Message). w ++ ys) a ∙ append_assoc old xs ys

pub passes_none : (was held : Option (List Message)) → Traffic was was held held [] []
passes_none was held = record { brought = gained_none was; taken = gained_none held }

pub passes_then : (was mid has held half holds : Option (List Message)) (came more went later : List Message) → Traffic was mid held half came went → Traffic mid has half holds more later → Traffic was has held holds (came ++ more) (went ++ later)
passes_then was mid has held half holds came more went later a b = record { brought = gained_then was mid has came more a.brought b.brought; taken = gained_then held half holds went later a.taken b.taken }

-- ---- messages that are sent in turn

begun_at : (k : ℕ) (all : List Message) → k < length all → IsBegun (take k all) all
begun_at k [] less = absurd (omega arith)
begun_at zero (m ∷ ms) less = (m, ms, refl)
begun_at (suc k) (m ∷ ms) less = let b = begun_at k ms (omega arith) in (b.0, b.1, ap (λ (xs : List Message). m ∷ xs) b.2)

-- the next one is not sent
pub sends_part : (k : ℕ) (all : List Message) (was mid has held half holds : Option (List Message)) → k < length all → Traffic was mid held half [] (take k all) → Traffic mid has half holds [] [] → SendsPart was has held holds all
sends_part k all was mid has held half holds less before refused = record {
  went = take k all;
  begun = begun_at k all less;
  passes = subst (Traffic was has held holds []) (append-nil (take k all)) (passes_then was mid has held half holds [] [] (take k all) [] before refused);
}

-- ---- a refusal that is handed on

pub handed_on : {T : Type 0} (r : Result T Ending) (e : Ending) (P : Ending → Type 0) → IsErrAnd r (λ x. x ≡ e) → P e → IfErr r P
handed_on (Ok x) e P is p = tt
handed_on (Err x) e P is p = subst P (sym is) p
