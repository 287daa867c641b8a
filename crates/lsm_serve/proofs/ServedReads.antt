-- A stream of requests between two reads, and at its end.
use Rattle.std.proofs.Common.{◌≡◌, ◌∙◌, ℕ, List, [], ◌∷◌, ◌++◌, Option, Some, None, true, false, append_assoc, append-nil, drop, refl, sym, ap, subst}
use Rattle.std.specs.Io.KnownBytes.{Appends}
use Rattle.lsm_coord.specs.Contract.Value.{CoordValue}
use Rattle.std.proofs.KnownBytes.{Appends-trans}
use Rattle.lsm_io.specs.Streams.{AppendsPart, Gains}
use Rattle.lsm_serve.specs.declared.serving.Reached.{Reached}
use Rattle.lsm_serve.specs.declared.serving.Reached.TheVariants.{Http, Quit, Waits}
use Rattle.lsm_serve.specs.Serving.{RepliesInTurn, RepliesToSome}
use Rattle.lsm_serve.specs.ServingSteps.{ServedAll, ServedSoFar, ServedTo}
use Rattle.lsm_serve.proofs.RequestsSoFar.{Requests, answered_some, sent_part_of_out}
use Rattle.lsm_serve.proofs.ServedStreams.{served_part, served_to_end, served_written}

-- ---- what a read gives

some_is : (a b : List ℕ) → Some a ≡ Some b → a ≡ b
some_is a b e = cc

-- what a reader loses stands behind the input
pub ahead_after : (most : ℕ) (known after : Option (List ℕ)) (input more later : List ℕ) → known ≡ Some later → Gains most known after input more true → (left : List ℕ) × (after ≡ Some left) × (more ++ left ≡ input ++ later)
ahead_after most None after input more later e gains = absurd cc
ahead_after most (Some xs) None input more later e gains = absurd gains.4
ahead_after most (Some xs) (Some ys) input more later e gains =
    (ys, refl, ap (λ (m : List ℕ). m ++ ys) gains.1 ∙ append_assoc input gains.0 ys ∙ ap (λ (b : List ℕ). input ++ b) (sym gains.4 ∙ some_is xs later e))

pub none_after : (most : ℕ) (known after : Option (List ℕ)) (input more later : List ℕ) → known ≡ Some later → Gains most known after input more false → (later ≡ []) × (more ≡ input)
none_after most None after input more later e gains = absurd cc
none_after most (Some xs) None input more later e gains = absurd gains.1
none_after most (Some xs) (Some ys) input more later e gains = (sym (some_is xs later e) ∙ gains.1 ∙ gains.2, gains.0)

-- ---- states

module _ (old now : CoordValue) (requests : Requests) (held : Option (List ℕ)) where
  pub input_is : (holds : Option (List ℕ)) (items given later out : List ℕ) → given ≡ items → out ≡ [] → ServedSoFar old requests held now (items ++ later) [] holds → ServedSoFar old requests held now (given ++ later) out holds
  input_is holds items given later out same none s =
      subst (λ (o : List ℕ). ServedSoFar old requests held now (given ++ later) o holds) (sym none)
      (subst (λ (b : List ℕ). ServedSoFar old requests held now (b ++ later) [] holds) (sym same) s)

  -- the replies that were kept are not written whole
  pub part_to : (holds after : Option (List ℕ)) (input later out : List ℕ) (reached : Reached) → ServedTo old requests held now input later out holds reached → AppendsPart holds after out → RepliesToSome old requests held after now
  part_to holds after input later out (Waits at) s part = served_part old now requests held holds (drop at input ++ later) out s.0 after part
  part_to holds after input later out Quit s part = record {
    done = requests;
    left = [];
    bytes = s.0;
    parted = sym (append-nil requests);
    replies = s.1;
    written = sent_part_of_out held holds s.0 out s.2 after part;
  }
  part_to holds after input later out (Http word) s part = answered_some old now requests (s.request ∷ s.left) s.bytes s.answered held after (sent_part_of_out held holds s.bytes out s.sent after part)

  pub all_written : (holds after : Option (List ℕ)) (out : List ℕ) → ServedAll old requests held now out holds → Appends holds after out → (bytes : List ℕ) × RepliesInTurn old requests bytes now × Appends held after bytes
  all_written holds after out s wrote =
      (s.0, s.1, subst (λ (b : List ℕ). Appends held after b) (sym s.2.kept) (Appends-trans held holds after s.2.sent out s.2.written wrote))

  pub all_written_at_end : (holds after : Option (List ℕ)) (rest later out : List ℕ) → rest ≡ [] → later ≡ [] → ServedSoFar old requests held now (rest ++ later) out holds → Appends holds after out → (bytes : List ℕ) × RepliesInTurn old requests bytes now × Appends held after bytes
  all_written_at_end holds after rest later out none nothing s wrote =
      all_written holds after out (served_to_end old now requests held holds (rest ++ later) out s (ap (λ (b : List ℕ). b ++ later) none ∙ nothing)) wrote

  pub next_input : (holds after : Option (List ℕ)) (rest later more left out out_new : List ℕ) → more ++ left ≡ rest ++ later → ServedSoFar old requests held now (rest ++ later) out holds → Appends holds after out → out_new ≡ [] → ServedSoFar old requests held now (more ++ left) [] after
  next_input holds after rest later more left out out_new is s wrote none =
      subst (λ (b : List ℕ). ServedSoFar old requests held now b [] after) (sym is) (served_written old now requests held holds (rest ++ later) out s after [] wrote refl)
