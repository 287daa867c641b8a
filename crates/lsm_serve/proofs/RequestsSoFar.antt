-- Requests of a stream that are answered so far, and their replies.
use Rattle.std.proofs.Common.{◌≡◌, ◌∙◌, inl, inr, ℕ, ◌+◌, List, [], ◌∷◌, ◌++◌, Option, length, take, drop, append_assoc, append-nil, refl, sym, ap, subst, arith}
use Rattle.std.proofs.Math.Seq.{drop-append_seam, take-add, take-append_seam}
use Rattle.std.proofs.lemmas.List.Elements.{All-append, All-cons}
use Rattle.std.specs.Io.KnownBytes.{Appends}
use Rattle.lsm_coord.specs.Contract.Value.{CoordValue}
use Rattle.std.proofs.KnownBytes.{Appends-nil, Appends-trans}
use Rattle.lsm_io.specs.Streams.{AppendsPart}
use Rattle.lsm_serve.specs.declared.http_word.HttpWord.{HttpWord}
use Rattle.lsm_serve.specs.Serving.{EndsStream, RepliesBefore, RepliesInTurn, RepliesTo, RepliesToSome}
use Rattle.lsm_serve.specs.ServingSteps.{RepliesSoFar, AreSent, ServedBefore}
use Rattle.lsm_serve.proofs.Syncs.{may_stay}

abbrev pub Requests : Type 0
Requests = List (List (List ℕ))

-- ---- requests

pub answered_none : (old : CoordValue) (requests : Requests) → RepliesSoFar old requests requests [] old
answered_none old requests = record { done = []; parted = refl; goes_on = λ k d lt. absurd (omega (arith, lt)); completes = λ more rest new r. r }

module _ (old now : CoordValue) (requests left : Requests) (bytes : List ℕ) (a : RepliesSoFar old requests left bytes now) where
  -- those that are answered
  pub answered_first : RepliesInTurn old a.done bytes now
  answered_first =
      let all : RepliesInTurn old (a.done ++ []) (bytes ++ []) now = a.completes [] [] now (refl, may_stay now) in
      subst (λ (ds : Requests). RepliesInTurn old ds bytes now) (append-nil a.done) (subst (λ (bs : List ℕ). RepliesInTurn old (a.done ++ []) bs now) (append-nil bytes) all)

  pub answered_some : (held holds : Option (List ℕ)) → AppendsPart held holds bytes → RepliesToSome old requests held holds now
  answered_some held holds written = record { done = a.done; left = left; bytes = bytes; parted = a.parted; replies = answered_first; written = written }

pub answered_all : (old now : CoordValue) (requests : Requests) (bytes : List ℕ) → RepliesSoFar old requests [] bytes now → RepliesInTurn old requests bytes now
answered_all old now requests bytes a = subst (λ (ds : Requests). RepliesInTurn old ds bytes now) (sym (a.parted ∙ append-nil a.done)) (answered_first old now requests [] bytes a)

module _ (old now mid : CoordValue) (requests left : Requests) (request : List (List ℕ)) (bytes first : List ℕ) (a : RepliesSoFar old requests (request ∷ left) bytes now) where
  pub answered_next : RepliesTo now request first mid → (EndsStream request → ⊥) → RepliesSoFar old requests left (bytes ++ first) mid
  answered_next replies other = record {
    done = a.done ++ request ∷ [];
    parted = a.parted ∙ sym (append_assoc a.done (request ∷ []) left);
    goes_on = All-append (λ it. EndsStream it → ⊥) a.done (request ∷ []) a.goes_on (All-cons (λ it. EndsStream it → ⊥) request [] other (λ k d lt. absurd (omega (arith, lt))));
    completes = λ more rest new r.
        subst (λ (ds : Requests). RepliesInTurn old ds ((bytes ++ first) ++ rest) new) (sym (append_assoc a.done (request ∷ []) more))
        (subst (λ (bs : List ℕ). RepliesInTurn old (a.done ++ request ∷ more) bs new) (sym (append_assoc bytes first rest))
        (a.completes (request ∷ more) (first ++ rest) new (now, may_stay now, first, mid, replies, inr (other, rest, r, refl))));
  }

  pub answered_last : RepliesTo now request first mid → EndsStream request → RepliesInTurn old requests (bytes ++ first) mid
  answered_last replies ends =
      subst (λ (ds : Requests). RepliesInTurn old ds (bytes ++ first) mid) (sym a.parted)
      (a.completes (request ∷ left) first mid (now, may_stay now, first, mid, replies, inl (ends, refl, may_stay mid)))

  -- one more is answered, whose reply is not written
  pub answered_more : (held holds : Option (List ℕ)) → RepliesInTurn now (request ∷ []) first mid → AppendsPart held holds (bytes ++ first) → RepliesToSome old requests held holds mid
  answered_more held holds replies written = record {
    done = a.done ++ request ∷ [];
    left = left;
    bytes = bytes ++ first;
    parted = a.parted ∙ sym (append_assoc a.done (request ∷ []) left);
    replies = a.completes (request ∷ []) first mid replies;
    written = written;
  }

-- the replies to all that lie before a request of HTTP are written
pub before_written : (word : HttpWord) (old now : CoordValue) (requests : Requests) (held holds after : Option (List ℕ)) (out : List ℕ) → ServedBefore word old requests held now out holds → Appends holds after out → RepliesBefore word old requests held after now
before_written word old now requests held holds after out s wrote = record {
  done = s.answered.done;
  request = s.request;
  left = s.left;
  bytes = s.bytes;
  parted = s.answered.parted;
  begins = s.begins;
  goes_on = s.answered.goes_on;
  replies = answered_first old now requests (s.request ∷ s.left) s.bytes s.answered;
  written = subst (λ (b : List ℕ). Appends held after b) (sym s.sent.kept) (Appends-trans held holds after s.sent.sent out s.sent.written wrote);
}

-- ---- replies

pub sent_none : (held : Option (List ℕ)) → AreSent held held [] []
sent_none held = record { sent = []; kept = refl; written = Appends-nil held }

module _ (held holds : Option (List ℕ)) (bytes out : List ℕ) (s : AreSent held holds bytes out) where
  pub sent_more : (first out_new : List ℕ) → out_new ≡ out ++ first → AreSent held holds (bytes ++ first) out_new
  sent_more first out_new is = record {
    sent = s.sent;
    kept = ap (λ (b : List ℕ). b ++ first) s.kept ∙ append_assoc s.sent out first ∙ ap (λ (o : List ℕ). s.sent ++ o) (sym is);
    written = s.written;
  }

  pub sent_all : (after : Option (List ℕ)) (out_new : List ℕ) → Appends holds after out → out_new ≡ [] → AreSent held after bytes out_new
  sent_all after out_new wrote none = record {
    sent = s.sent ++ out;
    kept = s.kept ∙ sym (append-nil (s.sent ++ out)) ∙ ap (λ (o : List ℕ). (s.sent ++ out) ++ o) (sym none);
    written = Appends-trans held holds after s.sent out s.written wrote;
  }

  -- a beginning of the replies is written, whatever follows them
  pub sent_part : (more : List ℕ) → AppendsPart held holds (bytes ++ more)
  sent_part more =
      let is : bytes ++ more ≡ s.sent ++ (out ++ more) = ap (λ (b : List ℕ). b ++ more) s.kept ∙ append_assoc s.sent out more in
      let front : take (length s.sent) (bytes ++ more) ≡ s.sent = ap (take (length s.sent)) is ∙ take-append_seam s.sent (out ++ more) in
      (length s.sent, subst (λ (b : List ℕ). Appends held holds b) (sym front) s.written)

  pub sent_so_far : AppendsPart held holds bytes
  sent_so_far = subst (λ (b : List ℕ). AppendsPart held holds b) (append-nil bytes) (sent_part [])

  pub sent_part_of_out : (after : Option (List ℕ)) → AppendsPart holds after out → AppendsPart held after bytes
  sent_part_of_out after part =
      let front : take (length s.sent + part.0) (s.sent ++ out) ≡ s.sent ++ take part.0 out =
      take-add (length s.sent) part.0 (s.sent ++ out)
      ∙ ap (λ (f : List ℕ). f ++ take part.0 (drop (length s.sent) (s.sent ++ out))) (take-append_seam s.sent out)
      ∙ ap (λ (b : List ℕ). s.sent ++ take part.0 b) (drop-append_seam s.sent out)
      in
      (length s.sent + part.0, subst (λ (b : List ℕ). Appends held after b) (sym (ap (take (length s.sent + part.0)) s.kept ∙ front)) (Appends-trans held holds after s.sent (take part.0 out) s.written part.1))
