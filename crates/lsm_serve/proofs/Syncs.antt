-- Syncs between requests: the store stays, but that its device may have failed.
use Rattle.std.proofs.Common.{◌∙◌, ℕ, List, [], ◌∷◌, Option, inl, inr, refl, sym, ap, subst, arith}
use Rattle.std.specs.Io.KnownBytes.{Appends}
use Rattle.std.proofs.KnownBytes.{Appends-nil}
use Rattle.lsm_coord.specs.Contract.Calls.{MayHaveFailed}
use Rattle.lsm_coord.specs.Contract.Value.{CoordValue}
use Rattle.lsm_io.specs.Streams.{AppendsPart}
use Rattle.lsm_serve.specs.declared.error.ServeError.{ServeError}
use Rattle.lsm_serve.specs.declared.error.ServeError.TheVariants.{Http, NoEnd, NotSynced, OutOfMemory, Protocol, ReadFault, Truncated, WriteFault}
use Rattle.lsm_serve.specs.declared.http_word.HttpWord.{HttpWord}
use Rattle.lsm_serve.specs.Serving.{RepliesBefore, RepliesInTurn, RepliesToSome, ServesSome}
use Rattle.lsm_serve.specs.ServingSteps.{RepliesSoFar, LeftUnsent, ServedSoFar}

pub may_stay : (c : CoordValue) → MayHaveFailed c c
may_stay c = record { rest = refl; counted = omega arith }

pub failed_then : (old mid new : CoordValue) → MayHaveFailed old mid → MayHaveFailed mid new → MayHaveFailed old new
failed_then old mid new first second =
    let before = first.counted in
    let after = second.counted in
    record {
      rest = second.rest ∙ ap (λ (c : CoordValue). record c { failures = new.failures }) first.rest;
      counted = omega (arith, before, after);
    }

-- ---- replies

-- a sync before the first request
pub replies_resume : (old now new : CoordValue) (requests : List (List (List ℕ))) (bytes : List ℕ) → MayHaveFailed old now → RepliesInTurn now requests bytes new → RepliesInTurn old requests bytes new
replies_resume old now new [] bytes failed (none, rest) = (none, failed_then old now new failed rest)
replies_resume old now new (request ∷ requests) bytes failed (from, begun, first, mid, replies, more) = (from, failed_then old now from failed begun, first, mid, replies, more)

-- a sync behind the last one
pub replies_end : (old now new : CoordValue) (requests : List (List (List ℕ))) (bytes : List ℕ) → MayHaveFailed now new → RepliesInTurn old requests bytes now → RepliesInTurn old requests bytes new
replies_end old now new [] bytes failed (none, rest) = (none, failed_then old now new rest failed)
replies_end old now new (request ∷ requests) bytes failed (from, begun, first, mid, replies, inl (ends, is, last)) =
    (from, begun, first, mid, replies, inl (ends, is, failed_then mid now new last failed))
replies_end old now new (request ∷ requests) bytes failed (from, begun, first, mid, replies, inr (other, rest, more, is)) =
    (from, begun, first, mid, replies, inr (other, rest, replies_end mid now new requests rest failed more, is))

-- nothing is answered yet
pub replied_to_none : (old : CoordValue) (requests : List (List (List ℕ))) (held : Option (List ℕ)) → RepliesToSome old requests held held old
replied_to_none old requests held = record { done = []; left = requests; bytes = []; parted = refl; replies = (refl, may_stay old); written = (0, Appends-nil held) }

module _ (old now new : CoordValue) (requests : List (List (List ℕ))) (held holds : Option (List ℕ)) (failed : MayHaveFailed now new) where
  pub some_synced : RepliesToSome old requests held holds now → RepliesToSome old requests held holds new
  some_synced some = record {
    done = some.done;
    left = some.left;
    bytes = some.bytes;
    parted = some.parted;
    replies = replies_end old now new some.done some.bytes failed some.replies;
    written = some.written;
  }

  pub before_synced : (word : HttpWord) → RepliesBefore word old requests held holds now → RepliesBefore word old requests held holds new
  before_synced word before = record {
    done = before.done;
    request = before.request;
    left = before.left;
    bytes = before.bytes;
    parted = before.parted;
    begins = before.begins;
    goes_on = before.goes_on;
    replies = replies_end old now new before.done before.bytes failed before.replies;
    written = before.written;
  }

  pub all_synced : ((bytes : List ℕ) × RepliesInTurn old requests bytes now × Appends held holds bytes) → (bytes : List ℕ) × RepliesInTurn old requests bytes new × Appends held holds bytes
  all_synced (bytes, replies, wrote) = (bytes, replies_end old now new requests bytes failed replies, wrote)

  pub so_far_synced : (ahead out : List ℕ) → ServedSoFar old requests held now ahead out holds → ServedSoFar old requests held new ahead out holds
  so_far_synced ahead out s =
      let answered : RepliesSoFar old requests s.left s.bytes new = record {
        done = s.answered.done;
        parted = s.answered.parted;
        goes_on = s.answered.goes_on;
        completes = λ more rest last r. s.answered.completes more rest last (replies_resume now new last more rest failed r);
      } in
      record { left = s.left; bytes = s.bytes; answered = answered; are_ahead = s.are_ahead; sent = s.sent }

-- ---- replies that are not sent

pub part_sent : (why : ServeError) (held holds : Option (List ℕ)) (out : List ℕ) → LeftUnsent held holds out why → AppendsPart held holds out
part_sent (NotSynced e) held holds out same = (0, subst (λ (h : Option (List ℕ)). Appends held h []) (sym same) (Appends-nil held))
part_sent WriteFault held holds out part = part
part_sent NoEnd held holds out part = part
part_sent ReadFault held holds out refused = absurd refused
part_sent (Protocol fault) held holds out refused = absurd refused
part_sent (Http word) held holds out refused = absurd refused
part_sent Truncated held holds out refused = absurd refused
part_sent OutOfMemory held holds out refused = absurd refused

-- why they are not is no fault of a request
pub sends_some : (why : ServeError) (old now : CoordValue) (requests : List (List (List ℕ))) (held holds after : Option (List ℕ)) (out : List ℕ) → LeftUnsent holds after out why → RepliesToSome old requests held after now → ServesSome old requests held after why now
sends_some (NotSynced e) old now requests held holds after out refused some = (some, tt)
sends_some WriteFault old now requests held holds after out refused some = (some, tt)
sends_some NoEnd old now requests held holds after out refused some = (some, tt)
sends_some ReadFault old now requests held holds after out refused some = absurd refused
sends_some (Protocol fault) old now requests held holds after out refused some = absurd refused
sends_some (Http word) old now requests held holds after out refused some = absurd refused
sends_some Truncated old now requests held holds after out refused some = absurd refused
sends_some OutOfMemory old now requests held holds after out refused some = absurd refused
