-- How far a stream of requests is served, step by step.
use Rattle.std.specs.Prelude.{◌≡◌, ◌⊎◌, ℕ, ◌+◌, ◌<◌, ◌≤◌, Bool, true, false, List, [], ◌∷◌, ◌++◌, Option, Result, Ok, Err, All, drop, length}
use Rattle.std.specs.Io.KnownBytes.{Appends}
use Rattle.lsm_coord.specs.Contract.Value.{CoordValue}
use Rattle.lsm_resp.specs.Enough.{enough_for_request}
use Rattle.lsm_resp.specs.declared.fault.ProtocolFault.{ProtocolFault}
use Rattle.lsm_resp.specs.declared.reply.RespReply.TheVariants as reply
use Rattle.lsm_resp.specs.Wire.{reply_bytes}
use Rattle.lsm_io.specs.Streams.{AppendsPart}
use Rattle.lsm_serve.specs.declared.answer.Answer.{Answer}
use Rattle.lsm_serve.specs.declared.error.ServeError.{ServeError}
use Rattle.lsm_serve.specs.declared.error.ServeError.TheVariants.{NoEnd, NotSynced, OutOfMemory, Protocol, ReadFault, WriteFault}
use Rattle.lsm_serve.specs.declared.serving.Reached.{Reached}
use Rattle.lsm_serve.specs.declared.serving.Reached.TheVariants.{Http, Quit, Waits}
use Rattle.lsm_serve.specs.declared.http_word.HttpWord.{HttpWord}
use Rattle.lsm_serve.specs.HttpWords.{BeginsHttp}
use Rattle.lsm_serve.specs.Serving.{AreSentAs, EndsStream, IsReplyTo, RepliesInTurn, RepliesTo, ServesSome, error_text}

-- ---- one request

-- a reply is appended
abbrev pub WritesReply : Answer → List ℕ → List ℕ → Type 0
WritesReply answer old new = (bytes : List ℕ) × IsReplyTo answer bytes × (new ≡ old ++ bytes)

-- whether the request ends the stream
abbrev pub IsLast : Bool → List (List ℕ) → Type 0
IsLast true request = EndsStream request
IsLast false request = EndsStream request → ⊥

-- a request is answered and its reply appended, and it is the last one or not; or memory runs out before it is answered, or after it
abbrev pub AnswersOne : {E : Type 0} → CoordValue → List (List ℕ) → List ℕ → List ℕ → Result Bool E → CoordValue → Type 0
AnswersOne old request out_old out_new (Ok is_last) new = (bytes : List ℕ) × RepliesTo old request bytes new × (out_new ≡ out_old ++ bytes) × IsLast is_last request
AnswersOne old request out_old out_new (Err e) new = (new ≡ old) ⊎ ((bytes : List ℕ) × RepliesInTurn old (request ∷ []) bytes new)

-- ---- replies that were kept back

-- what is written of them where they are left unsent: nothing if the store could not be synced, else a beginning
abbrev pub LeftUnsent : Option (List ℕ) → Option (List ℕ) → List ℕ → ServeError → Type 0
LeftUnsent held holds out (NotSynced why) = holds ≡ held
LeftUnsent held holds out WriteFault = AppendsPart held holds out
LeftUnsent held holds out NoEnd = AppendsPart held holds out
LeftUnsent held holds out e = ⊥

-- fewer bytes of them are kept back than the most, but for a QUIT, behind which none is answered
abbrev pub KeepsFew : ℕ → List ℕ → Reached → Type 0
KeepsFew most out (Waits at) = length out < most
KeepsFew most out (Http word) = length out < most
KeepsFew most out Quit = Unit {0}

-- why replies are not written
abbrev pub IsWriteReason : ServeError → Type 0
IsWriteReason (NotSynced why) = Unit {0}
IsWriteReason WriteFault = Unit {0}
IsWriteReason NoEnd = Unit {0}
IsWriteReason OutOfMemory = Unit {0}
IsWriteReason why = ⊥

-- why no more is read
abbrev pub IsReadReason : ServeError → Type 0
IsReadReason ReadFault = Unit {0}
IsReadReason NoEnd = Unit {0}
IsReadReason OutOfMemory = Unit {0}
IsReadReason why = ⊥

-- ---- bytes that are no request

-- why what has come is not answered
abbrev pub IsAnswerReason : ServeError → Type 0
IsAnswerReason (Protocol fault) = Unit {0}
IsAnswerReason why = IsWriteReason why

-- behind the replies that were kept back an error line is written that ends serving; or a stream, a sync or memory ends it
abbrev pub AnswersFault : ProtocolFault → Option (List ℕ) → Option (List ℕ) → List ℕ → ServeError → Type 0
AnswersFault fault held holds out (Protocol why) = (why ≡ fault) × (text : List ℕ) × Appends held holds (out ++ reply_bytes (reply.Error (error_text text)))
AnswersFault fault held holds out why = IsWriteReason why

-- ---- requests so far

-- the first requests are answered, none of them a QUIT, and whatever comes of those that follow completes the replies
pub record RepliesSoFar (old : CoordValue) (requests left : List (List (List ℕ))) (bytes : List ℕ) (now : CoordValue) : Type 0 where
  pub done : List (List (List ℕ))
  pub parted : requests ≡ done ++ left
  pub goes_on : All (λ request. EndsStream request → ⊥) done
  pub completes : (more : List (List (List ℕ))) (rest : List ℕ) (new : CoordValue) → RepliesInTurn now more rest new → RepliesInTurn old (done ++ more) (bytes ++ rest) new

-- of the replies a first part is written and the rest is kept
pub record AreSent (held holds : Option (List ℕ)) (bytes out : List ℕ) : Type 0 where
  pub sent : List ℕ
  pub kept : bytes ≡ sent ++ out
  pub written : Appends held holds sent

-- some requests are answered, none of them a QUIT, and of their replies a first part is written and the rest is kept
pub record RanSoFar (old : CoordValue) (held : Option (List ℕ)) (now : CoordValue) (out : List ℕ) (holds : Option (List ℕ)) : Type 0 where
  pub done : List (List (List ℕ))
  pub bytes : List ℕ
  pub answered : RepliesSoFar old done [] bytes now
  pub sent : AreSent held holds bytes out

-- whatever the input has, unless a QUIT is reached
abbrev pub RanTo : CoordValue → Option (List ℕ) → CoordValue → List ℕ → Option (List ℕ) → Reached → Type 0
RanTo old held now out holds (Waits at) = RanSoFar old held now out holds
RanTo old held now out holds (Http word) = RanSoFar old held now out holds
RanTo old held now out holds Quit = Unit {0}

-- the requests that are not answered yet lie ahead
pub record ServedSoFar (old : CoordValue) (requests : List (List (List ℕ))) (held : Option (List ℕ)) (now : CoordValue) (ahead : List ℕ) (out : List ℕ) (holds : Option (List ℕ)) : Type 0 where
  pub left : List (List (List ℕ))
  pub bytes : List ℕ
  pub answered : RepliesSoFar old requests left bytes now
  pub are_ahead : AreSentAs left ahead
  pub sent : AreSent held holds bytes out

-- all are answered, up to a QUIT
abbrev pub ServedAll : CoordValue → List (List (List ℕ)) → Option (List ℕ) → CoordValue → List ℕ → Option (List ℕ) → Type 0
ServedAll old requests held now out holds = (bytes : List ℕ) × RepliesInTurn old requests bytes now × AreSent held holds bytes out

-- all are answered that lie before one that begins with this word
pub record ServedBefore (word : HttpWord) (old : CoordValue) (requests : List (List (List ℕ))) (held : Option (List ℕ)) (now : CoordValue) (out : List ℕ) (holds : Option (List ℕ)) : Type 0 where
  pub request : List (List ℕ)
  pub left : List (List (List ℕ))
  pub bytes : List ℕ
  pub begins : BeginsHttp word request
  pub answered : RepliesSoFar old requests (request ∷ left) bytes now
  pub sent : AreSent held holds bytes out

-- what comes of an input with bytes that are still to come: it waits for these, unless nothing of a request is left; or a QUIT or a request of HTTP is reached
abbrev pub ServedTo : CoordValue → List (List (List ℕ)) → Option (List ℕ) → CoordValue → List ℕ → List ℕ → List ℕ → Option (List ℕ) → Reached → Type 0
ServedTo old requests held now input later out holds (Waits at) = ServedSoFar old requests held now (drop at input ++ later) out holds × (later ≡ [] → drop at input ≡ [])
ServedTo old requests held now input later out holds Quit = ServedAll old requests held now out holds
ServedTo old requests held now input later out holds (Http word) = ServedBefore word old requests held now out holds

-- what comes of an input, or what is answered if serving ends for a reason
abbrev pub ServesInput : CoordValue → List (List (List ℕ)) → Option (List ℕ) → CoordValue → List ℕ → List ℕ → List ℕ → Option (List ℕ) → Result Reached ServeError → Type 0
ServesInput old requests held new input later out holds (Ok reached) = ServedTo old requests held new input later out holds reached
ServesInput old requests held new input later out holds (Err why) = ServesSome old requests held holds why new

-- How far requests can be answered. More is waited for only of an input that is shorter than a request can be.
abbrev pub IsReachable : List ℕ → Reached → Type 0
IsReachable input (Waits at) = (at ≤ length input) × (length input < at + enough_for_request)
IsReachable input Quit = Unit {0}
IsReachable input (Http word) = Unit {0}
