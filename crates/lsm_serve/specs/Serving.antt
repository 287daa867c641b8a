-- The replies to a stream of requests (Redis serialization protocol specification, RESP2: pipelining; Redis commands reference: QUIT).
use Rattle.std.specs.Prelude.{◌≡◌, ◌⊎◌, ℕ, List, [], ◌∷◌, ◌++◌, Option, Some, Result, Ok, Err, All, codes, map, nat_eq, ◌||◌, if◌then◌else◌}
use Rattle.std.specs.Io.KnownBytes.{Appends}
use Rattle.lsm_coord.specs.Contract.Calls.{MayHaveFailed}
use Rattle.lsm_coord.specs.Contract.Value.{CoordValue}
use Rattle.lsm_resp.specs.declared.reply.RespReply.TheVariants as reply
use Rattle.lsm_resp.specs.Lines.{IsLine, line_words}
use Rattle.lsm_resp.specs.Requests.{AreWords}
use Rattle.lsm_io.specs.Streams.{AppendsPart}
use Rattle.lsm_resp.specs.Wire.{reply_bytes, request_bytes}
use Rattle.lsm_serve.specs.declared.answer.Answer.{Answer}
use Rattle.lsm_serve.specs.declared.answer.Answer.TheVariants.{Refused, Reply}
use Rattle.lsm_serve.specs.declared.command.Command.TheVariants as command
use Rattle.lsm_serve.specs.declared.error.ServeError.{ServeError}
use Rattle.lsm_serve.specs.declared.error.ServeError.TheVariants.{Http, NoEnd, NotSynced, OutOfMemory, Protocol, ReadFault, Truncated, WriteFault}
use Rattle.lsm_serve.specs.Answers.{AnswersRequest}
use Rattle.lsm_serve.specs.Commands.{IsCalled}
use Rattle.lsm_serve.specs.declared.http_word.HttpWord.{HttpWord}
use Rattle.lsm_serve.specs.HttpWords.{BeginsHttp, IsNoHttp}

-- ---- one request

-- a byte of a line: a line end is written as a space
abbrev pub in_line : ℕ → ℕ
in_line byte = if nat_eq byte 13 || nat_eq byte 10 then 32 else byte

-- the text of an error line: ERR, and the reason without line ends
abbrev pub error_text : List ℕ → List ℕ
error_text text = codes "ERR " ++ map in_line text

-- the bytes of an answer: a refusal is an error line of `ERR` and a text
abbrev pub IsReplyTo : Answer → List ℕ → Type 0
IsReplyTo (Reply reply) bytes = bytes ≡ reply_bytes reply
IsReplyTo (Refused why) bytes = (text : List ℕ) × (bytes ≡ reply_bytes (reply.Error (error_text text)))

-- the bytes that a request gets: those of its answer, and none if it has no words; a request of HTTP gets no answer. Where INFO
-- says up to which sequence the store was synced, that is some sequence: what outlives a device is no part of a store's value.
abbrev pub RepliesTo : CoordValue → List (List ℕ) → List ℕ → CoordValue → Type 0
RepliesTo old [] bytes new = (bytes ≡ []) × (new ≡ old)
RepliesTo old (name ∷ args) bytes new = (synced : ℕ) × (answer : Answer) × AnswersRequest synced old (name ∷ args) answer new × IsReplyTo answer bytes × IsNoHttp (name ∷ args)

-- QUIT, which takes no argument
abbrev pub EndsStream : List (List ℕ) → Type 0
EndsStream (name ∷ []) = IsCalled name command.Quit
EndsStream words = ⊥

-- ---- a stream of requests

-- The replies to requests in turn, to each by what those before it left: a QUIT is the last that is answered. Before each and behind the
-- last one the store may be synced, by which its device may fail, and nothing else changes.
abbrev pub RepliesInTurn : CoordValue → List (List (List ℕ)) → List ℕ → CoordValue → Type 0
RepliesInTurn old [] bytes new = (bytes ≡ []) × MayHaveFailed old new
RepliesInTurn old (request ∷ requests) bytes new =
    (from : CoordValue) × MayHaveFailed old from
    × (first : List ℕ) × (mid : CoordValue) × RepliesTo from request first mid
    × ((EndsStream request × (bytes ≡ first) × MayHaveFailed mid new)
    ⊎ ((EndsStream request → ⊥) × (rest : List ℕ) × RepliesInTurn mid requests rest new × (bytes ≡ first ++ rest)))

-- the bytes are a request's: an array of its words within the limits, or a line of them
abbrev pub IsSentAs : List (List ℕ) → List ℕ → Type 0
IsSentAs words bytes = (AreWords words × (bytes ≡ request_bytes words)) ⊎ ((line : List ℕ) × IsLine line × (words ≡ line_words line) × (bytes ≡ line ++ 10 ∷ []))

-- the bytes are those of the requests, one after another
abbrev pub AreSentAs : List (List (List ℕ)) → List ℕ → Type 0
AreSentAs [] bytes = bytes ≡ []
AreSentAs (request ∷ requests) bytes = (first : List ℕ) × (rest : List ℕ) × IsSentAs request first × AreSentAs requests rest × (bytes ≡ first ++ rest)

-- a reader whose bytes are known has these requests left, each within the limits, and nothing else
pub record AreAhead (known : Option (List ℕ)) (requests : List (List (List ℕ))) : Type 0 where
  pub bytes : List ℕ
  pub bytes_are : known ≡ Some bytes
  pub are : AreSentAs requests bytes

-- the first requests are answered, and a beginning of the replies is written
pub record RepliesToSome (old : CoordValue) (requests : List (List (List ℕ))) (held holds : Option (List ℕ)) (new : CoordValue) : Type 0 where
  pub done : List (List (List ℕ))
  pub left : List (List (List ℕ))
  pub bytes : List ℕ
  pub parted : requests ≡ done ++ left
  pub replies : RepliesInTurn old done bytes new
  pub written : AppendsPart held holds bytes

-- the requests before one that begins with this word are answered, none of them a QUIT, and all replies to them are written; that one and those
-- behind it are not answered
pub record RepliesBefore (word : HttpWord) (old : CoordValue) (requests : List (List (List ℕ))) (held holds : Option (List ℕ)) (new : CoordValue) : Type 0 where
  pub done : List (List (List ℕ))
  pub request : List (List ℕ)
  pub left : List (List (List ℕ))
  pub bytes : List ℕ
  pub parted : requests ≡ done ++ request ∷ left
  pub begins : BeginsHttp word request
  pub goes_on : All (λ it. EndsStream it → ⊥) done
  pub replies : RepliesInTurn old done bytes new
  pub written : Appends held holds bytes

-- the error is a stream's, a sync's or memory's, never a request's
abbrev pub IsNoFault : ServeError → Type 0
IsNoFault (Protocol fault) = ⊥
IsNoFault Truncated = ⊥
IsNoFault (Http word) = ⊥
IsNoFault ReadFault = Unit {0}
IsNoFault WriteFault = Unit {0}
IsNoFault NoEnd = Unit {0}
IsNoFault (NotSynced why) = Unit {0}
IsNoFault OutOfMemory = Unit {0}

-- what is answered if serving ends for this reason
abbrev pub ServesSome : CoordValue → List (List (List ℕ)) → Option (List ℕ) → Option (List ℕ) → ServeError → CoordValue → Type 0
ServesSome old requests held holds (Http word) new = RepliesBefore word old requests held holds new
ServesSome old requests held holds why new = RepliesToSome old requests held holds new × IsNoFault why

-- Bytes that are no request end serving: then what is written is all replies to some requests, by which the store came to what it holds,
-- and an error line behind them.
abbrev pub AnswersLast : {A : Type 0} → CoordValue → Option (List ℕ) → Option (List ℕ) → Result A ServeError → CoordValue → Type 0
AnswersLast old held holds (Err (Protocol fault)) new =
    (requests : List (List (List ℕ))) × (bytes : List ℕ) × (text : List ℕ) × RepliesInTurn old requests bytes new × Appends held holds (bytes ++ reply_bytes (reply.Error (error_text text)))
AnswersLast old held holds answer new = Unit {0}

-- the replies to all requests are written, or to the first ones
abbrev pub ServesRequests : {A : Type 0} → CoordValue → List (List (List ℕ)) → Option (List ℕ) → Option (List ℕ) → Result A ServeError → CoordValue → Type 0
ServesRequests old requests held holds (Ok done) new = (bytes : List ℕ) × RepliesInTurn old requests bytes new × Appends held holds bytes
ServesRequests old requests held holds (Err why) new = ServesSome old requests held holds why new
