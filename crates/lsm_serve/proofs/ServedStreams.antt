-- A stream of requests that is served so far, by what is found ahead.
use Rattle.std.proofs.Common.{◌≡◌, ◌∙◌, inl, inr, ℕ, ◌+◌, ◌<◌, ◌≤◌, List, [], ◌∷◌, ◌++◌, Option, Result, Ok, Err, Bool, true, false, IsTrue, ◌↔◌, append-nil, length, drop, length-append, refl, sym, ap, subst, arith}
use Rattle.std.proofs.lemmas.List.{drop-append-le, drop-drop}
use Rattle.std.proofs.Math.Seq.{drop-append_seam}
use Rattle.std.specs.Borrow.{Bor}
use Rattle.std.specs.Io.KnownBytes.{Appends}
use Rattle.lsm_coord.specs.Contract.Value.{CoordValue}
use Rattle.lsm_resp.proofs.Words.{request_some}
use Rattle.lsm_resp.specs.Lines.{FindsLineRequest}
use Rattle.lsm_resp.specs.Requests.{FindsRequest, FindsWords, IsAhead, TakesWithin, words_of}
use Rattle.lsm_resp.specs.declared.fault.ParseError.{ParseError}
use Rattle.lsm_resp.specs.declared.request.Parsed.{Parsed}
use Rattle.lsm_serve.specs.declared.error.ServeError.{ServeError}
use Rattle.lsm_serve.specs.declared.error.ServeError.TheVariants.{NoEnd, OutOfMemory, ReadFault}
use Rattle.lsm_resp.specs.declared.request.Parsed.TheVariants.{Partial, Request}
use Rattle.lsm_io.specs.Streams.{AppendsPart}
use Rattle.lsm_resp.specs.Wire.{reply_bytes}
use Rattle.lsm_resp.specs.declared.reply.RespReply.TheVariants as reply
use Rattle.lsm_serve.specs.declared.answer.Answer.{Answer}
use Rattle.lsm_serve.specs.declared.answer.Answer.TheVariants.{Refused, Reply}
use Rattle.lsm_serve.specs.Answers.{AnswersRequest}
use Rattle.lsm_serve.specs.declared.http_word.HttpWord.{HttpWord}
use Rattle.lsm_serve.specs.HttpWords.{BeginsHttp, IsNoHttp}
use Rattle.lsm_serve.specs.Serving.{AreSentAs, EndsStream, IsReplyTo, IsSentAs, RepliesInTurn, RepliesTo, RepliesToSome, ServesSome, error_text}
use Rattle.lsm_serve.specs.ServingSteps.{AnswersOne, RepliesSoFar, AreSent, IsLast, IsReadReason, ServedAll, ServedBefore, ServedSoFar}
use Rattle.lsm_serve.proofs.RequestsSoFar.{Requests, answered_all, answered_last, answered_more, answered_next, answered_none, answered_some, sent_all, sent_more, sent_none, sent_part, sent_part_of_out, sent_so_far}
use Rattle.lsm_serve.proofs.Syncs.{may_stay}

-- ---- bytes

no_bytes : (a b : List ℕ) → a ++ b ≡ [] → a ≡ []
no_bytes [] b e = refl
no_bytes (x ∷ a) b e = absurd cc

-- a request has bytes
sent_some : (words : List (List ℕ)) (bytes : List ℕ) → IsSentAs words bytes → 0 < length bytes
sent_some words bytes (inl (fit, is)) = let size = ap (λ (xs : List ℕ). length xs) is in omega (arith, size, request_some words)
sent_some words bytes (inr (line, fit, same, is)) = let size = ap (λ (xs : List ℕ). length xs) is in omega (arith, size, length-append line (10 ∷ []))

-- no bytes are no requests
no_requests : (left : Requests) (ahead : List ℕ) → AreSentAs left ahead → ahead ≡ [] → left ≡ []
no_requests [] ahead are none = refl
no_requests (request ∷ left) ahead (first, rest, is, more, joined) none =
    absurd (let size = ap (λ (xs : List ℕ). length xs) (sym joined ∙ none) in omega (arith, size, sent_some request first is, length-append first rest))

-- the bytes behind a request
behind : (rest later a b : List ℕ) (len : ℕ) → rest ++ later ≡ a ++ b → len ≡ length a → len ≤ length rest → drop len rest ++ later ≡ b
behind rest later a b len is size within = sym (drop-append-le len rest later within) ∙ ap (drop len) is ∙ ap (λ (n : ℕ). drop n (a ++ b)) size ∙ drop-append_seam a b

-- ---- a request

pub replies_to : (synced : ℕ) (old new : CoordValue) (lent : List (Bor (List ℕ))) (answer : Answer) (bytes : List ℕ) → 0 < length lent → AnswersRequest synced old (words_of lent) answer new → IsReplyTo answer bytes → IsNoHttp (words_of lent) → RepliesTo old (words_of lent) bytes new
replies_to synced old new [] answer bytes some answers is other = absurd (omega (arith, some))
replies_to synced old new (name ∷ args) answer bytes some answers is other = (synced, answer, answers, is, other)

-- the bytes of an answer, whatever the text of a refusal
some_reply : (answer : Answer) → (bytes : List ℕ) × IsReplyTo answer bytes
some_reply (Reply reply) = (reply_bytes reply, refl)
some_reply (Refused why) = (reply_bytes (reply.Error (error_text [])), ([], refl))

replies_once : (old new : CoordValue) (request : List (List ℕ)) (bytes : List ℕ) (is_last : Bool) → RepliesTo old request bytes new → IsLast is_last request → RepliesInTurn old (request ∷ []) bytes new
replies_once old new request bytes true replies ends = (old, may_stay old, bytes, new, replies, inl (ends, refl, may_stay new))
replies_once old new request bytes false replies other = (old, may_stay old, bytes, new, replies, inr (other, [], (refl, may_stay new), sym (append-nil bytes)))

-- a request that is answered, although its reply is not written
pub answered_only : (synced : ℕ) (old new : CoordValue) (lent : List (Bor (List ℕ))) (answer : Answer) (is_last : Bool) → 0 < length lent → AnswersRequest synced old (words_of lent) answer new → IsNoHttp (words_of lent) → IsLast is_last (words_of lent) → (bytes : List ℕ) × RepliesInTurn old (words_of lent ∷ []) bytes new
answered_only synced old new lent answer is_last some answers other last =
    let reply = some_reply answer in
    (reply.0, replies_once old new (words_of lent) reply.0 is_last (replies_to synced old new lent answer reply.0 some answers reply.1 other) last)

pub last_is : (is_last : Bool) (request : List (List ℕ)) → (IsTrue is_last ↔ EndsStream request) → IsLast is_last request
last_is true request e = e.0 refl
last_is false request e = λ ends. (let wrong = e.1 ends in cc)

-- ---- at first

pub served_none : (old : CoordValue) (requests : Requests) (held : Option (List ℕ)) (ahead out : List ℕ) → AreSentAs requests ahead → out ≡ [] → ServedSoFar old requests held old ahead out held
served_none old requests held ahead out are none = record {
  left = requests;
  bytes = [];
  answered = answered_none old requests;
  are_ahead = are;
  sent = subst (λ (o : List ℕ). AreSent held held [] o) (sym none) (sent_none held);
}

module _ (old now : CoordValue) (requests : Requests) (held holds : Option (List ℕ)) (ahead out : List ℕ) (s : ServedSoFar old requests held now ahead out holds) where
  pub served_some : RepliesToSome old requests held holds now
  served_some = answered_some old now requests s.left s.bytes s.answered held holds (sent_so_far held holds s.bytes out s.sent)

  pub served_written : (after : Option (List ℕ)) (out_new : List ℕ) → Appends holds after out → out_new ≡ [] → ServedSoFar old requests held now ahead out_new after
  served_written after out_new wrote none = record { left = s.left; bytes = s.bytes; answered = s.answered; are_ahead = s.are_ahead; sent = sent_all held holds s.bytes out s.sent after out_new wrote none }

  pub served_part : (after : Option (List ℕ)) → AppendsPart holds after out → RepliesToSome old requests held after now
  served_part after part = answered_some old now requests s.left s.bytes s.answered held after (sent_part_of_out held holds s.bytes out s.sent after part)

  -- nothing is ahead any more
  pub served_to_end : ahead ≡ [] → (replies : List ℕ) × RepliesInTurn old requests replies now × AreSent held holds replies out
  served_to_end none =
      let left_none : s.left ≡ [] = no_requests s.left ahead s.are_ahead none in
      (s.bytes, answered_all old now requests s.bytes (subst (λ (l : Requests). RepliesSoFar old requests l s.bytes now) left_none s.answered), s.sent)

-- ---- by what is found

-- what is found of a request that lies ahead: its words, or that it has not come, or a fault
abbrev FindsIt : List ℕ → List (Bor (List ℕ)) → ℕ → Type 0
FindsIt rest lent len = (words : List (List ℕ)) (bytes : List ℕ) → IsSentAs words bytes → IsAhead bytes rest → (words_of lent ≡ words) × (len ≡ length bytes)

abbrev FindsPart : List ℕ → Type 0
FindsPart rest = (words : List (List ℕ)) (bytes : List ℕ) → IsSentAs words bytes → IsAhead bytes rest → length rest < length bytes

abbrev FindsFault : List ℕ → Type 0
FindsFault rest = (words : List (List ℕ)) (bytes : List ℕ) → IsSentAs words bytes → IsAhead bytes rest → ⊥

-- whatever request lies ahead, it is the one that is found
abbrev pub FindsSent : List ℕ → Result Parsed ParseError → Type 0
FindsSent rest found = (words : List (List ℕ)) (bytes : List ℕ) → IsSentAs words bytes → IsAhead bytes rest → FindsWords rest words bytes found

pub finds_sent : (rest : List ℕ) (found : Result Parsed ParseError) → FindsRequest rest found → FindsLineRequest rest found → FindsSent rest found
finds_sent rest found array line words bytes (inl (fit, is)) ahead =
    subst (λ (b : List ℕ). FindsWords rest words b found) (sym is) (array words fit (subst (λ (b : List ℕ). IsAhead b rest) is ahead))
finds_sent rest found array line words bytes (inr (text, fit, same, is)) ahead =
    subst (λ (b : List ℕ). FindsWords rest words b found) (sym is)
    (subst (λ (ws : List (List ℕ)). FindsWords rest ws (text ++ 10 ∷ []) found) (sym same) (line text fit (subst (λ (b : List ℕ). IsAhead b rest) is ahead)))

-- how the answer to a request leaves a stream
abbrev pub Leaves : {E : Type 0} → CoordValue → Requests → Option (List ℕ) → Option (List ℕ) → List ℕ → List ℕ → Result Bool E → CoordValue → Type 0
Leaves old requests held holds ahead out (Ok false) mid = ServedSoFar old requests held mid ahead out holds
Leaves old requests held holds ahead out (Ok true) mid = ServedAll old requests held mid out holds
Leaves old requests held holds ahead out (Err e) mid = RepliesToSome old requests held holds mid

module _ (old now : CoordValue) (requests left : Requests) (request : List (List ℕ)) (held holds : Option (List ℕ)) (rest later out bytes first others : List ℕ)
    (answered : RepliesSoFar old requests (request ∷ left) bytes now) (is_request : IsSentAs request first) (are_others : AreSentAs left others) (ahead : rest ++ later ≡ first ++ others) (sent : AreSent held holds bytes out) where
  is_ahead : IsAhead first rest
  is_ahead = record { later = later; rest = others; is = ahead }

  next_waits : FindsPart rest → later ≡ [] → rest ≡ []
  next_waits finds none =
      let few = finds request first is_request is_ahead in
      let size = ap (λ (xs : List ℕ). length xs) ahead in
      let nothing = ap (λ (xs : List ℕ). length xs) none in
      absurd (omega (arith, few, size, nothing, length-append rest later, length-append first others))

  next_http : (word : HttpWord) (lent : List (Bor (List ℕ))) (len : ℕ) → FindsIt rest lent len → BeginsHttp word (words_of lent) → ServedBefore word old requests held now out holds
  next_http word lent len finds begins = record {
    request = request;
    left = left;
    bytes = bytes;
    begins = subst (λ (ws : List (List ℕ)). BeginsHttp word ws) (finds request first is_request is_ahead).0 begins;
    answered = answered;
    sent = sent;
  }

  next_fault : FindsFault rest → ⊥
  next_fault finds = finds request first is_request is_ahead

  next_leaves : {E : Type 0} (lent : List (Bor (List ℕ))) (len : ℕ) (out_new : List ℕ) (mid : CoordValue) (r : Result Bool E)
      → FindsIt rest lent len → len ≤ length rest → AnswersOne now (words_of lent) out out_new r mid → Leaves old requests held holds (drop len rest ++ later) out_new r mid
  next_leaves lent len out_new mid (Ok false) finds within one =
      let found = finds request first is_request is_ahead in
      let it : AnswersOne {E = Unit {0}} now request out out_new (Ok false) mid = subst (λ (ws : List (List ℕ)). AnswersOne {E = Unit {0}} now ws out out_new (Ok false) mid) found.0 one in
      record {
        left = left;
        bytes = bytes ++ it.0;
        answered = answered_next old now mid requests left request bytes it.0 answered it.1 it.3;
        are_ahead = subst (λ (b : List ℕ). AreSentAs left b) (sym (behind rest later first others len ahead found.1 within)) are_others;
        sent = sent_more held holds bytes out sent it.0 out_new it.2;
      }
  next_leaves lent len out_new mid (Ok true) finds within one =
      let found = finds request first is_request is_ahead in
      let it : AnswersOne {E = Unit {0}} now request out out_new (Ok true) mid = subst (λ (ws : List (List ℕ)). AnswersOne {E = Unit {0}} now ws out out_new (Ok true) mid) found.0 one in
      (bytes ++ it.0, answered_last old now mid requests left request bytes it.0 answered it.1 it.3, sent_more held holds bytes out sent it.0 out_new it.2)
  next_leaves lent len out_new mid (Err e) finds within (inl same) =
      subst (λ (c : CoordValue). RepliesToSome old requests held holds c) (sym same) (answered_some old now requests (request ∷ left) bytes answered held holds (sent_so_far held holds bytes out sent))
  next_leaves lent len out_new mid (Err e) finds within (inr one) =
      let found = finds request first is_request is_ahead in
      let replies : RepliesInTurn now (request ∷ []) one.0 mid = subst (λ (ws : List (List ℕ)). RepliesInTurn now (ws ∷ []) one.0 mid) found.0 one.1 in
      answered_more old now mid requests left request bytes one.0 answered held holds replies (sent_part held holds bytes out sent one.0)

module _ (old now : CoordValue) (requests : Requests) (held holds : Option (List ℕ)) (rest later out : List ℕ) where
  waits_by : (left : Requests) (bytes : List ℕ) → RepliesSoFar old requests left bytes now → AreSentAs left (rest ++ later) → AreSent held holds bytes out → FindsPart rest → later ≡ [] → rest ≡ []
  waits_by [] bytes answered ahead sent finds none = no_bytes rest later ahead
  waits_by (request ∷ left) bytes answered (first, others, is_request, are_others, ahead) sent finds none = next_waits old now requests left request held holds rest later out bytes first others answered is_request are_others ahead sent finds none

  fault_by : (left : Requests) (bytes : List ℕ) → RepliesSoFar old requests left bytes now → AreSentAs left (rest ++ later) → AreSent held holds bytes out → FindsFault rest → (rest ≡ [] → ⊥) → ⊥
  fault_by [] bytes answered ahead sent finds some = some (no_bytes rest later ahead)
  fault_by (request ∷ left) bytes answered (first, others, is_request, are_others, ahead) sent finds some = next_fault old now requests left request held holds rest later out bytes first others answered is_request are_others ahead sent finds

  http_by : (word : HttpWord) (left : Requests) (bytes : List ℕ) → RepliesSoFar old requests left bytes now → AreSentAs left (rest ++ later) → AreSent held holds bytes out
      → (lent : List (Bor (List ℕ))) (len : ℕ) → FindsIt rest lent len → (rest ≡ [] → ⊥) → BeginsHttp word (words_of lent) → ServedBefore word old requests held now out holds
  http_by word [] bytes answered ahead sent lent len finds some begins = absurd (some (no_bytes rest later ahead))
  http_by word (request ∷ left) bytes answered (first, others, is_request, are_others, ahead) sent lent len finds some begins = next_http old now requests left request held holds rest later out bytes first others answered is_request are_others ahead sent word lent len finds begins

  leaves_by : {E : Type 0} (left : Requests) (bytes : List ℕ) → RepliesSoFar old requests left bytes now → AreSentAs left (rest ++ later) → AreSent held holds bytes out
      → (lent : List (Bor (List ℕ))) (len : ℕ) (out_new : List ℕ) (mid : CoordValue) (r : Result Bool E)
      → FindsIt rest lent len → (rest ≡ [] → ⊥) → len ≤ length rest → AnswersOne now (words_of lent) out out_new r mid → Leaves old requests held holds (drop len rest ++ later) out_new r mid
  leaves_by [] bytes answered ahead sent lent len out_new mid r finds some within one = absurd (some (no_bytes rest later ahead))
  leaves_by (request ∷ left) bytes answered (first, others, is_request, are_others, ahead) sent lent len out_new mid r finds some within one =
      next_leaves old now requests left request held holds rest later out bytes first others answered is_request are_others ahead sent lent len out_new mid r finds within one

  module _ (s : ServedSoFar old requests held now (rest ++ later) out holds) where
    pub served_waits : FindsPart rest → later ≡ [] → rest ≡ []
    served_waits = waits_by s.left s.bytes s.answered s.are_ahead s.sent

    pub served_fault : FindsFault rest → (rest ≡ [] → ⊥) → ⊥
    served_fault = fault_by s.left s.bytes s.answered s.are_ahead s.sent

    pub served_http : (word : HttpWord) (lent : List (Bor (List ℕ))) (len : ℕ) → FindsIt rest lent len → (rest ≡ [] → ⊥) → BeginsHttp word (words_of lent) → ServedBefore word old requests held now out holds
    served_http word = http_by word s.left s.bytes s.answered s.are_ahead s.sent

    pub served_leaves : {E : Type 0} (lent : List (Bor (List ℕ))) (len : ℕ) (out_new : List ℕ) (mid : CoordValue) (r : Result Bool E)
        → FindsIt rest lent len → (rest ≡ [] → ⊥) → len ≤ length rest → AnswersOne now (words_of lent) out out_new r mid → Leaves old requests held holds (drop len rest ++ later) out_new r mid
    served_leaves = leaves_by s.left s.bytes s.answered s.are_ahead s.sent

-- ---- at an index of the input

pub record IsFound (rest : List ℕ) (lent : List (Bor (List ℕ))) (len : ℕ) : Type 0 where
  pub finds : FindsIt rest lent len
  pub some : rest ≡ [] → ⊥
  pub taken : 0 < len
  pub within : len ≤ length rest

-- what is found if it is a request
abbrev pub WhenRequest : List ℕ → Parsed → Type 0
WhenRequest rest (Request lent len) = IsFound rest lent.items len
WhenRequest rest Partial = Unit {0}

pub request_is : (rest : List ℕ) (parsed : Parsed) → FindsSent rest (Ok parsed) → (rest ≡ [] → parsed ≡ Partial) → TakesWithin rest parsed → WhenRequest rest parsed
request_is rest (Request lent len) finds nothing within = record { finds = finds; some = λ e. (let wrong = nothing e in cc); taken = within.0; within = within.1 }
request_is rest Partial finds nothing within = tt

module _ (old now : CoordValue) (requests : Requests) (held holds : Option (List ℕ)) (input rest later out : List ℕ) (at : ℕ) (is : rest ≡ drop at input)
    (s : ServedSoFar old requests held now (drop at input ++ later) out holds) where
  here : ServedSoFar old requests held now (rest ++ later) out holds
  here = subst (λ (b : List ℕ). ServedSoFar old requests held now (b ++ later) out holds) (sym is) s

  pub waits_at : FindsPart rest → later ≡ [] → drop at input ≡ []
  waits_at finds none = sym is ∙ served_waits old now requests held holds rest later out here finds none

  pub fault_at : FindsFault rest → (rest ≡ [] → ⊥) → ⊥
  fault_at finds some = served_fault old now requests held holds rest later out here finds some

  pub http_at : (word : HttpWord) (lent given : List (Bor (List ℕ))) (len : ℕ) → IsFound rest lent len → given ≡ lent → BeginsHttp word (words_of given) → ServedBefore word old requests held now out holds
  http_at word lent given len found same begins =
      served_http old now requests held holds rest later out here word lent len found.finds found.some (subst (λ (l : List (Bor (List ℕ))). BeginsHttp word (words_of l)) same begins)

  pub leaves_at : {E : Type 0} (lent given : List (Bor (List ℕ))) (len : ℕ) (out_new : List ℕ) (mid : CoordValue) (r : Result Bool E)
      → IsFound rest lent len → given ≡ lent → AnswersOne now (words_of given) out out_new r mid → Leaves old requests held holds (drop (at + len) input ++ later) out_new r mid
  leaves_at lent given len out_new mid r found same one =
      let it = subst (λ (l : List (Bor (List ℕ))). AnswersOne now (words_of l) out out_new r mid) same one in
      subst (λ (b : List ℕ). Leaves old requests held holds (b ++ later) out_new r mid) (ap (drop len) is ∙ drop-drop len at input)
      (served_leaves old now requests held holds rest later out here lent len out_new mid r found.finds found.some found.within it)

-- that no more is read is a reason to end
pub serves_some : (why : ServeError) (old now : CoordValue) (requests : Requests) (held holds : Option (List ℕ)) → IsReadReason why → RepliesToSome old requests held holds now → ServesSome old requests held holds why now
serves_some ReadFault old now requests held holds is some = (some, tt)
serves_some NoEnd old now requests held holds is some = (some, tt)
serves_some OutOfMemory old now requests held holds is some = (some, tt)
serves_some why old now requests held holds is some = absurd is
