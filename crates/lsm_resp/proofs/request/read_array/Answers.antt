use Rattle.std.proofs.Common.{◌≡◌, ◌∙◌, ℕ, ◌<◌, ◌≤◌, ◌^◌, List, length, take, get_or, Option, Ok, IfNone, IfSome, ap, subst, arith, rules}
use Rattle.std.specs.List.{flat_map}
use Rattle.lsm_resp.specs.declared.bulk.Bulks.{Bulks}
use Rattle.lsm_resp.specs.declared.header.Header.{Header}
use Rattle.lsm_resp.specs.Pieces.{FindsBulks, FindsHeader}
use Rattle.lsm_resp.specs.Outcomes.{AreRead, IsPartOfRequest, IsPartOfWords, IsRequest}
use Rattle.lsm_resp.specs.Requests.{AreWords, IsAhead, words_of}
use Rattle.lsm_resp.specs.Wire.{bulk_bytes, header_bytes, request_bytes}
use Rattle.lsm_resp.proofs.Bulks.{same_fault}
use Rattle.lsm_resp.proofs.Words.{fault_of_words, read_front, request_front, request_len, request_read, request_rest}
use Rattle.lsm_resp.proofs.request.read_array.Goals as goal

fits : (words : List (List ℕ)) → AreWords words → length words < 2 ^ 64
fits words are = omega (arith, are.few)

pub returns-in_err-header-clause-found : goal.returns-in_err-header-clause-found
returns-in_err-header-clause-found c words are ahead =
    absurd (c.in_err-header.ensures.found 42 (length words) (fits words are) (request_front words c.args.input.now ahead))

pub returns-in_default-clause-found : goal.returns-in_default-clause-found
returns-in_default-clause-found c words are ahead =
    let none = subst (λ (o : Option Header). FindsHeader c.args.input.now (Ok o)) c.in_default.is c.in_ok-header.ensures.found in
    let few = none 42 (length words) (fits words are) (request_front words c.args.input.now ahead) in
    omega (arith, few, request_len words)

pub returns-then-header-gt-MAX_WORDS-clause-found : goal.returns-then-header-gt-MAX_WORDS-clause-found
returns-then-header-gt-MAX_WORDS-clause-found c words are ahead =
    let some = subst (λ (o : Option Header). FindsHeader c.args.input.now (Ok o)) c.in-Some.is c.in_ok-header.ensures.found in
    let is = some 42 (length words) (fits words are) (request_front words c.args.input.now ahead) in
    omega (arith, is.0, are.few, c.if-header-gt-MAX_WORDS.true)

pub returns-in-Ok-Some-clause-found : goal.returns-in-Ok-Some-clause-found
returns-in-Ok-Some-clause-found c words are ahead =
    let some = subst (λ (o : Option Header). FindsHeader c.args.input.now (Ok o)) c.in-Some.is c.in_ok-header.ensures.found in
    let is = some 42 (length words) (fits words are) (request_front words c.args.input.now ahead) in
    let within : c.in-Some.header.len ≤ length c.args.input.now = search rules in
    let rest : IsAhead (flat_map bulk_bytes words) c.split_at.result.1.now = rw c.split_at.ensures.back (request_rest words c.args.input.now c.in-Some.header.len is.1 within ahead) in
    let finds = subst (λ (o : Option Bulks). FindsBulks c.split_at.result.1.now c.in-Some.header.number (Ok o)) c.in-Ok-Some.field-0-is c.in-Ok-Some.ensures.found in
    let found = finds words are is.0 rest in
    (found.0, omega (arith, found.1, is.1, request_len words))

pub returns-in-Ok-None-clause-found : goal.returns-in-Ok-None-clause-found
returns-in-Ok-None-clause-found c words are ahead =
    let some = subst (λ (o : Option Header). FindsHeader c.args.input.now (Ok o)) c.in-Some.is c.in_ok-header.ensures.found in
    let is = some 42 (length words) (fits words are) (request_front words c.args.input.now ahead) in
    let within : c.in-Some.header.len ≤ length c.args.input.now = search rules in
    let rest : IsAhead (flat_map bulk_bytes words) c.split_at.result.1.now = rw c.split_at.ensures.back (request_rest words c.args.input.now c.in-Some.header.len is.1 within ahead) in
    let finds = subst (λ (o : Option Bulks). FindsBulks c.split_at.result.1.now c.in-Some.header.number (Ok o)) c.in-Ok-None.field-0-is c.in-Ok-None.ensures.found in
    let few = finds words are is.0 rest in
    omega (arith, few, is.1, request_len words, c.split_at.ensures.back_len)

pub returns-in-Err-clause-found : goal.returns-in-Err-clause-found
returns-in-Err-clause-found c words are ahead =
    let some = subst (λ (o : Option Header). FindsHeader c.args.input.now (Ok o)) c.in-Some.is c.in_ok-header.ensures.found in
    let is = some 42 (length words) (fits words are) (request_front words c.args.input.now ahead) in
    let within : c.in-Some.header.len ≤ length c.args.input.now = search rules in
    let rest : IsAhead (flat_map bulk_bytes words) c.split_at.result.1.now = rw c.split_at.ensures.back (request_rest words c.args.input.now c.in-Some.header.len is.1 within ahead) in
    same_fault c.args.input.now c.split_at.result.1.now (flat_map bulk_bytes words) (request_bytes words) words c.in-Err.why (c.in-Err.ensures.found words are is.0 rest)

-- ---- the other way round

pub returns-in-Ok-Some-clause-request : goal.returns-in-Ok-Some-clause-request
returns-in-Ok-Some-clause-request c =
    let input = c.args.input.now in
    let rest = c.split_at.result.1.now in
    let number = subst (λ (o : Option Header). IfSome o (λ h. (h.number < 2 ^ 64) × (take h.len input ≡ header_bytes (get_or input 0 0) h.number))) c.in-Some.is c.in_ok-header.ensures.number in
    let front = number.1 ∙ ap (λ (m : ℕ). header_bytes m c.in-Some.header.number) c.requires in
    let are = subst (λ (o : Option Bulks). IfSome o (λ b. AreRead c.in-Some.header.number (words_of b.words.items) (take b.len rest))) c.in-Ok-Some.field-0-is c.in-Ok-Some.ensures.words in
    let limits : AreWords (words_of c.in-Ok-Some.found.words.items) = record { few = omega (arith, are.all, c.if-header-gt-MAX_WORDS.false); short = are.short; light = are.light } in
    IsRequest.array limits (request_read (words_of c.in-Ok-Some.found.words.items) input c.in-Some.header.len c.in-Ok-Some.found.len c.in-Some.header.number are.all front (rw c.split_at.ensures.back at are.is))

pub returns-in-Ok-None-clause-partial : goal.returns-in-Ok-None-clause-partial
returns-in-Ok-None-clause-partial c =
    let input = c.args.input.now in
    let rest = c.split_at.result.1.now in
    let number = subst (λ (o : Option Header). IfSome o (λ h. (h.number < 2 ^ 64) × (take h.len input ≡ header_bytes (get_or input 0 0) h.number))) c.in-Some.is c.in_ok-header.ensures.number in
    let front = number.1 ∙ ap (λ (m : ℕ). header_bytes m c.in-Some.header.number) c.requires in
    let part = subst (λ (o : Option Bulks). IfNone o (IsPartOfWords c.in-Some.header.number rest)) c.in-Ok-None.field-0-is c.in-Ok-None.ensures.part in
    IsPartOfRequest.of_words c.in-Some.header.number rest c.if-header-gt-MAX_WORDS.false (rw c.split_at.ensures.back (read_front (header_bytes 42 c.in-Some.header.number) input c.in-Some.header.len front)) part

pub returns-in-Err-clause-refused : goal.returns-in-Err-clause-refused
returns-in-Err-clause-refused c =
    let input = c.args.input.now in
    let number = subst (λ (o : Option Header). IfSome o (λ h. (h.number < 2 ^ 64) × (take h.len input ≡ header_bytes (get_or input 0 0) h.number))) c.in-Some.is c.in_ok-header.ensures.number in
    let front = number.1 ∙ ap (λ (m : ℕ). header_bytes m c.in-Some.header.number) c.requires in
    fault_of_words input c.in-Some.header.number c.split_at.result.1.now c.in-Err.why c.if-header-gt-MAX_WORDS.false (rw c.split_at.ensures.back (read_front (header_bytes 42 c.in-Some.header.number) input c.in-Some.header.len front)) c.in-Err.ensures.refused
