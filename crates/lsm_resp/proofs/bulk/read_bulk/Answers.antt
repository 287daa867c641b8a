use Rattle.std.proofs.Common.{◌≡◌, ℕ, ◌+◌, ◌<◌, ◌≤◌, ◌^◌, List, [], ◌∷◌, ◌++◌, length, take, get_or, Option, Ok, IfNone, IfSome, ap, ◌∙◌, subst, arith, rules}
use Rattle.std.specs.Borrow.{Bor}
use Rattle.lsm_resp.specs.declared.header.Header.{Header}
use Rattle.lsm_resp.specs.declared.limits.TheConstants.{MAX_WORD_BYTES}
use Rattle.lsm_resp.specs.Pieces.{FindsBytes, FindsHeader}
use Rattle.lsm_resp.specs.Requests.{IsAhead}
use Rattle.lsm_resp.proofs.Words.{mark_is, bulk_front, bulk_rest, bulk_len, bulk_read, read_front}
use Rattle.lsm_resp.specs.Outcomes.IsPartOfWord.{of_bytes}
use Rattle.lsm_resp.specs.Wire.{header_bytes}
use Rattle.lsm_resp.proofs.bulk.read_bulk.Goals as goal
use Rattle.lsm_resp.proofs.bulk.read_bulk.Goals.{else-not-is_empty-via-then-not-is_empty+else-input-ne36, else-not-is_empty-via-else-not-is_empty}

fits : (word : List ℕ) → length word ≤ MAX_WORD_BYTES → length word < 2 ^ 64
fits word short = omega arith

pub returns-then-input-ne36-clause-found : goal.returns-then-input-ne36-clause-found
returns-then-input-ne36-clause-found c word short ahead =
    let some : 0 < length c.args.input.now = search rules in
    c.if-input-ne36.true (mark_is 36 (length word) c.args.input.now (bulk_front word c.args.input.now ahead) some)

pub returns-in_err-header-clause-found : goal.returns-in_err-header-clause-found
returns-in_err-header-clause-found c word short ahead =
    absurd (c.in_err-header.ensures.found 36 (length word) (fits word short) (bulk_front word c.args.input.now ahead))

pub returns-in_default-clause-found : goal.returns-in_default-clause-found
returns-in_default-clause-found c word short ahead =
    let none = subst (λ (o : Option Header). FindsHeader c.args.input.now (Ok o)) c.in_default.is c.in_ok-header.ensures.found in
    let few = none 36 (length word) (fits word short) (bulk_front word c.args.input.now ahead) in
    omega (arith, few, bulk_len word)

pub returns-then-header-gt-MAX_WORD_BYTES-clause-found : goal.returns-then-header-gt-MAX_WORD_BYTES-clause-found
returns-then-header-gt-MAX_WORD_BYTES-clause-found c word short ahead =
    let some = subst (λ (o : Option Header). FindsHeader c.args.input.now (Ok o)) c.in-Some.is c.in_ok-header.ensures.found in
    let is = some 36 (length word) (fits word short) (bulk_front word c.args.input.now ahead) in
    omega (arith, is.0, c.if-header-gt-MAX_WORD_BYTES.true)

pub returns-in_err-word-clause-found : goal.returns-in_err-word-clause-found
returns-in_err-word-clause-found c word short ahead =
    let some = subst (λ (o : Option Header). FindsHeader c.args.input.now (Ok o)) c.in-Some.is c.in_ok-header.ensures.found in
    let is = some 36 (length word) (fits word short) (bulk_front word c.args.input.now ahead) in
    let within : c.in-Some.header.len ≤ length c.args.input.now = search rules in
    let rest : IsAhead (word ++ 13 ∷ 10 ∷ []) c.split_at.result.1.now = rw c.split_at.ensures.back (bulk_rest word c.args.input.now c.in-Some.header.len is.1 within ahead) in
    absurd (c.in_err-word.ensures.found word is.0 rest)

pub returns-in_default-2-clause-found : goal.returns-in_default-2-clause-found
returns-in_default-2-clause-found c word short ahead =
    let some = subst (λ (o : Option Header). FindsHeader c.args.input.now (Ok o)) c.in-Some.is c.in_ok-header.ensures.found in
    let is = some 36 (length word) (fits word short) (bulk_front word c.args.input.now ahead) in
    let within : c.in-Some.header.len ≤ length c.args.input.now = search rules in
    let rest : IsAhead (word ++ 13 ∷ 10 ∷ []) c.split_at.result.1.now = rw c.split_at.ensures.back (bulk_rest word c.args.input.now c.in-Some.header.len is.1 within ahead) in
    let none = subst (λ (o : Option (Bor (List ℕ))). FindsBytes c.split_at.result.1.now c.in-Some.header.number (Ok o)) c.in_default-2.is c.in_ok-word.ensures.found in
    let few = none word is.0 rest in
    omega (arith, few, is.1, bulk_len word, c.split_at.ensures.back_len)

pub returns-clause-found : goal.returns-clause-found
returns-clause-found c word short ahead =
    let some = subst (λ (o : Option Header). FindsHeader c.args.input.now (Ok o)) c.in-Some.is c.in_ok-header.ensures.found in
    let is = some 36 (length word) (fits word short) (bulk_front word c.args.input.now ahead) in
    let within : c.in-Some.header.len ≤ length c.args.input.now = search rules in
    let rest : IsAhead (word ++ 13 ∷ 10 ∷ []) c.split_at.result.1.now = rw c.split_at.ensures.back (bulk_rest word c.args.input.now c.in-Some.header.len is.1 within ahead) in
    let found = subst (λ (o : Option (Bor (List ℕ))). FindsBytes c.split_at.result.1.now c.in-Some.header.number (Ok o)) c.in-Some-2.is c.in_ok-word.ensures.found in
    (found word is.0 rest, omega (arith, is.0, is.1, bulk_len word))

-- ---- the other way round

pub returns-in_default-2-clause-part : goal.returns-in_default-2-clause-part
returns-in_default-2-clause-part c =
    let input = c.args.input.now in
    let within = subst (λ (o : Option Header). IfSome o (λ h. (0 < h.len) × (h.len ≤ length input))) c.in-Some.is c.in_ok-header.ensures.within in
    let number = subst (λ (o : Option Header). IfSome o (λ h. (h.number < 2 ^ 64) × (take h.len input ≡ header_bytes (get_or input 0 0) h.number))) c.in-Some.is c.in_ok-header.ensures.number in
    let few = subst (λ (o : Option (Bor (List ℕ))). IfNone o (length c.split_at.result.1.now < c.in-Some.header.number + 2)) c.in_default-2.is c.in_ok-word.ensures.enough in
    let mark : get_or input 0 0 ≡ 36 = elim c.else-not-is_empty.branch [
      | else-not-is_empty-via-then-not-is_empty+else-input-ne36 w ↦ w.if-input-ne36.false
      | else-not-is_empty-via-else-not-is_empty w ↦ (let none : length input ≡ 0 = search rules in absurd (omega (arith, within, none)))
    ] in
    let front = number.1 ∙ ap (λ (m : ℕ). header_bytes m c.in-Some.header.number) mark in
    of_bytes c.in-Some.header.number c.split_at.result.1.now c.if-header-gt-MAX_WORD_BYTES.false (rw c.split_at.ensures.back (read_front (header_bytes 36 c.in-Some.header.number) input c.in-Some.header.len front)) few

pub returns-clause-word : goal.returns-clause-word
returns-clause-word c =
    let input = c.args.input.now in
    let within = subst (λ (o : Option Header). IfSome o (λ h. (0 < h.len) × (h.len ≤ length input))) c.in-Some.is c.in_ok-header.ensures.within in
    let number = subst (λ (o : Option Header). IfSome o (λ h. (h.number < 2 ^ 64) × (take h.len input ≡ header_bytes (get_or input 0 0) h.number))) c.in-Some.is c.in_ok-header.ensures.number in
    let size = subst (λ (o : Option (Bor (List ℕ))). IfSome o (λ bytes. length bytes.now ≡ c.in-Some.header.number)) c.in-Some-2.is c.in_ok-word.ensures.len in
    let ended = subst (λ (o : Option (Bor (List ℕ))). IfSome o (λ bytes. take (c.in-Some.header.number + 2) c.split_at.result.1.now ≡ bytes.now ++ 13 ∷ 10 ∷ [])) c.in-Some-2.is c.in_ok-word.ensures.ended in
    let mark : get_or input 0 0 ≡ 36 = elim c.else-not-is_empty.branch [
      | else-not-is_empty-via-then-not-is_empty+else-input-ne36 w ↦ w.if-input-ne36.false
      | else-not-is_empty-via-else-not-is_empty w ↦ (let none : length input ≡ 0 = search rules in absurd (omega (arith, within, none)))
    ] in
    bulk_read c.in-Some-2.word.now input c.in-Some.header.len c.in-Some.header.number size mark number.1 (rw c.split_at.ensures.back at ended)
