use Rattle.std.proofs.Common.{◌≡◌, ◌≤◌, [], ◌∷◌, ◌++◌, ◌+◌, ◌<◌, length, take, Option, Ok, IfNone, IfSome, subst, arith}
use Rattle.lsm_resp.specs.declared.bulk.Bulk.{Bulk}
use Rattle.lsm_resp.specs.Enough.{enough_for_bulk, enough_for_header}
use Rattle.lsm_resp.specs.declared.limits.TheConstants.{MAX_WORD_BYTES}
use Rattle.lsm_resp.specs.Outcomes.{IsFaultOfWords, IsPartOfWord}
use Rattle.lsm_resp.specs.Pieces.{FindsBulk}
use Rattle.lsm_resp.specs.Requests.{words_of}
use Rattle.lsm_resp.specs.Wire.{bulk_bytes}
use Rattle.lsm_resp.proofs.Bulks.{are_passed, fault_next, never_over, next_word, no_fault, none_come, over_next, refused_so, to_more}
use Rattle.lsm_resp.proofs.bulk.read_bulks.Goals as goal

pub returns-in_err-bulk-clause-found : goal.returns-in_err-bulk-clause-found
returns-in_err-bulk-clause-found c words are e ahead =
    let so = c.loop-done.invariant.so words are e ahead in
    absurd (no_fault words c.args.input.now c.split_at.result.1.now c.loop-done.words.items c.loop-done.len c.loop-done.total c.loop-done._done c.in_err-bulk.field-0.0 so (omega (arith, c.loop-done-test.true, e)) c.split_at.ensures.back c.in_err-bulk.ensures.found)

pub returns-in_default-clause-found : goal.returns-in_default-clause-found
returns-in_default-clause-found c words are e ahead =
    let so = c.loop-done.invariant.so words are e ahead in
    let finds = subst (λ (o : Option Bulk). FindsBulk c.split_at.result.1.now (Ok o)) c.in_default.is c.in_ok-bulk.ensures.found in
    none_come words c.args.input.now c.split_at.result.1.now c.loop-done.words.items c.loop-done.len c.loop-done.total c.loop-done._done so (omega (arith, c.loop-done-test.true, e)) c.split_at.ensures.back c.loop-done.invariant.within finds

pub returns-then-total-gt-MAX_REQUEST_BYTES-clause-found : goal.returns-then-total-gt-MAX_REQUEST_BYTES-clause-found
returns-then-total-gt-MAX_REQUEST_BYTES-clause-found c words are e ahead =
    let so = c.loop-done.invariant.so words are e ahead in
    let finds = subst (λ (o : Option Bulk). FindsBulk c.split_at.result.1.now (Ok o)) c.in-Some.is c.in_ok-bulk.ensures.found in
    let within = subst (λ (o : Option Bulk). IfSome o (λ b. b.len ≤ length c.split_at.result.1.now)) c.in-Some.is c.in_ok-bulk.ensures.within in
    let next = next_word words c.args.input.now c.split_at.result.1.now c.loop-done.words.items c.loop-done.len c.loop-done.total c.loop-done._done c.in-Some.bulk so (omega (arith, c.loop-done-test.true, e)) c.split_at.ensures.back finds within in
    never_over words c.args.input.now _ _ _ _ are next c.if-total-gt-MAX_REQUEST_BYTES.true

pub loop-done-preserved : goal.loop-done-preserved
loop-done-preserved c =
    let within = subst (λ (o : Option Bulk). IfSome o (λ b. b.len ≤ length c.split_at.result.1.now)) c.in-Some.is c.in_ok-bulk.ensures.within in
    let light = subst (λ (o : Option Bulk). IfSome o (λ b. b.len ≤ enough_for_header + length b.word.now + 2)) c.in-Some.is c.in_ok-bulk.ensures.light in
    record {
      within = omega (arith, within, c.split_at.ensures.back_len, c.loop-done.invariant.within);
      light = omega (arith, c.if-total-gt-MAX_REQUEST_BYTES.false);
      few = omega (arith, light, c.loop-done.invariant.few);
      read =
          (let items : c.push.new.self.items ≡ c.loop-done.words.items ++ c.in-Some.bulk.word ∷ [] = c.in-Ok.ensures.items in
          let is = subst (λ (o : Option Bulk). IfSome o (λ b. take b.len c.split_at.result.1.now ≡ bulk_bytes b.word.now)) c.in-Some.is c.in_ok-bulk.ensures.word in
          let short = subst (λ (o : Option Bulk). IfSome o (λ b. length b.word.now ≤ MAX_WORD_BYTES)) c.in-Some.is c.in_ok-bulk.ensures.short in
          rw items (to_more c.args.input.now c.split_at.result.1.now c.loop-done.words.items c.loop-done.len c.loop-done.total c.loop-done._done c.in-Some.bulk c.loop-done.invariant.read c.split_at.ensures.back is short));
      so = λ words are e ahead.
          (let so = c.loop-done.invariant.so words are e ahead in
          let finds = subst (λ (o : Option Bulk). FindsBulk c.split_at.result.1.now (Ok o)) c.in-Some.is c.in_ok-bulk.ensures.found in
          let items : c.push.new.self.items ≡ c.loop-done.words.items ++ c.in-Some.bulk.word ∷ [] = c.in-Ok.ensures.items in
          rw items (next_word words c.args.input.now c.split_at.result.1.now c.loop-done.words.items c.loop-done.len c.loop-done.total c.loop-done._done c.in-Some.bulk so (omega (arith, c.loop-done-test.true, e)) c.split_at.ensures.back finds within));
    }

pub returns-in_default-clause-enough : goal.returns-in_default-clause-enough
returns-in_default-clause-enough c =
    let few = subst (λ (o : Option Bulk). IfNone o (length c.split_at.result.1.now < enough_for_bulk)) c.in_default.is c.in_ok-bulk.ensures.enough in
    omega (arith, few, c.split_at.ensures.back_len, c.loop-done.invariant.within, c.loop-done.invariant.few, c.loop-done.invariant.light, c.loop-done-test.true)

pub returns-clause-light : goal.returns-clause-light
returns-clause-light c = omega (arith, c.loop-done.invariant.few, c.loop-done.invariant.light)

-- ---- the other way round

pub returns-in_err-bulk-clause-refused : goal.returns-in_err-bulk-clause-refused
returns-in_err-bulk-clause-refused c =
    let words = words_of c.loop-done.words.items in
    let rest = c.split_at.result.1.now in
    let passed = are_passed c.args.input.now rest words c.loop-done.len c.loop-done.total c.loop-done._done c.args.count c.loop-done.invariant.read c.split_at.ensures.back c.loop-done-test.true c.loop-done.invariant.light in
    refused_so c.from_residual.result (IsFaultOfWords c.args.count c.args.input.now) c.in_err-bulk.field-0.0 c.from_residual.ensures.1 (words, rest, passed, fault_next words rest c.in_err-bulk.field-0.0 c.in_err-bulk.ensures.refused)

pub returns-in_default-clause-part : goal.returns-in_default-clause-part
returns-in_default-clause-part c =
    let words = words_of c.loop-done.words.items in
    let part = subst (λ (o : Option Bulk). IfNone o (IsPartOfWord c.split_at.result.1.now)) c.in_default.is c.in_ok-bulk.ensures.part in
    (words, c.split_at.result.1.now, are_passed c.args.input.now c.split_at.result.1.now words c.loop-done.len c.loop-done.total c.loop-done._done c.args.count c.loop-done.invariant.read c.split_at.ensures.back c.loop-done-test.true c.loop-done.invariant.light, part)

pub returns-then-total-gt-MAX_REQUEST_BYTES-clause-refused : goal.returns-then-total-gt-MAX_REQUEST_BYTES-clause-refused
returns-then-total-gt-MAX_REQUEST_BYTES-clause-refused c =
    let words = words_of c.loop-done.words.items in
    let rest = c.split_at.result.1.now in
    let is = subst (λ (o : Option Bulk). IfSome o (λ b. take b.len rest ≡ bulk_bytes b.word.now)) c.in-Some.is c.in_ok-bulk.ensures.word in
    let within = subst (λ (o : Option Bulk). IfSome o (λ b. b.len ≤ length rest)) c.in-Some.is c.in_ok-bulk.ensures.within in
    let short = subst (λ (o : Option Bulk). IfSome o (λ b. length b.word.now ≤ MAX_WORD_BYTES)) c.in-Some.is c.in_ok-bulk.ensures.short in
    (words, rest, are_passed c.args.input.now rest words c.loop-done.len c.loop-done.total c.loop-done._done c.args.count c.loop-done.invariant.read c.split_at.ensures.back c.loop-done-test.true c.loop-done.invariant.light, over_next words rest c.in-Some.bulk c.loop-done.total c.loop-done.invariant.read.total_is is within short c.if-total-gt-MAX_REQUEST_BYTES.true)
