use Rattle.std.proofs.Common.{◌∙◌, ◌≡◌, ◌≤◌, ◌+◌, get_or, length, refl, sym, rules, arith}
use Rattle.lsm_resp.proofs.Headers.{none_come, too_far, not_come, line_feed, digits_are, len_is, is_number, is_no_length}
use Rattle.lsm_resp.proofs.header.read_header.Goals as goal

pub returns-in_default-clause-found : goal.returns-in_default-clause-found
returns-in_default-clause-found c mark n small ahead = none_come mark n c.args.input.now c.in_default.ensures.cases

pub returns-then-at-ge-MAX_HEADER_BYTES-clause-found : goal.returns-then-at-ge-MAX_HEADER_BYTES-clause-found
returns-then-at-ge-MAX_HEADER_BYTES-clause-found c mark n small ahead =
    too_far mark n _ c.index_of-at.result c.args.input.now _ small ahead c.in-Some.ensures.cases.0 c.index_of-at.ensures.within c.index_of-at.ensures.before c.index_of-at.ensures.at c.if-at-ge-MAX_HEADER_BYTES.true

pub returns-then-rest-at-clause-found : goal.returns-then-rest-at-clause-found
returns-then-rest-at-clause-found c mark n small ahead =
    not_come mark n _ c.index_of-at.result c.args.input.now _ small ahead c.in-Some.ensures.cases.0 c.index_of-at.ensures.within c.index_of-at.ensures.before c.index_of-at.ensures.at c.if-rest-at.true

pub returns-then-rest-at-ne10-clause-found : goal.returns-then-rest-at-ne10-clause-found
returns-then-rest-at-ne10-clause-found c mark n small ahead =
    c.if-rest-at-ne10.true (line_feed mark n _ c.index_of-at.result c.args.input.now _ small ahead c.in-Some.ensures.cases.0 c.index_of-at.ensures.within c.index_of-at.ensures.before c.index_of-at.ensures.at c.if-rest-at.false)

pub returns-in-None-clause-found : goal.returns-in-None-clause-found
returns-in-None-clause-found c mark n small ahead =
    let digits = c.split_at.ensures.front ∙ digits_are mark n _ c.index_of-at.result c.args.input.now _ small ahead c.in-Some.ensures.cases.0 c.index_of-at.ensures.within c.index_of-at.ensures.before c.index_of-at.ensures.at c.if-rest-at.false in
    let wrong = c.in-None.ensures.read n small digits in
    cc

pub returns-in-Some-read_number-clause-found : goal.returns-in-Some-read_number-clause-found
returns-in-Some-read_number-clause-found c mark n small ahead =
    let digits = c.split_at.ensures.front ∙ digits_are mark n _ c.index_of-at.result c.args.input.now _ small ahead c.in-Some.ensures.cases.0 c.index_of-at.ensures.within c.index_of-at.ensures.before c.index_of-at.ensures.at c.if-rest-at.false in
    let is = c.in-Some-read_number.ensures.read n small digits in
    (cc, len_is mark n _ c.index_of-at.result c.args.input.now _ small ahead c.in-Some.ensures.cases.0 c.index_of-at.ensures.within c.index_of-at.ensures.before c.index_of-at.ensures.at c.if-rest-at.false)

-- ---- the other way round

pub returns-in-None-clause-refused : goal.returns-in-None-clause-refused
returns-in-None-clause-refused c =
    let rest = c.in-Some.rest.now in
    let at = c.index_of-at.result in
    let come : at + 2 ≤ length rest = search rules in
    let here : get_or rest at 0 ≡ 13 = c.index_of-at.ensures.at (omega arith) in
    let next : get_or rest (at + 1) 0 ≡ 10 = search rules in
    (refl, is_no_length _ at c.args.input.now rest c.in-Some.ensures.cases.0 c.index_of-at.ensures.value come here next (λ n small spelled. (let wrong = c.in-None.ensures.read n small (c.split_at.ensures.front ∙ spelled) in cc)))

pub returns-in-Some-read_number-clause-number : goal.returns-in-Some-read_number-clause-number
returns-in-Some-read_number-clause-number c =
    let rest = c.in-Some.rest.now in
    let at = c.index_of-at.result in
    let come : at + 2 ≤ length rest = search rules in
    let here : get_or rest at 0 ≡ 13 = c.index_of-at.ensures.at (omega arith) in
    let next : get_or rest (at + 1) 0 ≡ 10 = search rules in
    (search rules, is_number 0 c.in-Some-read_number.number _ at c.args.input.now rest c.in-Some.ensures.cases.0 come here next (sym c.split_at.ensures.front ∙ c.in-Some-read_number.ensures.only))
