use Rattle.std.proofs.Common.{◌≡◌, ◌∙◌, ◌<◌, inl, inr, ℕ, ◌^◌, List, length, get_or, Result, Ok, Err, IfSome, drop, length-drop, ap, sym, subst, arith, rules}
use Prim.Native.Nat.{suc, zero}
use Rattle.std.specs.Str.{IsUtf8}
use Rattle.std.specs.Result.{result_ok}
use Rattle.std.specs.Str.Parse.{AllDigits, digits_value, ParsesUnsigned}
use Rattle.std.specs.Fmt.{decimal}
use Rattle.std.proofs.lemmas.Fmt.{IsAscii-decimal, decimal-digits_value, decimal_digit, first_decimal, parse-decimal}
use Rattle.std.proofs.lemmas.Str.{IsUtf8-from_ascii}
use Rattle.std.proofs.lemmas.Str.Parse.{IsNumeralModel, numerals_by_value, parse_plain, parse_plus, tells_digits}
use Rattle.lsm_resp.specs.Pieces.{IsPlainNumber}
use Rattle.lsm_resp.proofs.header.read_number.Goals as goal

pub returns-in-Err-clause-read : goal.returns-in-Err-clause-read
returns-in-Err-clause-read c n small is =
    let text : IsUtf8 c.args.digits.now = rw is (IsUtf8-from_ascii (decimal n) (IsAscii-decimal n small)) in
    absurd (c.in-Err.ensures.cases.0 text)

pub returns-in-Ok-clause-read : goal.returns-in-Ok-clause-read
returns-in-Ok-clause-read c n small is =
    c.ok.ensures.value ∙ ap result_ok (parse-decimal 64 n c.in-Ok.text.now c.parse.result small small (c.in-Ok.ensures.cases.0 ∙ is) c.parse.ensures.value.0)

decimal_is_plain : (n : ℕ) → n < 2 ^ 64 → IsPlainNumber (decimal n)
decimal_is_plain zero small = inl (ap (λ (xs : List ℕ). length xs) (decimal_digit 0 (omega arith)))
decimal_is_plain (suc m) small = inr (first_decimal (suc m) (omega arith) small)

pub returns-then-not-is_plain-clause-read : goal.returns-then-not-is_plain-clause-read
returns-then-not-is_plain-clause-read c n small is =
    let plain : IsPlainNumber c.args.digits.now = subst IsPlainNumber (sym is) (decimal_is_plain n small) in
    let yes = c.is_plain.ensures.1 plain in
    let no = c.if-not-is_plain.true in
    cc

own : IsNumeralModel (AllDigits 10) (digits_value 10)
own = numerals_by_value (AllDigits 10) tells_digits

-- no sign is before digits that are plain
no_plus : (E : Type 0) (bs : List ℕ) (n : ℕ) → IsPlainNumber bs → ParsesUnsigned {E = E} 64 10 bs (Ok n) → get_or bs 0 0 ≡ 43 → ⊥
no_plus E bs n (inl one) parses plus = let some : 0 < length (drop 1 bs) = (parse_plus own {E = E} 64 bs (Ok n) parses plus).0.1 in omega (arith, some, one, length-drop 1 bs)
no_plus E bs n (inr high) parses plus = omega arith

first_zero : (bs : List ℕ) → IsPlainNumber bs → get_or bs 0 0 ≡ 48 → length bs ≡ 1
first_zero bs (inl one) e = one
first_zero bs (inr high) e = absurd (omega arith)

spelled : (E : Type 0) (bs : List ℕ) (r : Result ℕ E) → IsPlainNumber bs → ParsesUnsigned 64 10 bs r → IfSome (result_ok r) (λ n. bs ≡ decimal n)
spelled E bs (Ok n) plain parses =
    let is = parse_plain own {E = E} 64 bs (Ok n) parses (no_plus E bs n plain parses) in
    sym (decimal-digits_value own bs is.0.0 is.0.1 (first_zero bs plain) is.0.2) ∙ ap decimal (sym is.1)
spelled E bs (Err e) plain parses = tt

pub returns-in-Ok-clause-only : goal.returns-in-Ok-clause-only
returns-in-Ok-clause-only c =
    let plain : IsPlainNumber c.args.digits.now = c.is_plain.ensures.0 (search rules) in
    let e = c.in-Ok.ensures.cases.0 in
    let spells = spelled _ c.in-Ok.text.now c.parse.result (subst IsPlainNumber (sym e) plain) c.parse.ensures.value.0 in
    rw (c.ok.ensures.value, sym e) spells
