-- When a word is a number.
use Rattle.std.proofs.Common.{◌≡◌, ℕ, suc, ◌+◌, ◌-◌, ◌*◌, ◌≤◌, ◌<◌, ◌^◌, ◌&&◌, Bool, true, false, cond, ltb, leb, List, [], ◌∷◌, length, drop, get_or, Some, None, refl, ap, ◌∙◌, arith, drop-cons, drop_of_length-le}
use Rattle.std.proofs.lemmas.Bool.{lt-ltb, le-ltb, le-leb}
use Rattle.std.specs.Str.{all_ascii_digits}
use Rattle.lsm_line.specs.Numbers.{value_after, number}

pub value_after-le : (n : ℕ) (digits : List ℕ) → n ≤ value_after n digits
value_after-le n [] = omega arith
value_after-le n (d ∷ ds) = omega (arith, value_after-le (10 * n + (d - 48)) ds)

and_false : (a : Bool) → (a && false) ≡ false
and_false true = refl
and_false false = refl

none_over : (a b c : Bool) (v : ℕ) → cond (a && b && c && false) (Some v) None ≡ None
none_over a b c v = rw and_false refl

some_within : (a b c d : Bool) (v n : ℕ) → a ≡ true → b ≡ true → c ≡ true → d ≡ true → v ≡ n → cond (a && b && c && d) (Some v) None ≡ Some n
some_within a b c d v n ea eb ec ed e = rw (ea, eb, ec, ed, e) refl

pub number_over : (word : List ℕ) (value i : ℕ) → i < length word → value_after 0 word ≡ value_after value (drop i word) → 2 ^ 64 ≤ 10 * value + (get_or word i 0 - 48) → number word ≡ None
unfolding number
number_over word value i lt so over =
    let next = so ∙ ap (value_after value) (drop-cons word i 0 lt) in
    let large : 2 ^ 64 ≤ value_after 0 word = omega (arith, next, value_after-le (10 * value + (get_or word i 0 - 48)) (drop (suc i) word)) in
    rw (le-ltb (value_after 0 word) (2 ^ 64) large) (none_over (ltb 0 (length word)) (leb (length word) 20) (all_ascii_digits word) (value_after 0 word))

pub number_some : (word : List ℕ) (value i : ℕ) → 0 < length word → length word ≤ 20 → length word ≤ i → value_after 0 word ≡ value_after value (drop i word) → all_ascii_digits word ≡ all_ascii_digits (drop i word) → value < 2 ^ 64 → number word ≡ Some value
unfolding number
number_some word value i some few done so digits fits =
    let end : drop i word ≡ [] = drop_of_length-le word done in
    let is : value_after 0 word ≡ value = so ∙ ap (value_after value) end in
    some_within _ _ _ _ _ _ (lt-ltb 0 (length word) some) (le-leb (length word) 20 few) (digits ∙ ap all_ascii_digits end) (rw is (lt-ltb value (2 ^ 64) fits)) is
