-- The first line of a text and the first word of a line, and what is left.
use Rattle.std.proofs.Common.{◌≡◌, ℕ, ◌<◌, Bool, true, false, cond, not, List, [], ◌∷◌, length, take, drop, Some, None, refl, sym, ap, subst, ◌∙◌, arith, one-add, filter, ltb, position}
use Rattle.std.proofs.Math.Seq.{drop-nil}
use Rattle.std.specs.List.{slice_split, onto_first, position_or_len}
use Rattle.std.specs.Option.{unwrap_or}
use Rattle.std.proofs.lemmas.List.Sums.{prefix_len-le-length}
use Rattle.std.proofs.lemmas.Bool.{ltb-false}
use Rattle.lsm_line.specs.Text.{is_separator, is_line_feed, is_word, lines, words}

-- a place that is the length where there is none
unwrap_or-cond : (b : Bool) (i n : ℕ) → (b ≡ false → i ≡ n) → unwrap_or (cond b (Some i) None) n ≡ i
unwrap_or-cond true i n h = refl
unwrap_or-cond false i n h = sym (h refl)

pub unwrap_or-position : {X : Type 0} (p : X → Bool) (xs : List X) → unwrap_or (position p xs) (length xs) ≡ position_or_len p xs
unwrap_or-position p xs = unwrap_or-cond (ltb (position_or_len p xs) (length xs)) (position_or_len p xs) (length xs) (λ e. omega (arith, ltb-false (position_or_len p xs) (length xs) e, prefix_len-le-length (λ x. not (p x)) xs))

-- the pieces after the first, of what is left from the first cut on
abbrev pub pieces_after : {X : Type 0} → (X → Bool) → List X → List (List X)
pieces_after p [] = []
pieces_after p (y ∷ ys) = slice_split p ys

split_first_cons : {X : Type 0} (p : X → Bool) (x : X) (xs : List X) (b : Bool) → p x ≡ b → slice_split p xs ≡ take (position_or_len p xs) xs ∷ pieces_after p (drop (position_or_len p xs) xs) → slice_split p (x ∷ xs) ≡ take (position_or_len p (x ∷ xs)) (x ∷ xs) ∷ pieces_after p (drop (position_or_len p (x ∷ xs)) (x ∷ xs))
split_first_cons p x xs true e ih = rw e refl
split_first_cons p x xs false e ih = rw (e, one-add) (ap (onto_first x) ih)

pub split_first : {X : Type 0} (p : X → Bool) (xs : List X) → slice_split p xs ≡ take (position_or_len p xs) xs ∷ pieces_after p (drop (position_or_len p xs) xs)
split_first p [] = refl
split_first p (x ∷ xs) = split_first_cons p x xs (p x) refl (split_first p xs)

pub pieces_after-some : {X : Type 0} (p : X → Bool) (xs : List X) → 0 < length xs → pieces_after p xs ≡ slice_split p (drop 1 xs)
pieces_after-some p [] h = absurd (omega arith)
pieces_after-some p (x ∷ xs) h = refl

-- ---- words

abbrev pub is_other : ℕ → Bool
is_other byte = not (is_separator byte)

words-gap_cons : (x : ℕ) (xs : List ℕ) (b : Bool) → is_separator x ≡ b → words xs ≡ words (drop (position_or_len is_other xs) xs) → words (x ∷ xs) ≡ words (drop (position_or_len is_other (x ∷ xs)) (x ∷ xs))
unfolding words
words-gap_cons x xs true e ih = rw (e, one-add) ih
words-gap_cons x xs false e ih = rw (e, e) refl

-- separators in front change no word
pub words-gap : (xs : List ℕ) → words xs ≡ words (drop (position_or_len is_other xs) xs)
unfolding words
words-gap [] = refl
words-gap (x ∷ xs) = words-gap_cons x xs (is_separator x) refl (words-gap xs)

no_word_cons : (x : ℕ) (xs : List ℕ) (b : Bool) → is_separator x ≡ b → (length (take (position_or_len is_separator (drop (position_or_len is_other xs) xs)) (drop (position_or_len is_other xs) xs)) ≡ 0 → drop (position_or_len is_other xs) xs ≡ []) → length (take (position_or_len is_separator (drop (position_or_len is_other (x ∷ xs)) (x ∷ xs))) (drop (position_or_len is_other (x ∷ xs)) (x ∷ xs))) ≡ 0 → drop (position_or_len is_other (x ∷ xs)) (x ∷ xs) ≡ []
no_word_cons x xs true e ih h = rw (e, one-add) (ih (rw (e, one-add) at h))
no_word_cons x xs false e ih h = absurd (let k = rw (e, e, one-add) at h in omega (arith, k))

-- no word after the gap: nothing is left
pub no_word : (xs : List ℕ) → length (take (position_or_len is_separator (drop (position_or_len is_other xs) xs)) (drop (position_or_len is_other xs) xs)) ≡ 0 → drop (position_or_len is_other xs) xs ≡ []
no_word [] h = refl
no_word (x ∷ xs) h = no_word_cons x xs (is_separator x) refl (no_word xs) h

words_after_cons : (x : ℕ) (xs : List ℕ) (b : Bool) → is_separator x ≡ b → filter is_word (pieces_after is_separator (drop (position_or_len is_separator xs) xs)) ≡ words (drop (position_or_len is_separator xs) xs) → filter is_word (pieces_after is_separator (drop (position_or_len is_separator (x ∷ xs)) (x ∷ xs))) ≡ words (drop (position_or_len is_separator (x ∷ xs)) (x ∷ xs))
unfolding words
words_after_cons x xs true e ih = rw e (rw e refl)
words_after_cons x xs false e ih = rw (e, one-add) ih

words_after : (xs : List ℕ) → filter is_word (pieces_after is_separator (drop (position_or_len is_separator xs) xs)) ≡ words (drop (position_or_len is_separator xs) xs)
unfolding words
words_after [] = refl
words_after (x ∷ xs) = words_after_cons x xs (is_separator x) refl (words_after xs)

filter-word : (word : List ℕ) (others : List (List ℕ)) → 0 < length word → filter is_word (word ∷ others) ≡ word ∷ filter is_word others
filter-word [] others h = absurd (omega arith)
filter-word (x ∷ word) others h = refl

-- the first word, and the words of what is left
pub words-first : (xs : List ℕ) → 0 < length (take (position_or_len is_separator xs) xs) → words xs ≡ take (position_or_len is_separator xs) xs ∷ words (drop (position_or_len is_separator xs) xs)
unfolding words
words-first xs h = ap (filter is_word) (split_first is_separator xs) ∙ filter-word (take (position_or_len is_separator xs) xs) (pieces_after is_separator (drop (position_or_len is_separator xs) xs)) h ∙ ap (λ (ws : List (List ℕ)). take (position_or_len is_separator xs) xs ∷ ws) (words_after xs)

pub words-none : words [] ≡ []
unfolding words
words-none = refl

-- one call of a line's words, where g and n are the places that were found, r what follows the gap
pub words-call : (xs r front back : List ℕ) (g n : ℕ) → g ≡ unwrap_or (position is_other xs) (length xs) → r ≡ drop g xs → n ≡ unwrap_or (position is_separator r) (length r) → front ≡ take n r → back ≡ drop n r → 0 < length front → words xs ≡ front ∷ words back
words-call xs r front back g n gap left end is_front is_back some =
    let g_is = gap ∙ unwrap_or-position is_other xs in
    let n_is = end ∙ unwrap_or-position is_separator r in
    let r_is : drop (position_or_len is_other xs) xs ≡ r = rw (← g_is) (sym left) in
    let front_is : front ≡ take (position_or_len is_separator r) r = rw (← n_is) is_front in
    let back_is : back ≡ drop (position_or_len is_separator r) r = rw (← n_is) is_back in
    words-gap xs ∙ ap words r_is ∙ rw (front_is, back_is) (words-first r (subst (λ (w : List ℕ). 0 < length w) front_is some))

pub words-last : (xs r front back : List ℕ) (g n : ℕ) → g ≡ unwrap_or (position is_other xs) (length xs) → r ≡ drop g xs → n ≡ unwrap_or (position is_separator r) (length r) → front ≡ take n r → back ≡ drop n r → length front ≡ 0 → (words xs ≡ []) × (words back ≡ [])
words-last xs r front back g n gap left end is_front is_back none =
    let g_is = gap ∙ unwrap_or-position is_other xs in
    let n_is = end ∙ unwrap_or-position is_separator r in
    let r_is : drop (position_or_len is_other xs) xs ≡ r = rw (← g_is) (sym left) in
    let front_is : front ≡ take (position_or_len is_separator r) r = rw (← n_is) is_front in
    let r_none : r ≡ [] = sym r_is ∙ no_word xs (rw r_is (subst (λ (w : List ℕ). length w ≡ 0) front_is none)) in
    let back_none : back ≡ [] = is_back ∙ rw r_none (drop-nil n) in
    (words-gap xs ∙ ap words (r_is ∙ r_none) ∙ words-none, ap words back_none ∙ words-none)

-- one call of a text's lines
pub lines-call : (xs front back : List ℕ) (n : ℕ) → n ≡ unwrap_or (position is_line_feed xs) (length xs) → front ≡ take n xs → back ≡ drop n xs → lines xs ≡ front ∷ pieces_after is_line_feed back
unfolding lines
lines-call xs front back n end is_front is_back =
    let n_is = end ∙ unwrap_or-position is_line_feed xs in
    rw (is_front, is_back, n_is) (split_first is_line_feed xs)

pub lines-more : (back : List ℕ) → 0 < length back → pieces_after is_line_feed back ≡ lines (drop 1 back)
unfolding lines
lines-more back h = pieces_after-some is_line_feed back h

pub lines-end : (back : List ℕ) → length back ≡ 0 → pieces_after is_line_feed back ≡ []
lines-end [] h = refl
lines-end (x ∷ back) h = absurd (omega arith)
