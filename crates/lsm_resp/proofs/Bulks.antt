-- How far the words of a request are read.
use Rattle.std.proofs.Common.{◌≡◌, ℕ, ◌+◌, ◌≤◌, ◌<◌, List, [], ◌∷◌, ◌++◌, length, take, drop, None, Some, Result, Ok, Err, All, IfErr, IsErrAnd, refl, sym, ap, ◌∙◌, append_assoc, append-nil, arith, length-append, subst}
use Prim.Native.Nat.{suc}
use Rattle.std.proofs.Math.Seq.{take-add}
use Rattle.std.proofs.lemmas.List.{drop-drop, length-drop, length-take-le, map-append}
use Rattle.std.proofs.lemmas.List.Elements.{All-append, All-cons, All-nil}
use Rattle.std.proofs.lemmas.Grind.{flat_map-append}
use Rattle.std.specs.Borrow.{Bor}
use Rattle.std.specs.List.{flat_map}
use Rattle.lsm_resp.specs.declared.bulk.Bulk.{Bulk}
use Rattle.lsm_resp.specs.declared.fault.ParseError.{ParseError}
use Rattle.lsm_resp.specs.declared.fault.ParseError.TheVariants.{OutOfMemory, Protocol}
use Rattle.lsm_resp.specs.declared.fault.ProtocolFault.{ProtocolFault}
use Rattle.lsm_resp.specs.declared.fault.ProtocolFault.TheVariants.{BadLength, LineTooLong, NoBulk, NoLineEnd, RequestTooLong, TooManyWords, WordTooLong}
use Rattle.lsm_resp.specs.declared.limits.TheConstants.{MAX_REQUEST_BYTES, MAX_WORD_BYTES}
use Rattle.lsm_resp.specs.Outcomes.{AreRead, ArePassed, IsFaultOfNext, IsFaultOfWord, OfProtocol}
use Rattle.lsm_resp.specs.Pieces.{FindsAll, FindsBulk}
use Rattle.lsm_resp.specs.Requests.{AreWords, FindsWords, IsAhead, words_weight, words_of}
use Rattle.lsm_resp.specs.Wire.{bulk_bytes}
use Rattle.lsm_resp.proofs.Ahead.{ahead_front, ahead_rest}
use Rattle.lsm_resp.proofs.Words.{read_front}

-- the words but those that are left are read
pub record AreLeft (words : List (List ℕ)) (input : List ℕ) (lent : List (Bor (List ℕ))) (len total i : ℕ) (left : List (List ℕ)) : Type 0 where
  pub all : words_of lent ++ left ≡ words
  pub ahead : IsAhead (flat_map bulk_bytes left) (drop len input)
  pub len_is : len + length (flat_map bulk_bytes left) ≡ length (flat_map bulk_bytes words)
  pub total_is : total + words_weight left ≡ words_weight words
  pub short : All (λ word. length word ≤ MAX_WORD_BYTES) left
  pub count_is : i + length left ≡ length words

pub record IsReadTo (words : List (List ℕ)) (input : List ℕ) (lent : List (Bor (List ℕ))) (len total i : ℕ) : Type 0 where
  pub left : List (List ℕ)
  pub are_left : AreLeft words input lent len total i left

pub read_none : (words : List (List ℕ)) (input : List ℕ) → AreWords words → IsAhead (flat_map bulk_bytes words) input → IsReadTo words input [] 0 0 0
read_none words input are ahead = record {
  left = words;
  are_left = record { all = refl; ahead = ahead; len_is = omega arith; total_is = omega arith; short = are.short; count_is = omega arith };
}

-- ---- the next word

more_words : (lent : List (Bor (List ℕ))) (bulk : Bor (List ℕ)) (w : List ℕ) (ws words : List (List ℕ)) → bulk.now ≡ w → words_of lent ++ (w ∷ ws) ≡ words → words_of (lent ++ bulk ∷ []) ++ ws ≡ words
more_words lent bulk w ws words is all =
    ap (λ (xs : List (List ℕ)). xs ++ ws) (map-append (λ (b : Bor (List ℕ)). b.now) lent (bulk ∷ []))
    ∙ append_assoc (words_of lent) (bulk.now ∷ []) ws
    ∙ ap (λ (x : List ℕ). words_of lent ++ (x ∷ ws)) is
    ∙ all

next_left : (words : List (List ℕ)) (input rest : List ℕ) (lent : List (Bor (List ℕ))) (len total i : ℕ) (bulk : Bulk) (left : List (List ℕ)) → AreLeft words input lent len total i left → i < length words → rest ≡ drop len input → FindsBulk rest (Ok (Some bulk)) → bulk.len ≤ length rest → IsReadTo words input (lent ++ bulk.word ∷ []) (len + bulk.len) (total + length bulk.word.now) (i + 1)
next_left words input rest lent len total i bulk [] so lt is finds within = absurd (omega (arith, so.count_is))
next_left words input rest lent len total i bulk (w ∷ ws) so lt is finds within =
    let here : IsAhead (bulk_bytes w ++ flat_map bulk_bytes ws) rest = rw is so.ahead in
    let found = finds w (so.short 0 [] (omega arith)) (ahead_front (bulk_bytes w) (flat_map bulk_bytes ws) rest here) in
    let few : length (bulk_bytes w) ≤ length rest = omega (arith, found.1) in
    let after : IsAhead (flat_map bulk_bytes ws) (drop (length (bulk_bytes w)) rest) = ahead_rest (bulk_bytes w) (flat_map bulk_bytes ws) rest here few in
    let at : drop (length (bulk_bytes w)) rest ≡ drop (len + bulk.len) input =
    ap (λ (n : ℕ). drop n rest) (sym found.1) ∙ ap (drop bulk.len) is ∙ drop-drop bulk.len len input in
    let sum = length-append (bulk_bytes w) (flat_map bulk_bytes ws) in
    let size = ap (λ (xs : List ℕ). length xs) found.0 in
    record {
      left = ws;
      are_left = record {
        all = more_words lent bulk.word w ws words found.0 so.all;
        ahead = subst (λ (xs : List ℕ). IsAhead (flat_map bulk_bytes ws) xs) at after;
        len_is = omega (arith, so.len_is, sum, found.1);
        total_is = omega (arith, so.total_is, size);
        short = λ k d lt. so.short (suc k) d (omega arith);
        count_is = omega (arith, so.count_is);
      };
    }

pub next_word : (words : List (List ℕ)) (input rest : List ℕ) (lent : List (Bor (List ℕ))) (len total i : ℕ) (bulk : Bulk) → IsReadTo words input lent len total i → i < length words → rest ≡ drop len input → FindsBulk rest (Ok (Some bulk)) → bulk.len ≤ length rest → IsReadTo words input (lent ++ bulk.word ∷ []) (len + bulk.len) (total + length bulk.word.now) (i + 1)
next_word words input rest lent len total i bulk so lt is finds within = next_left words input rest lent len total i bulk so.left so.are_left lt is finds within

-- ---- no next word

none_left : (words : List (List ℕ)) (input rest : List ℕ) (lent : List (Bor (List ℕ))) (len total i : ℕ) (left : List (List ℕ)) → AreLeft words input lent len total i left → i < length words → rest ≡ drop len input → len ≤ length input → FindsBulk rest (Ok None) → length input < length (flat_map bulk_bytes words)
none_left words input rest lent len total i [] so lt is within finds = absurd (omega (arith, so.count_is))
none_left words input rest lent len total i (w ∷ ws) so lt is within finds =
    let here : IsAhead (bulk_bytes w ++ flat_map bulk_bytes ws) rest = rw is so.ahead in
    let few = finds w (so.short 0 [] (omega arith)) (ahead_front (bulk_bytes w) (flat_map bulk_bytes ws) rest here) in
    let sum = length-append (bulk_bytes w) (flat_map bulk_bytes ws) in
    let size = ap (λ (xs : List ℕ). length xs) is in
    omega (arith, few, sum, size, length-drop len input, so.len_is)

pub none_come : (words : List (List ℕ)) (input rest : List ℕ) (lent : List (Bor (List ℕ))) (len total i : ℕ) → IsReadTo words input lent len total i → i < length words → rest ≡ drop len input → len ≤ length input → FindsBulk rest (Ok None) → length input < length (flat_map bulk_bytes words)
none_come words input rest lent len total i so lt is within finds = none_left words input rest lent len total i so.left so.are_left lt is within finds

fault_left : (words : List (List ℕ)) (input rest : List ℕ) (lent : List (Bor (List ℕ))) (len total i : ℕ) (why : ProtocolFault) (left : List (List ℕ)) → AreLeft words input lent len total i left → i < length words → rest ≡ drop len input → FindsBulk rest (Err why) → ⊥
fault_left words input rest lent len total i why [] so lt is finds = omega (arith, so.count_is)
fault_left words input rest lent len total i why (w ∷ ws) so lt is finds =
    let here : IsAhead (bulk_bytes w ++ flat_map bulk_bytes ws) rest = rw is so.ahead in
    finds w (so.short 0 [] (omega arith)) (ahead_front (bulk_bytes w) (flat_map bulk_bytes ws) rest here)

pub no_fault : (words : List (List ℕ)) (input rest : List ℕ) (lent : List (Bor (List ℕ))) (len total i : ℕ) (why : ProtocolFault) → IsReadTo words input lent len total i → i < length words → rest ≡ drop len input → FindsBulk rest (Err why) → ⊥
no_fault words input rest lent len total i why so lt is finds = fault_left words input rest lent len total i why so.left so.are_left lt is finds

-- words within the limits never weigh too much
pub never_over : (words : List (List ℕ)) (input : List ℕ) (lent : List (Bor (List ℕ))) (len total i : ℕ) → AreWords words → IsReadTo words input lent len total i → MAX_REQUEST_BYTES < total → ⊥
never_over words input lent len total i are so over = omega (arith, so.are_left.total_is, are.light)

-- ---- all words

all_left : (words : List (List ℕ)) (input : List ℕ) (lent : List (Bor (List ℕ))) (len total i : ℕ) (left : List (List ℕ)) → AreLeft words input lent len total i left → length words ≤ i → (words_of lent ≡ words) × (len ≡ length (flat_map bulk_bytes words))
all_left words input lent len total i [] so done = (sym (append-nil (words_of lent)) ∙ so.all, omega (arith, so.len_is))
all_left words input lent len total i (w ∷ ws) so done = absurd (omega (arith, so.count_is))

pub all_read : (words : List (List ℕ)) (input : List ℕ) (lent : List (Bor (List ℕ))) (len total i : ℕ) → IsReadTo words input lent len total i → length words ≤ i → (words_of lent ≡ words) × (len ≡ length (flat_map bulk_bytes words))
all_read words input lent len total i so done = all_left words input lent len total i so.left so.are_left done

-- ---- the other way round: what the words that are read are

pub record AreReadTo (input : List ℕ) (words : List (List ℕ)) (len total done : ℕ) : Type 0 where
  pub is : take len input ≡ flat_map bulk_bytes words
  pub total_is : total ≡ words_weight words
  pub short : All (λ word. length word ≤ MAX_WORD_BYTES) words
  pub count_is : length words ≡ done

pub to_none : (input : List ℕ) → AreReadTo input [] 0 0 0
to_none input = record { is = refl; total_is = refl; short = All-nil (λ word. length word ≤ MAX_WORD_BYTES); count_is = refl }

weight_more : (words : List (List ℕ)) (word : List ℕ) → words_weight (words ++ word ∷ []) ≡ words_weight words + length word
weight_more [] word = omega arith
weight_more (w ∷ ws) word = omega (arith, weight_more ws word)

pub to_more : (input rest : List ℕ) (lent : List (Bor (List ℕ))) (len total done : ℕ) (bulk : Bulk) → AreReadTo input (words_of lent) len total done → rest ≡ drop len input → take bulk.len rest ≡ bulk_bytes bulk.word.now → length bulk.word.now ≤ MAX_WORD_BYTES → AreReadTo input (words_of (lent ++ bulk.word ∷ [])) (len + bulk.len) (total + length bulk.word.now) (done + 1)
to_more input rest lent len total done bulk so at is short =
    let e : words_of (lent ++ bulk.word ∷ []) ≡ words_of lent ++ bulk.word.now ∷ [] = map-append (λ (b : Bor (List ℕ)). b.now) lent (bulk.word ∷ []) in
    let more : AreReadTo input (words_of lent ++ bulk.word.now ∷ []) (len + bulk.len) (total + length bulk.word.now) (done + 1) = record {
      is = take-add len bulk.len input ∙ ap (λ (xs : List ℕ). xs ++ take bulk.len (drop len input)) so.is ∙ ap (λ (xs : List ℕ). flat_map bulk_bytes (words_of lent) ++ take bulk.len xs) (sym at) ∙ ap (λ (xs : List ℕ). flat_map bulk_bytes (words_of lent) ++ xs) (is ∙ sym (append-nil (bulk_bytes bulk.word.now))) ∙ sym (flat_map-append bulk_bytes (words_of lent) (bulk.word.now ∷ []));
      total_is = omega (arith, so.total_is, weight_more (words_of lent) bulk.word.now);
      short = All-append (λ word. length word ≤ MAX_WORD_BYTES) (words_of lent) (bulk.word.now ∷ []) so.short (All-cons (λ word. length word ≤ MAX_WORD_BYTES) bulk.word.now [] short (All-nil (λ word. length word ≤ MAX_WORD_BYTES)));
      count_is = omega (arith, so.count_is, length-append (words_of lent) (bulk.word.now ∷ []));
    } in
    subst (λ (ws : List (List ℕ)). AreReadTo input ws (len + bulk.len) (total + length bulk.word.now) (done + 1)) (sym e) more

pub are_passed : (input rest : List ℕ) (words : List (List ℕ)) (len total done count : ℕ) → AreReadTo input words len total done → rest ≡ drop len input → done < count → total ≤ MAX_REQUEST_BYTES → ArePassed count words input rest
are_passed input rest words len total done count so at lt light = record {
  more = omega (arith, so.count_is);
  short = so.short;
  light = omega (arith, so.total_is);
  is = rw at (read_front (flat_map bulk_bytes words) input len so.is);
}

pub are_read : (input : List ℕ) (words : List (List ℕ)) (len total done count : ℕ) → AreReadTo input words len total done → done ≡ count → total ≤ MAX_REQUEST_BYTES → AreRead count words (take len input)
are_read input words len total done count so end light = record { all = so.count_is ∙ end; short = so.short; light = omega (arith, so.total_is); is = so.is }

-- the fault of a word is that of the next one
pub fault_next : (words : List (List ℕ)) (rest : List ℕ) (why : ProtocolFault) → IsFaultOfWord rest why → IsFaultOfNext words rest why
fault_next words rest BadLength h = h
fault_next words rest TooManyWords h = h
fault_next words rest WordTooLong h = h
fault_next words rest RequestTooLong h = absurd h
fault_next words rest NoBulk h = h
fault_next words rest NoLineEnd h = h
fault_next words rest LineTooLong h = h

pub over_next : (words : List (List ℕ)) (rest : List ℕ) (bulk : Bulk) (total : ℕ) → total ≡ words_weight words → take bulk.len rest ≡ bulk_bytes bulk.word.now → bulk.len ≤ length rest → length bulk.word.now ≤ MAX_WORD_BYTES → MAX_REQUEST_BYTES < total + length bulk.word.now → IsFaultOfNext words rest RequestTooLong
over_next words rest bulk total e is within short over =
    let size : length (bulk_bytes bulk.word.now) ≡ bulk.len = sym (ap (λ (xs : List ℕ). length xs) is) ∙ length-take-le bulk.len rest within in
    (bulk.word.now, short, omega arith, ap (λ (n : ℕ). take n rest) size ∙ is)

-- why the words are not read is why the request is not
pub same_fault : (input rest a b : List ℕ) (words : List (List ℕ)) (why : ParseError) → FindsAll rest words a (Err why) → FindsAll input words b (Err why)
same_fault input rest a b words OutOfMemory found = tt
same_fault input rest a b words (Protocol why) found = absurd found

pub same_error : (input : List ℕ) (bytes : List ℕ) (words : List (List ℕ)) (why : ParseError) → FindsAll input words bytes (Err why) → FindsWords input words bytes (Err why)
same_error input bytes words OutOfMemory found = tt
same_error input bytes words (Protocol why) found = absurd found

-- a fault that is handed on is refused as it was
pub refused_so : {T : Type 0} (r : Result T ParseError) (IsWhy : ProtocolFault → Type 0) (why : ProtocolFault) → IsErrAnd r (λ e. e ≡ Protocol why) → IsWhy why → IfErr r (OfProtocol IsWhy)
refused_so (Ok value) IsWhy why is h = tt
refused_so (Err e) IsWhy why is h = subst (OfProtocol IsWhy) (sym is) h
