-- The words of a request so far, and those that are left.
use Rattle.std.proofs.Common.{◌≡◌, ◌∙◌, ◌+◌, ◌<◌, ◌++◌, ◌∷◌, [], ℕ, List, length, get_or, take, drop, sym, ap}
use Rattle.std.proofs.lemmas.List.{at_drop_more, map-append, take-append-drop, take_more}
use Rattle.std.specs.Borrow.{Bor}
use Rattle.lsm_resp.specs.Requests.{words_of}

pub next_word : (xs : List (Bor (List ℕ))) (i : ℕ) (x d : Bor (List ℕ)) → i < length xs → x ≡ get_or xs i d → words_of (drop i xs) ≡ x.now ∷ words_of (drop (i + 1) xs)
next_word xs i x d below is = at_drop_more words_of xs i d below ∙ ap (λ (b : Bor (List ℕ)). b.now ∷ words_of (drop (i + 1) xs)) (sym is)

-- the first ones, and one more
pub one_more : (xs : List (Bor (List ℕ))) (i : ℕ) (x d : Bor (List ℕ)) → i < length xs → x ≡ get_or xs i d → words_of (take (i + 1) xs) ≡ words_of (take i xs) ++ x.now ∷ []
one_more xs i x d below is = ap words_of (take_more xs i d below) ∙ map-append (λ (b : Bor (List ℕ)). b.now) (take i xs) (get_or xs i d ∷ []) ∙ ap (λ (b : Bor (List ℕ)). words_of (take i xs) ++ b.now ∷ []) (sym is)

-- those before one, it, and those after it
pub parted : (xs : List (Bor (List ℕ))) (i : ℕ) (x d : Bor (List ℕ)) → i < length xs → x ≡ get_or xs i d → words_of xs ≡ words_of (take i xs) ++ x.now ∷ words_of (drop (i + 1) xs)
parted xs i x d below is = sym (ap words_of (take-append-drop i xs)) ∙ map-append (λ (b : Bor (List ℕ)). b.now) (take i xs) (drop i xs) ∙ ap (λ (l : List (List ℕ)). words_of (take i xs) ++ l) (next_word xs i x d below is)
