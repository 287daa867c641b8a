-- What is read of the keys so far.
use Rattle.std.proofs.Common.{◌≡◌, ◌∙◌, ◌+◌, ◌<◌, ◌≤◌, ◌++◌, ◌∷◌, [], ℕ, List, Option, None, append_assoc, length, get_or, drop, refl, sym, ap, subst}
use Rattle.std.proofs.lemmas.List.{append-nil, at_drop_all}
use Rattle.std.specs.Borrow.{Bor}
use Rattle.lsm_resp.specs.Requests.{words_of}
use Rattle.lsm_coord.specs.Contract.Value.{CoordValue}
use Rattle.lsm_store.specs.Store.{ReadsValue}
use Rattle.lsm_serve.specs.Answers.{ReadsAll}
use Rattle.lsm_serve.proofs.WordsSoFar.{next_word}

-- whatever is read of the keys that are left completes the values
pub record ReadsFrom (c : CoordValue) (keys : List (List ℕ)) (values : List (Option (List ℕ))) (left : List (List ℕ)) : Type 0 where
  pub completes : (rest : List (Option (List ℕ))) → ReadsAll c left rest → ReadsAll c keys (values ++ rest)

pub reads_next : (c : CoordValue) (keys : List (List ℕ)) (values more : List (Option (List ℕ))) (key : List ℕ) (left : List (List ℕ)) (value : Option (List ℕ)) → ReadsFrom c keys values (key ∷ left) → ReadsValue c key None value → more ≡ values ++ value ∷ [] → ReadsFrom c keys more left
reads_next c keys values more key left value so is e = record {
  completes = λ rest read. (let joined : values ++ (value ∷ rest) ≡ more ++ rest = sym (ap (λ (l : List (Option (List ℕ))). l ++ rest) e ∙ append_assoc values (value ∷ []) rest) in subst (λ (l : List (Option (List ℕ))). ReadsAll c keys l) joined (so.completes (value ∷ rest) (is, read)));
}

pub reads_more : (c now : CoordValue) (words : List (Bor (List ℕ))) (i : ℕ) (values more : List (Option (List ℕ))) (d : Bor (List ℕ)) (value : Option (List ℕ)) → now ≡ c → i < length words → ReadsFrom c (words_of words) values (words_of (drop i words)) → ReadsValue now (get_or words i d).now None value → more ≡ values ++ value ∷ [] → ReadsFrom c (words_of words) more (words_of (drop (i + 1) words))
reads_more c now words i values more d value same below so is e = reads_next c (words_of words) values more (get_or words i d).now (words_of (drop (i + 1) words)) value (subst (λ (left : List (List ℕ)). ReadsFrom c (words_of words) values left) (next_word words i (get_or words i d) d below refl) so) (subst (λ (s : CoordValue). ReadsValue s (get_or words i d).now None value) same is) e

pub reads_all : (c : CoordValue) (keys : List (List ℕ)) (values : List (Option (List ℕ))) → ReadsFrom c keys values [] → ReadsAll c keys values
reads_all c keys values so = subst (λ (l : List (Option (List ℕ))). ReadsAll c keys l) (append-nil values) (so.completes [] tt)

pub reads_done : (c : CoordValue) (words : List (Bor (List ℕ))) (i : ℕ) (values : List (Option (List ℕ))) → length words ≤ i → ReadsFrom c (words_of words) values (words_of (drop i words)) → ReadsAll c (words_of words) values
reads_done c words i values above so = reads_all c (words_of words) values (subst (λ (left : List (List ℕ)). ReadsFrom c (words_of words) values left) (at_drop_all words_of words i above) so)
