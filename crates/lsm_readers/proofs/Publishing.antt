-- What is pending after a publication, shown or not, ends with what ended it before.
use Rattle.std.proofs.Common.{fold, map, Option, Some, None, Result, Ok, Err, MatchResult, ◌∙◌, ◌≡◌, List, [], ◌∷◌, ◌++◌, refl, ap, sym, subst}
use Rattle.std.specs.Option.{option_map}
use Rattle.lsm_edit.specs.Served.{ServedValue}
use Rattle.lsm_readers.specs.Writers.{IsAllTaken, last_list}
use Rattle.lsm_readers.proofs.Adding.{newest_push}

map_same : (xs : List (List ServedValue)) → map (λ (s : List ServedValue). s) xs ≡ xs
map_same [] = refl
map_same (x ∷ xs) = ap (λ (l : List (List ServedValue)). x ∷ l) (map_same xs)

fold_last : (a : List ServedValue) (ops : List (List ServedValue)) → fold (λ (s o : List ServedValue). o) a ops ≡ last_list a ops
fold_last a [] = refl
fold_last a (o ∷ ops) = fold_last o ops

shown_last : {X Y : Type 0} (r : Result X Y) (a b : List ServedValue) (ops new : List (List ServedValue))
    → MatchResult r (λ _. (b ≡ fold (λ (s o : List ServedValue). o) a ops) × (new ≡ [])) (λ _. (b ≡ a) × (new ≡ ops)) → last_list b (map (λ (s : List ServedValue). s) new) ≡ last_list a ops
shown_last (Ok u) a b ops new h = ap (λ (l : List (List ServedValue)). last_list b (map (λ (s : List ServedValue). s) l)) h.1 ∙ (h.0 ∙ fold_last a ops)
shown_last (Err e) a b ops new h = ap (last_list b) (map_same new) ∙ (ap (last_list b) h.1 ∙ ap (λ (x : List ServedValue). last_list x ops) h.0)

abbrev all_taken : List ServedValue → List (List ServedValue) → List ServedValue → Option (List ServedValue) → Type 0
all_taken a ops t waiting = IsAllTaken a (map (λ (s : List ServedValue). s) ops) (option_map (λ (s : List ServedValue). s) waiting) t

-- what waited is pending now
pub pending_last : (a b : List ServedValue) (ops new : List (List ServedValue)) (waiting : Option (List ServedValue)) (p t : List ServedValue)
    → waiting ≡ Some p → IsAllTaken a (map (λ (s : List ServedValue). s) ops) (option_map (λ (s : List ServedValue). s) waiting) t → new ≡ ops ++ p ∷ [] → last_list b new ≡ t
pending_last a b ops new waiting p t some all push = ap (last_list b) push ∙ (newest_push b ops p ∙ subst (all_taken a ops t) some all)

-- nothing waited
pub pending_same : (a : List ServedValue) (ops : List (List ServedValue)) (waiting : Option (List ServedValue)) (t : List ServedValue)
    → waiting ≡ None → IsAllTaken a (map (λ (s : List ServedValue). s) ops) (option_map (λ (s : List ServedValue). s) waiting) t → last_list a ops ≡ t
pending_same a ops waiting t none all = sym (ap (last_list a) (map_same ops)) ∙ subst (all_taken a ops t) none all

-- nothing waits, and what was pending is shown or not
pub flushed_last : {X Y : Type 0} (r : Result X Y) (a b : List ServedValue) (ops new : List (List ServedValue)) (waiting : Option (List ServedValue)) (t : List ServedValue)
    → MatchResult r (λ _. (b ≡ fold (λ (s o : List ServedValue). o) a ops) × (new ≡ [])) (λ _. (b ≡ a) × (new ≡ ops)) → waiting ≡ None → last_list a ops ≡ t
    → IsAllTaken b (map (λ (s : List ServedValue). s) new) (option_map (λ (s : List ServedValue). s) waiting) t
flushed_last r a b ops new waiting t h none last = subst (all_taken b new t) (sym none) (shown_last r a b ops new h ∙ last)

-- what is shown then is all that was taken
pub flushed_shows : (a b : List ServedValue) (ops : List (List ServedValue)) (t : List ServedValue) → b ≡ fold (λ (s o : List ServedValue). o) a ops → last_list a ops ≡ t → b ≡ t
flushed_shows a b ops t shown last = shown ∙ (fold_last a ops ∙ last)
