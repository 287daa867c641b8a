-- The entries of lists, one list after another.
use Rattle.std.proofs.Common.{◌≡◌, refl, List, [], ◌∷◌, ◌++◌, sym, ap, ◌∙◌}
use Rattle.std.proofs.lemmas.List.{append-nil, append_assoc}
use Rattle.lsm_key.specs.declared.entry.Entry.{Entry}
use Rattle.lsm_key.specs.Places.{all_entries}

pub all_entries-append : (xss yss : List (List Entry)) → all_entries (xss ++ yss) ≡ all_entries xss ++ all_entries yss
all_entries-append [] yss = refl
all_entries-append (xs ∷ xss) yss = ap (λ (es : List Entry). xs ++ es) (all_entries-append xss yss) ∙ sym (append_assoc xs (all_entries xss) (all_entries yss))

pub all_entries-push : (xss : List (List Entry)) (xs : List Entry) → all_entries (xss ++ xs ∷ []) ≡ all_entries xss ++ xs
all_entries-push xss xs = all_entries-append xss (xs ∷ []) ∙ ap (λ (es : List Entry). all_entries xss ++ es) (append-nil xs)
