-- Text that is put together piece by piece.
use Rattle.std.proofs.Common.{◌≡◌, ℕ, suc, ◌+◌, ◌<◌, List, [], ◌∷◌, ◌++◌, length, drop, get_or, map, sym, ap, ◌∙◌, append_assoc, append-nil, drop-cons, drop_of_length-le, ◌≤◌, add-one}
use Rattle.std.proofs.lemmas.List.{map-append}
use Rattle.std.specs.List.{flat_map, join_with_byte}
use Rattle.std.specs.Fmt.{decimal}

-- one piece after another
pub joined : (old mid new first last : List ℕ) → mid ≡ old ++ first → new ≡ mid ++ last → new ≡ old ++ (first ++ last)
joined old mid new first last before after = after ∙ ap (λ (t : List ℕ). t ++ last) before ∙ append_assoc old first last

-- a further number of a list
abbrev pub after_comma : ℕ → List ℕ
after_comma number = 44 ∷ decimal number

pub join-cons : (first : ℕ) (others : List ℕ) → join_with_byte 44 (map decimal (first ∷ others)) ≡ decimal first ++ flat_map after_comma others
join-cons first [] = sym (append-nil (decimal first))
join-cons first (second ∷ others) = ap (λ (rest : List ℕ). decimal first ++ 44 ∷ rest) (join-cons second others)

-- one turn: the piece of the next element is added
pub flat_map-turn : {X : Type 0} (f : X → List ℕ) (xs : List X) (i : ℕ) (x : X) (all out more : List ℕ) → i < length xs → x ≡ get_or xs i x → more ≡ out ++ f x → all ≡ out ++ flat_map f (drop i xs) → all ≡ more ++ flat_map f (drop (i + 1) xs)
flat_map-turn f xs i x all out more lt is added so = so ∙ ap (λ ys. out ++ flat_map f ys) (drop-cons xs i x lt) ∙ rw (add-one, added, ← is) (sym (append_assoc out (f x) (flat_map f (drop (suc i) xs))))

pub flat_map-end : {X : Type 0} (f : X → List ℕ) (xs : List X) (i : ℕ) (all out : List ℕ) → length xs ≤ i → all ≡ out ++ flat_map f (drop i xs) → all ≡ out
flat_map-end f xs i all out done so = so ∙ rw (drop_of_length-le xs done) (append-nil out)

-- one turn of a copy: the next element is copied
pub map-turn : {A B C : Type 0} (f : A → C) (g : B → C) (xs : List B) (i : ℕ) (x : B) (all : List C) (done more : List A) (a : A) → i < length xs → x ≡ get_or xs i x → more ≡ done ++ a ∷ [] → f a ≡ g x → all ≡ map f done ++ map g (drop i xs) → all ≡ map f more ++ map g (drop (i + 1) xs)
map-turn {A} {B} {C} f g xs i x all done more a lt is added same so =
    let copied : map f more ++ map g (drop (i + 1) xs) ≡ map f done ++ f a ∷ map g (drop (suc i) xs) = rw (added, map-append, add-one) (append_assoc (map f done) (f a ∷ []) (map g (drop (suc i) xs))) in
    so ∙ ap (λ (ys : List B). map f done ++ map g ys) (drop-cons xs i x lt) ∙ ap (λ (c : C). map f done ++ c ∷ map g (drop (suc i) xs)) (sym (same ∙ ap g is)) ∙ sym copied
