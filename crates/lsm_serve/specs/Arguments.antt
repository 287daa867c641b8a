-- The arguments of a command, by how many they are.
use Rattle.std.specs.Prelude.{◌≡◌, ℕ, ◌<◌, ◌%◌, List, [], ◌∷◌, length}

-- there is not exactly one argument
abbrev pub IsNotOne : List (List ℕ) → Type 0
IsNotOne args = (x : List ℕ) → args ≡ x ∷ [] → ⊥

-- there are not exactly two arguments
abbrev pub IsNotTwo : List (List ℕ) → Type 0
IsNotTwo args = (x y : List ℕ) → args ≡ x ∷ y ∷ [] → ⊥

-- there are not exactly three arguments
abbrev pub IsNotThree : List (List ℕ) → Type 0
IsNotThree args = (x y z : List ℕ) → args ≡ x ∷ y ∷ z ∷ [] → ⊥

-- what holds of the argument if it is one, and what holds if it is not
abbrev pub WithOne : (List ℕ → Type 0) → Type 0 → List (List ℕ) → Type 0
WithOne P Q (x ∷ []) = P x
WithOne P Q args = Q

-- what holds of the arguments if they are two, and what holds if they are not
abbrev pub WithTwo : (List ℕ → List ℕ → Type 0) → Type 0 → List (List ℕ) → Type 0
WithTwo P Q (x ∷ y ∷ []) = P x y
WithTwo P Q args = Q

-- what holds of the arguments if they are three, and what holds if they are not
abbrev pub WithThree : (List ℕ → List ℕ → List ℕ → Type 0) → Type 0 → List (List ℕ) → Type 0
WithThree P Q (x ∷ y ∷ z ∷ []) = P x y z
WithThree P Q args = Q

-- what holds if there is an argument, and what holds if there is none
abbrev pub WithSome : Type 0 → Type 0 → List (List ℕ) → Type 0
WithSome P Q [] = Q
WithSome P Q (x ∷ xs) = P

-- one or more keys, each with a value behind it
abbrev pub ArePairs : List (List ℕ) → Type 0
ArePairs args = (0 < length args) × (length args % 2 ≡ 0)
