-- The next entry of several sources, in the order of internal keys (LevelDB, table/merger.cc, MergingIterator: the child with the smallest key).
use Rattle.std.specs.Prelude.{◌≡◌, ◌⊎◌, Bool, true, false, List, [], ◌∷◌, Option, Some, None, IsPermutation, ⊤, map}
use Rattle.lsm_key.specs.declared.entry.Entry.{Entry}
use Rattle.lsm_key.specs.Order.{IsInOrder, precedes}
use Rattle.lsm_key.specs.Places.{all_entries}
use Rattle.lsm_key.specs.Sets.{IsIn}

-- a source was asked for its next entry: it gave this one and has the rest left, or had none left
abbrev pub IsRefilled : List Entry → Bool → Entry → List Entry → Type 0
IsRefilled left false e rest = left ≡ []
IsRefilled left true e rest = left ≡ e ∷ rest

-- no head's entry comes before a later one's: the first in order stands last
abbrev pub AreTurned : {H : Type 0} → (H → Entry) → List H → Type 0
AreTurned entry [] = ⊤
AreTurned {H} entry (h ∷ hs) = ((other : H) → IsIn other hs → precedes (entry h) (entry other) ≡ false) × AreTurned entry hs

-- the head that stands last
abbrev pub first_of : {H : Type 0} → List H → Option H
first_of [] = None
first_of (h ∷ []) = Some h
first_of (h ∷ other ∷ hs) = first_of (other ∷ hs)

-- the entries of each head and its source
abbrev pub lists_ahead : {H : Type 0} → (H → Entry) → (H → List Entry) → List H → List (List Entry)
lists_ahead entry left heads = map (λ h. entry h ∷ left h) heads

-- the source of the first head gave its next entry, or had none left; the others were not asked
abbrev pub AdvancesFirst : {H : Type 0} → (H → Entry) → (H → List Entry) → (old : List H) → H → (new : List H) → Type 0
AdvancesFirst {H} entry left old first new = (others : List H) × IsPermutation old (first ∷ others)
    × (((left first ≡ []) × IsPermutation others new) ⊎ ((next : H) × (left first ≡ entry next ∷ left next) × IsPermutation (next ∷ others) new))

-- each of the lists is in order
abbrev pub AllInOrder : List (List Entry) → Type 0
AllInOrder lists = (list : List Entry) → IsIn list lists → IsInOrder list

-- a list that has an entry
abbrev pub has_entry : List Entry → Bool
has_entry [] = false
has_entry (e ∷ es) = true

-- the heads were put in order
pub record PutInOrder {H : Type 0} (entry : H → Entry) (left : H → List Entry) (heads placed : List H) : Type 0 where
  pub same : IsPermutation heads placed
  pub all : IsPermutation (all_entries (lists_ahead entry left heads)) (all_entries (lists_ahead entry left placed))
  pub order : AllInOrder (lists_ahead entry left heads) → AllInOrder (lists_ahead entry left placed)

-- an entry was taken from the lists, which none that is left comes before
pub record TakesFirst (old : List (List Entry)) (e : Entry) (new : List (List Entry)) : Type 0 where
  pub all : IsPermutation (all_entries old) (e ∷ all_entries new)
  pub order : AllInOrder old → AllInOrder new
  pub first : AllInOrder old → (f : Entry) → IsIn f (all_entries new) → precedes f e ≡ false

-- the first head went on, if there is one
abbrev pub AdvancesHeads : {H : Type 0} → (H → Entry) → (H → List Entry) → (old : List H) → Option H → (new : List H) → Type 0
AdvancesHeads entry left old None new = (old ≡ []) × (new ≡ [])
AdvancesHeads entry left old (Some first) new = AdvancesFirst entry left old first new × TakesFirst (lists_ahead entry left old) (entry first) (lists_ahead entry left new)
