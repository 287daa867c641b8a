-- Fences of a span: the prefixes of its keys, and where their entries begin (LevelDB, doc/table_format.md: an index of keys; the form is the store's own).
use Rattle.std.specs.Prelude.{◌≡◌, ◌⊎◌, ℕ, ◌<◌, List, ◌∷◌, ◌++◌, length, slice_index}
use Rattle.std.specs.List.{All, AllWithin}
use Rattle.lsm_key.specs.declared.entry.Entry.{Entry}
use Rattle.lsm_key.specs.Prefix.{prefix_of}
use Rattle.lsm_block.specs.Blocks.{entries}

-- the entry after so many has a key of this prefix after the front, and begins at the place
pub record IsFence (front : List ℕ) (es : List Entry) (number prefix place : ℕ) : Type 0 where
  pub before : List Entry
  pub first : Entry
  pub more : List Entry
  pub parts : es ≡ before ++ first ∷ more
  pub numbered : number ≡ length before
  pub begins : place ≡ length (entries before)
  pub prefixed : prefix ≡ prefix_of front first.ikey.key

-- there is a prefix and a place for each entry, in the order of the entries
pub record AreFences (front : List ℕ) (es : List Entry) (prefixes places : List ℕ) : Type 0 where
  pub counted : length prefixes ≡ length es
  pub paired : length prefixes ≡ length places
  pub each : (i : ℕ) → i < length prefixes → IsFence front es i (slice_index prefixes i) (slice_index places i)

-- the first of those whose prefix is that of the key, if there is one, begins at the place
pub record IsFirstFence (front prefixes places key : List ℕ) (place : ℕ) : Type 0 where
  pub number : ℕ
  pub within : number < length prefixes
  pub begins : place ≡ slice_index places number
  pub prefixed : slice_index prefixes number ≡ prefix_of front key
  pub first : AllWithin (λ n. n < prefix_of front key) prefixes 0 number

-- the first entry whose prefix is not less than that of the key begins at the place, which is the end of the bytes if there is none
abbrev pub IsLowerFence : List ℕ → List ℕ → List ℕ → List ℕ → ℕ → ℕ → Type 0
IsLowerFence front prefixes places key len place =
    ((place ≡ len) × All (λ n. n < prefix_of front key) prefixes)
    ⊎ ((i : ℕ) × (i < length prefixes) × (place ≡ slice_index places i) × AllWithin (λ n. n < prefix_of front key) prefixes 0 i)

-- a walk for the key may begin at the front of the span, and at a fence whose prefix is less than the key's
abbrev pub MayBegin : List ℕ → List ℕ → List ℕ → List ℕ → ℕ → Type 0
MayBegin front prefixes places key begin = (begin ≡ 0) ⊎ ((i : ℕ) × (i < length prefixes) × (begin ≡ slice_index places i) × (slice_index prefixes i < prefix_of front key))

-- a walk for the key may end at the end of the span, and at a fence whose prefix is greater than the key's
abbrev pub MayEnd : List ℕ → List ℕ → List ℕ → List ℕ → ℕ → ℕ → Type 0
MayEnd front prefixes places key len end = (end ≡ len) ⊎ ((i : ℕ) × (i < length prefixes) × (end ≡ slice_index places i) × (prefix_of front key < slice_index prefixes i))
