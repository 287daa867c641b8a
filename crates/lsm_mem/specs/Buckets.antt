-- How a memtable finds its entries: by the prefixes of their keys (normalized keys: Graefe 2006, "Implementing sorting in database systems", section 3; the buckets are the store's own).
use Rattle.std.specs.Prelude.{ℕ, Bool, false, List, ◌≡◌, ◌<◌, [], ◌∷◌, length, flat_map, slice_index, min, take}
use Rattle.std.specs.Ordering.{nat_cmp, is_eq}
use Rattle.std.specs.Cmp.Lexicographic.{slice_cmp}
use Rattle.lsm_key.specs.declared.entry.Entry.{Entry}
use Rattle.lsm_key.specs.Sets.{IsIn}
use Rattle.lsm_mem.specs.declared.bucket.Bucket.{Bucket}
use Rattle.lsm_mem.specs.declared.bucket.Bucket.TheVariants.{One, Versions, Many}
use Rattle.lsm_mem.specs.declared.bucket.Lent.{Lent}
use Rattle.lsm_mem.specs.declared.bucket.Lent.TheVariants.{Key, Keys}
use Rattle.lsm_mem.specs.declared.front.Front.{Front}
use Rattle.lsm_mem.specs.Chains.{Chain}
use Rattle.lsm_key.specs.Prefix.{prefix_of}

-- the chain of the versions of a key, if there are any
abbrev pub chain_of_versions : List Entry → List Chain
chain_of_versions [] = []
chain_of_versions (e ∷ es) = record { key = e.ikey.key; versions = e ∷ es } ∷ []

-- they are of this key
abbrev pub are_of : List Entry → List ℕ → Bool
are_of [] key = false
are_of (e ∷ es) key = is_eq (slice_cmp nat_cmp key e.ikey.key)

-- the chains of a bucket
abbrev pub chains_in : Bucket → List Chain
chains_in (One e) = chain_of_versions (e ∷ [])
chains_in (Versions versions) = chain_of_versions versions.items
chains_in (Many chains) = chains

-- those of a lent bucket
abbrev pub chains_lent : Lent → List Chain
chains_lent (Key versions) = chain_of_versions versions.now
chains_lent (Keys chains) = chains.now

-- the chains of all buckets
abbrev pub chains_of_buckets : List (ℕ × Bucket) → List Chain
chains_of_buckets pairs = flat_map (λ p. chains_in p.1) pairs

-- the bytes of a front
abbrev pub bytes_of_front : Front → List ℕ
bytes_of_front front = take (min front.len 32) front.bytes

-- a key of bytes with this prefix after the front
pub record HasPrefix (front : List ℕ) (prefix : ℕ) (key : List ℕ) : Type 0 where
  pub bytes : (i : ℕ) → slice_index key i < 256
  pub same : prefix_of front key ≡ prefix

-- a bucket has a chain or more, whose keys all have its prefix
pub record IsPlaced (front : List ℕ) (pair : ℕ × Bucket) : Type 0 where
  pub some : 0 < length (chains_in pair.1)
  pub own : (c : Chain) → IsIn c (chains_in pair.1) → HasPrefix front pair.0 c.key

-- each bucket has its prefix's keys alone, and one or more of them
abbrev pub ArePlaced : List ℕ → List (ℕ × Bucket) → Type 0
ArePlaced front pairs = (p : ℕ × Bucket) → IsIn p pairs → IsPlaced front p
