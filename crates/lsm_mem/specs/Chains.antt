-- How a memtable holds its entries: key by key (LevelDB, implementation notes: the memtable; the grouping is the store's own).
use Rattle.std.specs.Prelude.{ℕ, Bool, nat_le, nat_lt, List, ◌≡◌, ◌<◌, ◌≤◌, ◌-◌, [], ◌∷◌, ◌++◌, length, sum_by, map, fold, take, filter, reverse, flat_map, if◌then◌else◌, Option, Some, None}
use Rattle.std.specs.declared.cmp.Ordering.TheVariants.{Less}
use Rattle.std.specs.declared.vec.Vec.{Vec}
use Rattle.std.specs.Ordering.{nat_cmp, is_eq, match_ordering}
use Rattle.std.specs.Cmp.Lexicographic.{slice_cmp}
use Rattle.lsm_key.specs.declared.entry.Entry.{Entry}
use Rattle.lsm_key.specs.declared.limits.TheConstants.{MAX_MEMTABLE_WEIGHT}
use Rattle.lsm_key.specs.Sets.{IsIn}
use Rattle.lsm_key.specs.Limits.{entry_weight}
use Rattle.lsm_key.specs.Entries.{AreSound}
use Rattle.lsm_key.specs.Order.{key_le}
use Rattle.lsm_mem.specs.Memtable.{last_sequence, SequencesDiffer}

-- a key with its versions, the oldest first
pub record Chain : Type 0 where
  pub key : List ℕ
  pub versions : List Entry

-- the chain of a key and its versions
abbrev pub chain_of : {Y Z : Type 0} → Vec ℕ Y × Vec Entry Z → Chain
chain_of p = record { key = p.0.items; versions = p.1.items }

-- the chains of keys with their versions, in their order
abbrev pub chains_of : {Y Z : Type 0} → List (Vec ℕ Y × Vec Entry Z) → List Chain
chains_of pairs = map chain_of pairs

-- the entries, of each key the newest first
abbrev pub entries_in : List Chain → List Entry
entries_in chains = flat_map (λ c. reverse c.versions) chains

-- the entries of keys with their versions, if there are such
abbrev pub entries_of_keys : {Y Z : Type 0} → Option (List (Vec ℕ Y × Vec Entry Z)) → List Entry
entries_of_keys None = []
entries_of_keys (Some pairs) = entries_in (chains_of pairs)

-- each entry is older than those after it
abbrev pub SequencesRise : List Entry → Type 0
SequencesRise [] = Unit {0}
SequencesRise (e ∷ es) = ((f : Entry) → IsIn f es → e.ikey.seq < f.ikey.seq) × SequencesRise es

-- the entry was written by then
abbrev pub is_written : ℕ → Entry → Bool
is_written point e = nat_le e.ikey.seq point

-- one version or more, all of the key, the oldest first
pub record IsChain (chain : Chain) : Type 0 where
  pub some : 0 < length chain.versions
  pub own : (e : Entry) → IsIn e chain.versions → e.ikey.key ≡ chain.key
  pub rising : SequencesRise chain.versions

-- the key is before that of each chain
abbrev pub IsBeforeChains : List ℕ → List Chain → Type 0
IsBeforeChains key chains = (c : Chain) → IsIn c chains → slice_cmp nat_cmp key c.key ≡ Less

-- chains whose keys ascend
abbrev pub AreChains : List Chain → Type 0
AreChains [] = Unit {0}
AreChains (chain ∷ chains) = IsChain chain × IsBeforeChains chain.key chains × AreChains chains

-- the chains with one more entry, the newest of its key
abbrev pub with_entry : Entry → List Chain → List Chain
with_entry e [] = record { key = e.ikey.key; versions = e ∷ [] } ∷ []
with_entry e (c ∷ cs) =
    match_ordering (slice_cmp nat_cmp e.ikey.key c.key) (record { key = e.ikey.key; versions = e ∷ [] } ∷ c ∷ cs)
    (record { key = c.key; versions = c.versions ++ e ∷ [] } ∷ cs)
    (c ∷ with_entry e cs)

-- the chains with more entries, one after another
abbrev pub with_entries : List Entry → List Chain → List Chain
with_entries es chains = fold (λ cs e. with_entry e cs) chains es

-- all but the newest version
abbrev pub older : List Entry → List Entry
older versions = take (length versions - 1) versions

-- a chain with these versions, if there are any
abbrev pub chain_if : List ℕ → List Entry → List Chain
chain_if key [] = []
chain_if key (e ∷ es) = record { key = key; versions = e ∷ es } ∷ []

-- the chains without the newest version of a key
abbrev pub without_newest : List ℕ → List Chain → List Chain
without_newest key [] = []
without_newest key (c ∷ cs) =
    if is_eq (slice_cmp nat_cmp key c.key) then chain_if c.key (older c.versions) ++ cs
    else c ∷ without_newest key cs

-- the entry was written before a sequence
abbrev pub is_older : ℕ → Entry → Bool
is_older first e = nat_lt e.ikey.seq first

-- the chains of what was written before a sequence
abbrev pub chains_before : ℕ → List Chain → List Chain
chains_before first chains = flat_map (λ c. chain_if c.key (filter (is_older first) c.versions)) chains

-- the chains whose key is at or after lo
abbrev pub chains_from : List ℕ → List Chain → List Chain
chains_from lo chains = filter (λ c. key_le lo c.key) chains

-- chains, with what is noted of their entries
pub record IsNoted (chains : List Chain) (weight count last : ℕ) : Type 0 where
  pub chained : AreChains chains
  pub sound : AreSound (entries_in chains)
  pub apart : SequencesDiffer (entries_in chains)
  pub weighed : weight ≡ sum_by entry_weight (entries_in chains)
  pub light : weight ≤ MAX_MEMTABLE_WEIGHT
  pub counted : count ≡ length (entries_in chains)
  pub newest : last ≡ last_sequence (entries_in chains)
