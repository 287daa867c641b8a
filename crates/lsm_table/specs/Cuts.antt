-- How a table's entries are cut into its blocks (LevelDB, table_builder.cc, Add: a block is flushed once it has block_size bytes; the rule is exact here).
use Rattle.std.specs.Prelude.{ℕ, ◌-◌, ◌<◌, ◌≤◌, List, [], ◌∷◌, ◌++◌, length, take, nat_le, if◌then◌else◌}
use Rattle.lsm_key.specs.declared.entry.Entry.{Entry}
use Rattle.lsm_block.specs.Blocks.{entries}

-- the entries but the last one
abbrev pub but_last : List Entry → List Entry
but_last es = take (length es - 1) es

-- a block has an entry, and without its last one it has fewer bytes than the target
pub record IsOneCut (target : ℕ) (es : List Entry) : Type 0 where
  pub some : 0 < length es
  pub late : length (entries (but_last es)) < target

-- each block is cut so, and each but the last has at least as many bytes as the target
abbrev pub IsCut : ℕ → List (List Entry) → Type 0
IsCut target [] = Unit {0}
IsCut target (es ∷ more) = IsOneCut target es × (0 < length more → target ≤ length (entries es)) × IsCut target more

-- the blocks of entries that follow those of a block: it takes entries until it has as many bytes as the target
abbrev pub cut_after : ℕ → List Entry → List Entry → List (List Entry)
cut_after target taken [] = taken ∷ []
cut_after target taken (e ∷ es) =
    if nat_le target (length (entries taken)) then taken ∷ cut_after target (e ∷ []) es
    else cut_after target (taken ++ e ∷ []) es

-- the blocks of entries
abbrev pub cut_of : ℕ → List Entry → List (List Entry)
cut_of target [] = []
cut_of target (e ∷ es) = cut_after target (e ∷ []) es
