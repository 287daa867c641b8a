-- What entries weigh is what their blocks take, and a table takes little more.
use Rattle.std.proofs.Common.{◌≡◌, ℕ, ◌+◌, ◌*◌, ◌<◌, ◌≤◌, List, [], ◌∷◌, ◌++◌, length, get_or, leb, Option, Some, refl, ap, ◌∙◌, arith, inl, inr}
use Rattle.std.specs.List.{AllByRecursion, flat_map, sum_by}
use Rattle.std.proofs.lemmas.Bool.{cases_Bool}
use Rattle.std.proofs.lemmas.List.{length-append}
use Rattle.std.proofs.lemmas.List.Concat.{flat_map-append, flat_map-cons}
use Rattle.std.proofs.lemmas.List.Sums.{sum_by-cons}
use Rattle.lsm_key.specs.declared.entry.Entry.{Entry}
use Rattle.lsm_key.specs.declared.limits.TheConstants.{MAX_TABLE_BYTES, MAX_MEMTABLE_WEIGHT}
use Rattle.lsm_key.specs.Limits.{entry_weight}
use Rattle.lsm_key.specs.Places.{all_entries}
use Rattle.lsm_key.specs.Sets.{IsIn}
use Rattle.lsm_key.specs.Spelling.{key, trailer}
use Rattle.lsm_key.proofs.Membership.{IsIn-at}
use Rattle.lsm_block.specs.Blocks.{entry, entries}
use Rattle.lsm_block.specs.BlockReading.{last_of}
use Rattle.lsm_table.specs.Cuts.{cut_after, cut_of}
use Rattle.lsm_table.specs.Tables.{end_key, index, table_of}
use Rattle.lsm_block.proofs.EntriesGrow.{last_at}
use Rattle.lsm_table.proofs.TableCuts.{cut_all}
use Rattle.lsm_block.proofs.BlocksInTurn.{entry_size}
use Rattle.lsm_table.proofs.TableSizes.{table_size}

pub entries_weigh : (es : List Entry) → length (entries es) ≡ sum_by entry_weight es
entries_weigh [] = refl
entries_weigh (e ∷ es) =
    let all : length (entries (e ∷ es)) ≡ length (entry e) + length (entries es) = ap length (flat_map-cons entry e es) ∙ length-append (entry e) (entries es) in
    omega (arith, all, entry_size e, entries_weigh es, sum_by-cons entry_weight e es)

one_weighs : (es : List Entry) (e : Entry) → IsIn e es → entry_weight e ≤ sum_by entry_weight es
one_weighs [] e h = absurd h
one_weighs (x ∷ es) e h =
    elim h [
      | inl same ↦ let w = ap entry_weight same in omega (arith, w, sum_by-cons entry_weight x es)
      | inr later ↦ let w = one_weighs es e later in omega (arith, w, sum_by-cons entry_weight x es)
    ]

-- what a block takes in the index
pub index_size : (es : List Entry) (e : Entry) → last_of es ≡ Some e → length (index es) ≡ 14 + length e.ikey.key
index_size es e last =
    let ends : length (end_key (last_of es)) ≡ 10 + length e.ikey.key = ap (λ (o : Option Entry). length (end_key o)) last ∙ length-append (key e.ikey.key) (trailer e.ikey.seq e.ikey.kind) ∙ omega arith in
    omega (arith, ends)

-- it is no more than the block itself
index_light : (es : List Entry) → 0 < length es → length (index es) ≤ length (entries es)
index_light [] some = absurd (omega (arith, some))
index_light (x ∷ xs) some =
    let es : List Entry = x ∷ xs in
    let n : ℕ = length xs in
    let e : Entry = get_or es n x in
    let w : entry_weight e ≤ sum_by entry_weight es = one_weighs es e (IsIn-at es n x (omega arith)) in
    omega (arith, index_size es e (last_at x xs x), w, entries_weigh es)

-- no block is empty
abbrev AreSome : List (List Entry) → Type 0
AreSome blocks = AllByRecursion (λ es. 0 < length es) blocks

after_each : (target : ℕ) (taken es : List Entry) → 0 < length taken → AreSome (cut_after target taken es)
after_each target taken [] some = (some, tt)
after_each target taken (e ∷ es) some =
    elim (cases_Bool (leb target (length (entries taken)))) [
      | inl full ↦ rw full (some, after_each target (e ∷ []) es (omega arith))
      | inr room ↦ rw room (after_each target (taken ++ e ∷ []) es (omega (arith, length-append taken (e ∷ []))))
    ]

cut_each : (target : ℕ) (es : List Entry) → AreSome (cut_of target es)
cut_each target [] = tt
cut_each target (e ∷ es) = after_each target (e ∷ []) es (omega arith)

indexes_light : (blocks : List (List Entry)) → AreSome blocks → length (flat_map index blocks) ≤ length (entries (all_entries blocks))
indexes_light [] some = omega arith
indexes_light (es ∷ blocks) some =
    let a : length (flat_map index (es ∷ blocks)) ≡ length (index es) + length (flat_map index blocks) = ap length (flat_map-cons index es blocks) ∙ length-append (index es) (flat_map index blocks) in
    let b : length (entries (es ++ all_entries blocks)) ≡ length (entries es) + length (entries (all_entries blocks)) = ap length (flat_map-append entry es (all_entries blocks)) ∙ length-append (entries es) (entries (all_entries blocks)) in
    omega (arith, a, b, index_light es some.0, indexes_light blocks some.1)

pub table_weighs : (target : ℕ) (es : List Entry) → 0 < length es → length (table_of target es) ≤ 17 + 2 * sum_by entry_weight es
table_weighs target es some =
    let blocks = cut_of target es in
    let size = table_size target blocks in
    let light = indexes_light blocks (cut_each target es) in
    let all : length (entries (all_entries blocks)) ≡ length (entries es) = ap (λ (xs : List Entry). length (entries xs)) (cut_all target es) in
    omega (arith, size, light, all, entries_weigh es)

-- entries that weigh no more than a memtable fit into a table
pub light_fits : (target : ℕ) (es : List Entry) → 0 < length es → sum_by entry_weight es ≤ MAX_MEMTABLE_WEIGHT → length (table_of target es) ≤ MAX_TABLE_BYTES
light_fits target es some light = let most = table_weighs target es some in omega (arith, light, most)
