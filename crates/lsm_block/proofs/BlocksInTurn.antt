-- Blocks that follow one another: the entries of each are read after those of the blocks before it.
use Rattle.std.proofs.Common.{◌≡◌, ℕ, ◌+◌, ◌-◌, ◌<◌, List, [], ◌∷◌, ◌++◌, length, get_or, take, Some, refl, sym, ap, subst, ◌∙◌, arith}
use Rattle.std.specs.List.{AllByRecursion}
use Rattle.std.proofs.lemmas.List.{length-append, append-nil, get_or_append_left, get_or-append-add, take_all, take_more}
use Rattle.std.proofs.lemmas.List.Concat.{flat_map-append}
use Rattle.lsm_key.specs.declared.entry.Entry.{Entry}
use Rattle.lsm_key.specs.Entries.{IsEntry}
use Rattle.lsm_key.specs.Limits.{entry_weight}
use Rattle.lsm_key.specs.Order.{Precedes, IsAscending}
use Rattle.lsm_key.specs.Spelling.{key, trailer}
use Rattle.std.specs.Int.{w32, to_be_bytes}
use Rattle.lsm_block.specs.Blocks.{entry, entries, HasSequence, AreEntries}
use Rattle.lsm_block.specs.BlockReading.{last_of}
use Rattle.lsm_block.proofs.EntriesGrow.{last_at}

-- ---- a front of entries

module _ (P : Entry → Type 0) where
  pub each_front : (es more : List Entry) → AllByRecursion P (es ++ more) → AllByRecursion P es
  each_front [] more h = tt
  each_front (x ∷ es) more h = (h.0, each_front es more h.1)

ascending_front : (es more : List Entry) → IsAscending (es ++ more) → IsAscending es
ascending_front es more up i d lt =
    let step : Precedes (get_or (es ++ more) i d) (get_or (es ++ more) (i + 1) d) = up i d (omega (arith, lt, length-append es more)) in
    subst (λ (y : Entry). Precedes (get_or es i d) y) (get_or_append_left es more d (i + 1) lt) (subst (λ (x : Entry). Precedes x (get_or (es ++ more) (i + 1) d)) (get_or_append_left es more d i (omega (arith, lt))) step)

pub sound_front : (es more : List Entry) → AreEntries (es ++ more) → AreEntries es
sound_front es more sound = record { each = each_front IsEntry es more sound.each; sequences = each_front HasSequence es more sound.sequences; ascending = ascending_front es more sound.ascending }

-- ---- the last entry

-- what stands before entries does not change which is the last
pub last_behind : (before es : List Entry) → 0 < length es → last_of (before ++ es) ≡ last_of es
last_behind before [] some = absurd (omega (arith, some))
last_behind [] (x ∷ es) some = refl
last_behind (b ∷ before) (x ∷ es) some =
    let n : ℕ = length (before ++ x ∷ es) in
    let len : n ≡ length before + length (x ∷ es) = length-append before (x ∷ es) in
    let place : n ≡ length (b ∷ before) + length es = omega (arith, len) in
    last_at b (before ++ x ∷ es) x ∙ ap (λ (y : Entry). Some y) (ap (λ (k : ℕ). get_or ((b ∷ before) ++ x ∷ es) k x) place ∙ get_or-append-add (b ∷ before) (x ∷ es) (length es) x) ∙ sym (last_at x es x)

pub entry_size : (e : Entry) → length (entry e) ≡ entry_weight e
entry_size e = length-append (key e.ikey.key ++ trailer e.ikey.seq e.ikey.kind) (to_be_bytes w32 (length e.value) ++ e.value) ∙ omega (arith, length-append (key e.ikey.key) (trailer e.ikey.seq e.ikey.kind))

-- without its last entry a block has fewer bytes by that entry's
pub without_last : (es : List Entry) (last : Entry) → 0 < length es → last_of es ≡ Some last → length (entries (take (length es - 1) es)) ≡ length (entries es) - entry_weight last
without_last [] last some is = absurd (omega (arith, some))
without_last (x ∷ es) last some is =
    let n : ℕ = length es in
    let zs : List Entry = x ∷ es in
    let there : last ≡ get_or zs n x = (let same : Some last ≡ Some (get_or zs n x) = sym is ∙ last_at x es x in cc) in
    let parts : zs ≡ take n zs ++ last ∷ [] = sym (take_all (n + 1) zs (omega arith)) ∙ take_more zs n x (omega arith) ∙ ap (λ (y : Entry). take n zs ++ y ∷ []) (sym there) in
    let all : length (entries zs) ≡ length (entries (take n zs)) + length (entry last) = ap (λ (ys : List Entry). length (entries ys)) parts ∙ ap length (flat_map-append entry (take n zs) (last ∷ [])) ∙ length-append (entries (take n zs)) (entries (last ∷ [])) ∙ ap (λ (b : List ℕ). length (entries (take n zs)) + length b) (append-nil (entry last)) in
    let place : length zs - 1 ≡ n = omega arith in
    ap (λ (k : ℕ). length (entries (take k zs))) place ∙ omega (arith, all, entry_size last)
