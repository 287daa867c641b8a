-- What a table's entries are, for holders of tables.
use Rattle.std.proofs.Common.{◌≡◌, ℕ, ◌+◌, ◌-◌, ◌<◌, ◌≤◌, true, false, List, [], ◌∷◌, length, get_or, Some, refl, sym, ap, subst, ◌∙◌, arith, inl, inr}
use Rattle.std.specs.Prelude.{slice_get}
use Rattle.std.specs.declared.cmp.Ordering.{Ordering}
use Rattle.std.specs.declared.cmp.Ordering.TheVariants.{Less, Equal, Greater}
use Rattle.std.specs.Ordering.{ordering_then, nat_cmp, is_lt, is_gt}
use Rattle.std.specs.Cmp.Lexicographic.{slice_cmp}
use Rattle.std.proofs.lemmas.Bool.{cases_order}
use Rattle.std.proofs.lemmas.Cmp.{nat_list_cmp_total, tied_itself}
use Rattle.lsm_key.specs.declared.entry.Entry.{Entry}
use Rattle.lsm_key.specs.declared.limits.TheConstants.{MAX_KEY_BYTES, MAX_TABLE_BYTES}
use Rattle.lsm_key.specs.Order.{Precedes, IsAscending}
use Rattle.lsm_key.specs.Sets.{IsIn}
use Rattle.lsm_key.specs.Spelling.{IsKey}
use Rattle.lsm_key.specs.Visible.{IsUnique}
use Rattle.lsm_key.proofs.FieldLaws.{ok_is}
use Rattle.lsm_key.proofs.EntryOrder.{far, ascending_unique}
use Rattle.lsm_key.proofs.Membership.{IsIn-at, IsIn-place}
use Rattle.lsm_table.specs.declared.fault.TableFault.{TableFault}
use Rattle.lsm_key.specs.Entries.{IsEntry}
use Rattle.lsm_block.specs.BlockReading.{last_of}
use Rattle.lsm_table.specs.Tables.{IsTable, key_of_entry, smallest_key, largest_key}
use Rattle.lsm_block.proofs.EntriesGrow.{each_in, last_at}
use Rattle.lsm_table.proofs.TableLaws.{table_again}

-- the one key is not above the other
abbrev pub NotAbove : List ℕ → List ℕ → Type 0
NotAbove a b = is_gt (slice_cmp nat_cmp a b) ≡ false

not_above_itself : (a : List ℕ) → NotAbove a a
not_above_itself a = ap is_gt (tied_itself nat_list_cmp_total a)

first_decides : (o r : Ordering) → is_lt (ordering_then o r) ≡ true → is_gt o ≡ false
first_decides Less r h = refl
first_decides Equal r h = refl
first_decides Greater r h = absurd cc

keys_ascend : (es : List Entry) → IsAscending es → (i j : ℕ) (d : Entry) → i ≤ j → j < length es → NotAbove (get_or es i d).ikey.key (get_or es j d).ikey.key
keys_ascend es up i j d le lt =
    elim (cases_order i j) [
      | inl same ↦ subst (λ (n : ℕ). NotAbove (get_or es i d).ikey.key (get_or es n d).ikey.key) same (not_above_itself (get_or es i d).ikey.key)
      | inr (inl less) ↦
          let gap : j ≡ i + 1 + (j - (i + 1)) = omega (arith, less) in
          let p : Precedes (get_or es i d) (get_or es j d) = far es up (j - (i + 1)) i j d gap lt in
          first_decides (slice_cmp nat_cmp (get_or es i d).ikey.key (get_or es j d).ikey.key) (nat_cmp (get_or es j d).ikey.seq (get_or es i d).ikey.seq) p
      | inr (inr more) ↦ absurd (omega (arith, more, le))
    ]

-- an entry with the smallest key, and one with the largest
pub smallest_in : (es : List Entry) → 0 < length es → (e : Entry) × IsIn e es × (e.ikey.key ≡ smallest_key es)
smallest_in [] some = absurd (omega (arith, some))
smallest_in (x ∷ es) some = (x, inl refl, refl)

pub largest_in : (es : List Entry) → 0 < length es → (e : Entry) × IsIn e es × (e.ikey.key ≡ largest_key es)
largest_in [] some = absurd (omega (arith, some))
largest_in (x ∷ es) some =
    let n : ℕ = length es in
    let last : last_of (x ∷ es) ≡ Some (get_or (x ∷ es) n x) = last_at x es x in
    (get_or (x ∷ es) n x, IsIn-at (x ∷ es) n x (omega arith), sym (ap key_of_entry last))

-- the keys of the first and of the last entry
pub smallest_is : (es : List Entry) (e : Entry) → slice_get es 0 ≡ Some e → e.ikey.key ≡ smallest_key es
smallest_is [] e h = absurd cc
smallest_is (x ∷ es) e h = let same : x ≡ e = cc in sym (ap (λ (y : Entry). y.ikey.key) same)

pub largest_is : (es : List Entry) (e : Entry) → last_of es ≡ Some e → e.ikey.key ≡ largest_key es
largest_is es e h = sym (ap key_of_entry h)

pub from_smallest : (es : List Entry) → IsAscending es → (e : Entry) → IsIn e es → NotAbove (smallest_key es) e.ikey.key
from_smallest [] up e m = absurd m
from_smallest (x ∷ es) up e m =
    let p = IsIn-place e (x ∷ es) m in
    subst (λ (y : Entry). NotAbove x.ikey.key y.ikey.key) p.2 (keys_ascend (x ∷ es) up 0 p.0 e (omega arith) p.1)

pub to_largest : (es : List Entry) → IsAscending es → (e : Entry) → IsIn e es → NotAbove e.ikey.key (largest_key es)
to_largest [] up e m = absurd m
to_largest (x ∷ es) up e m =
    let n : ℕ = length es in
    let p = IsIn-place e (x ∷ es) m in
    let last : last_of (x ∷ es) ≡ Some (get_or (x ∷ es) n e) = last_at x es e in
    let k = keys_ascend (x ∷ es) up p.0 n e (omega (arith, p.1)) (omega arith) in
    subst (λ (key : List ℕ). NotAbove e.ikey.key key) (sym (ap key_of_entry last)) (subst (λ (y : Entry). NotAbove y.ikey.key (get_or (x ∷ es) n e).ikey.key) p.2 k)

module _ (bytes : List ℕ) (es : List Entry) (is : IsTable bytes es) where
  pub table_some : 0 < length es
  table_some = is.some

  pub table_small : (0 < length bytes) × (length bytes ≤ MAX_TABLE_BYTES)
  table_small = (rw is.spelled (omega arith), is.small)

  pub table_ascending : IsAscending es
  table_ascending = is.sound.ascending

  -- no two entries have one key and sequence
  pub table_unique : IsUnique es
  table_unique = ascending_unique es is.sound.ascending

  pub table_entry : (e : Entry) → IsIn e es → IsEntry e
  table_entry e m = each_in IsEntry es e is.sound.each m

  -- each key lies between the smallest and the largest
  pub table_range : (e : Entry) → IsIn e es → NotAbove (smallest_key es) e.ikey.key × NotAbove e.ikey.key (largest_key es)
  table_range e m = (from_smallest es is.sound.ascending e m, to_largest es is.sound.ascending e m)

  pub table_ends : NotAbove (smallest_key es) (largest_key es)
  table_ends = let l = largest_in es is.some in subst (λ (key : List ℕ). NotAbove (smallest_key es) key) l.2 (from_smallest es is.sound.ascending l.0 l.1)

  pub smallest_fits : IsKey MAX_KEY_BYTES (smallest_key es)
  smallest_fits = let s = smallest_in es is.some in subst (IsKey MAX_KEY_BYTES) s.2 (table_entry s.0 s.1).key

  pub largest_fits : IsKey MAX_KEY_BYTES (largest_key es)
  largest_fits = let l = largest_in es is.some in subst (IsKey MAX_KEY_BYTES) l.2 (table_entry l.0 l.1).key

-- bytes are the table of one list of entries
pub table_one : (bytes : List ℕ) (es fs : List Entry) → IsTable bytes es → IsTable bytes fs → es ≡ fs
table_one bytes es fs one other = ok_is {F = TableFault} es fs (sym (table_again bytes es one) ∙ table_again bytes fs other)
