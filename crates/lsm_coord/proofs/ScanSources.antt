-- The sources of a scan have all entries from a key on.
use Rattle.std.proofs.Common.{◌≡◌, ℕ, List, [], ◌∷◌, ◌++◌, sym, ap, subst, ◌∙◌, inl, inr}
use Rattle.std.specs.List.{filter}
use Rattle.std.proofs.lemmas.List.{append-nil, append_assoc, map-append}
use Rattle.std.proofs.lemmas.List.Elements.{filter-append}
use Rattle.lsm_key.specs.declared.entry.Entry.{Entry}
use Rattle.lsm_key.specs.Order.{IsAscending, IsInOrder, key_le}
use Rattle.lsm_key.specs.Places.{all_entries}
use Rattle.lsm_key.proofs.AscendingEntries.{ascending_falls, falls-filter, falls_in_order}
use Rattle.lsm_table.specs.Heads.{AllInOrder, has_entry}
use Rattle.lsm_coord.specs.declared.source.Source.{Source}
use Rattle.lsm_coord.specs.Inner.Sources.{left_behind, source_lists, source_entry}

module _ (lo : List ℕ) where
  -- the entries from lo on
  abbrev pub from_lo : List Entry → List Entry
  from_lo es = filter (λ e. key_le lo e.ikey.key) es

  pub part_in_order : (es part : List Entry) → IsAscending es → part ≡ from_lo es → IsInOrder part
  part_in_order es part up is = subst IsInOrder (sym is) (falls_in_order (from_lo es) (falls-filter (λ e. key_le lo e.ikey.key) es (ascending_falls es up)))

  pub parts_from : (a t mine : List Entry) (tables : List (List Entry)) → mine ≡ from_lo a → all_entries tables ≡ from_lo t → all_entries (mine ∷ tables) ≡ from_lo (a ++ t)
  parts_from a t mine tables ea et = (λ i. ea i ++ et i) ∙ sym (filter-append (λ e. key_le lo e.ikey.key) a t)

pub one_more_in_order : (list : List Entry) (lists : List (List Entry)) → IsInOrder list → AllInOrder lists → AllInOrder (list ∷ lists)
one_more_in_order list lists up all other m = elim m [ inl same ↦ subst IsInOrder (sym same) up | inr later ↦ all other later ]

-- ---- sources so far

-- one more that has an entry
pub one_read : (old : List Source) (s : Source) (cursor : List Entry) → cursor ≡ source_entry s ∷ left_behind s → source_lists (old ++ s ∷ []) ≡ source_lists old ++ filter has_entry (cursor ∷ [])
one_read old s cursor is = map-append (λ (x : Source). source_entry x ∷ left_behind x) old (s ∷ []) ∙ ap (λ (l : List Entry). source_lists old ++ filter has_entry (l ∷ [])) (sym is)

-- one more that has none
pub none_read : (old : List Source) (cursor : List Entry) → cursor ≡ [] → source_lists old ≡ source_lists old ++ filter has_entry (cursor ∷ [])
none_read old cursor none = sym (append-nil (source_lists old)) ∙ ap (λ (l : List Entry). source_lists old ++ filter has_entry (l ∷ [])) (sym none)

-- one cursor more
pub cursors_read : (first now : List (List Entry)) (yielded : List (List Entry)) (cursor : List Entry) (new : List (List Entry)) → now ≡ first ++ filter has_entry yielded → new ≡ now ++ filter has_entry (cursor ∷ []) → new ≡ first ++ filter has_entry (yielded ++ cursor ∷ [])
cursors_read first now yielded cursor new so_far more =
    more
    ∙ ap (λ (ls : List (List Entry)). ls ++ filter has_entry (cursor ∷ [])) so_far
    ∙ append_assoc first (filter has_entry yielded) (filter has_entry (cursor ∷ []))
    ∙ ap (λ (ls : List (List Entry)). first ++ ls) (sym (filter-append has_entry yielded (cursor ∷ [])))
