-- Cursors over the tables of places, from a key on, one after another.
use Rattle.std.proofs.Common.{◌≡◌, ℕ, ◌+◌, ◌<◌, ◌≤◌, List, [], ◌∷◌, ◌++◌, All, length, get_or, drop, append_assoc, refl, sym, ap, subst, ◌∙◌, arith, inl, inr}
use Rattle.std.specs.List.{filter}
use Rattle.std.proofs.lemmas.List.{append-nil, drop_more}
use Rattle.std.proofs.lemmas.List.Elements.{All-push, filter-append}
use Rattle.lsm_key.specs.declared.entry.Entry.{Entry}
use Rattle.lsm_key.specs.Order.{IsInOrder}
use Rattle.lsm_key.specs.Places.{all_entries}
use Rattle.lsm_key.specs.Sets.{IsIn}
use Rattle.lsm_key.proofs.AscendingEntries.{ascending_falls, falls-filter, falls_in_order}
use Rattle.lsm_key.proofs.Membership.{IsIn-at}
use Rattle.lsm_table.proofs.TableContents.{table_ascending}
use Rattle.lsm_edit.specs.declared.served.Placed.{Placed}
use Rattle.lsm_edit.specs.Served.{AllRecorded, AreInSearchOrder, IsAsRecorded, tables_of}
use Rattle.lsm_edit.proofs.AllEntries.{all_entries-push}
use Rattle.lsm_edit.proofs.LevelCursors.{is_from, onward, onward-append}
use Rattle.lsm_edit.proofs.LevelEntries.{is_of, is_over, level_falls, next_level, order_left, zero_here, zero_stopped}

-- the lists have what the places before the rest have from the key on
pub record GathersOn (lo : List ℕ) (ps : List Placed) (lists : List (List Entry)) (rest : List Placed) : Type 0 where
  pub all : all_entries lists ++ onward lo rest ≡ onward lo ps
  pub order : All IsInOrder lists

pub none_gathered : (lo : List ℕ) (ps : List Placed) → GathersOn lo ps [] ps
none_gathered lo ps = record { all = refl; order = λ k d lt. absurd (omega (arith, lt)) }

pub one_gathered : (lo : List ℕ) (ps rest : List Placed) (lists : List (List Entry)) (p : Placed) (list : List Entry) → AllRecorded (p ∷ []) → GathersOn lo ps lists (p ∷ rest)
    → list ≡ filter (is_from lo) p.table.entries → GathersOn lo ps (lists ++ list ∷ []) rest
one_gathered lo ps rest lists p list rec g is = record {
  all =
      ap (λ (es : List Entry). es ++ onward lo rest) (all_entries-push lists list ∙ ap (λ (es : List Entry). all_entries lists ++ es) is)
      ∙ append_assoc (all_entries lists) (filter (is_from lo) p.table.entries) (onward lo rest)
      ∙ ap (λ (es : List Entry). all_entries lists ++ es) (sym (filter-append (is_from lo) p.table.entries (all_entries (tables_of rest))))
      ∙ g.all;
  order = All-push IsInOrder lists list g.order (subst IsInOrder (sym is) (falls_in_order (filter (is_from lo) p.table.entries) (falls-filter (is_from lo) p.table.entries (ascending_falls p.table.entries (table_ascending p.table.bytes p.table.entries (rec p (inl refl)).table)))));
}

pub all_gathered : (lo : List ℕ) (ps : List Placed) (lists : List (List Entry)) → GathersOn lo ps lists [] → all_entries lists ≡ onward lo ps
all_gathered lo ps lists g = sym (append-nil (all_entries lists)) ∙ g.all

-- ---- level 0, place by place

module _ (lo : List ℕ) (ps : List Placed) (rec : AllRecorded ps) (up : AreInSearchOrder ps) (i : ℕ) (p : Placed) (lt : i < length ps) (is : p ≡ get_or ps i p) (lists : List (List Entry)) (g : GathersOn lo (filter (is_of 0) ps) lists (filter (is_of 0) (drop i ps))) where
  there : drop i ps ≡ p ∷ drop (i + 1) ps
  there = drop_more ps i p lt ∙ ap (λ (x : Placed). x ∷ drop (i + 1) ps) (sym is)

  in_places : IsIn p ps
  in_places = subst (λ (x : Placed). IsIn x ps) (sym is) (IsIn-at ps i p lt)

  pub zero_more : (list : List Entry) → p.meta.level ≤ 0 → list ≡ filter (is_from lo) p.table.entries → GathersOn lo (filter (is_of 0) ps) (lists ++ list ∷ []) (filter (is_of 0) (drop (i + 1) ps))
  zero_more list zero own =
      one_gathered lo (filter (is_of 0) ps) (filter (is_of 0) (drop (i + 1) ps)) lists p list (λ q m. elim m [ inl same ↦ subst (λ (x : Placed). IsAsRecorded x.meta x.table) (sym same) (rec p in_places) | inr none ↦ absurd none ])
      (subst (GathersOn lo (filter (is_of 0) ps) lists) (ap (filter (is_of 0)) there ∙ zero_here p (drop (i + 1) ps) (omega (arith, zero))) g) own

  pub zero_ends : 0 < p.meta.level → all_entries lists ≡ onward lo (filter (is_of 0) ps)
  zero_ends deep =
      let none = ap (filter (is_of 0)) there ∙ zero_stopped p (drop (i + 1) ps) (subst AreInSearchOrder there (order_left i ps up)) deep in
      all_gathered lo (filter (is_of 0) ps) lists (subst (GathersOn lo (filter (is_of 0) ps) lists) none g)

-- ---- level by level

pub level_more : (lo : List ℕ) (level : ℕ) (ps : List Placed) (lists : List (List Entry)) (list : List Entry) → AreInSearchOrder ps → all_entries lists ≡ onward lo (filter (is_over level) ps) → list ≡ onward lo (filter (is_of level) ps) → all_entries (lists ++ list ∷ []) ≡ onward lo (filter (is_over (level + 1)) ps)
level_more lo level ps lists list up before is =
    all_entries-push lists list
    ∙ (λ i. before i ++ is i)
    ∙ sym (onward-append lo (filter (is_over level) ps) (filter (is_of level) ps))
    ∙ ap (onward lo) (sym (next_level level ps up))

pub level_none : (lo : List ℕ) (level : ℕ) (ps : List Placed) (lists : List (List Entry)) → AreInSearchOrder ps → all_entries lists ≡ onward lo (filter (is_over level) ps) → [] ≡ onward lo (filter (is_of level) ps) → all_entries lists ≡ onward lo (filter (is_over (level + 1)) ps)
level_none lo level ps lists up before none =
    before
    ∙ sym (append-nil (onward lo (filter (is_over level) ps)))
    ∙ ap (λ (es : List Entry). onward lo (filter (is_over level) ps) ++ es) none
    ∙ sym (onward-append lo (filter (is_over level) ps) (filter (is_of level) ps))
    ∙ ap (onward lo) (sym (next_level level ps up))

pub level_sorted : (lo : List ℕ) (level : ℕ) (ps : List Placed) → 1 ≤ level → AllRecorded ps → AreInSearchOrder ps → IsInOrder (onward lo (filter (is_of level) ps))
level_sorted lo level ps deeper rec up =
    let es = all_entries (tables_of (filter (is_of level) ps)) in
    falls_in_order (filter (is_from lo) es) (falls-filter (is_from lo) es (level_falls level ps deeper rec up))
