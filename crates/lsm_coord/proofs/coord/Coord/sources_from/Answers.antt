use Rattle.std.proofs.Common.{◌≡◌, List, [], ◌∷◌, ◌++◌, Vec, Global, Option, sym, ap, subst, ◌∙◌}
use Rattle.std.specs.List.{filter}
use Rattle.std.proofs.lemmas.List.Elements.{filter-append}
use Rattle.lsm_key.specs.declared.entry.Entry.{Entry}
use Rattle.lsm_key.specs.Places.{all_entries}
use Rattle.lsm_table.specs.Heads.{AllInOrder, has_entry}
use Rattle.lsm_table.proofs.ReadLists.{all_in_order, entries_of_some, some_in_order}
use Rattle.lsm_edit.specs.Served.{ServedValue}
use Rattle.lsm_coord.specs.declared.frozen.Frozen.{Frozen}
use Rattle.lsm_coord.specs.declared.source.Source.{Source}
use Rattle.lsm_coord.specs.Contract.Value.{everything, frozen_entries, stored_entries}
use Rattle.lsm_coord.specs.Inner.Sources.{source_lists}
use Rattle.lsm_coord.proofs.ScanSources.{from_lo, one_more_in_order, part_in_order, parts_from}
use Rattle.lsm_coord.proofs.coord.Coord.sources_from.Goals.{in-Some+in_ok-cursor_from-2+in_ok-push_memtable-2, in_default}
use Rattle.lsm_coord.proofs.coord.Coord.sources_from.Goals as goal

abbrev some : List (List Entry) → List (List Entry)
some lists = filter has_entry lists

abbrev items_of : Vec Source Global → List (List Entry)
items_of sources = source_lists sources.items

pub returns-clause-all : goal.returns-clause-all
returns-clause-all g c =
    let lo = c.args.lo.now in
    let own = c.self.inside in
    let active = c.in_ok-cursor_from.field-0 in
    let tables = c.in_ok-tables.tables.items in
    let stored : all_entries tables ≡ from_lo lo (stored_entries own.versions.served) = subst (λ (v : ServedValue). all_entries tables ≡ from_lo lo (stored_entries v)) c.served.ensures.served c.in_ok-tables.ensures.all in
    let first : source_lists c.push_memtable.new.sources.items ≡ some (active ∷ []) = c.in_ok-push_memtable.ensures ∙ ap (λ (ss : List Source). source_lists ss ++ some (active ∷ [])) c.in_ok-sources.ensures.items in
    let joined : source_lists c.push_tables.new.sources.items ≡ items_of c.match-self.sources ++ some tables = c.in_ok-push_tables.ensures in
    let view : own.active ++ (frozen_entries own.frozen ++ stored_entries own.versions.served) ≡ everything c.args.self.now = ap everything c.self.view_is in
    elim c.match-self.branch [
      | in-Some+in_ok-cursor_from-2+in_ok-push_memtable-2 w ↦
          let frozen = w.in_ok-cursor_from-2.field-0 in
          let before : items_of c.match-self.sources ≡ some (active ∷ frozen ∷ []) =
          ap items_of w.sources-is ∙ w.in_ok-push_memtable-2.ensures ∙ ap (λ (ls : List (List Entry)). ls ++ some (frozen ∷ [])) first ∙ sym (filter-append has_entry (active ∷ []) (frozen ∷ [])) in
          ap all_entries (joined ∙ ap (λ (ls : List (List Entry)). ls ++ some tables) before ∙ sym (filter-append has_entry (active ∷ frozen ∷ []) tables))
          ∙ entries_of_some (active ∷ frozen ∷ tables)
          ∙ parts_from lo own.active (w.in-Some.frozen.memtable ++ stored_entries own.versions.served) active (frozen ∷ tables) c.in_ok-cursor_from.ensures.all
          (parts_from lo w.in-Some.frozen.memtable (stored_entries own.versions.served) frozen tables w.in_ok-cursor_from-2.ensures.all stored)
          ∙ ap (λ (o : Option Frozen). from_lo lo (own.active ++ (frozen_entries o ++ stored_entries own.versions.served))) (sym w.in-Some.is)
          ∙ ap (from_lo lo) view
      | in_default w ↦
          let before : items_of c.match-self.sources ≡ some (active ∷ []) = ap items_of w.sources-is ∙ first in
          ap all_entries (joined ∙ ap (λ (ls : List (List Entry)). ls ++ some tables) before ∙ sym (filter-append has_entry (active ∷ []) tables))
          ∙ entries_of_some (active ∷ tables)
          ∙ parts_from lo own.active (stored_entries own.versions.served) active tables c.in_ok-cursor_from.ensures.all stored
          ∙ ap (λ (o : Option Frozen). from_lo lo (own.active ++ (frozen_entries o ++ stored_entries own.versions.served))) (sym w.in_default.is)
          ∙ ap (from_lo lo) view
    ]

pub returns-clause-order : goal.returns-clause-order
returns-clause-order g c =
    let lo = c.args.lo.now in
    let active = c.in_ok-cursor_from.field-0 in
    let tables = c.in_ok-tables.tables.items in
    let up = part_in_order lo c.self.inside.active active c.in_ok-cursor_from.ensures.sound.ascending c.in_ok-cursor_from.ensures.all in
    let all = all_in_order tables c.in_ok-tables.ensures.order in
    let first : source_lists c.push_memtable.new.sources.items ≡ some (active ∷ []) = c.in_ok-push_memtable.ensures ∙ ap (λ (ss : List Source). source_lists ss ++ some (active ∷ [])) c.in_ok-sources.ensures.items in
    let joined : source_lists c.push_tables.new.sources.items ≡ items_of c.match-self.sources ++ some tables = c.in_ok-push_tables.ensures in
    elim c.match-self.branch [
      | in-Some+in_ok-cursor_from-2+in_ok-push_memtable-2 w ↦
          let frozen = w.in_ok-cursor_from-2.field-0 in
          let before : items_of c.match-self.sources ≡ some (active ∷ frozen ∷ []) =
          ap items_of w.sources-is ∙ w.in_ok-push_memtable-2.ensures ∙ ap (λ (ls : List (List Entry)). ls ++ some (frozen ∷ [])) first ∙ sym (filter-append has_entry (active ∷ []) (frozen ∷ [])) in
          let waiting = part_in_order lo w.in-Some.frozen.memtable frozen w.in_ok-cursor_from-2.ensures.sound.ascending w.in_ok-cursor_from-2.ensures.all in
          subst AllInOrder (sym (joined ∙ ap (λ (ls : List (List Entry)). ls ++ some tables) before ∙ sym (filter-append has_entry (active ∷ frozen ∷ []) tables)))
          (some_in_order (active ∷ frozen ∷ tables) (one_more_in_order active (frozen ∷ tables) up (one_more_in_order frozen tables waiting all)))
      | in_default w ↦
          let before : items_of c.match-self.sources ≡ some (active ∷ []) = ap items_of w.sources-is ∙ first in
          subst AllInOrder (sym (joined ∙ ap (λ (ls : List (List Entry)). ls ++ some tables) before ∙ sym (filter-append has_entry (active ∷ []) tables)))
          (some_in_order (active ∷ tables) (one_more_in_order active tables up all))
    ]
