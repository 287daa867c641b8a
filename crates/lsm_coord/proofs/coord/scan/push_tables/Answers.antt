use Rattle.std.proofs.Common.{◌≡◌, List, [], ◌∷◌, ◌++◌, sym, ap, ◌∙◌}
use Rattle.std.specs.List.{filter}
use Rattle.std.proofs.lemmas.List.{append-nil, append_assoc, nil_from_length}
use Rattle.lsm_key.specs.declared.entry.Entry.{Entry}
use Rattle.lsm_table.specs.Heads.{has_entry}
use Rattle.lsm_coord.specs.Inner.Sources.{source_lists}
use Rattle.lsm_coord.proofs.ScanSources.{cursors_read, none_read, one_read}
use Rattle.lsm_coord.proofs.coord.scan.push_tables.Goals as goal

pub loop-cursor-init : goal.loop-cursor-init
loop-cursor-init c = record { all = c.into_iter-cursor-iterator.ensures.into_iter_gives.0; so = sym (append-nil (source_lists c.args.sources.now.items)) }

pub loop-cursor-preserved-in-Continue-1 : goal.loop-cursor-preserved-in-Continue-1
loop-cursor-preserved-in-Continue-1 c =
    let cursor : List Entry = c.in-Some.cursor in
    record {
      all = append_assoc c.loop-cursor.yielded (cursor ∷ []) c.next.new.self.rest.items ∙ ap (λ (ls : List (List Entry)). c.loop-cursor.yielded ++ ls) (sym c.in-Some.ensures.steps.0) ∙ c.loop-cursor.invariant.all;
      so = cursors_read (source_lists c.args.sources.now.items) (source_lists c.loop-cursor.sources.items) c.loop-cursor.yielded cursor (source_lists c.push.new.self.items) c.loop-cursor.invariant.so (ap source_lists c.in_ok-push.ensures.items ∙ one_read c.loop-cursor.sources.items c.in-Some-of_tables.source cursor c.in-Some-of_tables.ensures);
    }

pub loop-cursor-preserved : goal.loop-cursor-preserved
loop-cursor-preserved c =
    let cursor : List Entry = c.in-Some.cursor in
    record {
      all = append_assoc c.loop-cursor.yielded (cursor ∷ []) c.next.new.self.rest.items ∙ ap (λ (ls : List (List Entry)). c.loop-cursor.yielded ++ ls) (sym c.in-Some.ensures.steps.0) ∙ c.loop-cursor.invariant.all;
      so = cursors_read (source_lists c.args.sources.now.items) (source_lists c.loop-cursor.sources.items) c.loop-cursor.yielded cursor (source_lists c.loop-cursor.sources.items) c.loop-cursor.invariant.so (none_read c.loop-cursor.sources.items cursor c.in_default.ensures);
    }

pub returns : goal.returns
returns c =
    let none = nil_from_length c.loop-cursor.cursor-iterator.rest.items (sym c.loop-cursor.cursor-iterator.rest.ok.0 ∙ c.in-None.ensures.steps.0) in
    let all : c.loop-cursor.yielded ≡ c.args.tables.items = sym (append-nil c.loop-cursor.yielded) ∙ ap (λ (ls : List (List Entry)). c.loop-cursor.yielded ++ ls) (sym none) ∙ c.loop-cursor.invariant.all in
    c.loop-cursor.invariant.so ∙ ap (λ (ls : List (List Entry)). source_lists c.args.sources.now.items ++ filter has_entry ls) all
