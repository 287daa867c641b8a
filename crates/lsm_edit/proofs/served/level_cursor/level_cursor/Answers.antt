use Rattle.std.proofs.Common.{◌++◌, List, sym, ap, ◌∙◌}
use Rattle.lsm_key.specs.declared.entry.Entry.{Entry}
use Rattle.lsm_key.specs.Places.{all_entries}
use Rattle.lsm_edit.specs.Served.{tables_of}
use Rattle.std.proofs.lemmas.List.{nil_from_length}
use Rattle.lsm_edit.proofs.LevelCursors.{of_first, of_part, onward, ordered}
use Rattle.lsm_edit.proofs.served.level_cursor.level_cursor.Goals as goal

pub slice_bounds-split_first-start : goal.slice_bounds-split_first-start
slice_bounds-split_first-start c =
    let start = c.place_in-start in
    let end = c.place_in-end in
    ordered c.args.lo.now c.args.level c.requires.deeper.0 c.args.places.now start.result end.result c.requires.recorded c.requires.ordered start.ensures.within end.ensures.within start.ensures.point.0 start.ensures.point.1 end.ensures.point.0 end.ensures.point.1

pub slice_bounds-split_first-count : goal.slice_bounds-split_first-count
slice_bounds-split_first-count c =
    let start = c.place_in-start in
    let end = c.place_in-end in
    ordered c.args.lo.now c.args.level c.requires.deeper.0 c.args.places.now start.result end.result c.requires.recorded c.requires.ordered start.ensures.within end.ensures.within start.ensures.point.0 start.ensures.point.1 end.ensures.point.0 end.ensures.point.1

pub returns-in-None : goal.returns-in-None
returns-in-None c =
    let start = c.place_in-start in
    let end = c.place_in-end in
    let none = nil_from_length _ c.in-None.ensures.cases in
    sym (of_part c.args.lo.now c.args.level c.requires.deeper.0 c.args.places.now start.result end.result c.requires.recorded c.requires.ordered start.ensures.within end.ensures.within start.ensures.point.0 start.ensures.point.1 end.ensures.point.0 end.ensures.point.1 ∙ ap (onward c.args.lo.now) none)

pub returns : goal.returns
returns c =
    let start = c.place_in-start in
    let end = c.place_in-end in
    let first = c.in-Some.parts.0.now in
    let later = c.in-Some.parts.1.now in
    c.new.ensures
    ∙ ap (λ (es : List Entry). es ++ all_entries (tables_of later)) c.cursor_from.ensures.left
    ∙ sym (of_first c.args.lo.now c.args.level c.requires.deeper.0 c.args.places.now start.result end.result c.requires.recorded c.requires.ordered start.ensures.within end.ensures.within start.ensures.point.0 start.ensures.point.1 end.ensures.point.0 end.ensures.point.1 first later c.in-Some.ensures.cases.0)
