use Rattle.std.proofs.Common.{◌≡◌, ◌∙◌, ◌∷◌, ◌++◌, [], refl, sym, ap, subst, arith, length, length-append, List}
use Rattle.lsm_table.specs.Tables.{Opened}
use Rattle.lsm_edit.specs.declared.file.FileMeta.{FileMeta}
use Rattle.lsm_edit.specs.declared.served.Placed.{Placed}
use Rattle.lsm_edit.specs.Served.{AreInSearchOrder, placed_of, put_all, put_in_order}
use Rattle.lsm_edit.proofs.PlacesInOrder.{as_many, put_last, put_length}
use Rattle.lsm_edit.proofs.PlaceSpots.{rest_of_all}
use Rattle.lsm_edit.proofs.served.put_each.Goals as goal

pub loop-table-init : goal.loop-table-init
loop-table-init c = (as_many c.args.files.items c.args.tables.items c.requires.recorded, refl, c.requires.room)

pub put_in-requires-clause-ordered : goal.put_in-requires-clause-ordered
put_in-requires-clause-ordered c =
    let qs = c.loop-table.places.items in
    let fs = c.pop-in-Some.new.self.items in
    let ts = c.pop.new.self.items in
    let p : Placed = record { meta = c.in-Some-pop.meta; table = c.in-Some.table } in
    let files : c.loop-table.files.items ≡ fs ++ p.meta ∷ [] = c.in-Some-pop.ensures.items in
    let tables : c.loop-table.tables.items ≡ ts ++ p.table ∷ [] = c.in-Some.ensures.items in
    let same : length fs ≡ length ts = omega (arith, c.loop-table.invariant.0, ap length files, ap length tables, length-append fs (p.meta ∷ []), length-append ts (p.table ∷ [])) in
    let all : put_all (placed_of c.args.files.items c.args.tables.items) c.args.places.now.items ≡ put_all (placed_of fs ts) (put_in_order p qs) =
    c.loop-table.invariant.1 ∙ ap (λ (gs : List FileMeta). put_all (placed_of gs c.loop-table.tables.items) qs) files ∙ ap (λ (us : List Opened). put_all (placed_of (fs ++ p.meta ∷ []) us) qs) tables ∙ put_last fs ts p.meta p.table qs same in
    rest_of_all (placed_of fs ts) (put_in_order p qs) (subst AreInSearchOrder all c.requires.ordered)

pub loop-table-preserved : goal.loop-table-preserved
loop-table-preserved c =
    let qs = c.loop-table.places.items in
    let fs = c.pop-in-Some.new.self.items in
    let ts = c.pop.new.self.items in
    let p : Placed = record { meta = c.in-Some-pop.meta; table = c.in-Some.table } in
    let files : c.loop-table.files.items ≡ fs ++ p.meta ∷ [] = c.in-Some-pop.ensures.items in
    let tables : c.loop-table.tables.items ≡ ts ++ p.table ∷ [] = c.in-Some.ensures.items in
    let same : length fs ≡ length ts = omega (arith, c.loop-table.invariant.0, ap length files, ap length tables, length-append fs (p.meta ∷ []), length-append ts (p.table ∷ [])) in
    let all : put_all (placed_of c.args.files.items c.args.tables.items) c.args.places.now.items ≡ put_all (placed_of fs ts) (put_in_order p qs) =
    c.loop-table.invariant.1 ∙ ap (λ (gs : List FileMeta). put_all (placed_of gs c.loop-table.tables.items) qs) files ∙ ap (λ (us : List Opened). put_all (placed_of (fs ++ p.meta ∷ []) us) qs) tables ∙ put_last fs ts p.meta p.table qs same in (
      same,
      all ∙ ap (put_all (placed_of fs ts)) (sym c.put_in.ensures.items),
      omega (arith, c.loop-table.invariant.2, c.put_in.ensures.room, ap length c.put_in.ensures.items, put_length p qs, ap length tables, length-append ts (p.table ∷ [])),
    )
