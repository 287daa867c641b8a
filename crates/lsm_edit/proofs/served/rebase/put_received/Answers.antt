use Rattle.std.proofs.Common.{◌≡◌, ◌∙◌, ◌∷◌, ◌++◌, [], sym, ap, subst, arith, length, length-append, List}
use Rattle.lsm_edit.specs.declared.served.Placed.{Placed}
use Rattle.lsm_edit.specs.Served.{AreInSearchOrder, put_all, put_in_order}
use Rattle.lsm_edit.proofs.PlacesInOrder.{put_all-last, put_length}
use Rattle.lsm_edit.proofs.PlaceSpots.{rest_of_all}
use Rattle.lsm_edit.proofs.served.rebase.put_received.Goals as goal

pub put_in-requires-clause-ordered : goal.put_in-requires-clause-ordered
put_in-requires-clause-ordered c =
    let qs = c.loop-placed.places.items in
    let ps = c.pop.new.self.items in
    let p : Placed = c.in-Some.placed in
    let items : c.loop-placed.received.items ≡ ps ++ p ∷ [] = c.in-Some.ensures.items in
    let all : put_all c.args.received.items c.args.places.now.items ≡ put_all ps (put_in_order p qs) = c.loop-placed.invariant.0 ∙ ap (λ (rs : List Placed). put_all rs qs) items ∙ put_all-last ps p qs in
    rest_of_all ps (put_in_order p qs) (subst AreInSearchOrder all c.requires.ordered)

pub loop-placed-preserved : goal.loop-placed-preserved
loop-placed-preserved c =
    let qs = c.loop-placed.places.items in
    let ps = c.pop.new.self.items in
    let p : Placed = c.in-Some.placed in
    let items : c.loop-placed.received.items ≡ ps ++ p ∷ [] = c.in-Some.ensures.items in
    let all : put_all c.args.received.items c.args.places.now.items ≡ put_all ps (put_in_order p qs) = c.loop-placed.invariant.0 ∙ ap (λ (rs : List Placed). put_all rs qs) items ∙ put_all-last ps p qs in (
      all ∙ ap (put_all ps) (sym c.put_in.ensures.items),
      omega (arith, c.loop-placed.invariant.1, c.put_in.ensures.room, ap length c.put_in.ensures.items, put_length p qs, ap length items, length-append ps (p ∷ [])),
    )
