use Rattle.std.proofs.Common.{◌≡◌, ◌∙◌, ap, sym, subst, List}
use Rattle.lsm_key.specs.Sets.{SameMembers}
use Rattle.lsm_edit.specs.declared.file.FileMeta.{FileMeta}
use Rattle.lsm_edit.specs.declared.served.Placed.{Placed}
use Rattle.lsm_edit.specs.Served.{AreInSearchOrder, placed_of, in_order}
use Rattle.lsm_edit.proofs.PlacesInOrder.{rebased, in_order-members}
use Rattle.lsm_edit.proofs.served.Served.from_tables.Goals as goal

pub invariant_of-result : goal.invariant_of-result
invariant_of-result c =
    let places : c.in_ok-placed.placed.items ≡ in_order (placed_of c.args.version.files c.args.tables.items) = c.in_ok-placed.ensures ∙ ap (λ (fs : List FileMeta). in_order (placed_of fs c.args.tables.items)) c.files.ensures.all in
    rw places (rebased c.args.version c.args.tables.items c.files.ensures.sound c.requires)

pub returns-clause-places : goal.returns-clause-places
returns-clause-places c =
    let places : c.in_ok-placed.placed.items ≡ in_order (placed_of c.args.version.files c.args.tables.items) = c.in_ok-placed.ensures ∙ ap (λ (fs : List FileMeta). in_order (placed_of fs c.args.tables.items)) c.files.ensures.all in
    subst (λ (ps : List Placed). SameMembers ps (placed_of c.args.version.files c.args.tables.items)) (sym places) (in_order-members (placed_of c.args.version.files c.args.tables.items))

pub places_of-requires-clause-ordered : goal.places_of-requires-clause-ordered
places_of-requires-clause-ordered c =
    subst (λ (fs : List FileMeta). AreInSearchOrder (in_order (placed_of fs c.args.tables.items))) (sym c.files.ensures.all) (rebased c.args.version c.args.tables.items c.files.ensures.sound c.requires).ordered
