use Rattle.std.proofs.Common.{◌∙◌, ◌||◌, Bool, sym, ap}
use Rattle.lsm_edit.specs.Version.{has_overlap}
use Rattle.lsm_edit.proofs.VersionLaws.{overlap-after}
use Rattle.lsm_edit.proofs.version.overlaps_after.Goals as goal

pub returns-then-meets_kept : goal.returns-then-meets_kept
returns-then-meets_kept c = c.if-meets_kept.true ∙ sym (overlap-after c.args.removed.now c.args.files.now c.args.added.now c.requires.disjoint ∙ ap (λ (b : Bool). b || has_overlap c.args.added.now) (sym c.meets_kept.ensures ∙ c.if-meets_kept.true))

pub returns-else-meets_kept : goal.returns-else-meets_kept
returns-else-meets_kept c = c.overlaps.ensures ∙ sym (overlap-after c.args.removed.now c.args.files.now c.args.added.now c.requires.disjoint ∙ ap (λ (b : Bool). b || has_overlap c.args.added.now) (sym c.meets_kept.ensures ∙ c.if-meets_kept.false))
