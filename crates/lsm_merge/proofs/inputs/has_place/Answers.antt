use Rattle.std.proofs.Common.{sym, ap, ◌∙◌}
use Rattle.std.specs.Option.{option_map}
use Rattle.lsm_key.specs.Visible.{lent_entry}
use Rattle.lsm_merge.proofs.InputTests.{place_visible, place_hidden}
use Rattle.lsm_merge.proofs.inputs.has_place.Goals as goal

pub returns-in-Some : goal.returns-in-Some
returns-in-Some c = c.eq.ensures ∙ place_visible (lent_entry c.args.entry.now).ikey c.args.table.now.entries (lent_entry c.in-Some.found) (sym c.get.ensures ∙ ap (option_map lent_entry) c.in-Some.is)

pub returns-in-None : goal.returns-in-None
returns-in-None c = place_hidden (lent_entry c.args.entry.now).ikey c.args.table.now.entries (sym c.get.ensures ∙ ap (option_map lent_entry) c.in-None.is)
