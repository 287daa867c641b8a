use Rattle.std.proofs.Common.{sym, ◌∙◌}
use Rattle.std.proofs.lemmas.Bool.{eq-eqb}
use Rattle.lsm_table.specs.Tables.{version_of_entries}
use Rattle.lsm_table.proofs.reading.needs_version.Goals as goal

pub returns-then-version-eq1 : goal.returns-then-version-eq1
returns-then-version-eq1 c = sym (eq-eqb (version_of_entries c.args.block.now) c.args.version (c.requires c.if-version-eq1.true ∙ sym c.if-version-eq1.true))
