use Rattle.lsm_commands.proofs.RangeLines.{within_all}
use Rattle.lsm_commands.proofs.laws.an_export_has_every_key.Goals as goal

pub returns : goal.returns
returns c key bytes short = within_all key bytes short
