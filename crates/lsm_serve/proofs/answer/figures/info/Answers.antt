use Rattle.std.proofs.Common.{rules}
use Rattle.lsm_serve.proofs.answer.figures.info.Goals as goal

pub returns : goal.returns
returns g c = (c.latest_sequence.result, c.latest_sequence.ensures, search rules)
