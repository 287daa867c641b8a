use Rattle.lsm_draw.proofs.PlainTexts.{escaped_is_plain}
use Rattle.lsm_draw.proofs.laws.no_text_is_markup.Goals as goal

pub returns : goal.returns
returns c = escaped_is_plain
