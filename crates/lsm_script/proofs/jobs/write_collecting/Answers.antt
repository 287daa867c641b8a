use Rattle.std.proofs.Common.{◌++◌, ◌∙◌, ap, ℕ, codes}
use Rattle.std.specs.Fmt.{decimal}
use Rattle.lsm_script.specs.Lines.{sent_text}
use Rattle.lsm_line.proofs.JoinedText.{joined}
use Rattle.std.proofs.lemmas.Result.{on_ok_weaker}
use Rattle.lsm_script.proofs.jobs.write_collecting.Goals as goal

pub returns : goal.returns
returns c =
    let old = c.args.out.now.items in
    let counted = c.in_ok-write_number.ensures ∙ ap (λ (n : ℕ). c.write_text.new.out.items ++ decimal n) c.from.ensures in
    let before = joined old c.write_text.new.out.items c.write_number.new.out.items (codes "collecting ") (decimal c.args.missing) c.in_ok-write_text.ensures counted in
    on_ok_weaker c.write_sent.result (joined old c.write_number.new.out.items c.write_sent.new.out.items (codes "collecting " ++ decimal c.args.missing) (sent_text c.args.sent) before) c.write_sent.ensures
