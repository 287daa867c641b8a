use Rattle.std.proofs.Common.{◌++◌, ◌∙◌, ap, ℕ, codes}
use Rattle.std.specs.Fmt.{decimal}
use Rattle.lsm_script.specs.Lines.{made_text}
use Rattle.lsm_line.proofs.JoinedText.{joined}
use Rattle.std.proofs.lemmas.Result.{on_ok_weaker}
use Rattle.lsm_script.proofs.jobs.write_installed.Goals as goal

pub returns : goal.returns
returns c =
    let old = c.args.out.now.items in
    let counted = c.in_ok-write_number.ensures ∙ ap (λ (n : ℕ). c.write_text.new.out.items ++ decimal n) c.number.ensures in
    let number = joined old c.write_text.new.out.items c.write_number.new.out.items (codes "installed version ") (decimal c.args.number) c.in_ok-write_text.ensures counted in
    let before = joined old c.write_number.new.out.items c.write_text-2.new.out.items (codes "installed version " ++ decimal c.args.number) (codes " files ") number c.in_ok-write_text-2.ensures in
    on_ok_weaker c.write_made.result (joined old c.write_text-2.new.out.items c.write_made.new.out.items (codes "installed version " ++ decimal c.args.number ++ codes " files ") (made_text c.args.files.now) before) c.write_made.ensures
