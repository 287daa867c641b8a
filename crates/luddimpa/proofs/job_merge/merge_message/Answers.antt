use Rattle.std.proofs.Common.{refl}
use Rattle.luddimpa.proofs.JobOutcomes.{to_worker}
use Rattle.luddimpa.proofs.job_merge.merge_message.Goals as goal

pub returns-in-Worker : goal.returns-in-Worker
returns-in-Worker c text spelled =
    let m = c.args.message.now in
    to_worker text c.args.tables.now c.args.out.now c.merge_body.new.out c.in-Worker.index m spelled c.in-Worker.is m.body refl c.merge_body.result c.merge_body.ensures
