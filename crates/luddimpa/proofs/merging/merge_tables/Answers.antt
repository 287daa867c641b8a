use Rattle.lsm_merge.proofs.ResultTables.{tables_may_be_sent}
use Rattle.luddimpa.proofs.merging.merge_tables.Goals as goal

pub send-requires : goal.send-requires
send-requires c =
    let is = c.in-Ok.ensures.ok.1 in
    tables_may_be_sent c.args.job.now.block c.in-Ok.outputs.items is.entries is.spelled
