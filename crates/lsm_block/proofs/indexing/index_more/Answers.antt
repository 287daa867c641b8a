use Rattle.lsm_block.proofs.IndexedSoFar.{on_ok_from}
use Rattle.lsm_block.proofs.ReadBlocks.{cut_read, cut_same}
use Rattle.lsm_block.proofs.indexing.index_more.Goals as goal

pub returns-in-Some-clause-ok : goal.returns-in-Some-clause-ok
returns-in-Some-clause-ok c = on_ok_from _ (cut_read c.args.max_key c.args.bytes.now c.args.begin c.args.end _ c.requires.order c.requires.within) c.walk_on.ensures.ok

pub returns-in-Some-clause-err : goal.returns-in-Some-clause-err
returns-in-Some-clause-err c = rw (← cut_same c.args.max_key c.args.bytes.now c.args.begin c.args.end c.requires.order c.requires.within) c.walk_on.ensures.err

pub returns-in-None-clause-ok : goal.returns-in-None-clause-ok
returns-in-None-clause-ok c = on_ok_from _ (cut_read c.args.max_key c.args.bytes.now c.args.begin c.args.end _ c.requires.order c.requires.within) c.walk_on-in-None.ensures.ok

pub returns-in-None-clause-err : goal.returns-in-None-clause-err
returns-in-None-clause-err c = rw (← cut_same c.args.max_key c.args.bytes.now c.args.begin c.args.end c.requires.order c.requires.within) c.walk_on-in-None.ensures.err
