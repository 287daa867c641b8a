use Rattle.std.proofs.Common.{◌∙◌, ap}
use Rattle.lsm_coord.specs.Inner.Sources.{source_lists}
use Rattle.lsm_coord.proofs.ScanSources.{none_read, one_read}
use Rattle.lsm_coord.proofs.coord.scan.push_memtable.Goals as goal

pub returns-in_ok-push-in-Some : goal.returns-in_ok-push-in-Some
returns-in_ok-push-in-Some c = ap source_lists c.in_ok-push-in-Some.ensures.items ∙ one_read c.args.sources.now.items c.in-Some.source c.args.cursor c.in-Some.ensures

pub returns-in-None : goal.returns-in-None
returns-in-None c = none_read c.args.sources.now.items c.args.cursor c.in-None.ensures
