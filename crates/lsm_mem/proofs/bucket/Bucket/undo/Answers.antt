use Rattle.std.proofs.Common.{sym, ap, subst, ◌∙◌}
use Rattle.lsm_mem.specs.Buckets.{chains_in}
use Rattle.lsm_mem.specs.Chains.{AreChains, chains_before}
use Rattle.lsm_mem.proofs.OlderChains.{versions_before}
use Rattle.lsm_mem.proofs.bucket.Bucket.undo.Goals as goal

pub returns-in-Versions-clause-undone : goal.returns-in-Versions-clause-undone
returns-in-Versions-clause-undone c up =
    let same = ap chains_in c.in-Versions.is in
    versions_before c.args.first c.in-Versions.versions.items c.keep_older.new.versions.items (subst AreChains same up) c.keep_older.ensures.kept ∙ ap (chains_before c.args.first) (sym same)
