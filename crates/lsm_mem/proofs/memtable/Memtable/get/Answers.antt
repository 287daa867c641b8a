use Rattle.std.proofs.Common.{sym, ◌∙◌}
use Rattle.lsm_mem.proofs.ChainOrder.{is_chain, visible_none}
use Rattle.lsm_mem.proofs.VersionOrder.{visible_written}
use Rattle.lsm_mem.proofs.memtable.Memtable.get.Goals as goal

pub returns-in_err-versions : goal.returns-in_err-versions
returns-in_err-versions c =
    rw (c.from_residual.ensures, ← c.self.view_is) (sym (visible_none c.self.inside.buckets c.self.invariant.chained c.args.key.now c.args.at c.in_err-versions.ensures.none))

pub newest_at-requires : goal.newest_at-requires
newest_at-requires c = (is_chain c.self.inside.buckets c.self.invariant.chained (record { key = c.args.key.now; versions = c.in_ok-versions.versions.now }) c.in_ok-versions.ensures.found).rising

pub returns-in_err-entry : goal.returns-in_err-entry
returns-in_err-entry c =
    rw (c.from_residual-in_err-entry.ensures, ← c.self.view_is) (c.in_err-entry.ensures ∙ sym (visible_written c.self.inside.buckets c.args.key.now c.in_ok-versions.versions.now c.args.at c.self.invariant.chained c.in_ok-versions.ensures.found))

pub returns : goal.returns
returns c =
    rw (c.as_slice.ensures, c.as_slice-2.ensures, ← c.self.view_is) (c.in_ok-entry.ensures ∙ sym (visible_written c.self.inside.buckets c.args.key.now c.in_ok-versions.versions.now c.args.at c.self.invariant.chained c.in_ok-versions.ensures.found))
