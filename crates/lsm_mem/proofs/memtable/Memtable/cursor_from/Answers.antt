use Rattle.std.proofs.Common.{sym, ap, ◌∙◌}
use Rattle.std.specs.List.{filter}
use Rattle.std.proofs.lemmas.Result.{IfOk-weaker}
use Rattle.lsm_mem.proofs.MemtableTotals.{noted_sound}
use Rattle.lsm_mem.proofs.EntriesFrom.{from_chains, is_from}
use Rattle.lsm_mem.proofs.memtable.Memtable.cursor_from.Goals as goal

pub returns-clause-all : goal.returns-clause-all
returns-clause-all c =
    let from = from_chains c.args.lo.now c.self.inside.buckets c.self.invariant.chained in
    IfOk-weaker c.cursor_from.result _ _ (λ cursor is. is ∙ sym from ∙ ap (filter (is_from c.args.lo.now)) c.self.view_is) c.cursor_from.ensures

pub returns-clause-sound : goal.returns-clause-sound
returns-clause-sound c = rw (← c.self.view_is) (noted_sound c.self.inside.buckets c.self.inside.weight c.self.inside.count c.self.inside.last c.self.invariant)
