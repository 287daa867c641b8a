use Rattle.std.proofs.Common.{ap, length, sym, ◌∙◌}
use Rattle.lsm_coord.specs.Contract.Value.{CoordValue}
use Rattle.lsm_store.proofs.store.Store.latest_sequence.Goals as goal

pub returns : goal.returns
returns g c writes snapshots h =
    c.latest_sequence.ensures ∙ ap (λ (v : CoordValue). v.last) c.self.view_is ∙ (sym h.shown.last ∙ ap length h.writes_are)
