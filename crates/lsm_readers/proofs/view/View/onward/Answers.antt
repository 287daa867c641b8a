use Rattle.std.proofs.Common.{◌≤◌, ap, subst, length, List}
use mathlib.Core.List.{IsPrefix}
use Rattle.lsm_edit.specs.Served.{ServedValue}
use Rattle.lsm_readers.proofs.Beginnings.{prefix_shorter}
use Rattle.lsm_readers.proofs.view.View.onward.Goals as goal

pub returns-clause-this : goal.returns-clause-this
returns-clause-this g c =
    let both = c.learn.new.self.log in
    let this : IsPrefix c.self.inside.seen.log both = subst (λ (l : List ServedValue). IsPrefix l both) (ap (λ s. s.log) c.again-both.ensures) c.learn.ensures.2 in
    let less : length c.self.inside.seen.log ≤ length c.later.inside.seen.log = rw (c.self.view_is, c.later.view_is) c.requires in
    rw (c.copy.ensures, ← c.self.view_is, ← c.later.view_is) (prefix_shorter c.self.inside.seen.log c.later.inside.seen.log both this c.learn.ensures.3 less)
