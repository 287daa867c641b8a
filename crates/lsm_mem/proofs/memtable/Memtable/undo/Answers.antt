use Rattle.std.proofs.Common.{List, length, sum_by, ap, arith, ◌∙◌}
use Rattle.std.specs.List.{filter}
use Rattle.lsm_key.specs.declared.entry.Entry.{Entry}
use Rattle.lsm_key.specs.Limits.{entry_weight}
use Rattle.lsm_mem.specs.Chains.{entries_in, is_older}
use Rattle.lsm_mem.specs.Memtable.{last_sequence}
use Rattle.lsm_mem.proofs.MemtableTotals.{noted_sound}
use Rattle.lsm_mem.proofs.OlderChains.{before_light, before_noted, entries_before}
use Rattle.lsm_mem.proofs.memtable.Memtable.undo.Goals as goal

pub totals_of-left-requires : goal.totals_of-left-requires
totals_of-left-requires c =
    let is = c.self.invariant in
    let weighed = is.weighed in
    let light = is.light in
    let lighter = before_light c.args.first_seq c.self.inside.buckets in
    let same = ap (λ (es : List Entry). sum_by entry_weight es) (c.cursor.ensures ∙ ap entries_in c.undo.ensures) in
    omega (arith, weighed, light, lighter, same)

pub invariant_of-self : goal.invariant_of-self
invariant_of-self c =
    let made = c.cursor.ensures ∙ ap entries_in c.undo.ensures in
    rw c.undo.ensures
    (before_noted c.args.first_seq c.self.inside.buckets c.self.inside.weight c.self.inside.count c.self.inside.last c.totals_of-left.result.weight c.totals_of-left.result.count c.totals_of-left.result.last c.self.invariant
    (c.totals_of-left.ensures.weight ∙ ap (λ (es : List Entry). sum_by entry_weight es) made) (c.totals_of-left.ensures.count ∙ ap (λ (es : List Entry). length es) made) (c.totals_of-left.ensures.last ∙ ap last_sequence made))

pub returns-clause-older : goal.returns-clause-older
returns-clause-older c = ap entries_in c.undo.ensures ∙ entries_before c.args.first_seq c.self.inside.buckets ∙ ap (filter (is_older c.args.first_seq)) c.self.view_is

pub returns-clause-sound : goal.returns-clause-sound
returns-clause-sound c = rw (← c.self.view_is) (noted_sound c.self.inside.buckets c.self.inside.weight c.self.inside.count c.self.inside.last c.self.invariant)
