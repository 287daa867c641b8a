use Rattle.std.proofs.Common.{◌≡◌, List, ℕ, Vec, Global, ap, ◌∙◌}
use Rattle.lsm_key.specs.declared.entry.Entry.{Entry}
use Rattle.lsm_mem.specs.Chains.{chains_from, chains_of, entries_in}
use Rattle.lsm_mem.proofs.EntriesFrom.{range_from}
use Rattle.lsm_mem.proofs.chains.Chains.cursor_from.Goals as goal

pub returns : goal.returns
returns c =
    let from : c.in_ok-from.from.items ≡ c.args.lo.now = c.in_ok-from.ensures.items_if_clones_equal (λ x y h. h) in
    c.new.ensures
    ∙ ap (λ (ps : List (Vec ℕ Global × Vec Entry Global)). entries_in (chains_of ps)) (c.range.ensures.between tt)
    ∙ ap entries_in (range_from c.in_ok-from.from c.self.inside.by_key.entries ∙ (λ i. chains_from (from i) (c.self.view_is i)))
