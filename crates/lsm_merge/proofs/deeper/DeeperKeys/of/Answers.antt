use Rattle.std.proofs.Common.{List, [], sym, ap, ◌∙◌, subst}
use Rattle.lsm_key.specs.declared.range.KeyRange.{KeyRange}
use Rattle.lsm_msg.specs.Merge.{is_in_ranges}
use Rattle.lsm_merge.specs.Reaching.{AreReaching, with_raised_ends}
use Rattle.lsm_merge.proofs.DeeperKeys.{moved_keys, widened_keys, reaching}
use Rattle.lsm_merge.proofs.deeper.DeeperKeys.of.Goals as goal

pub invariant_of-result : goal.invariant_of-result
invariant_of-result c =
    let wide = c.in_ok-ranges.ensures ∙ ap (with_raised_ends []) c.deref.ensures.value in
    subst AreReaching (sym wide) (reaching c.in_ok-sorted.sorted.items c.in_ok-sorted.ensures.order)

pub returns : goal.returns
returns c = λ key.
    let wide = c.in_ok-ranges.ensures ∙ ap (with_raised_ends []) c.deref.ensures.value in
    ap (λ (ranges : List KeyRange). is_in_ranges ranges key) wide ∙ widened_keys c.in_ok-sorted.sorted.items c.in_ok-sorted.ensures.order key
    ∙ sym (moved_keys c.args.ranges.now c.in_ok-sorted.sorted.items c.in_ok-sorted.ensures.all key)
