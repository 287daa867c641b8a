use Rattle.std.proofs.Common.{◌+◌, ◌-◌, arith, ap, sym, subst}
use Rattle.lsm_key.proofs.Membership.{IsIn-at}
use Rattle.lsm_key.specs.Sets.{IsIn}
use Rattle.lsm_edit.specs.declared.served.Placed.{Placed}
use Rattle.lsm_edit.specs.Search.{UpperMiss}
use Rattle.lsm_edit.proofs.CoveredFiles.{file_is, last_covers, level_done, levels_before, within_last, within_places}
use Rattle.lsm_edit.proofs.served.search.next_in.Goals.{then-from-gt0+else-last-gt0, else-from-gt0}
use Rattle.lsm_edit.proofs.served.search.next_in.Goals as goal

pub overflow_add-last : goal.overflow_add-last
overflow_add-last c =
    let last = last_covers c.args.places.now c.args.key.now c.args.from c.requires.goes_on c.if-from-gt0.true in
    let p = c.index-places-from.result in
    let within = within_last c.args.places.now c.requires.ordered c.args.key.now c.args.from last.0 last.1 in
    let most = c.requires.levels p (subst (λ (x : Placed). IsIn x c.args.places.now) (sym c.index-places-from.is) (IsIn-at c.args.places.now (c.args.from - 1) p within)) in
    omega (arith, most)

pub in_deeper_levels-requires-clause-before : goal.in_deeper_levels-requires-clause-before
in_deeper_levels-requires-clause-before c =
    let last = last_covers c.args.places.now c.args.key.now c.args.from c.requires.goes_on c.if-from-gt0.true in
    let same = file_is c.args.places.now c.requires.ordered c.args.key.now c.args.from last.0 last.1 c.index-places-from.result c.index-places-from.is in
    let level = ap (λ (x : Placed). x.meta.level) same in
    levels_before c.args.places.now c.requires.ordered c.args.key.now c.args.from last.0 last.1 (c.index-places-from.result.meta.level + 1) (omega (arith, level))

pub in_deeper_levels-requires-clause-done : goal.in_deeper_levels-requires-clause-done
in_deeper_levels-requires-clause-done c =
    let last = last_covers c.args.places.now c.args.key.now c.args.from c.requires.goes_on c.if-from-gt0.true in
    let same = file_is c.args.places.now c.requires.ordered c.args.key.now c.args.from last.0 last.1 c.index-places-from.result c.index-places-from.is in
    let level = ap (λ (x : Placed). x.meta.level) same in
    subst (λ (x : Placed). UpperMiss c.args.places.now c.args.key.now c.args.from (x.meta.level + 1)) (sym same)
    (level_done c.args.places.now c.requires.ordered c.args.key.now c.args.from last.0 last.1 (omega (arith, level, c.if-last-gt0.true)))

pub in_level_zero-requires-clause-within : goal.in_level_zero-requires-clause-within
in_level_zero-requires-clause-within c = within_places c.args.places.now c.args.key.now c.args.from c.requires.ordered c.requires.goes_on

pub in_deeper_levels-requires-in-None-clause-before : goal.in_deeper_levels-requires-in-None-clause-before
in_deeper_levels-requires-in-None-clause-before c = elim c.if-from-gt0.branch [
  | then-from-gt0+else-last-gt0 w ↦
      let last = last_covers c.args.places.now c.args.key.now c.args.from c.requires.goes_on w.if-from-gt0.true in
      let same = file_is c.args.places.now c.requires.ordered c.args.key.now c.args.from last.0 last.1 w.index-places-from.result w.index-places-from.is in
      let level = ap (λ (x : Placed). x.meta.level) same in
      levels_before c.args.places.now c.requires.ordered c.args.key.now c.args.from last.0 last.1 1 (omega (arith, level, w.if-last-gt0.false))
  | else-from-gt0 w ↦ λ k d low lt. absurd (omega (arith, lt, w.if-from-gt0.false))
]
