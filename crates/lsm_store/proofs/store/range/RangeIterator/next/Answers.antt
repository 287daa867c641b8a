use Rattle.std.proofs.Common.{◌-◌, ◌∙◌, List, ℕ, Option, Some, None, inr, ap, subst}
use Rattle.lsm_coord.proofs.ScansAgree.{Pair}
use Rattle.lsm_store.specs.Ranges.{ReadsFirst, after_pair, part_place}
use Rattle.lsm_store.proofs.store.range.RangeIterator.next.Goals as goal

pub returns-in-Ok-None-clause-steps : goal.returns-in-Ok-None-clause-steps
returns-in-Ok-None-clause-steps g c =
    let from = part_place c.self.inside.part in
    let first = subst (λ (hi : List ℕ). ReadsFirst c.self.inside.store.now from hi c.self.inside.at c.in-Ok-None.field-0) c.deref.ensures.value c.in-Ok-None.ensures.ok in
    let after = c.in-Ok-None.ensures.after ∙ ap (after_pair from) c.in-Ok-None.field-0-is in
    rw (← c.self.view_is) (
      inr (subst (ReadsFirst c.self.inside.store.now from c.self.inside.hi.items c.self.inside.at) c.in-Ok-None.field-0-is first),
      λ i. record { store = c.self.inside.store.now; from = after i; hi = c.self.inside.hi.items; at = c.self.inside.at; left = c.self.inside.left },
    )

pub returns-in-Ok-Some-clause-steps : goal.returns-in-Ok-Some-clause-steps
returns-in-Ok-Some-clause-steps g c =
    let from = part_place c.self.inside.part in
    let first = subst (λ (hi : List ℕ). ReadsFirst c.self.inside.store.now from hi c.self.inside.at c.in-Ok-Some.field-0) c.deref.ensures.value c.in-Ok-Some.ensures.ok in
    let is = c.in-Ok-Some.field-0-is in
    let after = c.in-Ok-Some.ensures.after ∙ ap (after_pair from) is in
    rw (← c.self.view_is) (
      subst (ReadsFirst c.self.inside.store.now from c.self.inside.hi.items c.self.inside.at) is first,
      λ i. record { store = c.self.inside.store.now; from = after i; hi = c.self.inside.hi.items; at = c.self.inside.at; left = c.self.inside.left - 1 },
    )
