-- One list after another.
use Rattle.std.proofs.Common.{List, ◌∷◌, ◌+◌, ◌≡◌, drop, refl, sym, subst, ◌∙◌}
use Rattle.std.proofs.lemmas.Bool.{true≢false}
use Rattle.lsm_key.specs.Sets.{IsIn}
use Rattle.lsm_nodes.specs.declared.shared.tally.Record.{Record}
use Rattle.lsm_nodes.specs.Closing.{AllRise}
use Rattle.lsm_nodes.specs.Tallies.{record_at}
use Rattle.lsm_nodes.proofs.MatchedRecords.{in_item, in_rest, left_from}
use Rattle.lsm_nodes.proofs.matching.any_has.Goals as goal

pub returns-then-has : goal.returns-then-has
returns-then-has c =
    let r : Record = record_at c.args.position c.args.exchange.now in
    let item = c.records-item.result in
    let left = left_from c.args.lists.now c.loop-records.records-index item c.records-item.is c.loop-records-test.true in
    let found : IsIn r item = subst (λ (rs : List Record). IsIn r rs) c.as_slice.ensures (c.has.ensures.0 c.if-has.true) in (
      λ t. in_item c.args.lists.now c.loop-records.records-index item r left _ c.loop-records.invariant.1 found,
      λ m. refl,
    )

pub loop-records-preserved : goal.loop-records-preserved
loop-records-preserved c =
    let r : Record = record_at c.args.position c.args.exchange.now in
    let item = c.records-item.result in
    let left : drop c.loop-records.records-index c.args.lists.now ≡ item ∷ drop (c.loop-records.records-index + 1) c.args.lists.now = left_from c.args.lists.now c.loop-records.records-index item c.records-item.is c.loop-records-test.true in (
      (subst AllRise left c.loop-records.invariant.0).1,
      in_rest c.args.lists.now c.loop-records.records-index item r left _ c.loop-records.invariant.1
          (λ m. absurd (true≢false (sym (c.has.ensures.1 (subst (λ (rs : List Record). IsIn r rs) (sym c.as_slice.ensures) m)) ∙ c.if-has.false))),
    )
