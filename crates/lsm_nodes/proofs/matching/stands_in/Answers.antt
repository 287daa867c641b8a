-- The caller's own records, then those of the others.
use Rattle.std.proofs.Common.{inl, inr, sym, ◌∙◌}
use Rattle.std.proofs.lemmas.Bool.{true≢false}
use Rattle.lsm_key.proofs.Membership.{IsIn-append_cases, IsIn-append_left, IsIn-append_right}
use Rattle.lsm_nodes.specs.declared.shared.tally.Record.{Record}
use Rattle.lsm_nodes.specs.Tallies.{all_records, record_at}
use Rattle.lsm_nodes.proofs.matching.stands_in.Goals as goal

pub returns-then-has : goal.returns-then-has
returns-then-has c = (
  λ t. IsIn-append_left (record_at c.args.position c.args.exchange.now) c.args.mine.now (all_records c.args.others.now) (c.has.ensures.0 t),
  λ m. c.if-has.true,
)

pub returns-else-has : goal.returns-else-has
returns-else-has c =
    let r : Record = record_at c.args.position c.args.exchange.now in (
      λ t. IsIn-append_right r c.args.mine.now (all_records c.args.others.now) (c.any_has.ensures.0 t),
      λ m. elim (IsIn-append_cases r c.args.mine.now (all_records c.args.others.now) m) [
        | inl a ↦ absurd (true≢false (sym (c.has.ensures.1 a) ∙ c.if-has.false))
        | inr b ↦ c.any_has.ensures.1 b
      ],
    )
