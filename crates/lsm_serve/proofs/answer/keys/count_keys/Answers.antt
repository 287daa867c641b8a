use Rattle.std.proofs.Common.{◌∙◌, ◌+◌, ℕ, ap, arith}
use Rattle.lsm_serve.proofs.KeyCounts.{at_most_one, counts_done, counts_more}
use Rattle.lsm_serve.proofs.answer.keys.count_keys.Goals as goal

pub loop-key-preserved : goal.loop-key-preserved
loop-key-preserved g c =
    let inv = c.loop-key.invariant in
    let has = c.in_ok-has_value.field-0 in
    let few = at_most_one has in
    record {
      same = c.has_value.ensures.same ∙ inv.same;
      few = omega (arith, inv.few, c.from.ensures, few);
      so = counts_more c.args.store.now c.loop-key.store c.args.keys.now c.loop-key.key-index c.loop-key.count (c.loop-key.count + c.from.result) _ has inv.same c.loop-key-test.true inv.so c.in_ok-has_value.ensures.ok (ap (λ (n : ℕ). c.loop-key.count + n) c.from.ensures);
    }

pub returns-clause-ok : goal.returns-clause-ok
returns-clause-ok g c = counts_done c.args.store.now c.args.keys.now c.loop-key.key-index c.loop-key.count c.loop-key-test.false c.loop-key.invariant.so
