use Rattle.std.proofs.Common.{◌+◌, ℕ, ap, arith}
use Rattle.std.proofs.lemmas.Result.{err_from_is_err_and}
use Rattle.lsm_serve.proofs.KeyCounts.{at_most_one, deletes_first, deletes_more}
use Rattle.lsm_serve.proofs.answer.keys.delete_keys.Goals as goal

pub loop-key-preserved : goal.loop-key-preserved
loop-key-preserved g c =
    let inv = c.loop-key.invariant in
    let had = c.in_ok-delete_key.field-0 in
    let few = at_most_one had in
    record {
      few = omega (arith, inv.few, c.from.ensures, few);
      so = deletes_more c.args.store.now c.loop-key.store c.delete_key.new.store c.args.keys.now c.loop-key.key-index c.loop-key.count (c.loop-key.count + c.from.result) _ had c.loop-key-test.true inv.so c.in_ok-delete_key.ensures.ok (ap (λ (n : ℕ). c.loop-key.count + n) c.from.ensures);
    }

pub returns-in_err-delete_key-clause-refused : goal.returns-in_err-delete_key-clause-refused
returns-in_err-delete_key-clause-refused g c =
    let p = err_from_is_err_and c.from_residual.result c.from_residual.ensures.1 in
    rw (p.1, p.2) (deletes_first c.args.store.now c.loop-key.store c.delete_key.new.store c.args.keys.now c.loop-key.key-index c.loop-key.count _ _ c.loop-key-test.true c.loop-key.invariant.so c.in_err-delete_key.ensures.refused c.in_err-delete_key.ensures.err)
