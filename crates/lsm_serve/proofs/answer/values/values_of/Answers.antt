use Rattle.std.proofs.Common.{◌∙◌}
use Rattle.lsm_serve.proofs.ReadsSoFar.{reads_done, reads_more}
use Rattle.lsm_serve.proofs.answer.values.values_of.Goals as goal

pub loop-key-preserved : goal.loop-key-preserved
loop-key-preserved g c =
    let inv = c.loop-key.invariant in
    let value = c.in_ok-value.value in
    record {
      same = c.get.ensures.same ∙ inv.same;
      so = reads_more c.args.store.now c.loop-key.store c.args.keys.now c.loop-key.key-index c.loop-key.values.items _ _ value inv.same c.loop-key-test.true inv.so c.in_ok-value.ensures.ok c.in_ok-push.ensures;
    }

pub returns-clause-ok : goal.returns-clause-ok
returns-clause-ok g c = reads_done c.args.store.now c.args.keys.now c.loop-key.key-index c.loop-key.values.items c.loop-key-test.false c.loop-key.invariant.so
