use Rattle.lsm_store.proofs.store.Store.put.Goals as goal

pub returns-clause-compacted : goal.returns-clause-compacted
returns-clause-compacted g c = rw (← c.in_ok-key.ensures, ← c.in_ok-value.ensures) c.write_op.ensures.compacted
