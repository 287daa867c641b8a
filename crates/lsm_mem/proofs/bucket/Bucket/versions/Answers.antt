use Rattle.std.proofs.Common.{sym, ◌∙◌}
use Rattle.lsm_mem.proofs.OneKey.{own_chain, other_chain}
use Rattle.lsm_mem.proofs.bucket.Bucket.versions.Goals as goal

pub returns-in-Key-clause-found : goal.returns-in-Key-clause-found
returns-in-Key-clause-found c = rw (← c.in-Key.ensures) (own_chain c.args.key.now c.in-Key.versions.now (sym c.are_of.ensures ∙ c.if-are_of.true))

pub returns-in-Key-2-clause-none : goal.returns-in-Key-2-clause-none
returns-in-Key-2-clause-none c d m = other_chain c.args.key.now c.in-Key.versions.now (sym c.are_of.ensures ∙ c.if-are_of.false) d (rw c.in-Key.ensures m)

pub returns-in-Keys-clause-none : goal.returns-in-Keys-clause-none
returns-in-Keys-clause-none c = rw (← c.in-Keys.ensures) c.versions.ensures.none
