use Rattle.std.proofs.Common.{◌≡◌, [], All, vec_len}
use Rattle.lsm_readers.proofs.start.readers.Given as goal

abbrev pub invariant-loop-i : goal.invariant-loop-i
invariant-loop-i g l = (vec_len l.all ≡ l._i) × All (λ x. x ≡ []) l.all.items × (l.seen ≡ [])
