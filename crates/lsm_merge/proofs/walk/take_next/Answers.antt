use Rattle.std.proofs.Common.{sym}
use Rattle.lsm_table.proofs.TurnedHeads.{first_none}
use Rattle.lsm_merge.proofs.walk.take_next.Goals as goal

pub returns-in_err-first : goal.returns-in_err-first
returns-in_err-first c =
    let none = first_none c.args.heads.now (sym c.in_err-first.ensures.first) in
    rw (c.from_residual.ensures) (none, none)
