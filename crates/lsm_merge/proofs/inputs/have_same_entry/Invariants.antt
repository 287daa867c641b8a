use Rattle.std.proofs.Common.{drop}
use Rattle.lsm_merge.specs.Inputs.{HaveSameEntry, lists_of}
use Rattle.lsm_merge.proofs.inputs.have_same_entry.Given as goal

-- those that were looked at share no entry with later ones
abbrev pub invariant-loop-i : goal.invariant-loop-i
invariant-loop-i l = HaveSameEntry (lists_of l.tables) → HaveSameEntry (lists_of (drop l.i l.tables))
