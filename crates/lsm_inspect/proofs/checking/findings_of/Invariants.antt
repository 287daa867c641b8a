use Rattle.std.proofs.Common.{take}
use Rattle.lsm_inspect.specs.Check.{Finds}
use Rattle.lsm_inspect.proofs.checking.findings_of.Given as goal

abbrev pub invariant-loop-file : goal.invariant-loop-file
invariant-loop-file l = Finds l.fn.contents.tables l.fn.contents.damaged_tables.items (take l.file-index l.files) l.findings.items
