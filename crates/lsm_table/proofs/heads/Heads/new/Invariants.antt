-- the heads so far are in their places
use Rattle.std.proofs.Common.{◌≡◌, ◌++◌}
use Rattle.lsm_table.specs.Heads.{PutInOrder, AreTurned}
use Rattle.lsm_table.proofs.heads.Heads.new.Given as goal

abbrev pub invariant-loop-head : goal.invariant-loop-head
invariant-loop-head g l = record {
  all : l.yielded ++ l.head-iterator.rest.items ≡ l.fn.heads.items;
  so : PutInOrder g.H.Head.entry g.H.Head.left l.yielded l.placed.items;
  turned : AreTurned g.H.Head.entry l.placed.items;
}
