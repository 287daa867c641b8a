use Rattle.std.proofs.Common.{◌≡◌, take}
use Rattle.lsm_edit.proofs.served.copies_of_places.Given as goal

abbrev pub invariant-loop-placed : goal.invariant-loop-placed
invariant-loop-placed l = l.copies.items ≡ take l.placed-index l.places
