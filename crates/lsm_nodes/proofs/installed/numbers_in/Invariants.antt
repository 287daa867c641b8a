-- The numbers so far, and room for all.
use Rattle.std.proofs.Common.{◌≡◌, ◌≤◌, length, take, vec_capacity}
use Rattle.lsm_nodes.proofs.installed.numbers_in.Given as goal

abbrev pub invariant-loop-number : goal.invariant-loop-number
invariant-loop-number l = (l.copy.items ≡ take l.number-index l.numbers) × (length l.numbers ≤ vec_capacity l.copy)
