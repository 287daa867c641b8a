-- the numbers so far, and room for the others
use Rattle.std.proofs.Common.{◌≡◌, ◌≤◌, length, map, take}
use Rattle.std.specs.Prelude.{vec_len, vec_capacity}
use Rattle.lsm_world.proofs.nodes.claims.picked_job.Given as goal

abbrev pub invariant-loop-file : goal.invariant-loop-file
invariant-loop-file l = record {
  numbers : l.inputs.items ≡ map (λ f. f.number) (take l.file-index l.job.inputs);
  count : vec_len l.inputs ≡ l.file-index;
  room : length l.job.inputs ≤ vec_capacity l.inputs;
}
