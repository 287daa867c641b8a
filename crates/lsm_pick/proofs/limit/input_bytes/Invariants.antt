use Rattle.std.proofs.Common.{◌≡◌, ◌≤◌, ◌*◌, take, length}
use Rattle.std.specs.List.{filter, sum_by}
use Rattle.lsm_edit.specs.declared.file.FileMeta.{FileMeta}
use Rattle.lsm_key.specs.declared.limits.TheConstants.{MAX_INPUTS}
use Rattle.lsm_pick.specs.Reach.{is_taken, candidate_of}
use Rattle.lsm_pick.proofs.limit.input_bytes.Given as goal

abbrev pub invariant-loop-file : goal.invariant-loop-file
invariant-loop-file l =
    (l.inputs ≡ length (filter (is_taken (candidate_of l.first l.older_only) l.reach.lo.now l.reach.hi.now) (take l.file-index l.files)))
    × (l.bytes ≡ sum_by (λ (f : FileMeta). f.bytes) (filter (is_taken (candidate_of l.first l.older_only) l.reach.lo.now l.reach.hi.now) (take l.file-index l.files)))
    × (l.inputs ≤ MAX_INPUTS) × (l.bytes ≤ l.inputs * 4294967296)
