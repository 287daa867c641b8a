use Rattle.std.proofs.Common.{◌≡◌, ◌-◌, []}
use Rattle.lsm_edit.specs.Base.{version_files_at}
use Rattle.lsm_edit.proofs.BaseLaws.{version_bounds}
use Rattle.lsm_edit.proofs.ItemsInTurn.{after_these}
use Rattle.lsm_edit.proofs.base.read_version_files.Given as goal

abbrev pub invariant-loop-place : goal.invariant-loop-place
invariant-loop-place g l = version_files_at l.max_key l.short l.bad l.count (version_bounds l.next_file, []) l.fn.rest ≡ after_these l.files (version_files_at l.max_key l.short l.bad (l.count - l._place) (record (version_bounds l.next_file) { least = l.least }, l.files) l.rest)
