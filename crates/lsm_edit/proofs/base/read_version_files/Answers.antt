use Rattle.std.proofs.Common.{◌≡◌, arith, ◌-◌, ◌+◌, List, [], sym, subst}
use Rattle.std.proofs.lemmas.Result.{err_from_is_err_and}
use Rattle.lsm_edit.specs.declared.file.FileBounds.{FileBounds}
use Rattle.lsm_edit.specs.declared.file.FileMeta.{FileMeta}
use Rattle.lsm_edit.specs.File.{file_at}
use Rattle.lsm_edit.specs.Base.{version_files_at, after_version_file}
use Rattle.lsm_edit.proofs.BaseLaws.{version_bounds}
use Rattle.lsm_edit.proofs.FileLaws.{file_apart, file_number}
use Rattle.lsm_edit.proofs.ItemsInTurn.{after_these, one_read, none_read}
use Rattle.lsm_edit.proofs.base.read_version_files.Goals as goal

pub returns-in_err-file : goal.returns-in_err-file
returns-in_err-file g c =
    let p = err_from_is_err_and c.from_residual.result c.from_residual.ensures.1 in
    rw (p.1, p.2) (none_read (λ (from : FileBounds × List FileMeta). file_at c.args.max_key c.args.short c.args.bad from.0 from.1) after_version_file (version_files_at c.args.max_key c.args.short c.args.bad c.args.count (version_bounds c.args.next_file, []) c.args.rest.now) c.loop-place.files (c.args.count - c.loop-place._place) (c.args.count - (c.loop-place._place + 1)) (record (version_bounds c.args.next_file) { least = c.loop-place.least }, c.loop-place.files) c.loop-place.rest
    c.loop-place.invariant (omega (arith, c.loop-place-test.true)) c.in_err-file.field-0.0 c.in_err-file.ensures)

pub overflow_add-least : goal.overflow_add-least
overflow_add-least g c =
    let most = file_number c.args.max_key c.args.short c.args.bad (record (version_bounds c.args.next_file) { least = c.loop-place.least }) c.loop-place.files c.loop-place.rest (c.in_ok-file.file, c.read_apart.new.rest) c.in_ok-file.ensures in
    omega (arith, most, c.requires)

pub with-requires-clause-ordered : goal.with-requires-clause-ordered
with-requires-clause-ordered g c =
    (file_apart c.args.max_key c.args.short c.args.bad (record (version_bounds c.args.next_file) { least = c.loop-place.least }) c.loop-place.files c.loop-place.rest (c.in_ok-file.file, c.read_apart.new.rest) c.in_ok-file.ensures).0

pub with-requires-clause-apart : goal.with-requires-clause-apart
with-requires-clause-apart g c =
    (file_apart c.args.max_key c.args.short c.args.bad (record (version_bounds c.args.next_file) { least = c.loop-place.least }) c.loop-place.files c.loop-place.rest (c.in_ok-file.file, c.read_apart.new.rest) c.in_ok-file.ensures).1

pub loop-place-preserved : goal.loop-place-preserved
loop-place-preserved g c =
    let all = version_files_at c.args.max_key c.args.short c.args.bad c.args.count (version_bounds c.args.next_file, []) c.args.rest.now in
    subst (λ (fs : List FileMeta). all ≡ after_these c.in_ok-files.files (version_files_at c.args.max_key c.args.short c.args.bad (c.args.count - (c.loop-place._place + 1)) (record (version_bounds c.args.next_file) { least = c.in_ok-file.file.number + 1 }, fs) c.read_apart.new.rest))
    (sym c.in_ok-files.ensures)
    (one_read (λ (from : FileBounds × List FileMeta). file_at c.args.max_key c.args.short c.args.bad from.0 from.1) after_version_file all c.loop-place.files (c.args.count - c.loop-place._place) (c.args.count - (c.loop-place._place + 1)) (record (version_bounds c.args.next_file) { least = c.loop-place.least }, c.loop-place.files) c.loop-place.rest
    c.loop-place.invariant (omega (arith, c.loop-place-test.true)) c.read_apart.new.rest c.in_ok-file.file c.in_ok-files.files c.in_ok-file.ensures c.in_ok-files.ensures)
