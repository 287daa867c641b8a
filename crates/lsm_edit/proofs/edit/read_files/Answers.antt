use Rattle.std.proofs.Common.{arith, ◌-◌, ◌+◌, [], refl}
use Rattle.std.proofs.lemmas.Result.{err_from_is_err_and}
use Rattle.lsm_edit.specs.declared.file.FileBounds.{FileBounds}
use Rattle.lsm_edit.specs.File.{file_at}
use Rattle.lsm_edit.specs.Edit.{files_at, after_file}
use Rattle.lsm_edit.proofs.FileLaws.{file_number}
use Rattle.lsm_edit.proofs.ItemsInTurn.{begun, one_read, none_read, all_read}
use Rattle.lsm_edit.proofs.edit.read_files.Goals as goal

pub loop-place-init : goal.loop-place-init
loop-place-init g c = (begun (λ (from : FileBounds). file_at c.args.max_key c.args.short c.args.bad from []) after_file c.new-files.result c.args.count (c.args.count - 0) c.args.within c.args.rest.now c.new-files.ensures (omega arith), refl)

pub returns-in_err-file : goal.returns-in_err-file
returns-in_err-file g c =
    let p = err_from_is_err_and c.from_residual.result c.from_residual.ensures.1 in
    rw (p.1, p.2) (none_read (λ (from : FileBounds). file_at c.args.max_key c.args.short c.args.bad from []) after_file (files_at c.args.max_key c.args.short c.args.bad c.args.count c.args.within c.args.rest.now) c.loop-place.files (c.args.count - c.loop-place._place) (c.args.count - (c.loop-place._place + 1)) c.loop-place.within c.loop-place.rest
    c.loop-place.invariant.0 (omega (arith, c.loop-place-test.true)) c.in_err-file.field-0.0 c.in_err-file.ensures)

pub overflow_add-within : goal.overflow_add-within
overflow_add-within g c =
    let most = file_number c.args.max_key c.args.short c.args.bad c.loop-place.within [] c.loop-place.rest (c.in_ok-file.file, c.read_file.new.rest) c.in_ok-file.ensures in
    omega (arith, most, c.loop-place.invariant.1, c.requires)

pub loop-place-preserved : goal.loop-place-preserved
loop-place-preserved g c = (
  one_read (λ (from : FileBounds). file_at c.args.max_key c.args.short c.args.bad from []) after_file (files_at c.args.max_key c.args.short c.args.bad c.args.count c.args.within c.args.rest.now) c.loop-place.files (c.args.count - c.loop-place._place) (c.args.count - (c.loop-place._place + 1)) c.loop-place.within c.loop-place.rest
      c.loop-place.invariant.0 (omega (arith, c.loop-place-test.true)) c.read_file.new.rest c.in_ok-file.file c.push.new.self c.in_ok-file.ensures c.in_ok-push.ensures.ok,
  c.loop-place.invariant.1,
)

pub returns : goal.returns
returns g c =
    all_read (λ (from : FileBounds). file_at c.args.max_key c.args.short c.args.bad from []) after_file (files_at c.args.max_key c.args.short c.args.bad c.args.count c.args.within c.args.rest.now) c.loop-place.files (c.args.count - c.loop-place._place) 0 c.loop-place.within c.loop-place.rest
    c.loop-place.invariant.0 (omega (arith, c.loop-place-test.false))
