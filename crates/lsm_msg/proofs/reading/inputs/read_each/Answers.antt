use Rattle.std.proofs.Common.{◌≡◌, arith, ◌-◌, [], refl, Ok, subst, sym}
use Rattle.std.proofs.lemmas.Result.{err_from_is_err_and}
use Rattle.lsm_key.specs.Reading.{Fails}
use Rattle.lsm_edit.specs.declared.file.FileBounds.{FileBounds}
use Rattle.lsm_edit.specs.File.{file_at}
use Rattle.lsm_edit.proofs.FileLaws.{file_number}
use Rattle.lsm_edit.proofs.ItemsInTurn.{after_these, begun, one_read, none_read, all_read}
use Rattle.lsm_msg.specs.declared.fault.MsgFault.TheVariants.{Truncated, BadField}
use Rattle.lsm_msg.specs.declared.reading.inputs.InputsLeft.{InputsLeft}
use Rattle.lsm_msg.specs.MessageReading.{each_input_at, input_bounds, after_input}
use Rattle.lsm_msg.proofs.reading.inputs.read_each.Goals as goal

pub loop-left-init : goal.loop-left-init
loop-left-init c = (begun (λ (s : InputsLeft). file_at c.args.max_key Truncated BadField (input_bounds s) []) after_input c.new-files.result c.args.left.left c.args.left.left c.args.left c.args.rest.now c.new-files.ensures refl, refl)

pub returns-in_err-file : goal.returns-in_err-file
returns-in_err-file c =
    let p = err_from_is_err_and c.from_residual.result c.from_residual.ensures.1 in
    let left = c.loop-left.left in
    rw (p.1, p.2) (none_read (λ (s : InputsLeft). file_at c.args.max_key Truncated BadField (input_bounds s) []) after_input (each_input_at c.args.max_key c.args.left.left c.args.left c.args.rest.now) c.loop-left.files left.left (left.left - 1) left c.loop-left.rest
    c.loop-left.invariant.0 (omega (arith, c.loop-left-test.true)) c.in_err-file.field-0.0
    (subst (λ (within : FileBounds). Fails c.in_err-file.field-0.0 (file_at c.args.max_key Truncated BadField within [] c.loop-left.rest)) c.bounds.ensures c.in_err-file.ensures))

pub after-left-requires-clause-number : goal.after-left-requires-clause-number
after-left-requires-clause-number c =
    file_number c.args.max_key Truncated BadField (input_bounds c.loop-left.left) [] c.loop-left.rest (c.in_ok-file.file, c.read_file.new.rest)
    (subst (λ (within : FileBounds). file_at c.args.max_key Truncated BadField within [] c.loop-left.rest ≡ Ok (c.in_ok-file.file, c.read_file.new.rest)) c.bounds.ensures c.in_ok-file.ensures)

pub loop-left-preserved : goal.loop-left-preserved
loop-left-preserved c =
    let left = c.loop-left.left in
    let all = each_input_at c.args.max_key c.args.left.left c.args.left c.args.rest.now in
    let read : file_at c.args.max_key Truncated BadField (input_bounds left) [] c.loop-left.rest ≡ Ok (c.in_ok-file.file, c.read_file.new.rest) =
    subst (λ (within : FileBounds). file_at c.args.max_key Truncated BadField within [] c.loop-left.rest ≡ Ok (c.in_ok-file.file, c.read_file.new.rest)) c.bounds.ensures c.in_ok-file.ensures in
    let next = one_read (λ (s : InputsLeft). file_at c.args.max_key Truncated BadField (input_bounds s) []) after_input all c.loop-left.files left.left (left.left - 1) left c.loop-left.rest
    c.loop-left.invariant.0 (omega (arith, c.loop-left-test.true)) c.read_file.new.rest c.in_ok-file.file c.push.new.self read c.in_ok-push.ensures.ok in
    subst (λ (s : InputsLeft). (all ≡ after_these c.push.new.self (each_input_at c.args.max_key s.left s c.read_file.new.rest)) × (s.level ≡ c.args.left.level)) (sym c.after-left.ensures) (next, c.loop-left.invariant.1)

pub returns : goal.returns
returns c =
    all_read (λ (s : InputsLeft). file_at c.args.max_key Truncated BadField (input_bounds s) []) after_input (each_input_at c.args.max_key c.args.left.left c.args.left c.args.rest.now) c.loop-left.files c.loop-left.left.left 0 c.loop-left.left c.loop-left.rest
    c.loop-left.invariant.0 (omega (arith, c.loop-left-test.false))
