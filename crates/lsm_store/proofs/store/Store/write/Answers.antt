use Rattle.std.proofs.Common.{rules, ◌≡◌, ◌≤◌, arith, inl, inr}
use Rattle.std.proofs.lemmas.Result.{err_from_is_err_and}
use Rattle.lsm_key.specs.declared.limits.TheConstants.{MAX_BATCH_WEIGHT}
use Rattle.lsm_key.specs.Limits.{total_weight}
use Rattle.lsm_coord.specs.declared.error.CoordError.TheVariants.{MemtableFull}
use Rattle.lsm_store.proofs.CurrentAlone.{room_made, room_there}
use Rattle.lsm_store.proofs.StoreCompactions.{append_refuses_write, emptied_refuses_write, full_same, room_refuses_write}
use Rattle.lsm_store.proofs.StoreSteps.{accepts_kept, accepts_then, keeps_then}
use Rattle.lsm_store.proofs.store.Store.write.Goals as goal

pub returns-in_default-clause-ok : goal.returns-in_default-clause-ok
returns-in_default-clause-ok g c = (inl c.in_default.ensures.ok.0, accepts_kept _ _ _ _ c.in_default.ensures.ok.1 c.keep_pace.ensures)

pub returns-in_default-clause-compacted : goal.returns-in_default-clause-compacted
returns-in_default-clause-compacted g c = room_there c.args.self.now c.keep_pace.new.self c.args.batch.now c.in_default.ensures.ok.0

pub returns-then-ne-clause-refused : goal.returns-then-ne-clause-refused
returns-then-ne-clause-refused g c =
    let other : c.in-Err.why ≡ MemtableFull → ⊥ = search rules in
    append_refuses_write c.args.self.now c.accept.new.self c.args.batch.now c.in-Err.why other c.in-Err.ensures.refused

pub returns-in_err-make_room-clause-err : goal.returns-in_err-make_room-clause-err
returns-in_err-make_room-clause-err g c =
    let p = err_from_is_err_and c.from_residual.result c.from_residual.ensures.1 in
    rw p.1 (keeps_then _ _ _ c.in-Err.ensures.err c.in_err-make_room.ensures.keeps)

pub returns-in_err-make_room-clause-refused : goal.returns-in_err-make_room-clause-refused
returns-in_err-make_room-clause-refused g c =
    let p = err_from_is_err_and c.from_residual.result c.from_residual.ensures.1 in
    let full : c.in-Err.why ≡ MemtableFull = search rules in
    rw (p.1, p.2) (room_refuses_write c.args.self.now c.accept.new.self c.make_room.new.self c.args.batch.now c.in-Err.why _ full c.in-Err.ensures.refused c.in_err-make_room.ensures.refused)

pub returns-in_err-accept-clause-err : goal.returns-in_err-accept-clause-err
returns-in_err-accept-clause-err g c =
    let p = err_from_is_err_and c.from_residual-in_err-accept.result c.from_residual-in_err-accept.ensures.1 in
    rw p.1 (keeps_then _ _ _ c.in-Err.ensures.err (keeps_then _ _ _ c.in_ok-make_room.ensures.keeps c.in_err-accept.ensures.err))

pub returns-in_err-accept-clause-refused : goal.returns-in_err-accept-clause-refused
returns-in_err-accept-clause-refused g c =
    let p = err_from_is_err_and c.from_residual-in_err-accept.result c.from_residual-in_err-accept.ensures.1 in
    let full : c.in-Err.why ≡ MemtableFull = search rules in
    let weight = c.weight-weight.ensures.value in
    let bound = c.weight-weight.ensures.bound in
    let light : total_weight c.args.batch.now ≤ MAX_BATCH_WEIGHT = omega (arith, weight, bound) in
    rw (p.1, p.2)
    (emptied_refuses_write c.args.self.now c.accept.new.self c.make_room.new.self c.accept-2.new.self c.args.batch.now c.in-Err.why c.in_err-accept.field-0.0 full c.in-Err.ensures.refused c.in_ok-make_room.ensures.ok c.make_room.ensures.failures light c.in_err-accept.ensures.refused)

pub returns-clause-ok : goal.returns-clause-ok
returns-clause-ok g c =
    let full : c.in-Err.why ≡ MemtableFull = search rules in
    (inr (full_same c.args.self.now c.accept.new.self c.args.batch.now c.in-Err.why full c.in-Err.ensures.refused).0, accepts_then _ _ _ _ (keeps_then _ _ _ c.in-Err.ensures.err c.in_ok-make_room.ensures.keeps) c.in_ok-accept.ensures.ok.1)

pub returns-clause-compacted : goal.returns-clause-compacted
returns-clause-compacted g c =
    let full : c.in-Err.why ≡ MemtableFull = search rules in
    room_made c.args.self.now c.accept.new.self c.make_room.new.self c.accept-2.new.self c.args.batch.now (full_same c.args.self.now c.accept.new.self c.args.batch.now c.in-Err.why full c.in-Err.ensures.refused).1 c.in_ok-make_room.ensures.compacted c.in_ok-accept.ensures.due
