use Rattle.std.proofs.Common.{subst}
use Rattle.lsm_table.specs.Building.{BuilderRefuses, finish_fault}
use Rattle.lsm_merge.proofs.OutputSteps.{ends_with, ends_empty, nothing_finished}
use Rattle.lsm_merge.proofs.outputs.Outputs.finish.Goals.{in-Ok+in_ok-push-in-Ok, in-Err-EmptyTable}
use Rattle.lsm_merge.proofs.outputs.Outputs.finish.Goals as goal

pub returns : goal.returns
returns c = λ target entries split. elim c.match-finish.branch [
  | in-Ok+in_ok-push-in-Ok w ↦
      let made = ends_with target entries c.args.self.closed.items c.args.self.taking split w.in-Ok.table w.in-Ok.ensures.found.0 w.in-Ok.ensures.found.1 in
      rw (w.outputs-is, w.in_ok-push-in-Ok.ensures.items) made
  | in-Err-EmptyTable w ↦
      let none = nothing_finished c.args.self.taking.entries (subst (λ e. BuilderRefuses (finish_fault c.args.self.taking.entries) e) w.in-Err-EmptyTable.field-0-is w.in-Err-EmptyTable.ensures.refused) in
      rw w.outputs-is (ends_empty target entries c.args.self.closed.items c.args.self.taking split none)
]
