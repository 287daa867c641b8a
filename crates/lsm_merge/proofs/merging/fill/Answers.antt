use Rattle.std.proofs.Common.{Option, Ok, subst}
use Rattle.std.proofs.lemmas.Result.{err_from_is_err_and}
use Rattle.lsm_key.specs.declared.entry.Entry.{Entry}
use Rattle.lsm_merge.specs.Walks.{IsFewer, Steps}
use Rattle.lsm_merge.proofs.WalkChains.{filled, filling_more, filling_none, may_come, stops}
use Rattle.lsm_merge.proofs.merging.fill.Goals as goal

pub loop-entry-init : goal.loop-entry-init
loop-entry-init c = (λ target split. filling_none c.args.walk.now target c.args.outputs.now.closed.items c.args.outputs.now.taking split, c.requires.begins.1)

pub add-requires : goal.add-requires
add-requires c =
    let now = c.loop-entry.walk in
    let inv = c.loop-entry.invariant in
    let filling = inv.0 c.requires.empty.0 c.requires.empty.1 in
    let s = subst (λ (o : Option Entry). Steps now (Ok o) c.step.new.self) c.in-Some.is (c.in_ok-entry.ensures.steps.1 inv.1) in
    (c.requires.empty.0, filling.kept, filling.split, may_come c.args.walk.now now c.step.new.self c.requires.empty.0 c.loop-entry.outputs.closed.items c.loop-entry.outputs.taking c.requires.begins.0 filling s.0 c.in-Some.entry s.1 c.bytes-bytes.ensures.sound c.requires.few)

pub loop-entry-smaller : goal.loop-entry-smaller
loop-entry-smaller c = subst (λ (o : Option Entry). IsFewer c.loop-entry.walk o c.step.new.self) c.in-Some.is c.in_ok-entry.ensures.fewer

pub loop-entry-preserved : goal.loop-entry-preserved
loop-entry-preserved c =
    let now = c.loop-entry.walk in
    let inv = c.loop-entry.invariant in
    let s = subst (λ (o : Option Entry). Steps now (Ok o) c.step.new.self) c.in-Some.is (c.in_ok-entry.ensures.steps.1 inv.1) in (
      λ target split.
          let filling = inv.0 target split in
          let may = may_come c.args.walk.now now c.step.new.self target c.loop-entry.outputs.closed.items c.loop-entry.outputs.taking c.requires.begins.0 filling s.0 c.in-Some.entry s.1 c.bytes-bytes.ensures.sound c.requires.few in
          filling_more c.args.walk.now now c.step.new.self target c.loop-entry.outputs.closed.items c.loop-entry.outputs.taking c.requires.begins.0 filling s.0 c.in-Some.entry s.1 c.bytes-bytes.ensures.sound c.add.new.self.closed.items c.add.new.self.taking (c.in_ok-add.ensures target filling.kept filling.split may),
      s.2,
    )

pub returns-in_err-entry-clause-refused : goal.returns-in_err-entry-clause-refused
returns-in_err-entry-clause-refused c =
    let inv = c.loop-entry.invariant in
    let filling = inv.0 c.requires.empty.0 c.requires.empty.1 in
    let p = err_from_is_err_and c.from_residual.result c.from_residual.ensures.1 in
    rw (p.1, p.2) (stops c.args.walk.now c.loop-entry.walk c.requires.empty.0 c.loop-entry.outputs.closed.items c.loop-entry.outputs.taking filling c.step.new.self c.in_err-entry.field-0.0 (c.in_err-entry.ensures.steps.1 inv.1))

pub returns-clause-ok : goal.returns-clause-ok
returns-clause-ok c = λ target split.
    let now = c.loop-entry.walk in
    let inv = c.loop-entry.invariant in
    let s = subst (λ (o : Option Entry). Steps now (Ok o) c.step.new.self) c.in_default.is (c.in_ok-entry.ensures.steps.1 inv.1) in
    filled c.args.walk.now now target c.loop-entry.outputs.closed.items c.loop-entry.outputs.taking (inv.0 target split) s.0 c.step.new.self s.1 s.2
