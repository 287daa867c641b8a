use Rattle.std.proofs.Common.{get_or, refl, sym, subst, arith}
use Rattle.std.proofs.lemmas.Bool.{false≢true}
use Rattle.lsm_table.specs.Tables.{Opened}
use Rattle.lsm_edit.specs.declared.file.FileMeta.{FileMeta}
use Rattle.lsm_edit.specs.Served.{IsAsRecorded}
use Rattle.lsm_edit.proofs.PlacesInOrder.{as_many}
use Rattle.lsm_merge.proofs.InputTests.{recorded_from, recorded_more, recorded_at}
use Rattle.lsm_merge.proofs.inputs.are_as_recorded.Goals as goal

pub returns-then-files-tables : goal.returns-then-files-tables
returns-then-files-tables c = (λ h. absurd (false≢true h), λ recorded. absurd (c.if-files-tables.true (as_many c.args.files.now c.args.tables.now recorded)))

pub returns-then-not-is_as_recorded : goal.returns-then-not-is_as_recorded
returns-then-not-is_as_recorded c = (
  λ h. absurd (false≢true h),
  λ recorded.
      let f = c.index-files-i.result in
      let t = c.index-tables-i.result in
      let own = recorded_at c.args.files.now c.args.tables.now recorded c.loop-i.i f t c.loop-i-test.true in
      c.if-not-is_as_recorded.ensures.1 (subst (λ (g : FileMeta). IsAsRecorded g t) (sym c.index-files-i.is) (subst (λ (u : Opened). IsAsRecorded (get_or c.args.files.now c.loop-i.i f) u) (sym c.index-tables-i.is) own)),
)

pub loop-i-preserved : goal.loop-i-preserved
loop-i-preserved c =
    recorded_more c.args.files.now c.args.tables.now c.loop-i.i c.index-files-i.result c.index-tables-i.result c.loop-i.invariant c.loop-i-test.true (omega (arith, c.loop-i-test.true, c.if-files-tables.false)) c.index-files-i.is c.index-tables-i.is
    (c.is_as_recorded.ensures.0 c.if-not-is_as_recorded.false)

pub returns : goal.returns
returns c = (λ _. recorded_from c.args.files.now c.args.tables.now c.if-files-tables.false (λ k d t lt. c.loop-i.invariant k d t (omega (arith, lt, c.loop-i-test.false))), λ _. refl)
