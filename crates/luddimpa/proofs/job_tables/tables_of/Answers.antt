use Rattle.std.proofs.Common.{◌≡◌, ◌∙◌, ◌+◌, ◌++◌, ◌∷◌, [], Option, take, ap, sym, subst, arith}
use Rattle.std.proofs.lemmas.List.{take_more}
use Rattle.std.specs.Option.{IfNone, IfSome}
use Rattle.lsm_table.specs.Tables.{Opened}
use Rattle.lsm_edit.specs.declared.file.FileMeta.{FileMeta}
use Rattle.lsm_edit.specs.Served.{IsAsRecorded}
use Rattle.lsm_edit.proofs.PushedEdits.{recorded_push}
use Rattle.lsm_msg.specs.Messages.{sized}
use Rattle.luddimpa.specs.JobMerges.{StandsAsRecorded}
use Rattle.luddimpa.proofs.JobTables.{parts_push, wrong_here}
use Rattle.luddimpa.proofs.job_tables.tables_of.Goals as goal

pub returns-in_default-clause-refused : goal.returns-in_default-clause-refused
returns-in_default-clause-refused c =
    let files = c.args.files.now in
    let file = c.index-files-at.result in
    let none = subst (λ (o : Option Opened). IfNone o (StandsAsRecorded file c.loop-at.rest → ⊥)) c.in_default.is c.in_ok-table.ensures.none in
    record {
      within = omega (arith, c.loop-at-test.true);
      tables = c.loop-at.tables.items;
      rest = c.loop-at.rest;
      before = c.loop-at.invariant.0;
      parts = c.loop-at.invariant.1;
      wrong = wrong_here files c.loop-at.at file c.loop-at.rest c.loop-at-test.true c.index-files-at.is none;
    }

pub loop-at-preserved : goal.loop-at-preserved
loop-at-preserved c =
    let files = c.args.files.now in
    let i = c.loop-at.at in
    let file = c.index-files-at.result in
    let inv = c.loop-at.invariant in
    let front : take (i + 1) files ≡ take i files ++ file ∷ [] = take_more files i file c.loop-at-test.true ∙ ap (λ (f : FileMeta). take i files ++ f ∷ []) (sym c.index-files-at.is) in
    let one = subst (λ (o : Option Opened). IfSome o (λ t. IsAsRecorded file t × (c.loop-at.rest ≡ sized t.bytes ++ c.take_table.new.rest))) c.in-Some.is c.in_ok-table.ensures.some in
    rw (front, c.in_ok-push.ensures.items) (
      recorded_push (take i files) c.loop-at.tables.items file c.in-Some.table inv.0 one.0,
      parts_push c.args.bytes.now c.loop-at.tables.items c.in-Some.table c.loop-at.rest c.take_table.new.rest inv.1 one.1,
    )
