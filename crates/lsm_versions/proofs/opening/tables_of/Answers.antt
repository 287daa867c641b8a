use Rattle.std.proofs.Common.{◌≡◌, ◌∙◌, ◌+◌, ◌++◌, ◌∷◌, [], Option, Some, arith, ap, sym, subst, take}
use Rattle.std.specs.FinMap.{get}
use Rattle.std.specs.Option.{IfNone, IfSome}
use Rattle.std.proofs.lemmas.List.{take_more}
use Rattle.lsm_key.specs.Sets.{IsIn}
use Rattle.lsm_key.proofs.Membership.{IsIn-at}
use Rattle.lsm_table.specs.Tables.{Opened}
use Rattle.lsm_edit.specs.declared.file.FileMeta.{FileMeta}
use Rattle.lsm_edit.specs.Served.{IsAsRecorded}
use Rattle.lsm_edit.proofs.PushedEdits.{recorded_push}
use Rattle.lsm_vault.specs.Stored.{VaultValue}
use Rattle.lsm_versions.specs.Opening.{LacksTable}
use Rattle.lsm_versions.proofs.PutTables.{never_falls}
use Rattle.lsm_versions.proofs.RecoveredTables.{kept_push}
use Rattle.lsm_versions.proofs.opening.tables_of.Goals as goal

pub returns-in_default-clause-none : goal.returns-in_default-clause-none
returns-in_default-clause-none g c =
    let files = c.args.files.now in
    let among = subst (λ (f : FileMeta). IsIn f files) (sym c.file-item.is) (IsIn-at files c.loop-file.file-index c.file-item.result c.loop-file-test.true) in
    let lacks = subst (λ (o : Option Opened). IfNone o (LacksTable (g.V.Vault.stored c.loop-file.vault).tables c.file-item.result)) c.in_default.is c.in_ok-table.ensures.none in
    (c.file-item.result, among, subst (λ (v : VaultValue). LacksTable v.tables c.file-item.result) c.loop-file.invariant.2 lacks)

pub loop-file-preserved : goal.loop-file-preserved
loop-file-preserved g c =
    let files = c.args.files.now in
    let i = c.loop-file.file-index in
    let all = g.V.Vault.stored in
    let inv = c.loop-file.invariant in
    let front : take (i + 1) files ≡ take i files ++ c.file-item.result ∷ [] = take_more files i c.file-item.result c.loop-file-test.true ∙ ap (λ (f : FileMeta). take i files ++ f ∷ []) (sym c.file-item.is) in
    let one = subst (λ (o : Option Opened). IfSome o (λ t. IsAsRecorded c.file-item.result t × (get (all c.loop-file.vault).tables c.file-item.result.number ≡ Some t.bytes))) c.in-Some.is c.in_ok-table.ensures.some in
    let there = subst (λ (v : VaultValue). get v.tables c.file-item.result.number ≡ Some c.in-Some.table.bytes) inv.2 one.1 in
    let up = never_falls c.table_of.result _ _ c.table_of.ensures.counted in
    let low = inv.3 in
    rw (front, c.in_ok-push.ensures.items) (
      recorded_push (take i files) c.loop-file.tables.items c.file-item.result c.in-Some.table inv.0 one.0,
      kept_push (all c.args.vault.now).tables (take i files) c.loop-file.tables.items c.file-item.result c.in-Some.table inv.0 inv.1 there,
      c.table_of.ensures.stays ∙ inv.2,
      omega (arith, up, low),
    )
