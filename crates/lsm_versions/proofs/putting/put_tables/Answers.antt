use Rattle.std.proofs.Common.{arith, ◌≡◌, ◌∙◌, ◌∷◌, ◌++◌, [], List, refl, sym, ap, subst, inl}
use Rattle.std.proofs.lemmas.List.{append_assoc}
use Rattle.std.specs.FinMap.{insert}
use Rattle.lsm_key.specs.Sets.{IsIn}
use Rattle.lsm_key.proofs.Membership.{IsIn-append_right}
use Rattle.lsm_vault.specs.Stored.{VaultValue}
use Rattle.lsm_vault.proofs.StoredChanges.{rest_then, tables_alone}
use Rattle.lsm_versions.specs.declared.putting.NumberedTable.{NumberedTable}
use Rattle.lsm_versions.specs.Kept.{MayHavePutSome}
use Rattle.lsm_versions.specs.Putting.{IsTableToPut, put_numbered}
use Rattle.lsm_versions.proofs.PutTables.{one_put}
use Rattle.lsm_versions.proofs.putting.put_tables.Goals as goal

pub loop-table-preserved : goal.loop-table-preserved
loop-table-preserved g c =
    let inv = c.loop-table.invariant in
    let all = g.V.Vault.stored in
    let t : NumberedTable = c.in-Some.table in
    let before = c.loop-table.yielded in
    let later = c.next.new.self.rest.items in
    let MayPut = IsTableToPut c.args.tables.items in
    let rest : c.loop-table.table-iterator.rest.items ≡ t ∷ later = c.in-Some.ensures.steps.0 in
    let whole : before ++ t ∷ later ≡ c.args.tables.items = ap (λ (ts : List NumberedTable). before ++ ts) (sym rest) ∙ inv.0 in
    let among = subst (IsIn t) whole (IsIn-append_right t before (t ∷ later) (inl refl)) in
    let put : all c.put_table.new.self ≡ record (all c.loop-table.vault) { tables = insert (all c.loop-table.vault).tables t.number t.bytes } = c.in_ok-put_table.ensures.ok in (
      append_assoc before (t ∷ []) later ∙ whole,
      ap (λ (v : VaultValue). record v { tables = put_numbered v.tables later }) put ∙ ap (λ (ts : List NumberedTable). record (all c.loop-table.vault) { tables = put_numbered (all c.loop-table.vault).tables ts }) (sym rest) ∙ inv.1,
      subst (λ (v : VaultValue). MayHavePutSome MayPut (all c.args.vault.now).tables v.tables) (sym put) (one_put MayPut (all c.args.vault.now).tables (all c.loop-table.vault).tables t.number t.bytes among inv.2),
      rest_then (all c.args.vault.now) (all c.loop-table.vault) (all c.put_table.new.self) inv.3 (tables_alone (all c.loop-table.vault) (all c.put_table.new.self) _ put),
      (let up = c.in_ok-put_table.ensures.counted in let low = inv.4 in omega (arith, up, low)),
    )
