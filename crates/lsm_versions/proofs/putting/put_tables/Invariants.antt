use Rattle.std.proofs.Common.{◌≡◌, ◌++◌, ◌≤◌}
use Rattle.lsm_versions.specs.Kept.{MayHavePutSome}
use Rattle.lsm_versions.specs.Putting.{IsTableToPut, put_numbered}
use Rattle.lsm_versions.proofs.putting.put_tables.Given as goal

abbrev pub invariant-loop-table : goal.invariant-loop-table
invariant-loop-table g l =
    let stored = g.V.Vault.stored in
    (l.yielded ++ l.table-iterator.rest.items ≡ l.fn.tables.items)
    × (record (stored l.vault) { tables = put_numbered (stored l.vault).tables l.table-iterator.rest.items } ≡ record (stored l.fn.vault) { tables = put_numbered (stored l.fn.vault).tables l.fn.tables.items })
    × MayHavePutSome (IsTableToPut l.fn.tables.items) (stored l.fn.vault).tables (stored l.vault).tables
    × (stored l.vault ≡ record (stored l.fn.vault) { tables = (stored l.vault).tables })
    × (g.V.Vault.failures l.fn.vault ≤ g.V.Vault.failures l.vault)
