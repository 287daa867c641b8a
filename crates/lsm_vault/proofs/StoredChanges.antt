-- Changes of the tables alone.
use Rattle.std.specs.Prelude.{◌≡◌}
use Rattle.std.proofs.Common.{sym, ap, ◌∙◌}
use Rattle.lsm_vault.specs.Stored.{TableMap, VaultValue}

-- a change to other tables leaves the rest
pub tables_alone : (old new : VaultValue) (tables : TableMap) → new ≡ record old { tables = tables } → new ≡ record old { tables = new.tables }
tables_alone old new tables is = is ∙ ap (λ (t : TableMap). record old { tables = t }) (sym (ap (λ (v : VaultValue). v.tables) is))

-- and so do two of them in turn
pub rest_then : (old mid new : VaultValue) → mid ≡ record old { tables = mid.tables } → new ≡ record mid { tables = new.tables } → new ≡ record old { tables = new.tables }
rest_then old mid new first second = second ∙ ap (λ (v : VaultValue). record v { tables = new.tables }) first
