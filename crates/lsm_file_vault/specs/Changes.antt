-- What a change of a folder leaves (a directory's operations: create or replace a file, remove it, append a record, cut a file's front off).
use Rattle.std.specs.Prelude.{ℕ, List, [], ◌∷◌, ◌++◌, drop}
use Rattle.std.specs.FinMap.{insert, remove}
use Rattle.lsm_vault.specs.Stored.{TableMap}
use Rattle.lsm_file_vault.specs.declared.change.Change.{Change}
use Rattle.lsm_file_vault.specs.declared.change.Change.TheVariants.{TablePut, TableRemoved, EditAppended, LogAppended, LogCut}

-- of the tables
abbrev pub tables_after : Change → TableMap → TableMap
tables_after (TablePut number table) tables = insert tables number table.value
tables_after (TableRemoved number) tables = remove tables number
tables_after (EditAppended edit) tables = tables
tables_after (LogAppended logged) tables = tables
tables_after (LogCut count) tables = tables

-- of the edits
abbrev pub edits_after : Change → List (List ℕ) → List (List ℕ)
edits_after (TablePut number table) edits = edits
edits_after (TableRemoved number) edits = edits
edits_after (EditAppended edit) edits = edits ++ edit.value ∷ []
edits_after (LogAppended logged) edits = edits
edits_after (LogCut count) edits = edits

-- of the log
abbrev pub log_after : Change → List (List ℕ) → List (List ℕ)
log_after (TablePut number table) log = log
log_after (TableRemoved number) log = log
log_after (EditAppended edit) log = log
log_after (LogAppended logged) log = log ++ logged.value ∷ []
log_after (LogCut count) log = drop count log
