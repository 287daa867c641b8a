-- Reads of a version.
use Rattle.std.specs.Prelude.{ℕ, List, Option}
use Rattle.std.specs.Option.{option_and_then}
use Rattle.lsm_key.specs.Places.{first_visible}
use Rattle.lsm_key.specs.Visible.{entry_value}
use Rattle.lsm_edit.specs.Served.{ServedValue, tables_of}

-- the value that a key has in a version: that of the first entry in the order of a search, up to the flushed sequence
abbrev pub value_in : ServedValue → List ℕ → Option (List ℕ)
value_in s key = option_and_then entry_value (first_visible (tables_of s.places) key s.version.flushed)
