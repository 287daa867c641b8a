-- What a report says of bytes behind whole ones (the store's own output, a line for each fault).
use Rattle.std.specs.Prelude.{ℕ, ◌==◌, Bool, List, [], ◌∷◌, ◌++◌, codes, if◌then◌else◌}
use Rattle.std.specs.Fmt.{decimal}

-- what an opening does about bytes behind the last log record
abbrev pub torn_log_end : Bool → List ℕ
torn_log_end refused = if refused then codes "is refused" ++ 10 ∷ [] else codes "sets them aside" ++ 10 ∷ []

-- the line for this many bytes behind the last log record, or none
abbrev pub torn_log_text : ℕ → Bool → List ℕ
torn_log_text bytes refused = if bytes == 0 then [] else codes "the last log record is torn or damaged: " ++ decimal bytes ++ codes " bytes; an opening " ++ torn_log_end refused
