-- The outputs of a merge may be sent.
use Rattle.std.proofs.Common.{ℕ, List, [], ◌∷◌, All, length, ap, arith}
use Rattle.std.proofs.lemmas.List.Elements.{All-cons}
use Rattle.lsm_key.specs.declared.entry.Entry.{Entry}
use Rattle.lsm_table.specs.Tables.{IsTable}
use Rattle.lsm_msg.specs.Messages.{AreTableBytes}
use Rattle.lsm_merge.specs.Outputs.{EncodeEntries}

bytes_of_table : (bytes : List ℕ) (es : List Entry) → IsTable bytes es → AreTableBytes bytes
bytes_of_table bytes es is = (let long = ap (λ (ns : List ℕ). length ns) is.spelled in omega (arith, long), is.small)

pub tables_may_be_sent : (target : ℕ) (outputs : List (List ℕ)) (entries : List (List Entry)) → EncodeEntries target outputs entries → All AreTableBytes outputs
tables_may_be_sent target [] entries h = λ k d lt. absurd (omega (arith, lt))
tables_may_be_sent target (bytes ∷ outputs) [] h = absurd h
tables_may_be_sent target (bytes ∷ outputs) (es ∷ entries) h = All-cons AreTableBytes bytes outputs (bytes_of_table bytes es h.0) (tables_may_be_sent target outputs entries h.2)
