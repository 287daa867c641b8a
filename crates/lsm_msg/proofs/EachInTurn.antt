-- Items of one kind that are read one after another.
use Rattle.std.proofs.Common.{ℕ, zero, suc, ◌^◌, ◌<◌, ◌≤◌, List, [], ◌∷◌, ◌++◌, length, Result, arith}
use Rattle.std.specs.Int.{w32, to_be_bytes}
use Rattle.std.specs.List.{All, flat_map}
use Rattle.lsm_key.specs.Reading.{◌>>=◌, ranged_number_at}
use Rattle.lsm_key.proofs.FieldLaws.{wide32}
use Rattle.lsm_key.proofs.ReaderLaws.{Reads, reads_as}
use Rattle.lsm_edit.proofs.ItemsInTurn.{AreInTurn, counted_reads}
use Rattle.lsm_msg.specs.declared.fault.MsgFault.{MsgFault}
use Rattle.lsm_msg.specs.declared.fault.MsgFault.TheVariants.{Truncated, BadField}
use Rattle.lsm_msg.specs.MessageReading.{each_at}

module _ {X : Type 0} (Is : X → Type 0) where
  each_of_turn : (xs : List X) → AreInTurn {S = Unit {0}} (λ s. Is) (λ s x. s) tt xs → All Is xs
  each_of_turn [] is k d lt = absurd (omega (arith, lt))
  each_of_turn (x ∷ xs) is zero d lt = is.0
  each_of_turn (x ∷ xs) is (suc k) d lt = each_of_turn xs is.1 k d (omega (arith, lt))

  turn_of_each : (xs : List X) → All Is xs → AreInTurn {S = Unit {0}} (λ s. Is) (λ s x. s) tt xs
  turn_of_each [] each = tt
  turn_of_each (x ∷ xs) each = (each zero x (omega arith), turn_of_each xs (λ k d lt. each (suc k) d (omega (arith, lt))))

  -- a count of four bytes, and that many items
  pub counted_each : (read : List ℕ → Result (X × List ℕ) MsgFault) (spell : X → List ℕ) → Reads Truncated read spell Is → (low high : ℕ) → high < 2 ^ 32
      → Reads Truncated (λ bytes. ranged_number_at Truncated BadField w32 low high bytes >>= λ count. each_at read count.0 count.1) (λ xs. to_be_bytes w32 (length xs) ++ flat_map spell xs) (λ xs. (low ≤ length xs) × (length xs ≤ high) × All Is xs)
  counted_each read spell reads low high lt = reads_as (λ xs is. (is.0, is.1, each_of_turn xs is.2)) (λ xs is. (is.0, is.1, turn_of_each xs is.2))
      (counted_reads {S = Unit {0}} (λ s. Unit {0}) (λ s. Is) (λ s. read) (λ s x. s) spell (λ s good. reads) (λ s x good is. tt) BadField w32 (2 ^ 32) wide32 low high tt lt tt)
