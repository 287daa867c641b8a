-- What a check of a message's bytes answers (its format and the order of its faults are in specs/Messages.antt and MessageReading.antt of lsm_msg).
use Rattle.std.specs.Prelude.{◌≡◌, ℕ, List, Err}
use Rattle.lsm_msg.specs.declared.message.Message.{Message}
use Rattle.lsm_msg.specs.Messages.{IsSpelled}
use Rattle.lsm_msg.specs.MessageReading.{read_message}
use Rattle.luddimpa.specs.declared.message_check.CheckedMessage.{CheckedMessage}
use Rattle.luddimpa.specs.declared.message_check.MessageCheck.{MessageCheck}
use Rattle.luddimpa.specs.declared.message_check.MessageCheck.TheVariants as check
use Rattle.luddimpa.specs.declared.status.Status.TheVariants as status
use Rattle.luddimpa.specs.Statuses.{message_fault_code, status_code}

abbrev pub checked_message_of : MessageCheck → CheckedMessage
checked_message_of check.Message = record { status = status_code status.Ok; fault = 0 }
checked_message_of (check.Fault fault) = record { status = status_code status.NotAMessage; fault = message_fault_code fault }
checked_message_of check.OutOfMemory = record { status = status_code status.OutOfMemory; fault = 0 }

-- the bytes are a message; they are none, and this is their first fault
abbrev pub ChecksMessage : List ℕ → MessageCheck → Type 0
ChecksMessage bytes check.Message = (m : Message) × IsSpelled bytes m
ChecksMessage bytes (check.Fault fault) = ((m : Message) → IsSpelled bytes m → ⊥) × (read_message bytes ≡ Err fault)
ChecksMessage bytes check.OutOfMemory = Unit {0}
