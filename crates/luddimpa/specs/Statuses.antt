-- The codes of what calls answer and of what is wrong with bytes, as the header lists them (the library's own).
use Rattle.std.specs.Prelude.{ℕ}
use Rattle.lsm_table.specs.declared.fault.TableFault.{TableFault}
use Rattle.lsm_table.specs.declared.fault.TableFault.TheVariants as table
use Rattle.lsm_edit.specs.declared.format.FormatFault.{FormatFault}
use Rattle.lsm_edit.specs.declared.format.FormatFault.TheVariants as format
use Rattle.lsm_edit.specs.declared.version.ApplyError.{ApplyError}
use Rattle.lsm_edit.specs.declared.version.ApplyError.TheVariants as apply
use Rattle.lsm_msg.specs.declared.fault.MsgFault.{MsgFault}
use Rattle.lsm_msg.specs.declared.fault.MsgFault.TheVariants as message
use Rattle.luddimpa.specs.declared.status.Status.{Status}
use Rattle.luddimpa.specs.declared.status.Status.TheVariants as status

abbrev pub status_code : Status → ℕ
status_code status.Ok = 0
status_code status.Deleted = 1
status_code status.Absent = 2
status_code status.OutOfMemory = 3
status_code status.NoSequence = 4
status_code status.NotATable = 5
status_code status.CutShort = 6
status_code status.NotAnEdit = 7
status_code status.DoesNotApply = 8
status_code status.NotAJob = 9
status_code status.WrongTable = 10
status_code status.SameEntry = 11
status_code status.TooLarge = 12
status_code status.NotAMessage = 13

-- ---- what is wrong with bytes; 0 is nothing

abbrev pub table_fault_code : TableFault → ℕ
table_fault_code table.Truncated = 1
table_fault_code table.BadMagic = 2
table_fault_code table.BadVersion = 3
table_fault_code table.BadIndex = 6
table_fault_code table.BadBlock = 7
table_fault_code table.BadCut = 8
table_fault_code table.TrailingBytes = 9
table_fault_code table.TooLarge = 10
table_fault_code table.NeedlessVersion = 17

abbrev pub format_fault_code : FormatFault → ℕ
format_fault_code format.Truncated = 1
format_fault_code format.BadField = 5
format_fault_code format.TrailingBytes = 9

abbrev pub apply_error_code : ApplyError → ℕ
apply_error_code apply.WrongNumber = 11
apply_error_code apply.NoSuchFile = 12
apply_error_code apply.FileExists = 13
apply_error_code apply.Overlap = 14
apply_error_code apply.FlushedBack = 15
apply_error_code apply.BadCounter = 16
apply_error_code apply.OutOfMemory = 0

abbrev pub message_fault_code : MsgFault → ℕ
message_fault_code message.Truncated = 1
message_fault_code message.BadMagic = 2
message_fault_code message.BadVersion = 3
message_fault_code message.BadKind = 4
message_fault_code message.BadField = 5
message_fault_code message.TrailingBytes = 9
message_fault_code message.TooLarge = 10
message_fault_code message.NeedlessVersion = 17
