pub mod FilteredFiles
pub mod ReceivedTables
pub mod TableSteps
pub mod Onward
