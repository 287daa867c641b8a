pub mod Check
pub mod Log
pub mod LogReading
pub mod Reports
