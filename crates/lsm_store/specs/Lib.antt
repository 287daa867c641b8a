pub mod Compacting
pub mod Errors
pub mod Store
pub mod Stats
pub mod Ranges
