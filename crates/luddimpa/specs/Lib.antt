pub mod EditChecks
pub mod Elements
pub mod JobMerges
pub mod Lookups
pub mod MessageChecks
pub mod Statuses
pub mod TableChecks
