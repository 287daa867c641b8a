pub mod Upkeep
pub mod Handing
pub mod Batches
pub mod Working
pub mod Stopping
pub mod Storing
