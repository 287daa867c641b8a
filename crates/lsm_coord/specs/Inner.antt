-- What only contracts of private functions cite: nothing that a reader has to believe.
pub mod Scan
pub mod Putting
pub mod Sources
pub mod Replaying
