pub mod Workers
pub mod Held
