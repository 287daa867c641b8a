pub mod Counting
pub mod Crews
pub mod Dispatching
pub mod Letters
pub mod Turns
