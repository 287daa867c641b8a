pub mod Endings
pub mod Following
pub mod Ports
pub mod Rounds
pub mod Serving
pub mod Working
