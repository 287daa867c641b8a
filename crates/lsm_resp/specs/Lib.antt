pub mod Wire
pub mod Requests
pub mod Pieces
pub mod Enough
pub mod Lines
pub mod Outcomes
