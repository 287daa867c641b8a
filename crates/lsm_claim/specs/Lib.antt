pub mod Levels
pub mod Conflicts
pub mod Jobs
pub mod Book
pub mod Laws
