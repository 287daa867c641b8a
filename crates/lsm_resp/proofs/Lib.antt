pub mod Before
pub mod Ahead
pub mod Headers
pub mod Words
pub mod Bulks
pub mod Lines
